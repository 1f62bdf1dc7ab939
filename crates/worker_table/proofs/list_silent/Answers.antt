use Rattle.std.proofs.Common.{◌≡◌, ◌∙◌, ◌++◌, ◌∷◌, [], true, false, refl, sym, append-nil, arith}
use Rattle.std.proofs.lemmas.Grind.{common_steps}
use Rattle.std.proofs.lemmas.List.{length_push}
use Rattle.node_ids.proofs.Members.{filter_range_more}
use Rattle.worker_table.specs.Bars.{no_bars}
use Rattle.worker_table.specs.Workers.{Workers, is_silent}
use Rattle.worker_table.proofs.Sweeps.{below_push}
use Rattle.worker_table.proofs.list_silent.Goals as goal
use Rattle.worker_table.proofs.list_silent.Goals.{then-has_been_silent, else-has_been_silent}

pub loop-i-preserved : goal.loop-i-preserved
loop-i-preserved c =
    let t : Workers = record { limit = c.args.limit; each = c.args.workers.now; barred = no_bars 0 0 } in
    let i = c.loop-i.i in
    let was = c.loop-i.invariant in
    let items = c.loop-i.dead.items in
    elim c.if-has_been_silent.branch [
      | then-has_been_silent w ↦
          let here : is_silent t i ≡ true = grind (arith, common_steps) in
          let more = filter_range_more (is_silent t) i in
          rw (w.dead-is, w.push.ensures.items, w.new.ensures) (record {
            items = (λ k. was.items k ++ i ∷ []) ∙ sym (more ∙ rw here refl);
            below = below_push items i was.below;
            few = omega (arith, length_push items i, was.few);
            room = w.push.ensures.room ∙ was.room;
          })
      | else-has_been_silent w ↦
          let here : is_silent t i ≡ false = grind (arith, common_steps) in
          let more = filter_range_more (is_silent t) i in
          rw w.dead-is (record {
            items = was.items ∙ sym (more ∙ rw here (append-nil _));
            below = λ k d less. omega (arith, was.below k d less);
            few = omega (arith, was.few);
            room = was.room;
          })
    ]
