use Rattle.std.proofs.Common.{◌≡◌, ◌<◌, List, [], ◌∷◌, ◌++◌, length, get_or, take, drop, refl, sym, ap}
use Rattle.std.proofs.Common.{rules, subst, ◌∙◌, arith}
use Rattle.std.proofs.lemmas.Option.{get_or_from_slice_get}
use Rattle.hand_ledger.specs.Hands.{Kept, counts_in, kept}
use Rattle.hand_ledger.specs.Inside.{calls_of}
use Rattle.hand_ledger.specs.Marks.{Marks}
use Rattle.hand_ledger.proofs.Calls.{counts_of, starts_of, taken_step, calls_step}
use Rattle.hand_ledger.proofs.marks.mark_all.Goals as goal

pub loop-index-preserved : goal.loop-index-preserved
loop-index-preserved c =
    let es = c.args.entries.now.items in
    let cs = c.args.counts.now.items in
    let ss = c.args.starts.now in
    let i = c.loop-index.index in
    let e = c.at-entry.result in
    let lt : i < length es = omega (arith, c.loop-index-test.true, c.len-index-end.ensures) in
    let at : e ≡ get_or es i e = sym (get_or_from_slice_get es i e e c.at-entry.ensures) in
    let kept_so = c.loop-index.invariant in
    record {
      size = c.mark.ensures.size;
      counts = omega (
        arith,
        kept_so.counts,
        c.counts_in-new_counts.ensures.value,
        taken_step counts_of es i e lt at,
      );
      few = omega (arith, kept_so.few, c.counts_in-new_counts.ensures.few);
      starts = omega (
        arith,
        kept_so.starts,
        c.starts_in-new_starts.ensures.value,
        taken_step starts_of es i e lt at,
      );
      marks = λ before m.
          subst (λ (l : List Kept). Marks c.args.log.now c.args.first l c.mark.new.found)
          (ap (λ (call : Kept). (before ++ calls_of (take i es) cs ss) ++ call ∷ [])
          (λ k. kept e.place e.event
          (take (counts_in e.event) (drop (kept_so.counts k) cs))
          ((c.part-new_part.ensures
          ∙ (λ j. take (c.starts_in-new_starts.ensures.value j) (drop (kept_so.starts j) ss))) k))
          ∙ calls_step before es i e cs ss lt at)
          (c.mark.ensures.marks c.args.log.now (before ++ calls_of (take i es) cs ss)
          (kept e.place e.event (take (counts_in e.event) (drop c.loop-index.counts_done cs))
          c.part-new_part.result.now) refl (λ low high. search rules)
          (kept_so.marks before m));
    }
