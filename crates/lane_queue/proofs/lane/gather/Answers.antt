use Rattle.std.proofs.Common.{◌≡◌, ◌<◌, ◌∷◌, length, ap, ◌∙◌, arith}
use Rattle.view_sums.proofs.Last.{all_but_last}
use Rattle.lane_queue.specs.Lanes.{PassValue, depths_of}
use Rattle.lane_queue.proofs.Keeps.{merges}
use Rattle.lane_queue.proofs.Gathers.{next, moved}
use Rattle.lane_queue.proofs.lane.gather.Goals as goal

pub absorb-requires-clause-rule : goal.absorb-requires-clause-rule
absorb-requires-clause-rule c = merges _ _ _ _

pub loop-pass-preserved : goal.loop-pass-preserved
loop-pass-preserved c =
    let i = c.loop-pass.invariant in
    let x = c.in-Some.pass in
    let is = c.pass.view_is in
    let of_lane = λ (x : PassValue). x.lane ≡ c.args.queue.now.table.shared.table_id in
    let last = all_but_last of_lane _ _ _ c.in-Some.ensures.items i.1 in
    let q = c.absorb.ensures.queue in
    let more : 0 < length (depths_of (x ∷ i.2.0)) = omega arith in
    let known = next _ _ x i.2.0 c.pass.invariant.1 (ap (λ p. p.puts) is) (ap (λ p. p.takes) is)
    (ap (λ p. p.depth) is) i.2.3 in (
      (q.0 ∙ ap (λ p. p.lane) is ∙ last.1, q.2 ∙ c.pass.invariant.0),
      last.0,
      (
        x ∷ i.2.0,
        moved c.args.passes.items c.loop-pass.passes.items c.pop-in-loop-pass.new.self.items i.2.0 x i.2.1
            c.in-Some.ensures.items,
        more,
        c.absorb.ensures.rule ∙ known,
      ),
    )
