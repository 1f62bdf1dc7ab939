use Rattle.std.proofs.Common.{◌∙◌, ◌+◌, ℕ, ap, subst, sym}
use Rattle.std.specs.declared.alloc.Global.{Global}
use Rattle.std.specs.declared.vec.Vec.{Vec}
use Rattle.tree_planner.specs.View.{state_of}
use Rattle.tree_planner.proofs.Stood.{next_absent, next_stands, AreStandingBelow}
use Rattle.tree_planner.proofs.hand_down.standing_of_all.Goals.{in-Stands+in_ok-push, in_default}
use Rattle.tree_planner.proofs.hand_down.standing_of_all.Goals as goal

pub loop-s-preserved : goal.loop-s-preserved
loop-s-preserved c =
    let state = state_of c.args.tables.now in
    let s = c.loop-s.s in
    let splits = c.loop-s.splits.items in
    elim c.match-place_at.branch [
      | in-Stands+in_ok-push w ↦
          subst (AreStandingBelow state (s + 1))
          (sym (ap (λ (v : Vec ℕ Global). v.items) w.splits-is ∙ w.in_ok-push.ensures.items))
          (next_stands state s splits c.loop-s.invariant
          (w.in-Stands.field-0, sym c.place_at.ensures ∙ w.in-Stands.is))
      | in_default w ↦
          subst (AreStandingBelow state (s + 1)) (sym (ap (λ (v : Vec ℕ Global). v.items) w.splits-is))
          (next_absent state s splits c.loop-s.invariant
          (λ there. w.in_default.not-Stands there.0 (c.place_at.ensures ∙ there.1)))
    ]
