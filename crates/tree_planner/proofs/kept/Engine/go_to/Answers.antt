use Rattle.std.proofs.Common.{◌≡◌, ◌∙◌, ◌<◌, length, ap, sym, subst}
use Rattle.wave_problem.specs.Wave.{Wave}
use Rattle.tree_flow.specs.Slots.{with_workers}
use Rattle.tree_planner.specs.Going.{HasMore}
use Rattle.tree_planner.proofs.kept.Engine.go_to.Goals.{After-settle}
use Rattle.tree_planner.proofs.kept.Engine.go_to.Goals as goal

pub gain-requires : goal.gain-requires
gain-requires c =
    subst (λ (x : Wave). HasMore x c.deref.result.now) (sym c.in_ok-turn_to.ensures.wave)
    (subst (λ lines. HasMore c.hold_back.new.next lines)
    (sym (c.deref.ensures.value ∙ c.in_ok-lines.ensures)) c.hold_back.ensures.more)

gained : (c : After-settle) → c.gain.new.self.wave ≡ c.args.next
gained c =
    c.in_ok-gain.ensures
    ∙ ap (λ (x : Wave). with_workers x c.deref.result.now) c.in_ok-turn_to.ensures.wave
    ∙ ap (with_workers c.hold_back.new.next) (c.deref.ensures.value ∙ c.in_ok-lines.ensures)
    ∙ ap (λ (x : Wave). with_workers x c.args.next.workers) c.hold_back.ensures.rest

pub returns-clause-wave : goal.returns-clause-wave
returns-clause-wave c = c.settle.ensures.wave ∙ gained (goal.at.returns-clause-wave c).After-settle

pub returns-clause-shipped : goal.returns-clause-shipped
returns-clause-shipped c = λ s l.
    c.in_ok-settle.ensures.shipped s (subst (λ (x : Wave). s < length x.splits)
    (sym (gained (goal.at.returns-clause-shipped c).After-settle)) l)
