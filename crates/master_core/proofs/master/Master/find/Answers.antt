use Rattle.std.proofs.Common.{◌≡◌, ◌∙◌, Bool, true, false, sym}
use Rattle.std.specs.Prelude.{if◌then◌else◌}
use Rattle.master_core.specs.declared.attempts.Found.TheVariants.{Split, Part, Nowhere}
use Rattle.master_core.specs.Attempts.{IsFound}
use Rattle.master_core.proofs.Found.{of_part, of_split, part_found, split_found, start_for, unstarted}
use Rattle.master_core.proofs.master.Master.find.Goals.{After-runs, After-part_runs}
use Rattle.master_core.proofs.master.Master.find.Goals as goal

pub returns-in_default : goal.returns-in_default
returns-in_default c =
    unstarted c.self.invariant c.self.view_is c.args.attempt (sym c.start.ensures ∙ c.in_default.is)

told_split : (c : After-runs) (b : Bool) → b ≡ c.runs.result →
    IsFound c.args.self.now.state c.args.attempt
    (if b then Split (record { split = c.in-Some-split_of.split; worker = c.in-Some.start.worker })
    else Nowhere)
told_split c b is =
    split_found c.self.invariant c.self.view_is _ _ _
    (start_for c.args.self.now.state c.args.attempt (sym c.start.ensures ∙ c.in-Some.is)
    (of_split _ (sym c.split_of.ensures ∙ c.in-Some-split_of.is)))
    b c.index.ensures.value c.index-in-Some-split_of.ensures (is ∙ c.runs.ensures)

told_part : (c : After-part_runs) (b : Bool) → b ≡ c.part_runs.result →
    IsFound c.args.self.now.state c.args.attempt
    (if b then Part (record { part = c.in-Some-part_of.part; worker = c.in-Some.start.worker }) else Nowhere)
told_part c b is =
    part_found c.self.invariant c.self.view_is _ _ _
    (start_for c.args.self.now.state c.args.attempt (sym c.start.ensures ∙ c.in-Some.is)
    (of_part _ (sym c.part_of.ensures ∙ c.in-Some-part_of.is)))
    b c.index-in-Some-part_of.ensures.value c.index-in-Some-part_of-2.ensures (is ∙ c.part_runs.ensures)

pub returns-then-runs : goal.returns-then-runs
returns-then-runs c = told_split (goal.at.returns-then-runs c).After-runs true (sym c.if-runs.true)

pub returns-else-runs : goal.returns-else-runs
returns-else-runs c = told_split (goal.at.returns-else-runs c).After-runs false (sym c.if-runs.false)

pub returns-then-part_runs : goal.returns-then-part_runs
returns-then-part_runs c =
    told_part (goal.at.returns-then-part_runs c).After-part_runs true (sym c.if-part_runs.true)

pub returns-else-part_runs : goal.returns-else-part_runs
returns-else-part_runs c =
    told_part (goal.at.returns-else-part_runs c).After-part_runs false (sym c.if-part_runs.false)
