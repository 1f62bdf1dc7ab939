use Rattle.std.proofs.Common.{All, List, ap, length, map, sym, subst, ◌≡◌, ◌≤◌, ◌∙◌}
use Rattle.std.proofs.lemmas.List.{length-map}
use Rattle.std.proofs.lemmas.Result.{IfOk-weaker}
use Rattle.wave_problem.specs.declared.TheConstants.{MAX_SLOTS}
use Rattle.wave_problem.specs.declared.lines.WorkerLine.{WorkerLine}
use Rattle.wave_problem.specs.Wave.{IsWithinLimits}
use Rattle.tree_planner.specs.Going.{turned}
use Rattle.tree_planner.specs.Shown.{Shown}
use Rattle.worker_table.specs.declared.Worker.{Worker}
use Rattle.master_state.specs.Jobs.{Job}
use Rattle.master_state.specs.Steps.{problem_of, worker_line}
use Rattle.master_tables.specs.declared.entries.SplitEntry.{SplitEntry}
use Rattle.master_tables.specs.Entries.{shown_as}
use Rattle.master_core.specs.Near.{flags_of, HasFlags, HasLines, HasPlaces}
use Rattle.master_core.proofs.Nearness.{few_free, length-flags, lines_in, many_flags, many_lines, turned_is}
use Rattle.master_core.proofs.master.Master.kept_up.Goals.{After-deref}
use Rattle.master_core.proofs.master.Master.kept_up.Goals as goal

near : (c : After-deref) →
    HasPlaces c.args.engine.wave c.self.inside.cluster c.self.inside.holders c.self.inside.workers.barred
near c =
    subst (λ (j : Job). HasPlaces c.args.engine.wave j.setup.cluster j.state.holders j.state.workers.barred)
    (sym c.self.view_is) c.requires.near

workers_are : (c : After-deref) → c.workers.result.now ≡ c.self.inside.workers.each
workers_are c = c.workers.ensures.value

pub kept_up-requires-clause-workers : goal.kept_up-requires-clause-workers
kept_up-requires-clause-workers c =
    let at = (goal.at.kept_up-requires-clause-workers c).After-deref in
    ap length (workers_are at) ∙ sym (length-map c.self.inside.workers.each worker_line)
    ∙ many_lines c.self.invariant (near at) (subst IsWithinLimits c.problem.ensures c.limits.ensures.problem)

pub kept_up-requires-clause-within : goal.kept_up-requires-clause-within
kept_up-requires-clause-within c =
    subst (λ (workers : List Worker). All (λ (worker : Worker). worker.taken ≤ worker.slots) workers)
    (sym c.workers.ensures.value) (λ k d l. (c.workers.ensures.table.within k d l).taken)

pub kept_up-requires-clause-most : goal.kept_up-requires-clause-most
kept_up-requires-clause-most c =
    let at = (goal.at.kept_up-requires-clause-most c).After-deref in
    subst (λ (workers : List Worker). All (λ (line : WorkerLine). line.free ≤ MAX_SLOTS) (map worker_line workers))
    (sym (workers_are at)) (few_free c.self.invariant (near at))

pub kept_up-requires-clause-splits : goal.kept_up-requires-clause-splits
kept_up-requires-clause-splits c =
    let at = (goal.at.kept_up-requires-clause-splits c).After-deref in
    ap length c.deref.ensures.value ∙ sym (length-flags c.self.inside.splits.items)
    ∙ many_flags c.self.invariant (near at)

pub returns-clause-present : goal.returns-clause-present
returns-clause-present c =
    let at = (goal.at.returns-clause-present c).After-deref in
    let wave = c.args.engine.wave in
    IfOk-weaker c.kept_up.result _
    (λ (kept : Shown). kept.wave ≡ problem_of c.args.self.now.setup c.args.self.now.state)
    (λ kept is. is
    ∙ ap (λ (workers : List Worker). turned wave (map worker_line workers) (flags_of c.deref.result.now))
    (workers_are at)
    ∙ ap (λ (entries : List SplitEntry). turned wave (lines_in c.self.invariant (near at)) (flags_of entries))
    c.deref.ensures.value
    ∙ turned_is c.self.invariant (near at)
    ∙ ap (λ (j : Job). problem_of j.setup j.state) c.self.view_is)
    c.kept_up.ensures.wave

pub kept_up-requires-clause-flagged : goal.kept_up-requires-clause-flagged
kept_up-requires-clause-flagged c =
    subst (λ (entries : List SplitEntry). HasFlags c.args.engine.wave c.args.touched.now (map shown_as entries))
    (sym c.deref.ensures.value)
    (subst (λ (j : Job). HasFlags c.args.engine.wave c.args.touched.now j.state.splits) (sym c.self.view_is)
    c.requires.flagged)

pub kept_up-requires-clause-lined : goal.kept_up-requires-clause-lined
kept_up-requires-clause-lined c =
    subst (λ (workers : List Worker). HasLines c.args.engine.wave c.args.touched.now (map worker_line workers))
    (sym c.workers.ensures.value)
    (subst (λ (j : Job). HasLines c.args.engine.wave c.args.touched.now (map worker_line j.state.workers.each))
    (sym c.self.view_is) c.requires.lined)
