use Rattle.std.proofs.Common.{◌≡◌, ◌∙◌, length, ap, sym, subst}
use Rattle.std.proofs.lemmas.List.{length-map}
use Rattle.wave_problem.specs.Wave.{Split, Wave}
use Rattle.tree_planner.specs.declared.engine.Fixed.{Fixed}
use Rattle.tree_planner.specs.declared.tables.Tables.{Tables}
use Rattle.tree_planner.specs.Engine.{IsFixed, IsStanding}
use Rattle.tree_planner.specs.Going.{turned}
use Rattle.tree_planner.proofs.Flagged.{length-flagged, turned_back}
use Rattle.tree_planner.proofs.renewed.renew.Goals.{After-put-in-Err}
use Rattle.tree_planner.proofs.renewed.renew.Goals as goal

pub put-requires-in-Err-clause-splits : goal.put-requires-in-Err-clause-splits
put-requires-in-Err-clause-splits c =
    ap length (c.deref-in-Err.ensures.value ∙ c.in_ok-pending_before.ensures)
    ∙ length-map c.args.problem.now.splits (λ (x : Split). x.pending)
    ∙ sym (length-flagged c.args.problem.now.splits c.args.pending.now c.requires.splits)
    ∙ ap (λ (x : Wave). length x.splits) (sym c.put.ensures)

back : (c : After-put-in-Err) → c.put-in-Err.new.problem ≡ c.args.problem.now
back c =
    c.put-in-Err.ensures
    ∙ ap (λ (x : Wave). turned x c.deref.result.now c.deref-in-Err.result.now) c.put.ensures
    ∙ turned_back c.args.problem.now c.args.lines.now c.deref.result.now c.args.pending.now c.deref-in-Err.result.now
    c.requires.splits (c.deref.ensures.value ∙ c.in_ok-lines_before.ensures)
    (c.deref-in-Err.ensures.value ∙ c.in_ok-pending_before.ensures)

pub returns-clause-err : goal.returns-clause-err
returns-clause-err c = back (goal.at.returns-clause-err c).After-put-in-Err

pub returns-clause-fixed : goal.returns-clause-fixed
returns-clause-fixed c =
    subst (λ (x : Wave). IsFixed x c.begin_again.new.fixed)
    (sym (back (goal.at.returns-clause-fixed c).After-put-in-Err))
    (subst (λ (x : Fixed). IsFixed c.args.problem.now x) (sym c.in-Err.ensures.err_fixed) c.requires.fixed)

pub returns-clause-standing : goal.returns-clause-standing
returns-clause-standing c =
    subst (λ (x : Wave). IsStanding x c.begin_again.new.tables)
    (sym (back (goal.at.returns-clause-standing c).After-put-in-Err))
    (subst (λ (x : Tables). IsStanding c.args.problem.now x) (sym c.in-Err.ensures.err_tables) c.requires.standing)
