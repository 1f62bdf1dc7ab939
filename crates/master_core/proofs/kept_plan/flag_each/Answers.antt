use Rattle.std.proofs.Common.{◌∙◌, List, ℕ, ap, arith, inr, length, refl, subst, sym}
use Rattle.wave_problem.specs.Wave.{Wave}
use Rattle.master_core.specs.Near.{flags_of}
use Rattle.master_core.specs.Fitting.{AreOthersLined}
use Rattle.master_core.proofs.Nearness.{length-flags}
use Rattle.master_core.proofs.Fitting.{others_same, others_then}
use Rattle.master_core.proofs.Touching.{all_flagged, none_flagged, one_flagged, one_unknown}
use Rattle.master_core.proofs.kept_plan.flag_each.Goals as goal
use Rattle.master_core.proofs.kept_plan.flag_each.Goals.{else-index-splits}
use Rattle.master_core.proofs.kept_plan.flag_each.Goals.{then-index-splits+in_ok-worker+in-Some+in_ok-push}
use Rattle.master_core.proofs.kept_plan.flag_each.Goals.{then-index-splits+in_ok-worker+in_default}

pub loop-i-init : goal.loop-i-init
loop-i-init c = record {
  flags = none_flagged c.args.engine.now.wave c.args.splits.now (flags_of c.args.entries.now) c.requires.others;
  lines = λ w. inr refl;
}

pub returns-clause-flagged : goal.returns-clause-flagged
returns-clause-flagged c =
    all_flagged c.args.engine.now.wave c.loop-i.engine.wave c.args.splits.now (flags_of c.args.entries.now)
    c.loop-i.i c.loop-i.invariant.flags
    (omega arith)
    (let flags = length-flags c.args.entries.now in omega (arith, flags, c.requires.size))

pub loop-i-preserved : goal.loop-i-preserved
loop-i-preserved c =
    let old = c.args.engine.now.wave in
    let now = c.loop-i.engine.wave in
    let splits = c.args.splits.now in
    let flags = flags_of c.args.entries.now in
    let was = c.loop-i.invariant in
    elim c.if-index-splits.branch [
      | then-index-splits+in_ok-worker+in-Some+in_ok-push w ↦
          let next = w.flag_split.new.engine.wave in
          rw (w.engine-is, w.started-is) (record {
            flags = one_flagged old now next splits flags c.loop-i.i c.index-splits-i.result was.flags
                c.loop-i-test.true c.index-splits-i.is w.in_ok-worker.ensures.ground w.in_ok-worker.ensures.here
                w.in_ok-worker.ensures.others;
            lines = subst (λ (started : List ℕ). AreOthersLined old next started) (sym w.in_ok-push.ensures.items)
                (others_then old now next c.loop-i.started.items was.lines w.in-Some.worker
                (λ v other. w.in_ok-worker.ensures.lines v (λ e. other (sym w.in-Some.is ∙ e))));
          })
      | then-index-splits+in_ok-worker+in_default w ↦
          let next = w.flag_split.new.engine.wave in
          rw (w.engine-is, w.started-is) (record {
            flags = one_flagged old now next splits flags c.loop-i.i c.index-splits-i.result was.flags
                c.loop-i-test.true c.index-splits-i.is w.in_ok-worker.ensures.ground w.in_ok-worker.ensures.here
                w.in_ok-worker.ensures.others;
            lines = others_same old now next c.loop-i.started.items was.lines
                (λ v. w.in_ok-worker.ensures.lines v (w.in_default.not-Some v));
          })
      | else-index-splits w ↦
          let known = ap (λ (x : Wave). length x.splits) c.problem.ensures in
          rw (w.engine-is, w.started-is) (record {
            flags = one_unknown old now now splits flags c.loop-i.i c.index-splits-i.result was.flags
                c.loop-i-test.true c.index-splits-i.is
                (omega (arith, known, w.if-index-splits.false, c.index.ensures.value, c.splits.ensures.count));
            lines = was.lines;
          })
    ]
