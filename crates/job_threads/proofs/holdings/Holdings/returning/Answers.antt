use Rattle.std.proofs.Common.{rules, ◌≡◌, ℕ, Some, true, false, sym, subst, refl, ap, ◌∙◌, arith}
use Rattle.std.proofs.lemmas.Bool.{false≢true}
use Rattle.std.specs.Prelude.{slice_get, Option, length}
use Rattle.std.proofs.lemmas.Option.{slice_get_read}
use Rattle.job_threads.specs.declared.holdings.Holding.{Holding}
use Rattle.job_threads.specs.Holdings.{AreReturning, may_return}
use Rattle.job_threads.proofs.Returning.{returning_more, returning_same}
use Rattle.job_threads.proofs.holdings.Holdings.returning.Goals.{then-may_return+in_ok-put, else-may_return}
use Rattle.job_threads.proofs.holdings.Holdings.returning.Goals as goal

pub loop-split-preserved : goal.loop-split-preserved
loop-split-preserved c =
    let workers = c.args.self.now.workers.items in
    let told = c.may_return.ensures
    ∙ ap (may_return workers (Some c.in-Some.holding.now)) c.new-split.ensures in
    elim c.if-may_return.branch [
      | then-may_return+in_ok-put w ↦ rw w.set-is
          (rw (w.in_ok-put.ensures, c.new-split.ensures) (returning_more workers (Some c.in-Some.holding.now)
          c.loop-split.split c.loop-split.set c.loop-split.invariant (sym told ∙ w.if-may_return.true)))
      | else-may_return w ↦ rw w.set-is
          (returning_same workers (Some c.in-Some.holding.now) c.loop-split.split c.loop-split.set
          c.loop-split.invariant (λ may. false≢true (sym w.if-may_return.false ∙ told ∙ may)))
    ]

pub returns : goal.returns
returns c =
    let workers = c.args.self.now.workers.items in
    let all : c.loop-split.split ≡ c.args.self.now.splits = omega arith in
    let found : slice_get workers c.args.worker ≡ Some c.in-Some.holding.now =
    slice_get_read workers (length workers) c.args.worker c.in-Some.holding.now refl (search rules)
    (search rules) in
    subst (λ (h : Option Holding). AreReturning workers c.args.self.now.splits h c.loop-split.set) (sym found)
    (subst (λ (n : ℕ). AreReturning workers n (Some c.in-Some.holding.now) c.loop-split.set) all
    c.loop-split.invariant)
