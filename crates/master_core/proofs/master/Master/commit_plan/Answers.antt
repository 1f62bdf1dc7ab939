use Rattle.std.proofs.Common.{◌∙◌, sym}
use Rattle.master_core.proofs.master.Master.commit_plan.Goals as goal

pub start_pairs-requires-clause-priced : goal.start_pairs-requires-clause-priced
start_pairs-requires-clause-priced c = (
  c.args.plan.now.starts,
  sym (c.deref.ensures.value ∙ c.in-Ok.ensures),
  (c.args.prices.now, c.in_ok-certified.ensures.certified.certifies),
)

pub returns : goal.returns
returns c =
    let certifies = c.in_ok-certified.ensures.certified.certifies in (
      certifies,
      c.start_pairs.ensures c.args.plan.now.starts (sym (c.deref.ensures.value ∙ c.in-Ok.ensures))
          (c.args.prices.now, certifies),
    )
