use Rattle.std.proofs.Common.{subst, sym}
use Rattle.std.proofs.lemmas.Result.{IfOk-weaker}
use Rattle.std.specs.List.{All}
use Rattle.line_rules.specs.Holders.{IsWorker}
use Rattle.line_rules.proofs.Held.{behind_two}
use Rattle.line_rules.proofs.holders.find_holders.Goals as goal

pub returns-in-Split-clause-held : goal.returns-in-Split-clause-held
returns-in-Split-clause-held c =
    let same = behind_two c.args.keyword c.args.words.now c.min.result c.in-Split.is c.min.ensures in
    IfOk-weaker c.put_numbers.result _ _ (λ held h. (
      λ t is. subst (All (IsWorker c.args.rows.now)) same (h.0 t),
      λ all. h.1 (subst (All (IsWorker c.args.rows.now)) (sym same) (all c.in-Split.is)),
    )) c.put_numbers.ensures.held
