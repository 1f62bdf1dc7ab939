use Rattle.std.proofs.Common.{sym, ap, subst}
use Rattle.std.specs.Prelude.{◌↔◌, Contains}
use Rattle.word_map.proofs.table.make_entry.Goals as goal

-- the documents are those that were given
pub returns-clause-same : goal.returns-clause-same
returns-clause-same c = λ n. subst (λ ds. Contains ds n ↔ Contains c.args.documents.items n)
    (sym (ap (λ e. e.documents) c.new.ensures)) (c.sort_distinct.ensures.same n)
