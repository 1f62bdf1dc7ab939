use Rattle.std.proofs.Common.{◌≡◌, ℕ, List, subst}
use Rattle.std.proofs.lemmas.Result.{on_ok_weaker}
use Rattle.word_map.specs.Texts.{Pair}
use Rattle.word_map.specs.Table.{AddsPairs, views}
use Rattle.word_map.proofs.TableLemmas.{adds_pairs}
use Rattle.word_map.proofs.table.WordTable.note.Goals as goal

-- what the table has more, the view has more
pub returns : goal.returns
returns c =
    on_ok_weaker c.note.result
    (λ adds. subst (λ v. AddsPairs v (views c.note.new.table.entries)
    (λ (pair : Pair). (pair.word ≡ c.args.word) × (pair.document ≡ c.args.document))) c.self.view_is
    (adds_pairs (λ (w : List ℕ) (k : ℕ). (w ≡ c.args.word) × (k ≡ c.args.document)) c.self.invariant
    (c.note.ensures.table c.self.invariant) adds))
    c.note.ensures.added
