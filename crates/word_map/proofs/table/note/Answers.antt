use Rattle.std.proofs.Common.{rules, ◌∷◌, [], ⊎_elim, inl, inr, subst, sym}
use Rattle.std.specs.Prelude.{Contains}
use Rattle.word_map.proofs.EntryLemmas.{first_is_there, only_one}
use Rattle.word_map.proofs.TableLemmas.{documents_more}
use Rattle.word_map.proofs.table.note.Goals as goal

-- the documents of the word are one more
pub returns-in_ok-push-in-Some-clause-added : goal.returns-in_ok-push-in-Some-clause-added
returns-in_ok-push-in-Some-clause-added c w n =
    let one = c.args.document ∷ [] in
    let more = documents_more c.args.table.now
    (c.get_mut.follows.lender c.push.new.self) c.args.word c.in-Some.documents.now
    c.push.new.self one (search rules)
    ((c.get_mut.follows.holds c.push.new.self).3 (search rules)) c.in_ok-push-in-Some.ensures.ok w n in (
      (λ h. ⊎_elim (λ was. inl was) (λ this. inr (this.0, sym (only_one c.args.document n this.1)))
          (more.0 h)),
      (λ h. more.1 (⊎_elim (λ was. inl was)
          (λ this. inr (this.0, subst (Contains one) (sym this.1) (first_is_there c.args.document []))) h)),
    )
