use Rattle.std.proofs.Common.{◌≡◌, ◌∙◌, Bool, None, [], ◌∷◌, ◌++◌, Ok, ap, inl, inr, subst, sym}
use Rattle.std.specs.Option.{IsSome}
use Rattle.indexmap.proofs.CallerLemmas.{insert_entry-new}
use Rattle.line_rules.specs.Rows.{Firsts, HasKeyMore, TextKey, first_by, key_in, other_by, same_key}
use Rattle.line_rules.proofs.Keyed.{empty_at, key_put_other, none_of, not_empty}
use Rattle.line_rules.proofs.rows.put_key.Goals as goal
use Rattle.line_rules.proofs.rows.put_key.Goals.{else-is_empty-via-then-is_empty+in_ok-put_first+else-branch}
use Rattle.line_rules.proofs.rows.put_key.Goals.{else-is_empty-via-else-is_empty}

pub put_first-requires : goal.put_first-requires
put_first-requires c n is =
    c.requires n (inl (empty_at _ (sym c.is_empty.ensures ∙ c.if-is_empty.true), is))

pub returns-clause-ok : goal.returns-clause-ok
returns-clause-ok c =
    let key : TextKey = (c.args.keyword, c.args.first, c.args.second) in
    let firsts = c.args.firsts.now.entries in
    let before : (c.else-is_empty.firsts.entries ≡ firsts)
    × (c.args.second.now ≡ [] → IsSome (first_by firsts c.args.first.now)) =
    elim c.else-is_empty.branch [
      | else-is_empty-via-then-is_empty+in_ok-put_first+else-branch w ↦
          let there = w.put_first.ensures.other (w.in_ok-put_first.was ∙ ap Ok w.if-branch.false) in
          ((λ i. (w.firsts-is i).entries) ∙ there.0, λ _. there.1)
      | else-is_empty-via-else-is_empty w ↦ (
        λ i. (w.firsts-is i).entries,
        λ empty. absurd (not_empty c.args.second.now (sym c.is_empty.ensures ∙ w.if-is_empty.false) empty),
      )
    ] in
    let absent : other_by c.args.others.now.entries (key_in key) ≡ None =
    none_of (other_by c.args.others.now.entries (key_in key)) (λ n is. c.requires n (inr is)) in
    let room : c.make_room.new.table.entries ≡ c.args.others.now.entries = c.make_room.ensures in
    let eq : TextKey → TextKey → Bool = λ p q. same_key (key_in p) (key_in q) in
    let last = insert_entry-new eq c.make_room.new.table key c.args.number
    (ap (λ os. other_by os (key_in key)) room ∙ absent) in
    let grown : c.insert.new.self.entries ≡ c.args.others.now.entries ++ (key, c.args.number) ∷ [] =
    c.in_ok-insert.ensures.entries ∙ last ∙ ap (λ os. os ++ (key, c.args.number) ∷ []) room in
    subst (λ (l : Firsts). HasKeyMore firsts c.args.others.now.entries (key_in key) c.args.number l
    c.insert.new.self.entries) (sym before.0)
    (key_put_other firsts c.args.others.now.entries c.insert.new.self.entries key c.args.number grown absent
    before.1)
