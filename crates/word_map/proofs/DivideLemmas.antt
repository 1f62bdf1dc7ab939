-- Room for one more part, one more entry in its part, and what the entries of a part are.
use Rattle.std.proofs.Common.{◌≡◌, ℕ, ◌<◌, Bool, cond, List, [], ◌∷◌, ◌++◌, length}
use Rattle.std.proofs.Common.{get_or, set, map, sym, ap, ◌∙◌, subst, arith, append_assoc}
use Rattle.std.proofs.Common.{Vec, eqb, eq-eqb}
use Rattle.std.specs.Prelude.{◌↔◌, ◌==◌, Any, Contains}
use Rattle.std.specs.declared.alloc.Global.{Global}
use Rattle.std.proofs.lemmas.Bool.{eqb-true}
use Rattle.std.proofs.lemmas.Bool.Decides.{eqb_tells}
use Rattle.std.proofs.lemmas.List.{get_or-set_same, get_or-set_other}
use Rattle.std.proofs.lemmas.List.{length-set}
use Rattle.std.proofs.lemmas.List.Elements.{All-filter}
use Rattle.std.proofs.lemmas.List.Kept.{AllPairs-filter}
use Rattle.word_map.specs.declared.text.Document.{Document}
use Rattle.word_map.specs.Words.{part_of}
use Rattle.word_map.specs.Texts.{Pair, IsPairOf, in_lower_case}
use Rattle.word_map.specs.Tokens.{AreRunsOf, IsRunOfDocument}
use Rattle.word_map.specs.Entries.{EntryView, AreEntries, pairs_of_index}
use Rattle.word_map.specs.Divided.{AreDivided, AreEntriesOfParts, AreRunEntries, own_entries}
use Rattle.word_map.proofs.PairLemmas.{any_from_member, member_from_any, Contains-from_filter}
use Rattle.word_map.proofs.PairLemmas.{Contains-filter, pairs_of_lower}
use Rattle.word_map.proofs.EntryLemmas.{HasPair, entries_of_pair, pair_in_entries, pairs_of_entries_rise}

-- each part has its entries but for those that are left
pub record AreDividedBut (left entries : List EntryView) (parts : ℕ)
    (divided : List (Vec EntryView Global)) : Type 0 where
  pub count : length divided ≡ parts
  pub each : (part : ℕ) (d : Vec EntryView Global) → part < parts →
      (get_or divided part d).items ++ own_entries part parts left ≡ own_entries part parts entries

-- an entry goes before the others of its part
own_first : (part parts : ℕ) (entry : EntryView) (left : List EntryView) (b : Bool) →
    eqb (part_of entry.word parts) part ≡ b → own_entries part parts (entry ∷ left) ≡ cond b
    (entry ∷ own_entries part parts left) (own_entries part parts left)
own_first part parts entry left b is = ap (λ c. cond c (entry ∷ own_entries part parts left)
    (own_entries part parts left)) is

-- one more entry, in the part of its word
pub divided_more : (left entries : List EntryView) (parts : ℕ)
    (divided : List (Vec EntryView Global)) {entry : EntryView} {part : ℕ} {was : Vec EntryView Global}
    (now : Vec EntryView Global) → AreDividedBut (entry ∷ left) entries parts divided →
    part ≡ part_of entry.word parts → part < parts → was ≡ get_or divided part was →
    now.items ≡ was.items ++ entry ∷ [] → AreDividedBut left entries parts (set divided part now)
divided_more left entries parts divided {entry} {part} {was} now before own low was_is now_is =
    grind (arith, length-set, get_or-set_same, append_assoc, own_first, get_or-set_other, eqb_tells)

-- the pairs of the entries of a part are those whose words belong to it
pub pairs_of_own : (part parts : ℕ) (entries : List EntryView) (pair : Pair) →
    Contains (pairs_of_index (own_entries part parts entries)) pair ↔
    (Contains (pairs_of_index entries) pair × (part_of pair.word parts ≡ part))
pairs_of_own part parts entries pair = (
  (λ h.
      let m = member_from_any (HasPair pair) (own_entries part parts entries)
      (entries_of_pair (own_entries part parts entries) pair h) in
      let kept = Contains-from_filter (λ (e : EntryView). part_of e.word parts == part) entries m.0 m.1 in (
        pair_in_entries entries pair (any_from_member (HasPair pair) entries m.0 kept.0 m.2),
        ap (λ w. part_of w parts) (sym m.2.0) ∙ eqb-true (part_of m.0.word parts) part kept.1,
      )),
  (λ h.
      let m = member_from_any (HasPair pair) entries (entries_of_pair entries pair h.0) in
      let passes = eq-eqb (part_of m.0.word parts) part (ap (λ w. part_of w parts) m.2.0 ∙ h.1) in
      pair_in_entries (own_entries part parts entries) pair
      (any_from_member (HasPair pair) (own_entries part parts entries) m.0
      (Contains-filter (λ (e : EntryView). part_of e.word parts == part) entries m.0 passes m.1) m.2)),
)

-- the entries of a part are entries
own_are_entries : (part parts : ℕ) (entries : List EntryView) → AreEntries entries →
    AreEntries (own_entries part parts entries)
own_are_entries part parts entries are = search (arith, AllPairs-filter, All-filter)

-- the entries of the text in lower case, divided, are those of the documents for each part
pub entries_of_parts : {documents lower : List Document} (table entries : List EntryView)
    (divided : List (Vec EntryView Global)) {parts : ℕ} → lower ≡ map in_lower_case documents →
    AreRunsOf lower (pairs_of_index table) → AreEntries entries →
    ((pair : Pair) → Contains (pairs_of_index entries) pair ↔ Contains (pairs_of_index table) pair) →
    AreDivided entries parts divided → AreEntriesOfParts documents parts divided
entries_of_parts {documents} {lower} table entries divided {parts} is_lower runs are same division =
    record {
      count = division.count;
      each = λ part d low. subst (AreRunEntries documents part parts)
          (sym (division.each part d low)) (of_part part);
    }
  where
    of_part : (part : ℕ) → AreRunEntries documents part parts (own_entries part parts entries)
    of_part part = let own = own_are_entries part parts entries are in record {
      sorted = own;
      exact = record {
        rising = pairs_of_entries_rise (own_entries part parts entries) own.words own.documents;
        exact = λ pair. (
          (λ h.
              let there = (pairs_of_own part parts entries pair).0 h in (
                (pairs_of_lower documents pair).0 (subst (Any (IsRunOfDocument pair)) is_lower
                    ((runs.exact pair).0 ((same pair).0 there.0))),
                there.1,
              )),
          (λ (h : IsPairOf documents pair × (part_of pair.word parts ≡ part)).
              (pairs_of_own part parts entries pair).1 (
                (same pair).1 ((runs.exact pair).1 (subst (Any (IsRunOfDocument pair)) (sym is_lower)
                    ((pairs_of_lower documents pair).1 h.0))),
                h.1,
              )),
        );
      };
    }
