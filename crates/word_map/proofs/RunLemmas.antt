-- Longest runs of letters: two that overlap are one, and what one more run adds.
use Rattle.std.proofs.Common.{◌≡◌, ℕ, ◌+◌, ◌-◌, ◌<◌, ◌≤◌, true, false, List, length, inl, inr, ◌⊎◌}
use Rattle.std.proofs.Common.{⊎_elim, sym, ap, ◌∙◌, arith}
use Rattle.std.specs.Prelude.{◌↔◌, Contains, slice_range}
use Rattle.std.proofs.lemmas.Bool.{cases_lt, false≢true}
use Rattle.std.proofs.lemmas.Bool.Decides.{nat_tests}
use Rattle.std.proofs.lemmas.Str.{IsCharBoundary-after_ascii}
use Rattle.std.specs.Char.{is_ascii_alphabetic}
use Rattle.std.specs.Str.{IsUtf8, IsCharBoundary}
use Rattle.word_map.specs.Words.{letter_at, IsLongestRun}
use Rattle.word_map.specs.Tokens.{IsSpan, AddsRuns}
use Rattle.word_map.specs.Texts.{Pair}

-- a place is not both a letter and none
both : (text : List ℕ) (place : ℕ) → letter_at text place ≡ true → letter_at text place ≡ false → ⊥
both text place letter none = false≢true (sym none ∙ letter)

module _ {text : List ℕ} {a b c d : ℕ} (one : IsLongestRun text a b) (other : IsLongestRun text c d) where
  -- a run that begins within another one begins where that one does
  starts_not_after : a ≤ c → c < b → a < c → ⊥
  starts_not_after low high after =
      let prior : c - 1 + 1 ≡ c = omega arith in
      both text (c - 1) (one.letters (c - 1) (omega arith) (omega arith)) (other.none_before (c - 1) prior)

  stops_not_after : a ≤ c → c < b → b < d → ⊥
  stops_not_after low high after =
      both text b (other.letters b (omega arith) after) (one.none_after (omega (arith, other.within)))

-- two longest runs that share a place are one
pub same_run : {text : List ℕ} {a b c d : ℕ} → IsLongestRun text a b → IsLongestRun text c d → (place : ℕ) →
    a ≤ place → place < b → c ≤ place → place < d → (a ≡ c) × (b ≡ d)
same_run {text} {a} {b} {c} {d} one other place p q r s =
    let no_later : a < c → ⊥ = λ h. starts_not_after one other (omega arith) (omega arith) h in
    let no_earlier : c < a → ⊥ = λ h. starts_not_after other one (omega arith) (omega arith) h in
    let starts : a ≡ c = omega (arith, no_later, no_earlier) in
    let no_longer : b < d → ⊥ = λ h. stops_not_after one other (omega arith) (omega arith) h in
    let no_shorter : d < b → ⊥ = λ h. stops_not_after other one (omega arith) (omega arith) h in
    (starts, omega (arith, no_longer, no_shorter))

-- at a place before the end a run begins
pub record BeginsRun (text : List ℕ) (place : ℕ) : Type 0 where
  pub within : place ≤ length text
  pub letter : place < length text → letter_at text place ≡ true
  pub none_before : place < length text → (prior : ℕ) → prior + 1 ≡ place → letter_at text prior ≡ false

-- what begins at such a place and goes on to where its letters end is a longest run
pub run_from_span : {text : List ℕ} {start stop : ℕ} → BeginsRun text start → start < length text →
    IsSpan text true start stop → IsLongestRun text start stop
run_from_span {text} {start} {stop} begins inside span = grind arith

-- after the bytes that are no letters a run begins
pub begins_after : {text : List ℕ} {start stop next : ℕ} → IsLongestRun text start stop →
    IsSpan text false stop next → BeginsRun text next
begins_after {text} {start} {stop} {next} run gap = grind arith

-- up to the next run's start there is one more run
pub one_more_run : {text : List ℕ} {start stop next c d : ℕ} → IsLongestRun text start stop →
    IsSpan text false stop next → IsLongestRun text c d → d ≤ next →
    (d ≤ start) ⊎ ((c ≡ start) × (d ≡ stop))
one_more_run {text} {start} {stop} {next} {c} {d} run gap other low =
    ⊎_elim
    (λ (h : start < d).
    let last : letter_at text (d - 1) ≡ true = other.letters (d - 1) (omega (arith, other.nonempty))
    (omega (arith, other.nonempty)) in
    let inside : d - 1 < stop = ⊎_elim (λ g. g) (λ g. absurd
    (both text (d - 1) last (gap.same (d - 1) g (omega (arith, other.nonempty)))))
    (cases_lt (d - 1) stop) in
    let same = same_run other run (d - 1) (omega (arith, other.nonempty)) (omega (arith, other.nonempty))
    (omega arith) inside in
    inr (same.0, same.1))
    (λ h. inl h)
    (cases_lt start d)

-- the word is a longest run of the bytes that ends by the limit
pub record IsRunBefore (bytes : List ℕ) (limit : ℕ) (word : List ℕ) : Type 0 where
  pub start : ℕ
  pub stop : ℕ
  pub run : IsLongestRun bytes start stop
  pub low : stop ≤ limit
  pub is : word ≡ slice_range bytes start stop

-- new has the pairs of old, and each run that ends by the limit, with the document
pub record AddsRunsBefore (old new : List Pair) (bytes : List ℕ) (document limit : ℕ) : Type 0 where
  pub exact : (pair : Pair) → Contains new pair ↔ (Contains old pair ⊎
      ((pair.document ≡ document) × IsRunBefore bytes limit pair.word))

-- a pair is its parts
pub same_pair : {p q : Pair} → p.word ≡ q.word → p.document ≡ q.document → p ≡ q
same_pair w d = λ i. record { word = w i; document = d i }

-- one more run
pub adds_one_more : {old new newer : List Pair} {bytes : List ℕ} {document start stop next : ℕ} →
    BeginsRun bytes start → start < length bytes → IsSpan bytes true start stop →
    IsSpan bytes false stop next → AddsRunsBefore old new bytes document start →
    ((pair : Pair) → Contains newer pair ↔ (Contains new pair ⊎
    ((pair.word ≡ slice_range bytes start stop) × (pair.document ≡ document)))) →
    AddsRunsBefore old newer bytes document next
adds_one_more {old} {new} {newer} {bytes} {document} {start} {stop} {next} begins inside span gap adds more =
    record { exact = λ pair. (forth pair, back pair) }
  where
    run : IsLongestRun bytes start stop
    run = run_from_span begins inside span

    forth : (pair : Pair) → Contains newer pair → Contains old pair ⊎
        ((pair.document ≡ document) × IsRunBefore bytes next pair.word)
    forth pair h =
        ⊎_elim
        (λ (was : Contains new pair). ⊎_elim (λ o. inl o)
        (λ e. inr (
          e.0,
          record {
            start = e.1.start;
            stop = e.1.stop;
            run = e.1.run;
            low =
                omega (arith, e.1.low, span.order, gap.order);
            is = e.1.is;
          },
        )) ((adds.exact pair).0 was))
        (λ (this : (pair.word ≡ slice_range bytes start stop) × (pair.document ≡ document)). inr
        (this.1, record { start = start; stop = stop; run = run; low = gap.order; is = this.0 }))
        ((more pair).0 h)

    back : (pair : Pair) → Contains old pair ⊎ ((pair.document ≡ document)
        × IsRunBefore bytes next pair.word) → Contains newer pair
    back pair h =
        ⊎_elim
        (λ (o : Contains old pair). (more pair).1 (inl ((adds.exact pair).1 (inl o))))
        (λ (e : (pair.document ≡ document) × IsRunBefore bytes next pair.word).
        ⊎_elim
        (λ (low : e.1.stop ≤ start). (more pair).1 (inl
        ((adds.exact pair).1 (inr (
          e.0,
          record {
            start = e.1.start;
            stop = e.1.stop;
            run =
                e.1.run;
            low = low;
            is = e.1.is;
          },
        )))))
        (λ (same : (e.1.start ≡ start) × (e.1.stop ≡ stop)).
        (more pair).1 (inr (
          e.1.is ∙ ap (λ n. slice_range bytes n e.1.stop) same.0
              ∙ ap (λ n. slice_range bytes start n) same.1,
          e.0,
        )))
        (one_more_run run gap e.1.run e.1.low))
        h

-- at the end all runs are there
pub adds_all : {old new : List Pair} {bytes : List ℕ} {document limit : ℕ} → length bytes ≤ limit →
    AddsRunsBefore old new bytes document limit → AddsRuns old new bytes document
adds_all {old} {new} {bytes} {document} {limit} whole adds = record {
  exact = λ pair. (
    (λ h. ⊎_elim (λ o. inl o) (λ e. inr (
      e.0,
      record {
        start = e.1.start;
        stop = e.1.stop;
        run =
            e.1.run;
        is = e.1.is;
      },
    )) ((adds.exact pair).0 h)),
    (λ h. ⊎_elim (λ o. (adds.exact pair).1 (inl o)) (λ e. (adds.exact pair).1
        (inr (
          e.0,
          record {
            start = e.1.start;
            stop = e.1.stop;
            run = e.1.run;
            low =
                omega (arith, e.1.run.within);
            is = e.1.is;
          },
        ))) h),
  );
}

-- a letter is a byte below 128
letter_is_ascii : (b : ℕ) → is_ascii_alphabetic b ≡ true → b < 128
letter_is_ascii b = grind (arith, nat_tests)

-- a run ends between characters
pub boundary_after_run : {text : List ℕ} {start stop : ℕ} → IsUtf8 text → IsLongestRun text start stop →
    IsCharBoundary text stop
boundary_after_run {text} {start} {stop} utf8 run = grind (arith, IsCharBoundary-after_ascii, letter_is_ascii)
