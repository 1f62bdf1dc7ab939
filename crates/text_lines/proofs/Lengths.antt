-- How long a text may be that begins in some way, and what is read of it.
use Rattle.std.proofs.Common.{ℕ, List, ◌≡◌, ◌+◌, ◌≤◌, ◌∙◌, ◌++◌, ◌||◌, Bool, true, false, ap, arith}
use Rattle.std.proofs.Common.{drop, length, length-append, inl, inr, sym, take, take_all, append-nil, Option}
use Rattle.std.proofs.Common.{IfSome, Some, None, refl}
use Rattle.std.specs.Prelude.{◌==◌, codes}
use Rattle.std.specs.Cmp.Lexicographic.{pointwise}
use Rattle.std.specs.Io.KnownBytes.{Consumes, IsAtEnd}
use Rattle.std.proofs.KnownBytes.{Consumes-trans}
use Rattle.std.proofs.Math.Bool.{or-true}
use Rattle.std.proofs.lemmas.Bool.{cases_Bool}
use Rattle.std.proofs.lemmas.Bool.Decides.{Decides-eqb}
use Rattle.std.proofs.lemmas.List.{take-append-le}
use Rattle.std.proofs.lemmas.Slice.Eq.{starts_is}
use Rattle.text_lines.specs.Streams.{begins, is_long, longest, most_read_of}
use Rattle.text_lines.specs.Streams.{ConsumesAtMost, ConsumesText}

pub longest-least : (text : List ℕ) → 16777216 ≤ longest text
longest-least text =
    elim (cases_Bool (is_long text)) [ inl is ↦ rw is (omega arith) | inr is ↦ rw is (omega arith) ]

-- as many bytes as a line has decide whether a text begins with it
begins-settled : (line xs ys : List ℕ) → length line ≤ length xs → begins line (xs ++ ys) ≡ begins line xs
begins-settled line xs ys le =
    ap (λ (front : List ℕ). pointwise (λ a b. a == b) line front) (take-append-le (length line) xs ys le)

-- so ten bytes decide how long a text may be
pub longest-settled : (xs ys : List ℕ) → 10 ≤ length xs → longest (xs ++ ys) ≡ longest xs
longest-settled xs ys le =
    rw (
      begins-settled (codes "problem 3\n") xs ys le,
      begins-settled (codes "script 3\n") xs ys (omega (arith, le)),
      begins-settled (codes "job 3\n") xs ys (omega (arith, le)),
    ) refl

-- a text that begins with a line has its bytes
begins-long : (line text : List ℕ) → begins line text ≡ true → length line ≤ length text
begins-long line text is =
    let whole : text ≡ line ++ drop (length line) text =
    (starts_is Decides-eqb text line (begins line text) refl).0 is in
    omega (arith, ap length whole, length-append line (drop (length line) text))

-- and begins so with more bytes
begins-grows : (line xs ys : List ℕ) → begins line xs ≡ true → begins line (xs ++ ys) ≡ true
begins-grows line xs ys is = begins-settled line xs ys (begins-long line xs is) ∙ is

or-more : (a b c d : Bool) → (a ≡ true → c ≡ true) → (b ≡ true → d ≡ true) → (a || b) ≡ true
    → (c || d) ≡ true
or-more true b c d first second is = rw (first refl) refl
or-more false b c d first second is = rw (second is) (or-true c)

long-grows : (xs ys : List ℕ) → is_long xs ≡ true → is_long (xs ++ ys) ≡ true
long-grows xs ys =
    or-more _ _ _ _
    (or-more _ _ _ _ (begins-grows (codes "problem 3\n") xs ys) (begins-grows (codes "script 3\n") xs ys))
    (begins-grows (codes "job 3\n") xs ys)

-- with more bytes a text may be as long, or longer
pub longest-grows : (xs ys : List ℕ) → longest xs ≤ longest (xs ++ ys)
longest-grows xs ys = elim (cases_Bool (is_long xs)) [
  | inl is ↦ rw (is, long-grows xs ys is) (omega arith)
  | inr is ↦ rw is (longest-least (xs ++ ys))
]

-- what is read of a text that has begun, and of what follows it, is as much
pub most-settled : (text rest : List ℕ) → most_read_of text ≤ length text
    → most_read_of (text ++ rest) ≡ most_read_of text
most-settled text rest full =
    ap (λ (n : ℕ). n + 1) (longest-settled text rest (omega (arith, longest-least text, full)))

-- a text as long as it may be, and one byte more, is the front of the input
pub full_text : (a b : Option (List ℕ)) (text : List ℕ) → Consumes a b text → most_read_of text ≤ length text
    → length text ≤ most_read_of text → IfSome a (λ xs. text ≡ take (most_read_of xs) xs)
full_text None b text h low high = tt
full_text (Some xs) None text h low high = absurd h
full_text (Some xs) (Some ys) text h low high =
    let same = ap most_read_of h ∙ most-settled text ys low in
    sym (ap (λ (n : ℕ). take n xs) same ∙ ap (take (most_read_of text)) h
    ∙ take-append-le (most_read_of text) text ys low ∙ take_all (most_read_of text) text high)

-- a text that ended is all of the input
pub ended_text : (a b : Option (List ℕ)) (text : List ℕ) → Consumes a b text → IsAtEnd b
    → length text ≤ most_read_of text → IfSome a (λ xs. text ≡ take (most_read_of xs) xs)
ended_text None b text h end high = tt
ended_text (Some xs) None text h end high = absurd h
ended_text (Some xs) (Some ys) text h end high =
    let all : xs ≡ text = h ∙ ap (λ (zs : List ℕ). text ++ zs) end ∙ append-nil text in
    sym (ap (λ (zs : List ℕ). take (most_read_of zs) zs) all ∙ take_all (most_read_of text) text high)

-- what was read, and what a read took then, is no more than is read of a text
pub within_text : (a b c : Option (List ℕ)) (text : List ℕ) (k : ℕ) → Consumes a b text
    → ConsumesAtMost b c k → length text + k ≤ most_read_of text → ConsumesText a c
within_text a b c text k h r fits = record {
  bytes = text ++ r.bytes;
  few = (let few = r.few in omega (arith, few, fits, length-append text r.bytes, longest-grows text r.bytes));
  consumed = Consumes-trans a b c text r.bytes h r.consumed;
}
