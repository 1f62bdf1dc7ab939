-- What is taken of a head.
use Rattle.std.proofs.Common.{ℕ, List, [], ◌∷◌, ◌++◌, ◌≡◌, ◌≢◌, ◌≤◌, ◌<◌, ◌∙◌, ap, append-nil}
use Rattle.std.proofs.Common.{append_assoc, arith, inl, inr, length, length-append, length-take, Option, Ok}
use Rattle.std.proofs.Common.{refl, subst, sym, take, take_all}
use Rattle.std.specs.Prelude.{codes}
use Rattle.std.specs.Io.KnownBytes.{Consumes}
use Rattle.std.proofs.KnownBytes.{Consumes-nil, Consumes-trans}
use Rattle.std.proofs.lemmas.List.{take-append-le}
use Rattle.text_lines.specs.Streams.{most_read}
use Rattle.line_talk.specs.Talks.{ReadsLine}
use Rattle.line_talk.specs.declared.LineRead.{LineRead}
use Rattle.line_talk.specs.declared.LineRead.TheVariants as read
use Rattle.live_master.specs.Sessions.{IsHead, TakesHeadLine}
use Rattle.live_master.specs.declared.serving.HeadLine.{HeadLine}
use Rattle.live_master.specs.declared.serving.HeadLine.TheVariants.{Begin, Last, Setting}

-- what there is no room for is not kept
full_front : (most : ℕ) (xs ys : List ℕ) → most ≤ length (take most xs) → take most xs ≡ take most (xs ++ ys)
full_front most xs ys full = sym (take-append-le most xs ys (grind (arith, length-take)))

pub short_front : (most : ℕ) (xs : List ℕ) → length (take most xs) < most → take most xs ≡ xs
short_front most xs short = take_all most xs (grind (arith, length-take))

-- a front that has all that was there is no shorter
longer : (most : ℕ) (old body : List ℕ) → length old ≤ most → length old ≤ length (take most (old ++ body))
longer most old body few = grind (arith, length-take, length-append)

few_taken : (most : ℕ) (xs new : List ℕ) → new ≡ take most xs → length new ≤ most
few_taken most xs new is =
    subst (λ (l : List ℕ). length l ≤ most) (sym is) (grind (arith, length-take))

none_few : (most : ℕ) (head : List ℕ) → head ≡ [] → length head ≤ most
none_few most head none = subst (λ (l : List ℕ). length l ≤ most) (sym none) (omega arith)

pub head_starts_few : (head : List ℕ) → head ≡ [] → length head ≤ most_read
head_starts_few head none = none_few most_read head none

-- a line that is kept is not the last one
pub setting_goes_on : (line : HeadLine) → line ≡ Setting → line ≢ Last
setting_goes_on line is last = let same : Setting ≡ Last = sym is ∙ last in cc

pub begin_goes_on : (line : HeadLine) → line ≡ Begin → line ≢ Last
begin_goes_on line is last = let same : Begin ≡ Last = sym is ∙ last in cc

-- ---- a line of it

module _ (unread left : Option (List ℕ)) (old new : List ℕ) (r : LineRead)
    (found : ReadsLine most_read old new unread left (Ok r)) where
  reads_as : (s : LineRead) → r ≡ s → ReadsLine most_read old new unread left (Ok s)
  reads_as s is = subst (λ (q : LineRead). ReadsLine most_read old new unread left (Ok q)) is found

  -- the input is at its end
  pub head_over : length old ≤ most_read → r ≡ read.Over → TakesHeadLine unread left old new Last
  head_over few is = let reads = reads_as read.Over is in record {
    bytes = reads.bytes;
    consumed = reads.consumed;
    kept = reads.finds.1 ∙ sym (take_all most_read old few)
        ∙ ap (take most_read) (sym (ap (λ (b : List ℕ). old ++ b) reads.finds.0 ∙ append-nil old));
    whole = λ other. absurd (other refl);
  }

  pub head_unfed : r ≡ read.Unfed → TakesHeadLine unread left old new Last
  head_unfed is = let reads = reads_as read.Unfed is in record {
    bytes = reads.bytes;
    consumed = reads.consumed;
    kept = reads.finds.1;
    whole = λ other. absurd (other refl);
  }

  -- a line takes away nothing of what stood there
  pub head_longer : length old ≤ most_read → r ≡ read.Whole → length old ≤ length new
  head_longer few is =
      let reads = reads_as read.Whole is in
      subst (λ (l : List ℕ). length old ≤ length l) (sym reads.finds.2)
      (longer most_read old reads.finds.0 few)

  -- there is no room for its line feed
  pub head_full : most_read ≤ length new → r ≡ read.Whole → TakesHeadLine unread left old new Last
  head_full full is =
      let reads = reads_as read.Whole is in
      let body = reads.finds.0 in
      let kept = reads.finds.2 in
      record {
        bytes = reads.bytes;
        consumed = reads.consumed;
        kept = kept
            ∙ full_front most_read (old ++ body) (10 ∷ [])
            (subst (λ (xs : List ℕ). most_read ≤ length xs) kept full)
            ∙ ap (take most_read) (append_assoc old body (10 ∷ [])
            ∙ ap (λ (b : List ℕ). old ++ b) (sym reads.finds.1.fed));
        whole = λ other. absurd (other refl);
      }

  pub head_whole : (next : List ℕ) (line : HeadLine) → length new < most_read → r ≡ read.Whole
      → next ≡ new ++ 10 ∷ [] → TakesHeadLine unread left old next line
  head_whole next line short is grown =
      let reads = reads_as read.Whole is in
      let body = reads.finds.0 in
      let all : new ≡ old ++ body = reads.finds.2
      ∙ short_front most_read (old ++ body)
      (subst (λ (xs : List ℕ). length xs < most_read) reads.finds.2 short) in
      let same : next ≡ old ++ reads.bytes = grown ∙ ap (λ (xs : List ℕ). xs ++ 10 ∷ []) all
      ∙ append_assoc old body (10 ∷ []) ∙ ap (λ (b : List ℕ). old ++ b) (sym reads.finds.1.fed) in
      let few : length (old ++ reads.bytes) ≤ most_read =
      omega (arith, ap length (sym same ∙ grown), length-append new (10 ∷ []), short) in
      record {
        bytes = reads.bytes;
        consumed = reads.consumed;
        kept = same ∙ sym (take_all most_read (old ++ reads.bytes) few);
        whole = λ other. same;
      }

-- ---- the whole head

-- nothing was taken
pub head_none : (unread : Option (List ℕ)) (head : List ℕ) → head ≡ [] → Consumes unread unread head
head_none unread head none = subst (Consumes unread unread) (sym none) (Consumes-nil unread)

pub head_few : (at left : Option (List ℕ)) (head new : List ℕ) (line : HeadLine)
    → TakesHeadLine at left head new line → length new ≤ most_read
head_few at left head new line takes = few_taken most_read (head ++ takes.bytes) new takes.kept

module _ (unread at left : Option (List ℕ)) (head new : List ℕ) (line : HeadLine)
    (takes : TakesHeadLine at left head new line) where
  pub head_more : line ≢ Last → Consumes unread at head → Consumes unread left new
  head_more other consumed = subst (Consumes unread left) (sym (takes.whole other))
      (Consumes-trans unread at left head takes.bytes consumed takes.consumed)

  pub head_last : Consumes unread at head → IsHead unread left new
  head_last consumed = record {
    head = head ++ takes.bytes;
    consumed = Consumes-trans unread at left head takes.bytes consumed takes.consumed;
    text_is = inl takes.kept;
  }

  -- an `end` is put behind a `begin`
  pub head_begun : (text : List ℕ) → line ≢ Last → Consumes unread at head → text ≡ new ++ codes "end\n"
      → IsHead unread left text
  head_begun text other consumed is = record {
    head = new;
    consumed = head_more other consumed;
    text_is = inr is;
  }
