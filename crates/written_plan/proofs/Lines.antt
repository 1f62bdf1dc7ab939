-- The lines of a text that is put together from lines, and the words of a line that is put together from
-- words.
use Rattle.std.proofs.Common.{ℕ, List, [], ◌∷◌, ◌++◌, ◌≡◌, ◌==◌, ◌≤◌, ◌<◌, ◌∙◌, false, refl, sym, ap, arith}
use Rattle.std.specs.List.{All, join_with_byte}
use Rattle.std.proofs.lemmas.Bool.Decides.{nat_tests}
use Rattle.std.proofs.lemmas.List.{append_assoc}
use Rattle.std.proofs.lemmas.List.Elements.{All-head, All-tail, All-weaker}
use Rattle.std.proofs.lemmas.List.Splits.{join_with_byte-slice_split, slice_split_at, slice_split_none}
use Rattle.text_lines.specs.Texts.{IsPrintable, Line, Word, lines_of, words_of}

-- these lines, each with its line feed
abbrev pub joined : List Line → List ℕ
joined [] = []
joined (line ∷ lines) = line ++ 10 ∷ joined lines

pub joined-append : (ls ms : List Line) → joined (ls ++ ms) ≡ joined ls ++ joined ms
joined-append [] ms = refl
joined-append (l ∷ ls) ms = rw (joined-append ls ms) (sym (append_assoc l (10 ∷ joined ls) (joined ms)))

not_feed : (b : ℕ) → IsPrintable b → (b == 10) ≡ false
not_feed b h = grind (arith, nat_tests)

-- lines of printable bytes are the lines of their text
pub lines_of-joined : (ls : List Line) → All (All IsPrintable) ls → lines_of (joined ls) ≡ ls ++ [] ∷ []
lines_of-joined [] h = refl
lines_of-joined (l ∷ ls) h =
    search (
      arith,
      lines_of-joined ls (All-tail (All IsPrintable) l ls h),
      slice_split_at,
      All-weaker,
      not_feed,
      All-head,
      All-tail,
    )

join_feeds : (ls : List Line) → join_with_byte 10 (ls ++ [] ∷ []) ≡ joined ls
join_feeds [] = refl
join_feeds (l ∷ []) = refl
join_feeds (l ∷ m ∷ ls) = ap (λ rest. l ++ 10 ∷ rest) (join_feeds (m ∷ ls))

-- a text whose last line feed ends it is its lines joined
pub text-joined : (text : List ℕ) (ls : List Line) → lines_of text ≡ ls ++ [] ∷ [] → text ≡ joined ls
text-joined text ls e = sym (join_with_byte-slice_split 10 text) ∙ ap (join_with_byte 10) e ∙ join_feeds ls

-- ---- words

-- printable, and no space
abbrev pub IsPlain : ℕ → Type 0
IsPlain b = (32 < b) × (b ≤ 126)

-- these words, with a space between each two
abbrev pub spaced : List Word → Line
spaced words = join_with_byte 32 words

not_space : (b : ℕ) → IsPlain b → (b == 32) ≡ false
not_space b h = grind (arith, nat_tests)

pub words_of-spaced : (w : Word) (ws : List Word) → All (All IsPlain) (w ∷ ws)
    → words_of (spaced (w ∷ ws)) ≡ w ∷ ws
words_of-spaced w [] h = search (arith, slice_split_none, All-weaker, not_space, All-head)
words_of-spaced w (v ∷ ws) h =
    slice_split_at (λ b. b == 32) w 32 (spaced (v ∷ ws))
    (All-weaker IsPlain (λ b. (b == 32) ≡ false) not_space w (All-head (All IsPlain) w (v ∷ ws) h)) refl
    ∙ ap (λ rest. w ∷ rest) (words_of-spaced v ws (All-tail (All IsPlain) w (v ∷ ws) h))

-- a line of a given first word alone is that word
pub line-one_word : (line : Line) (w : Word) → words_of line ≡ w ∷ [] → line ≡ w
line-one_word line w e = sym (join_with_byte-slice_split 32 line) ∙ ap (join_with_byte 32) e
