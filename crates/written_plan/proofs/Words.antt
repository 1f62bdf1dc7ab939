-- Words that a line can be put together from: names, numbers, and given words.
use Rattle.std.proofs.Common.{ℕ, List, [], ◌∷◌, ◌≡◌, ◌<◌, ◌^◌, ◌∙◌, length, codes, arith, rules}
use Rattle.std.proofs.Common.{◌≤◌, refl, get_or, suc, zero}
use Rattle.std.specs.Fmt.{decimal}
use Rattle.std.specs.List.{All}
use Rattle.std.proofs.lemmas.Bool.{cases_lt}
use Rattle.std.proofs.lemmas.Fmt.{decimal_digit, decimal_nonempty, digits_decimal, digits_value-decimal}
use Rattle.std.proofs.lemmas.Fmt.{first_decimal}
use Rattle.std.proofs.lemmas.List.Elements.{All-append, All-cons, All-from_recursion, All-head, All-nil}
use Rattle.std.proofs.lemmas.List.Elements.{All-tail, All-weaker}
use Rattle.text_lines.specs.Texts.{IsDigit, IsLongName, IsLongNameByte, IsNumber, IsPrintable, Line, Word}
use Rattle.text_lines.specs.Texts.{number_of, words_of}
use Rattle.text_lines.proofs.Numerals.{numerals}
use Rattle.line_shapes.specs.Demands.{Meet, MeetsDemand}
use Rattle.line_shapes.specs.Keywords.{spelling_of}
use Rattle.line_shapes.specs.Lines.{Says, Statement, words_in}
use Rattle.line_shapes.specs.Places.{place_at, places_of}
use Rattle.line_shapes.specs.declared.demand.Demand.TheVariants.{Shape}
use Rattle.line_shapes.specs.declared.keyword.Keyword.{Keyword}
use Rattle.line_shapes.specs.declared.keyword.Keyword.TheVariants.{Start, Price}
use Rattle.written_plan.proofs.Lines.{IsPlain, spaced, words_of-spaced}

-- ---- names and numbers

plain_byte : (b : ℕ) → IsLongNameByte b → IsPlain b
plain_byte b h = (grind arith, grind arith)

pub plain-name : (w : Word) → IsLongName w → All IsPlain w
plain-name w h = All-weaker IsLongNameByte IsPlain plain_byte w h.2

lone_zero : (n : ℕ) → n < 2 ^ 64 → get_or (decimal n) 0 0 ≡ 48 → length (decimal n) ≡ 1
lone_zero n small zero_first = grind (arith, cases_lt, first_decimal, decimal_digit)

pub number-decimal : (n : ℕ) → n < 2 ^ 64 → IsNumber (decimal n)
number-decimal n small = (digits_decimal numerals n small, decimal_nonempty n small, lone_zero n small)

pub number_of-decimal : (n : ℕ) → n < 2 ^ 64 → number_of (decimal n) ≡ n
number_of-decimal n small = digits_value-decimal numerals n small

plain_digit : (b : ℕ) → IsDigit b → IsPlain b
plain_digit b h = (omega arith, omega arith)

pub plain-decimal : (n : ℕ) → n < 2 ^ 64 → All IsPlain (decimal n)
plain-decimal n small = All-weaker IsDigit IsPlain plain_digit (decimal n) (digits_decimal numerals n small)

-- ---- a line put together from words

printable_byte : (b : ℕ) → IsPlain b → IsPrintable b
printable_byte b h = (omega arith, h.1)

printable-spaced : (ws : List Word) → All (All IsPlain) ws → All IsPrintable (spaced ws)
printable-spaced [] h = All-nil IsPrintable
printable-spaced (w ∷ []) h = All-weaker IsPlain IsPrintable printable_byte w (All-head (All IsPlain) w [] h)
printable-spaced (w ∷ v ∷ ws) h =
    All-append IsPrintable w (32 ∷ spaced (v ∷ ws))
    (All-weaker IsPlain IsPrintable printable_byte w (All-head (All IsPlain) w (v ∷ ws) h))
    (All-cons IsPrintable 32 (spaced (v ∷ ws)) (omega arith, omega arith)
    (printable-spaced (v ∷ ws) (All-tail (All IsPlain) w (v ∷ ws) h)))

-- ---- what holds of each word of a short line

pub both_of : (P : ℕ → Word → Type 0) (a b : Word) → P 0 a → P 1 b
    → (i : ℕ) → i < length (a ∷ b ∷ []) → P i (get_or (a ∷ b ∷ []) i [])
both_of P a b p q zero lt = p
both_of P a b p q (suc zero) lt = q
both_of P a b p q (suc (suc i)) lt = absurd (omega arith)

-- ---- the lines of a plan

-- the line of a keyword and these words
abbrev pub said : Keyword → List Word → Statement
said k ws = record { keyword = k; words = ws }

abbrev pub line_of : Keyword → List Word → List ℕ
line_of k ws = spaced (spelling_of k ∷ ws)

-- its bytes can be printed, and it says its words
pub record IsMade (k : Keyword) (ws : List Word) : Type 0 where
  pub printable : All IsPrintable (line_of k ws)
  pub says : Says (line_of k ws) (said k ws)

made : (k : Keyword) (ws : List Word) → ((line : Line) → words_in k line ≡ words_of line)
    → All (All IsPlain) (spelling_of k ∷ ws) → length (places_of k) ≤ length ws → Meet Shape k ws
    → IsMade k ws
made k ws cut plain many shape = record {
  printable = printable-spaced (spelling_of k ∷ ws) plain;
  says = record {
    spelled = cut (line_of k ws) ∙ words_of-spaced (spelling_of k) ws plain;
    many = many;
    shape = shape;
  };
}

-- of two words, and of none
made_of_two : (k : Keyword) (a b : Word) → ((line : Line) → words_in k line ≡ words_of line)
    → length (places_of k) ≤ 2 → All IsPlain (spelling_of k) → All IsPlain a → All IsPlain b
    → MeetsDemand Shape (place_at k 0) a → MeetsDemand Shape (place_at k 1) b → IsMade k (a ∷ b ∷ [])
made_of_two k a b cut few first p q s t =
    made k (a ∷ b ∷ []) cut
    (All-cons (All IsPlain) (spelling_of k) (a ∷ b ∷ []) first (All-cons (All IsPlain) a (b ∷ []) p
    (All-cons (All IsPlain) b [] q (All-nil (All IsPlain)))))
    few (both_of (λ i v. MeetsDemand Shape (place_at k i) v) a b s t)

pub made-start : (split worker : Word) → IsLongName split → IsLongName worker
    → IsMade Start (split ∷ worker ∷ [])
made-start split worker s w =
    made_of_two Start split worker (λ line. refl) (omega arith)
    (All-from_recursion IsPlain (codes "start") (search rules)) (plain-name split s) (plain-name worker w)
    s.0 w.0

pub made-price : (name : Word) (amount : ℕ) → IsLongName name → amount < 2 ^ 64
    → IsMade Price (name ∷ decimal amount ∷ [])
made-price name amount n small =
    made_of_two Price name (decimal amount) (λ line. refl) (omega arith)
    (All-from_recursion IsPlain (codes "price") (search rules)) (plain-name name n)
    (plain-decimal amount small) n.0 (number-decimal amount small)
