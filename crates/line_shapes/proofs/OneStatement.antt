-- A line says one statement: no two keywords are spelled alike, and the words of a line are those of its
-- keyword.
use Rattle.std.proofs.Common.{ℕ, List, [], ◌∷◌, ◌≡◌, ◌∙◌, Bool, true, false, Option, Some, None, ap, cond}
use Rattle.std.proofs.Common.{refl, suc, sym}
use Rattle.std.specs.Prelude.{if◌then◌else◌, length}
use Rattle.std.specs.List.{after_first, before_first, position_or_len}
use Rattle.std.specs.Str.{bytes_eq}
use Rattle.std.proofs.lemmas.List.Splits.{slice_split_first}
use Rattle.text_lines.specs.Texts.{Line, Word, words_of}
use Rattle.text_lines.proofs.Splitting.{cut_none}
use Rattle.line_shapes.specs.Keywords.{spelling_of}
use Rattle.line_shapes.specs.Lines.{Says, Statement, first_words, has_space, is_space, pieces, words_in}
use Rattle.line_shapes.specs.Places.{more_of, places_of}
use Rattle.line_shapes.specs.declared.keyword.Keyword.{Keyword}
use Rattle.line_shapes.specs.declared.keyword.Keyword.TheVariants.{Problem, Script, Job, Centre, Rack, Worker}
use Rattle.line_shapes.specs.declared.keyword.Keyword.TheVariants.{Split, Barred, Dead, Busy, Parts, Target}
use Rattle.line_shapes.specs.declared.keyword.Keyword.TheVariants.{Silence, Doc, Plan, Start, Price, Begin}
use Rattle.line_shapes.specs.declared.keyword.Keyword.TheVariants.{Wave, Ahead, Done, Fail, Withdraw, Die, Join}
use Rattle.line_shapes.specs.declared.keyword.Keyword.TheVariants.{Add, Lose, Sweep, Reduce, Copies, Backup, End}
use Rattle.line_shapes.specs.declared.keyword.Keyword.TheVariants.{Places}
use Rattle.line_shapes.specs.declared.place.Place.{Place}
use Rattle.line_shapes.specs.declared.place.Place.TheVariants.{Text}
use borrow.Author.Tests.{ltb-true}

-- ---- the keyword that is spelled so

abbrev keyword_told : Word → Keyword
keyword_told w =
    if bytes_eq w (spelling_of Problem) then Problem
    else if bytes_eq w (spelling_of Script) then Script
    else if bytes_eq w (spelling_of Job) then Job
    else if bytes_eq w (spelling_of Centre) then Centre
    else if bytes_eq w (spelling_of Rack) then Rack
    else if bytes_eq w (spelling_of Worker) then Worker
    else if bytes_eq w (spelling_of Split) then Split
    else if bytes_eq w (spelling_of Barred) then Barred
    else if bytes_eq w (spelling_of Dead) then Dead
    else if bytes_eq w (spelling_of Busy) then Busy
    else if bytes_eq w (spelling_of Places) then Places
    else if bytes_eq w (spelling_of Parts) then Parts
    else if bytes_eq w (spelling_of Target) then Target
    else if bytes_eq w (spelling_of Silence) then Silence
    else if bytes_eq w (spelling_of Doc) then Doc
    else if bytes_eq w (spelling_of Plan) then Plan
    else if bytes_eq w (spelling_of Start) then Start
    else if bytes_eq w (spelling_of Price) then Price
    else if bytes_eq w (spelling_of Begin) then Begin
    else if bytes_eq w (spelling_of Wave) then Wave
    else if bytes_eq w (spelling_of Ahead) then Ahead
    else if bytes_eq w (spelling_of Done) then Done
    else if bytes_eq w (spelling_of Fail) then Fail
    else if bytes_eq w (spelling_of Withdraw) then Withdraw
    else if bytes_eq w (spelling_of Die) then Die
    else if bytes_eq w (spelling_of Join) then Join
    else if bytes_eq w (spelling_of Add) then Add
    else if bytes_eq w (spelling_of Lose) then Lose
    else if bytes_eq w (spelling_of Sweep) then Sweep
    else if bytes_eq w (spelling_of Reduce) then Reduce
    else if bytes_eq w (spelling_of Copies) then Copies
    else if bytes_eq w (spelling_of Backup) then Backup
    else End

told_back : (k : Keyword) → keyword_told (spelling_of k) ≡ k
told_back Problem = refl
told_back k = refl

-- ---- the words of a line

abbrev first_word : List Word → Word
first_word [] = []
first_word (w ∷ ws) = w

abbrev other_words : List Word → List Word
other_words [] = []
other_words (w ∷ ws) = ws

-- what stands before the first space, or all
abbrev front_of : Line → Word
front_of line = cond (has_space line) (before_first is_space line) line

front_words : (line : Line) → first_word (words_of line) ≡ front_of line
front_words line = by (has_space line) refl
  where
    by : (b : Bool) → has_space line ≡ b →
        first_word (words_of line) ≡ cond b (before_first is_space line) line
    by true e = ap first_word (slice_split_first is_space line 0 (ltb-true _ _ e))
    by false e =
        ap first_word
        (cut_none is_space line (ap (λ b. cond b (Some (position_or_len is_space line)) None) e))

front_cut : (b : Bool) (w v : Word) (ws : List Word) → first_word (cond b (w ∷ ws) (v ∷ [])) ≡ cond b w v
front_cut true w v ws = refl
front_cut false w v ws = refl

-- the first word of a line is the same however the others are cut
front_pieces : (more : Option Place) (n : ℕ) (line : Line) → first_word (pieces more (suc n) line)
    ≡ front_of line
front_pieces (Some Text) n line =
    front_cut (has_space line) (before_first is_space line) line (first_words n (after_first is_space line))
front_pieces more n line = front_words line

spelled_first : (line : Line) (k : Keyword) (ws : List Word) → words_in k line ≡ spelling_of k ∷ ws
    → spelling_of k ≡ front_of line
spelled_first line k ws cut =
    sym (ap first_word cut) ∙ front_pieces (more_of k) (length (places_of k)) line

-- the keyword and the words by which a line is cut are those of what it says
pub stated_as : (line : Line) (k : Keyword) (ws : List Word) (s : Statement) →
    words_in k line ≡ spelling_of k ∷ ws
    → Says line s → s ≡ record { keyword = k; words = ws }
stated_as line k ws s cut says =
    let text : spelling_of s.keyword ≡ spelling_of k =
    spelled_first line s.keyword s.words says.spelled ∙ sym (spelled_first line k ws cut) in
    let keyword : s.keyword ≡ k = sym (told_back s.keyword) ∙ ap keyword_told text ∙ told_back k in
    let words : s.words ≡ ws =
    ap other_words (sym says.spelled ∙ ap (λ j. words_in j line) keyword ∙ cut) in
    λ i. record { keyword = keyword i; words = words i }

pub says-unique : (line : Line) (s t : Statement) → Says line s → Says line t → s ≡ t
says-unique line s t a b = stated_as line t.keyword t.words s b.spelled a

-- no two keywords are spelled alike
pub spelling_of-injective : (j k : Keyword) → spelling_of j ≡ spelling_of k → j ≡ k
spelling_of-injective j k same = sym (told_back j) ∙ ap keyword_told same ∙ told_back k
