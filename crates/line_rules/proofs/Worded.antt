-- The faults of a line are the faults of the words after its keyword, and of a shorter list that stands for
-- these words.
use Rattle.std.proofs.Common.{List, ◌∷◌, ◌≡◌, refl, subst}
use Rattle.text_lines.specs.Texts.{Line, Word}
use Rattle.text_lines.specs.declared.fault.Fault.{Fault}
use Rattle.text_lines.specs.declared.fault.Fault.TheVariants.{Shape, TooLong, NoFeed, Unprintable, AfterEnd}
use Rattle.line_shapes.specs.Keywords.{spelling_of}
use Rattle.line_shapes.specs.Lines.{IsShaped, Says, Statement, words_in}
use Rattle.line_shapes.specs.declared.keyword.Keyword.{Keyword}
use Rattle.line_shapes.proofs.OneStatement.{stated_as}
use Rattle.line_rules.specs.Faults.{Fails, IsComplete, IsLeastOf}
use Rattle.line_rules.specs.Known.{Known}
use Rattle.line_rules.specs.Long.{StandsFor, WordsHave, said}
use Rattle.line_rules.specs.Texts.{IsLegible, LineHas}
use Rattle.line_rules.proofs.Saying.{says_same}

-- ---- a line with these words after its keyword

module _ (k : Known) (line : Line) (word : Keyword) (ws : List Word) (sound : IsLegible k line)
    (cut : words_in word line ≡ spelling_of word ∷ ws) where
  shaped_of : (s : Statement) → Says line s → IsShaped (said word ws)
  shaped_of s says =
      subst IsShaped (stated_as line word ws s cut says) (record { many = says.many; shape = says.shape })

  line_has : (f : Fault) → WordsHave k word ws f → LineHas k line f
  line_has Shape h = (
    sound,
    λ s says whole.
        h (shaped_of s says) (subst (IsComplete k) (stated_as line word ws s cut says) whole),
  )
  line_has TooLong h = absurd (h.1.2 tt)
  line_has NoFeed h = absurd (h.1.2 tt)
  line_has Unprintable h = absurd (h.1.2 tt)
  line_has AfterEnd h = absurd (h.1.2 tt)
  line_has f h = (sound, (said word ws, says_same line word ws (said word ws) cut refl h.0, h.1))

  words_have : (f : Fault) → LineHas k line f → WordsHave k word ws f
  words_have Shape h = λ shaped whole. h.1 (said word ws) (says_same line word ws _ cut refl shaped) whole
  words_have TooLong h = absurd h
  words_have NoFeed h = absurd h
  words_have Unprintable h = absurd (h sound.0)
  words_have AfterEnd h = absurd (sound.1 h)
  words_have f h =
      (shaped_of h.1.0 h.1.1, subst (λ t. Fails k t f) (stated_as line word ws h.1.0 cut h.1.1) h.1.2)

  least_of_all : (f : Fault) → IsLeastOf (WordsHave k word ws) f → IsLeastOf (LineHas k line) f
  least_of_all f h = record {
    applies = line_has f h.applies;
    least = λ g has. h.least g (words_have g has);
  }

-- ---- fewer words that stand for these

module _ (k : Known) (line : Line) (word : Keyword) (short long : List Word)
    (cut : words_in word line ≡ spelling_of word ∷ long) (stands : StandsFor k word short long) where
  pub least_of_line : IsLegible k line → (f : Fault) → IsLeastOf (WordsHave k word short) f
      → IsLeastOf (LineHas k line) f
  least_of_line sound f h = least_of_all k line word long sound cut f (stands.least f h)

-- the least fault of a line that has its shape is that of its words
pub least_of_words : (k : Known) (word : Keyword) (ws : List Word) → IsShaped (said word ws) → (f : Fault)
    → IsLeastOf (Fails k (said word ws)) f → IsLeastOf (WordsHave k word ws) f
least_of_words k word ws shaped f h = record { applies = of f h.applies; least = λ g has. h.least g (back g has) }
  where
    of : (g : Fault) → Fails k (said word ws) g → WordsHave k word ws g
    of Shape fails = λ _ whole. fails whole
    of g fails = (shaped, fails)

    back : (g : Fault) → WordsHave k word ws g → Fails k (said word ws) g
    back Shape has = has shaped
    back g has = has.1
