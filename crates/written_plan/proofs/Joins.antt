-- A text and its last line, and the text with a plan behind its head.
use Rattle.std.proofs.Common.{zip, ℕ, List, [], ◌∷◌, ◌++◌, ◌≡◌, ◌≢◌, ◌∙◌, Option, codes, length, map}
use Rattle.std.proofs.Common.{take, drop, refl, sym, ap, arith}
use Rattle.std.proofs.lemmas.List.{append_assoc, length-append, length-drop, take-append-drop, take_at}
use Rattle.price_certificate.specs.PriceList.{PriceList}
use Rattle.text_lines.specs.Texts.{Line, Word, lines_of}
use Rattle.text_lines.specs.declared.fault.Fault.{Fault}
use Rattle.text_lines.specs.declared.fault.Fault.TheVariants.{Misplaced, NoFeed}
use Rattle.line_shapes.specs.Lines.{Statement}
use Rattle.line_rules.specs.Known.{Known, known_at}
use Rattle.line_rules.specs.Texts.{FirstHas, ReadsAs}
use Rattle.line_rules.specs.declared.purpose.Purpose.{Purpose}
use Rattle.line_rules.specs.declared.section.Section.{Section}
use Rattle.line_rules.specs.declared.section.Section.TheVariants.{Ended}
use Rattle.plan_text.specs.Report.{lines_of_plan}
use Rattle.written_plan.specs.Joined.{IsWritable, end_line, without_last_line, with_plan}
use Rattle.written_plan.proofs.Lines.{joined, joined-append}
use Rattle.written_plan.proofs.Pairs.{price_lines-text, price_text, start_lines-text, start_pairs, start_text}
use Rattle.written_plan.proofs.PlanPart.{plan_texts}

-- ---- the last line

ended : (section : Section) → (section ≢ Ended → ⊥) → section ≡ Ended
ended Ended h = refl
ended section h = absurd (h (λ e. cc))

last_is : (k : Known) (rest : List Line) → length rest ≡ 1 → ((f : Fault) → FirstHas k rest f → ⊥)
    → (rest ≡ [] ∷ []) × (k.section ≡ Ended)
last_is k ([] ∷ []) one none = (refl, ended k.section (none Misplaced))
last_is k ((b ∷ bs) ∷ []) one none = absurd (none NoFeed tt)
last_is k rest one none = absurd (omega arith)

-- nothing follows the last line feed, and before it the last line is `end`
pub last_line : (purpose : Purpose) (text : List ℕ) (ss : List Statement) → ReadsAs purpose text ss
    → (drop (length ss) (lines_of text) ≡ [] ∷ []) × ((known_at purpose ss).section ≡ Ended)
last_line purpose text ss reads =
    let one : length (drop (length ss) (lines_of text)) ≡ 1 =
    omega (arith, length-drop (length ss) (lines_of text), reads.whole) in
    last_is (known_at purpose ss) (drop (length ss) (lines_of text)) one
    (λ f h. reads.faultless.none (length ss) f (ss, reads.says, h))

pub all_lines : (purpose : Purpose) (text : List ℕ) (ss : List Statement) → ReadsAs purpose text ss
    → lines_of text ≡ take (length ss) (lines_of text) ++ [] ∷ []
all_lines purpose text ss reads =
    sym (take-append-drop (length ss) (lines_of text))
    ∙ ap (λ rest. take (length ss) (lines_of text) ++ rest) (last_line purpose text ss reads).0

-- ---- the text

without_last_line-joined : (front : List ℕ) → without_last_line (front ++ end_line) ≡ front
without_last_line-joined front = grind (arith, take_at, length-append)

regroup : (h a b c : List ℕ) → h ++ codes "plan" ++ (10 ∷ (a ++ (b ++ c))) ++ end_line
    ≡ h ++ (codes "plan" ++ 10 ∷ (a ++ (b ++ (c ++ end_line))))
regroup h a b c = simp append_assoc

joined-plan : (a : List (Word × Word)) (b c : List (Word × ℕ)) → joined (plan_texts a b c)
    ≡ codes "plan" ++ 10 ∷ (joined (map start_text a)
    ++ (joined (map price_text b) ++ (joined (map price_text c) ++ end_line)))
joined-plan a b c = grind (arith, joined-append, start_text, price_text, joined)

-- the plan behind the head is lines put together as well
pub text-with_plan : (text : List ℕ) (lines : List Line) (splits workers : List Word)
    (starts : List (Option ℕ))
    (prices : PriceList)
    → text ≡ joined (lines ++ codes "end" ∷ []) → IsWritable splits workers starts prices
    → with_plan text (lines_of_plan splits workers starts prices)
    ≡ joined (lines ++ plan_texts (start_pairs workers splits starts) (zip splits prices.splits)
    (zip workers prices.workers))
text-with_plan text lines splits workers starts prices whole plan =
    grind (
      arith,
      start_pairs,
      joined,
      joined-append,
      without_last_line-joined,
      start_lines-text,
      price_lines-text,
      regroup,
      start_text,
      price_text,
      joined-plan,
      plan_texts,
    )
