-- A plan that was written, put together with the head that it was made from, reads back as itself.
use Rattle.std.proofs.Common.{zip, ℕ, List, [], ◌∷◌, ◌++◌, ◌≡◌, ◌≤◌, ◌∙◌, Option, length, map, take, refl}
use Rattle.std.proofs.Common.{sym, ap, subst}
use Rattle.wave_problem.specs.Wave.{Wave}
use Rattle.price_certificate.specs.PriceList.{PriceList}
use Rattle.text_lines.specs.Streams.{longest}
use Rattle.text_lines.specs.Texts.{Word, lines_of}
use Rattle.line_shapes.specs.Lines.{Statement}
use Rattle.line_shapes.specs.declared.keyword.Keyword.TheVariants.{Worker, Split, Plan, End}
use Rattle.line_rules.specs.Known.{Known, known_at, section_at}
use Rattle.line_rules.specs.Reading.{AreFitLines}
use Rattle.line_rules.specs.Sections.{section_after}
use Rattle.line_rules.specs.declared.purpose.Purpose.TheVariants.{Checking, Planning}
use Rattle.line_rules.specs.declared.section.Section.{Section}
use Rattle.line_rules.specs.declared.section.Section.TheVariants.{First, Head, Body, Ended}
use Rattle.line_rules.proofs.FitLines.{known_after, names_after, sound_after}
use Rattle.std.proofs.lemmas.List.Elements.{All-nil}
use Rattle.line_rules.specs.Entered.{AreSound}
use Rattle.plan_text.specs.Names.{names_in, names_of, rows_in}
use Rattle.plan_text.specs.Report.{lines_of_plan}
use Rattle.plan_text.specs.Tidy.{AreTidy}
use Rattle.plan_text.specs.Value.{MakesWave, declared_places, declared_starts, prices_in}
use Rattle.plan_text.proofs.Tidy.{tidy-rows}
use Rattle.written_plan.specs.Joined.{IsWritable, ReadsBack, WrittenPlanReadsBack, with_plan}
use Rattle.written_plan.proofs.Declared.{head_names, head_spelled, places-back, prices-read_back, same_wave}
use Rattle.written_plan.proofs.Declared.{starts-back}
use Rattle.written_plan.proofs.Entered.{HasNames}
use Rattle.written_plan.proofs.FitText.{fit-append, reads_fit}
use Rattle.written_plan.proofs.Heads.{AreApart, IsBare, IsHeadAndEnd, apart-none, bare-none, fit-printable}
use Rattle.written_plan.proofs.Heads.{head_and_end}
use Rattle.written_plan.proofs.Joins.{all_lines, last_line, text-with_plan}
use Rattle.written_plan.proofs.Lines.{joined, lines_of-joined, text-joined}
use Rattle.written_plan.proofs.Pairs.{price_said, start_pairs, start_said}
use Rattle.written_plan.proofs.PlanPart.{AreNames, AreSpelled, fit-plan_part, not_entered, plan_rows}
use Rattle.written_plan.proofs.PlanPart.{plan_said, plan_texts, rows-end, rows-plan}
use Rattle.written_plan.proofs.Words.{said}

-- a plan for these names, put after the head of the text
abbrev joined_by : List ℕ → List Statement → List (Option ℕ) → PriceList → List ℕ
joined_by text rows starts prices =
    with_plan text (lines_of_plan (names_of Split rows) (names_of Worker rows) starts prices)

section-append : (section : Section) (ss ts : List Statement)
    → section_at section (ss ++ ts) ≡ section_at (section_at section ss) ts
section-append section [] ts = refl
section-append section (s ∷ ss) ts = section-append (section_after s.keyword) ss ts

-- the last line ends the whole
section-ended : (head : List Statement) (a : List (Word × Word)) (b c : List (Word × ℕ))
    → section_at First (head ++ plan_said a b c) ≡ Ended
section-ended head a b c =
    let last = said End [] ∷ [] in
    let starts = map start_said a in
    let ps = map price_said b in
    let qs = map price_said c in
    section-append First head (plan_said a b c)
    ∙ section-append Body starts (ps ++ (qs ++ last))
    ∙ section-append (section_at Body starts) ps (qs ++ last)
    ∙ section-append (section_at (section_at Body starts) ps) qs last

-- with the names that the head leaves
joined-reads_back : (text : List ℕ) (ss : List Statement) (wave : Wave) (places : List (List ℕ))
    (starts : List (Option ℕ)) (prices : PriceList)
    → lines_of text ≡ take (length ss) (lines_of text) ++ [] ∷ []
    → (h : IsHeadAndEnd (known_at Planning []) (take (length ss) (lines_of text)) ss)
    → MakesWave (rows_in h.head) wave → places ≡ declared_places (rows_in h.head)
    → IsWritable (names_of Split (rows_in h.head)) (names_of Worker (rows_in h.head)) starts prices
    → length (joined_by text (rows_in h.head) starts prices)
    ≤ longest (joined_by text (rows_in h.head) starts prices)
    → ReadsBack (joined_by text (rows_in h.head) starts prices) wave places starts prices
joined-reads_back text ss wave places starts prices lines h makes priced plan short =
    let rows = rows_in h.head in
    let splits = names_of Split rows in
    let workers = names_of Worker rows in
    let a = start_pairs workers splits starts in
    let b = zip splits prices.splits in
    let c = zip workers prices.workers in
    let all = h.head ++ plan_said a b c in
    let written = h.lines ++ plan_texts a b c in
    let new_text = joined_by text rows starts prices in
    let first = known_at Checking [] in
    let after : names_after (known_at Planning []) h.head ≡ known_at Planning h.head =
    known_after Planning h.head in
    let tidy : AreTidy rows = tidy-rows Checking h.lines h.head h.fit in
    let bare : IsBare rows = subst (λ (k : Known). IsBare k.rows) after h.bare in
    let names : AreNames splits workers =
    head_names rows tidy (subst (λ (k : Known). AreApart k.rows) after h.apart) in
    let j : Known = known_at Checking h.head in
    let sound : AreSound j.version rows =
    subst (λ (k : Known). AreSound k.version k.rows) (known_after Checking h.head)
    (sound_after first h.lines h.head h.fit (record { sound = All-nil _; none = λ _. refl })).sound in
    let spelled : AreSpelled j.version splits workers = head_spelled j.version rows tidy sound in
    let named : HasNames rows splits workers [] [] = record {
      splits_are = refl;
      workers_are = refl;
      started_are = ap names_in bare.no_starts;
      priced_are = ap names_in bare.no_prices;
    } in
    let in_head : (known_at Checking h.head).section ≡ Head =
    ap (λ (k : Known). k.section) (sym after) ∙ h.in_head in
    let joins : new_text ≡ joined written =
    text-with_plan text h.lines splits workers starts prices
    (text-joined text (take (length ss) (lines_of text)) lines ∙ ap joined h.whole_lines) plan in
    let fit : AreFitLines first written all =
    fit-append first h.lines (plan_texts a b c) h.head (plan_said a b c) h.fit
    (subst (λ (k : Known). AreFitLines k (plan_texts a b c) (plan_said a b c))
    (sym (known_after Checking h.head))
    (fit-plan_part splits workers names j spelled starts prices refl in_head
    (not_entered Plan refl [] h.head) named plan)) in
    let new_lines : lines_of new_text ≡ written ++ [] ∷ [] =
    ap lines_of joins ∙ lines_of-joined written (fit-printable first written all fit) in
    let whole : rows_in all ≡ rows ++ plan_rows a b c = rows-plan h.head a b c in
    let ended : (names_after first all).section ≡ Ended =
    ap (λ (k : Known). k.section) (known_after Checking all) ∙ section-ended h.head a b c in
    record {
      statements = all;
      reads = reads_fit Checking new_text written all short new_lines fit ended;
      declared = subst (λ (r : List Statement). MakesWave r wave) (sym whole)
          (same_wave rows a b c wave makes);
      same_places = ap declared_places whole ∙ places-back rows a b c ∙ sym priced;
      same_starts =
          ap declared_starts whole ∙ starts-back rows starts b c bare names plan.split_starts plan.of_workers;
      same_prices = ap prices_in whole ∙ prices-read_back rows a prices bare names plan.split_prices
          plan.worker_prices plan.split_amounts plan.worker_amounts;
    }

pub written_plan_reads_back : WrittenPlanReadsBack
written_plan_reads_back text v starts prices problem fit plan short =
    let ss = problem.statements in
    let first = known_at Planning [] in
    let ended : (names_after first ss).section ≡ Ended =
    ap (λ (k : Known). k.section) (known_after Planning ss) ∙ (last_line Planning text ss problem.reads).1 in
    let h : IsHeadAndEnd first (take (length ss) (lines_of text)) ss =
    head_and_end first (take (length ss) (lines_of text)) ss refl bare-none apart-none
    (λ e. let both : First ≡ Ended = e in cc) (fit ss problem.reads) ended in
    let rows = rows_in h.head in
    let same : rows_in ss ≡ rows = ap rows_in h.whole ∙ rows-end h.head in
    let splits : names_of Split rows ≡ v.splits = sym (problem.declares.splits ∙ ap (names_of Split) same) in
    let workers : names_of Worker rows ≡ v.workers =
    sym (problem.declares.workers ∙ ap (names_of Worker) same) in
    let Holds : List Word → List Word → Type 0 =
    λ xs ws. IsWritable xs ws starts prices
    → length (with_plan text (lines_of_plan xs ws starts prices))
    ≤ longest (with_plan text (lines_of_plan xs ws starts prices))
    → ReadsBack (with_plan text (lines_of_plan xs ws starts prices)) v.problem v.places starts prices in
    let here : Holds (names_of Split rows) (names_of Worker rows) =
    joined-reads_back text ss v.problem v.places starts prices (all_lines Planning text ss problem.reads) h
    (subst (λ (r : List Statement). MakesWave r v.problem) same problem.declares.wave)
    (problem.declares.places ∙ ap declared_places same) in
    subst (λ (xs : List Word). Holds xs v.workers) splits
    (subst (λ (ws : List Word). Holds (names_of Split rows) ws) workers here) plan short
