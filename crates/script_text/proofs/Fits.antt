-- The head that tidy rows make has all that is asked of a cluster.
use Rattle.std.proofs.Common.{ℕ, List, [], ◌∷◌, ◌≡◌, ◌≤◌, ◌+◌, ◌∙◌, Bool, true, false, ap, arith, length}
use Rattle.std.proofs.Common.{map, refl}
use Rattle.std.proofs.Common.{subst, sym}
use Rattle.std.specs.List.{All, enumerate_from, filter, range_with_len, sum_by}
use Rattle.std.specs.Str.{bytes_eq}
use Rattle.std.proofs.lemmas.Bool.{false≢true}
use Rattle.std.proofs.lemmas.List.{length-map}
use Rattle.std.proofs.lemmas.List.Elements.{All-map}
use Rattle.std.proofs.lemmas.List.FromFn.{length-enumerate_from}
use Rattle.std.proofs.lemmas.List.Sums.{sum_by-cons}
use Rattle.std.proofs.lemmas.Map.Made.{IsDistinct-from_AllPairs}
use Rattle.std.proofs.lemmas.Slice.Eq.{bytes_eq-Decides}
use Rattle.text_lines.specs.Texts.{Word}
use Rattle.line_shapes.specs.Lines.{Statement}
use Rattle.line_shapes.specs.declared.keyword.Keyword.TheVariants.{Busy, Dead, Doc, Parts, Rack, Silence}
use Rattle.line_shapes.specs.declared.keyword.Keyword.TheVariants.{Split, Worker}
use Rattle.line_rules.specs.declared.edition.Version.{Version}
use Rattle.line_rules.specs.Known.{rows_of}
use Rattle.rack_tree.specs.Tree.{Tree}
use Rattle.wave_problem.specs.Wave.{AreHeldWell, IsSmall}
use Rattle.wave_problem.specs.Wave as wave
use Rattle.word_map.specs.Texts.{SplitDocuments}
use Rattle.word_map.specs.declared.text.Document.{Document}
use Rattle.shuffle_reduce.specs.Gather.{values_of}
use Rattle.plan_text.specs.Names.{names_of, nth_word}
use Rattle.plan_text.specs.Tidy.{AreTidy}
use Rattle.plan_text.specs.Value.{rack_number, declared_split, declared_worker}
use Rattle.plan_text.proofs.Named.{names_differ}
use Rattle.plan_text.proofs.Parts.{all_held, all_small}
use Rattle.plan_text.proofs.Words.{tidy_workers}
use Rattle.script_text.specs.Documents.{document_of, documents_of, is_in, text_of_split}
use Rattle.script_text.specs.Heads.{FitMaster, IsFitHead, MakesHead, slots_told}
use Rattle.script_text.specs.declared.heads.Head.{Head}
use Rattle.script_text.proofs.Counting.{counted_once}
use Rattle.script_text.proofs.Lines.{parts_within, silence_within, told_within}

texts_in_order : (n : ℕ) (lists : List (List Document))
    → map (λ (text : SplitDocuments). text.split) (map text_of_split (enumerate_from n lists))
    ≡ range_with_len n (length lists)
texts_in_order n [] = refl
texts_in_order n (l ∷ ls) = ap (λ ns. n ∷ ns) (texts_in_order (n + 1) ls)

abbrev count : SplitDocuments → ℕ
count text = length text.documents

-- how many of the lines name the split
abbrev lines_in : List Statement → Word → ℕ
lines_in lines name = length (filter (is_in name) (enumerate_from 0 lines))

documents_together : (lines : List Statement) (n : ℕ) (names : List Word)
    → sum_by count (map text_of_split (enumerate_from n (map (documents_of lines) names)))
    ≡ sum_by (lines_in lines) names
documents_together lines n [] = refl
documents_together lines n (name ∷ names) =
    let more = documents_together lines (n + 1) names in
    let rest = map text_of_split (enumerate_from (n + 1) (map (documents_of lines) names)) in
    let here = sum_by-cons count (text_of_split (n, documents_of lines name)) rest in
    let one = length-map (filter (is_in name) (enumerate_from 0 lines)) document_of in
    omega (arith, here, one, more, sum_by-cons (lines_in lines) name names)

-- a line names one split
other_name : (a b told : Word) (c : Bool) → bytes_eq b told ≡ c → bytes_eq a b ≡ false
    → bytes_eq a told ≡ true → c ≡ false
other_name a b told true is other own =
    absurd (false≢true (sym other
    ∙ (bytes_eq-Decides a b).1 ((bytes_eq-Decides a told).0 own ∙ sym ((bytes_eq-Decides b told).0 is))))
other_name a b told false is other own = refl

one_split : (a b : Word) (line : ℕ × Statement) → bytes_eq a b ≡ false → is_in a line ≡ true
    → is_in b line ≡ false
one_split a b line other own = other_name a b (nth_word 1 line.1) _ refl other own

module _ (version : Version) (rows : List Statement) (tidy : AreTidy rows) (head : Head)
    (makes : MakesHead version rows head) where
  abbrev line : Statement → wave.Split
  line = declared_split (names_of Worker rows) (names_of Busy rows)

  slots_size : length head.slots.items ≡ length (rows_of Worker rows)
  slots_size = ap length makes.slots ∙ length-map (rows_of Worker rows) slots_told

  splits_size : length head.splits.items ≡ length (rows_of Split rows)
  splits_size = ap length makes.splits ∙ length-map (rows_of Split rows) line

  workers_size : length head.tree.rack_of ≡ length (rows_of Worker rows)
  workers_size =
      ap (λ (t : Tree). length t.rack_of) makes.tree
      ∙ length-map (rows_of Worker rows) (rack_number (names_of Rack rows))

  in_order : map (λ text. text.split) (values_of head.texts.items)
      ≡ range_with_len 0 (length head.splits.items)
  in_order =
      let lists = map (documents_of (rows_of Doc rows)) (names_of Split rows) in
      ap (map (λ (text : SplitDocuments). text.split)) makes.texts ∙ texts_in_order 0 lists
      ∙ ap (range_with_len 0) (length-map (names_of Split rows) (documents_of (rows_of Doc rows))
      ∙ length-map (rows_of Split rows) (nth_word 0) ∙ sym splits_size)

  few_documents : sum_by count (values_of head.texts.items) ≤ 1048576
  few_documents =
      let names = names_of Split rows in
      let lines = rows_of Doc rows in
      let apart = IsDistinct-from_AllPairs bytes_eq-Decides names
      (names_differ Split refl rows tidy.differ) in
      let once = counted_once bytes_eq is_in one_split names apart (enumerate_from 0 lines) in
      let all = ap (sum_by count) makes.texts ∙ documents_together lines 0 names in
      omega (arith, all, once, length-enumerate_from 0 lines, tidy.few_documents)

  small : All IsSmall head.splits.items
  small = subst (All IsSmall) (sym makes.splits) (all_small rows tidy).each_small

  held : AreHeldWell (length head.slots.items) head.splits.items
  held =
      let size = length-map (rows_of Worker rows) (declared_worker (names_of Dead rows)) ∙ sym slots_size in
      subst (AreHeldWell (length head.slots.items)) (sym makes.splits)
      (subst (λ n. AreHeldWell n (map line (rows_of Split rows))) size (all_held rows tidy))

  parts : (1 ≤ head.parts) × (head.parts ≤ 64)
  parts =
      subst (λ n. (1 ≤ n) × (n ≤ 64)) (sym makes.parts)
      (told_within 1 64 1 (rows_of Parts rows) (parts_within rows tidy) (omega arith) (omega arith))

  silence : (1 ≤ head.silence) × (head.silence ≤ 1000)
  silence =
      subst (λ n. (1 ≤ n) × (n ≤ 1000)) (sym makes.silence)
      (told_within 1 1000 3 (rows_of Silence rows) (silence_within rows tidy) (omega arith) (omega arith))

  pub fit_head : FitMaster rows → IsFitHead head
  fit_head few = record {
    workers = workers_size ∙ sym slots_size;
    texts = in_order;
    few_workers = omega (arith, slots_size, few.few_workers);
    few_slots = subst (All (λ n. n ≤ 255)) (sym makes.slots)
        (All-map (λ n. n ≤ 255) slots_told (rows_of Worker rows)
        (λ i d lt. (tidy_workers rows tidy i d lt).slots.most));
    few_splits = omega (arith, splits_size, few.few_splits);
    small_splits = small;
    held_well = held;
    few_documents = few_documents;
    some_parts = parts.0;
    few_parts = parts.1;
    some_silence = silence.0;
  }
