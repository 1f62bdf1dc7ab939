-- Lists that are mapped twice, and the parts that the rows of a text without a fault make.
use Rattle.std.proofs.Common.{ℕ, List, [], ◌≡◌, ◌≢◌, ◌<◌, ◌≤◌, ◌∙◌, Option, Some, None}
use Rattle.std.proofs.Common.{ap, IfSome, length, map, subst, sym, refl, arith}
use Rattle.std.specs.List.{All, Contains, position, slice_index_or}
use Rattle.std.specs.Option.{option_map}
use Rattle.std.specs.Str.{bytes_eq}
use Rattle.std.proofs.lemmas.List.{get_or-map, length-map}
use Rattle.std.proofs.lemmas.List.Elements.{All-map}
use Rattle.std.proofs.lemmas.List.Quantifiers.{position-Some}
use Rattle.line_shapes.specs.Lines.{Statement, tail_words}
use Rattle.line_shapes.specs.declared.keyword.Keyword.TheVariants.{Centre, Dead, Busy, Rack, Split}
use Rattle.line_shapes.specs.declared.keyword.Keyword.TheVariants.{Start, Worker}
use Rattle.line_shapes.proofs.Mapped.{AllPairs-map}
use Rattle.line_rules.specs.Known.{rows_of}
use Rattle.text_lines.specs.Texts.{Word}
use Rattle.rack_tree.proofs.Distances.{within_reach}
use Rattle.rack_tree.specs.Tree.{Tree}
use Rattle.rack_tree.specs.View.{IsWithinLimits}
use Rattle.wave_problem.proofs.Made.{moved_held, moved_small, within}
use Rattle.wave_problem.specs.Wave.{AreHeldWell, AreSmall, IsHeldWell, IsSmall, wave_from}
use Rattle.wave_problem.specs.Wave.{IsWithinLimits as IsWaveWithin}
use Rattle.wave_problem.specs.Wave as wave
use Rattle.wave_problem.specs.declared.lines.WorkerLine.{WorkerLine}
use Rattle.plan_text.specs.Names.{names_in, names_of, nth_word}
use Rattle.plan_text.specs.Tidy.{AreTidy, IsTidySplit, IsTidyStart}
use Rattle.plan_text.specs.Value.{number_in, declared_split, start_at, declared_starts}
use Rattle.plan_text.specs.Value.{declared_tree, declared_worker, rack_number}
use Rattle.plan_text.proofs.Numbers.{number_within, numbers_differ}
use Rattle.plan_text.proofs.Words.{tidy_splits, tidy_starts, tidy_workers}

pub All-unmap : {X Y : Type 0} (P : X → Type 0) (f : Y → X) (ys : List Y) → All P (map f ys)
    → All (λ y. P (f y)) ys
All-unmap P f ys h k d lt = subst P (get_or-map f ys k d (f d) lt) (h k (f d) (rw length-map lt))

small_split : (workers busy : List Word) (s : Statement) → IsTidySplit workers s
    → IsSmall (declared_split workers busy s)
small_split workers busy s tidy = grind (arith, length-map)

held_split : (n : ℕ) (workers busy : List Word) (s : Statement) → n ≡ length workers → IsTidySplit workers s
    → IsHeldWell n (declared_split workers busy s)
held_split n workers busy s size tidy = record {
  known = All-map (λ h. h < n) (number_in workers) (tail_words s)
      (λ i d lt. rw size (number_within workers _ (tidy.holders i d lt)));
  once = AllPairs-map (λ (a b : ℕ). a ≢ b) (number_in workers) (tail_words s)
      (λ i j d lt inside. numbers_differ workers _ _ (tidy.holders i d (omega arith))
      (tidy.holders j d inside)
      (tidy.holders_differ i j d lt inside));
}

module _ (rows : List Statement) (tidy : AreTidy rows) where
  pub all_small : AreSmall (map (declared_worker (names_of Dead rows)) (rows_of Worker rows))
      (map (declared_split (names_of Worker rows) (names_of Busy rows)) (rows_of Split rows))
  all_small =
      let split = declared_split (names_of Worker rows) (names_of Busy rows) in
      let few : length (rows_of Split rows) ≤ 131072 = tidy.few_splits in
      record {
        few_splits = omega (arith, length-map (rows_of Split rows) split, few);
        slots = All-map (λ worker. worker.free ≤ 255) (declared_worker (names_of Dead rows))
            (rows_of Worker rows)
            (λ i d lt. (tidy_workers rows tidy i d lt).slots.most);
        each_small = All-map IsSmall split (rows_of Split rows)
            (λ i d lt. small_split (names_of Worker rows) (names_of Busy rows) _
            (tidy_splits rows tidy i d lt));
      }

  pub all_held : AreHeldWell (length (map (declared_worker (names_of Dead rows)) (rows_of Worker rows)))
      (map (declared_split (names_of Worker rows) (names_of Busy rows)) (rows_of Split rows))
  all_held =
      let workers = names_of Worker rows in
      let n = length (map (declared_worker (names_of Dead rows)) (rows_of Worker rows)) in
      let size : n ≡ length workers =
      length-map (rows_of Worker rows) (declared_worker (names_of Dead rows))
      ∙ sym (length-map (rows_of Worker rows) (nth_word 0)) in
      All-map (IsHeldWell n) (declared_split workers (names_of Busy rows)) (rows_of Split rows)
      (λ i d lt. held_split n workers (names_of Busy rows) _ size (tidy_splits rows tidy i d lt))

  -- the wave of these parts
  pub all_within : (tree : Tree) (workers : List WorkerLine) (splits : List wave.Split) (barred : List (List ℕ))
      → IsWithinLimits tree
      → tree ≡ declared_tree (names_of Centre rows) (rows_of Rack rows) (rows_of Worker rows)
      → workers ≡ map (declared_worker (names_of Dead rows)) (rows_of Worker rows)
      → splits ≡ map (declared_split (names_of Worker rows) (names_of Busy rows)) (rows_of Split rows)
      → IsWaveWithin (wave_from tree workers splits barred)
  all_within tree workers splits barred limits is_tree is_workers is_splits =
      within tree workers splits splits barred (within_reach tree limits.centres_known)
      (ap length is_workers ∙ length-map (rows_of Worker rows) (declared_worker (names_of Dead rows))
      ∙ sym (length-map (rows_of Worker rows) (rack_number (names_of Rack rows)))
      ∙ ap (λ (t : Tree). length t.rack_of) (sym is_tree))
      limits.workers refl (moved_small _ _ _ _ (sym is_workers) (sym is_splits) all_small)
      (moved_held _ _ _ _ (ap length (sym is_workers)) (sym is_splits) all_held)

-- ---- starts

-- the place of a start's name is that of a line
pub start_inside : (lines : List Statement) (name : Word) (place : ℕ)
    → position (λ n. bytes_eq name n) (names_in lines) ≡ Some place → place < length lines
start_inside lines name place is = grind (arith, position-Some, length-map)

abbrev started : List Word → List Statement → Option ℕ → Option ℕ
started workers lines place =
    option_map (number_in workers) (option_map (λ i. slice_index_or (map (nth_word 1) lines) i []) place)

start_within : (workers : List Word) (lines : List Statement) → All (IsTidyStart workers) lines →
    (name : Word)
    → IfSome (start_at workers lines name) (λ w. w < length workers)
start_within workers lines tidy name = by (position (λ n. bytes_eq name n) (names_in lines)) refl
  where
    by : (place : Option ℕ) → position (λ n. bytes_eq name n) (names_in lines) ≡ place
        → IfSome (started workers lines place) (λ w. w < length workers)
    by None is = tt
    by (Some i) is =
        let d : Statement = record { keyword = Start; words = [] } in
        let inside = start_inside lines name i is in
        number_within workers (slice_index_or (map (nth_word 1) lines) i [])
        (subst (λ w. Contains workers w) (sym (get_or-map (nth_word 1) lines i d [] inside))
        (tidy i d inside))

pub starts_within : (rows : List Statement) → AreTidy rows
    → All (λ start. IfSome start (λ w. w < length (names_of Worker rows))) (declared_starts rows)
starts_within rows tidy = search (arith, All-map, start_within, tidy_starts)
