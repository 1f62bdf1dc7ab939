-- What the tests of a new problem show.
use Rattle.std.proofs.Common.{ℕ, List, ◌≡◌, ◌+◌, ◌<◌, ◌≤◌, length, subst, sym, arith, inl, inr}
use Rattle.std.specs.List.{slice_index_or}
use Rattle.std.proofs.lemmas.Bool.{cases_lt}
use Rattle.std.proofs.lemmas.List.{get_or_default}
use Rattle.rack_tree.specs.Tree.{Tree, IsWithinReach}
use Rattle.rack_tree.specs.declared.TheConstants.{MAX_WORKERS}
use Rattle.wave_problem.specs.declared.lines.WorkerLine.{WorkerLine}
use Rattle.wave_problem.specs.Wave.{AreHeldWell, AreSmall, IsHeldWell, IsWithinLimits, Split, wave_from}

at_place : (w : ℕ) (xs : List Split) (i k : ℕ) (x d : Split) → k ≡ i → i < length xs →
    x ≡ slice_index_or xs i x → IsHeldWell w x
    → IsHeldWell w (slice_index_or xs k d)
at_place w xs i k x d same lt is held = grind (arith, get_or_default)

pub held_more : (w : ℕ) (xs : List Split) (i : ℕ) (x : Split) → i < length xs → x ≡ slice_index_or xs i x →
    IsHeldWell w x
    → ((k : ℕ) (d : Split) → k < i → IsHeldWell w (slice_index_or xs k d))
    → (k : ℕ) (d : Split) → k < i + 1 → IsHeldWell w (slice_index_or xs k d)
held_more w xs i x lt is held before k d below = elim (cases_lt k i) [
  | inl less ↦ before k d less
  | inr past ↦ at_place w xs i k x d (omega arith) lt is held
]

pub held_one : (w : ℕ) (xs : List Split) (i : ℕ) (x : Split) → i < length xs → x ≡ slice_index_or xs i x →
    AreHeldWell w xs → IsHeldWell w x
held_one w xs i x lt is held = subst (IsHeldWell w) (sym is) (held i x lt)

pub moved_small : (ws vs : List WorkerLine) (ss ts : List Split) → ws ≡ vs → ss ≡ ts → AreSmall ws ss →
    AreSmall vs ts
moved_small ws vs ss ts e f h = subst (λ v. AreSmall v ts) e (subst (AreSmall ws) f h)

pub moved_held : (n m : ℕ) (ss ts : List Split) → n ≡ m → ss ≡ ts → AreHeldWell n ss → AreHeldWell m ts
moved_held n m ss ts e f h = subst (λ v. AreHeldWell v ts) e (subst (AreHeldWell n) f h)

pub within : (tree : Tree) (workers : List WorkerLine) (splits entries : List Split)
    (barred : List (List ℕ)) → IsWithinReach tree → length workers ≡ length tree.rack_of
    → length tree.rack_of ≤ MAX_WORKERS → entries ≡ splits → AreSmall workers splits
    → AreHeldWell (length workers) splits → IsWithinLimits (wave_from tree workers entries barred)
within tree workers splits entries barred near one few same small held = rw same (record {
  near = near;
  few_splits = small.few_splits;
  few_workers = omega arith;
  one_line_each = one;
  slots = small.slots;
  bytes = λ i d lt. (small.each_small i d lt).bytes;
  holders = λ i d lt. (small.each_small i d lt).holders;
  known = λ i d lt. (held i d lt).known;
  distinct = λ i d lt. (held i d lt).once;
})
