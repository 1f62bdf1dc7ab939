-- Lists of splits that differ in which of them are pending.
use Rattle.std.proofs.Common.{◌≡◌, ℕ, suc, ◌+◌, ◌-◌, ◌<◌, Bool, false, List, [], ◌∷◌, ◌≤◌, length, get_or, refl, sym}
use Rattle.std.proofs.Common.{ap, ◌∙◌, subst, get_or-set_same, get_or-set_other, inl, inr, arith}
use Rattle.std.proofs.lemmas.Bool.{cases_eq}
use Rattle.std.specs.Prelude.{◌≢◌, map, slice_set}
use Rattle.std.proofs.Math.Seq.{map-set_same}
use Rattle.std.proofs.lemmas.List.{length-map, length-set}
use Rattle.wave_problem.specs.Wave.{split_at, worker_at, Split, Wave}
use Rattle.wave_problem.specs.declared.lines.WorkerLine.{WorkerLine}
use Rattle.tree_planner.specs.Events.{slot_less, started, with_free, with_pending}
use Rattle.tree_planner.specs.Going.{bare, flagged, turned, HasSameGround}

-- a split that is none of the list's
abbrev pub no_split : Split
no_split = record { bytes = 0; pending = false; holders = [] }

-- it does not matter which were pending before
flagged_bare : (splits : List Split) (pending : List Bool) → flagged (map bare splits) pending ≡ flagged splits pending
flagged_bare [] pending = refl
flagged_bare (s ∷ ss) [] = refl
flagged_bare (s ∷ ss) (p ∷ ps) = ap (λ xs. record s { pending = p } ∷ xs) (flagged_bare ss ps)

pub flagged_same : (old new : List Split) (pending : List Bool) → map bare new ≡ map bare old
    → flagged new pending ≡ flagged old pending
flagged_same old new pending same =
    sym (flagged_bare new pending) ∙ ap (λ xs. flagged xs pending) same ∙ flagged_bare old pending

pub bare_flagged : (splits : List Split) (pending : List Bool) → length pending ≡ length splits
    → map bare (flagged splits pending) ≡ map bare splits
bare_flagged [] pending size = refl
bare_flagged (s ∷ ss) [] size = absurd (omega arith)
bare_flagged (s ∷ ss) (p ∷ ps) size = ap (λ xs. bare s ∷ xs) (bare_flagged ss ps (omega arith))

-- where just these are pending, nothing is to be done
pub flagged_already : (splits : List Split) (pending : List Bool) → length pending ≡ length splits
    → ((k : ℕ) → k < length splits → (get_or splits k no_split).pending ≡ get_or pending k false)
    → flagged splits pending ≡ splits
flagged_already [] pending size each = refl
flagged_already (s ∷ ss) [] size each = absurd (omega arith)
flagged_already (s ∷ ss) (p ∷ ps) size each =
    ap (λ b. record s { pending = b } ∷ flagged ss ps) (sym (each 0 (omega arith)))
    ∙ ap (λ xs. s ∷ xs) (flagged_already ss ps (omega arith) (λ k l. each (suc k) (omega arith)))

-- the flags that a list has
pub flagged_by_own : (splits : List Split) → flagged splits (map (λ split. split.pending) splits) ≡ splits
flagged_by_own [] = refl
flagged_by_own (s ∷ ss) = ap (λ xs. s ∷ xs) (flagged_by_own ss)

-- other flags, and then the first again
pub flagged_back : (splits : List Split) (pending : List Bool) → length pending ≡ length splits
    → flagged (flagged splits pending) (map (λ split. split.pending) splits) ≡ splits
flagged_back splits pending size =
    flagged_same splits (flagged splits pending) (map (λ split. split.pending) splits) (bare_flagged splits pending size)
    ∙ flagged_by_own splits

pub length-flagged : (splits : List Split) (pending : List Bool) → length pending ≡ length splits
    → length (flagged splits pending) ≡ length splits
length-flagged splits pending size =
    sym (length-map (flagged splits pending) bare) ∙ ap length (bare_flagged splits pending size)
    ∙ length-map splits bare

-- from waves with the same ground it goes to the same wave
pub turned_same : (old new : Wave) (lines : List WorkerLine) (pending : List Bool) → HasSameGround old new
    → turned new lines pending ≡ turned old lines pending
turned_same old new lines pending same =
    ap (λ tree. record new { tree = tree; workers = lines; splits = flagged new.splits pending }) same.tree
    ∙ ap (λ barred. record old { workers = lines; splits = flagged new.splits pending; barred = barred }) same.barred
    ∙ ap (λ splits. record old { workers = lines; splits = splits })
    (flagged_same old.splits new.splits pending same.splits)

pub same_ground : (wave : Wave) → HasSameGround wave wave
same_ground wave = record { tree = refl; workers = refl; splits = refl; barred = refl }

pub same_ground_then : (first now next : Wave) → HasSameGround first now → HasSameGround now next
    → HasSameGround first next
same_ground_then first now next one two = record {
  tree = two.tree ∙ one.tree;
  workers = two.workers ∙ one.workers;
  splits = two.splits ∙ one.splits;
  barred = two.barred ∙ one.barred;
}

pub splits_same : (old new : Wave) → HasSameGround old new → length new.splits ≡ length old.splits
splits_same old new same =
    sym (length-map new.splits bare) ∙ ap length same.splits ∙ length-map old.splits bare

-- a split that is pending, or is not any more
pub ground_with_pending : (wave : Wave) (s : ℕ) (pending : Bool) → HasSameGround wave (with_pending wave s pending)
ground_with_pending wave s pending = record {
  tree = refl;
  workers = refl;
  splits = map-set_same bare wave.splits s (record (split_at wave s) { pending = pending }) no_split refl;
  barred = refl;
}

-- the flag of one split was set
module _ (old new : Wave) (s : ℕ) (b : Bool) (is : new.splits ≡ (with_pending old s b).splits) where
  pub flag_here : s < length old.splits → (split_at new s).pending ≡ b
  flag_here known = ap (λ splits. (get_or splits s no_split).pending) is
      ∙ ap (λ (x : Split). x.pending)
      (get_or-set_same old.splits s (record (split_at old s) { pending = b }) no_split known)

  pub flag_other : (x : ℕ) → x ≢ s → split_at new x ≡ split_at old x
  flag_other x n = ap (λ splits. get_or splits x no_split) is
      ∙ get_or-set_other old.splits s x (record (split_at old s) { pending = b }) no_split n

-- a worker with another number of slots
pub ground_with_free : (wave : Wave) (w : ℕ) (free : ℕ) → HasSameGround wave (with_free wave w free)
ground_with_free wave w free = record {
  tree = refl;
  workers = length-set wave.workers w _;
  splits = refl;
  barred = refl;
}

-- the flags below s are put already, and all else is the same
pub record IsPut (first now : Wave) (s : ℕ) (pending : List Bool) : Type 0 where
  pub rest : now ≡ record first { splits = now.splits }
  pub same : map bare now.splits ≡ map bare first.splits
  pub done : (k : ℕ) → k < s → (split_at now k).pending ≡ get_or pending k false

pub none_put : (wave : Wave) (pending : List Bool) → IsPut wave wave 0 pending
none_put wave pending = record { rest = refl; same = refl; done = λ k l. absurd (omega arith) }

pub splits_put : (first now : Wave) (s : ℕ) (pending : List Bool) → IsPut first now s pending
    → length now.splits ≡ length first.splits
splits_put first now s pending put =
    sym (length-map now.splits bare) ∙ ap length put.same ∙ length-map first.splits bare

-- one more is put
module _ (first now next : Wave) (s : ℕ) (pending : List Bool) (b : Bool) (put : IsPut first now s pending)
    (known : s < length now.splits) (is : next ≡ with_pending now s b) (flag : b ≡ get_or pending s false) where
  abbrev line : Split
  line = record (split_at now s) { pending = b }

  splits_are : next.splits ≡ slice_set now.splits s line
  splits_are = ap (λ (x : Wave). x.splits) is

  done_with : (k : ℕ) → k < s + 1 → (get_or (slice_set now.splits s line) k no_split).pending ≡ get_or pending k false
  done_with k l = elim (cases_eq k s) [
    | inl e ↦ subst (λ (k : ℕ). (get_or (slice_set now.splits s line) k no_split).pending ≡ get_or pending k false)
        (sym e) (ap (λ (x : Split). x.pending) (get_or-set_same now.splits s line no_split known) ∙ flag)
    | inr n ↦ ap (λ (x : Split). x.pending) (get_or-set_other now.splits s k line no_split n)
        ∙ put.done k (let other = n in omega arith)
  ]

  pub one_put : IsPut first next (s + 1) pending
  one_put = record {
    rest = is ∙ ap (λ (x : Wave). record x { splits = slice_set now.splits s line }) put.rest
        ∙ ap (λ splits. record first { splits = splits }) (sym splits_are);
    same = ap (map bare) splits_are ∙ map-set_same bare now.splits s line no_split refl ∙ put.same;
    done = λ k l. ap (λ (x : Wave). (split_at x k).pending) is ∙ done_with k l;
  }

pub all_put : (first now : Wave) (s : ℕ) (pending : List Bool) → IsPut first now s pending → length first.splits ≤ s
    → length pending ≡ length first.splits
    → now ≡ record first { splits = flagged first.splits pending }
all_put first now s pending put all size =
    (let same = splits_put first now s pending put in
    put.rest ∙ ap (λ splits. record first { splits = splits })
    (sym (flagged_already now.splits pending (omega arith) (λ k l. put.done k (omega arith)))
    ∙ flagged_same first.splits now.splits pending put.same))

-- other lines and flags, and then the first again
pub turned_back : (wave : Wave) (lines lines_before : List WorkerLine) (pending pending_before : List Bool)
    → length pending ≡ length wave.splits → lines_before ≡ wave.workers
    → pending_before ≡ map (λ split. split.pending) wave.splits
    → turned (turned wave lines pending) lines_before pending_before ≡ wave
turned_back wave lines lines_before pending pending_before size lines_same flags_same =
    ap (λ workers. turned (turned wave lines pending) workers pending_before) lines_same
    ∙ ap (λ flags. turned (turned wave lines pending) wave.workers flags) flags_same
    ∙ ap (λ splits. record wave { splits = splits }) (flagged_back wave.splits pending size)

-- a split that has started on a worker
pub ground_started : (wave : Wave) (s w : ℕ) → HasSameGround wave (started wave s w)
ground_started wave s w =
    same_ground_then wave (slot_less wave w) (started wave s w)
    (ground_with_free wave w ((worker_at wave w).free - 1)) (ground_with_pending (slot_less wave w) s false)

-- the lines of all other workers are as before
pub lines_started : (wave : Wave) (s w x : ℕ) → x ≢ w → worker_at (started wave s w) x ≡ worker_at wave x
lines_started wave s w x other =
    get_or-set_other wave.workers w x (record { live = (worker_at wave w).live; free = (worker_at wave w).free - 1 })
    (record { live = false; free = 0 }) other
