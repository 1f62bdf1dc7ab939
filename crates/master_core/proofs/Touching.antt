-- Which splits an engine that is near may have other flags of.
use Rattle.std.proofs.Common.{◌≡◌, ℕ, suc, ◌+◌, ◌<◌, ◌≤◌, ◌⊎◌, inl, inr, List, [], ◌∷◌, All, length, refl, sym, ap}
use Rattle.std.proofs.Common.{◌∙◌, subst, arith}
use Rattle.std.specs.Prelude.{◌≢◌, Bool, false, fold, map, slice_index_or}
use Rattle.std.proofs.lemmas.Bool.{cases_eq}
use Prim.Native.Nat.{zero}
use Rattle.std.specs.List.{Contains}
use Rattle.std.proofs.lemmas.List.{get_or_default}
use Rattle.wave_problem.specs.Wave.{split_at, Split, Wave}
use Rattle.tree_planner.specs.Going.{flagged, HasSameGround}
use Rattle.tree_planner.proofs.Flagged.{flagged_already, no_split, same_ground, same_ground_then, splits_same}
use Rattle.node_ids.specs.Updates.{updated}
use Rattle.master_state.specs.declared.states.SplitState.{SplitState}
use Rattle.master_state.specs.States.{State}
use Rattle.master_state.specs.Tests.{is_pending}
use Rattle.master_state.specs.Changes.{died, split_started}
use Rattle.master_state.specs.Jobs.{Job}
use Rattle.master_state.specs.Steps.{problem_of}
use Rattle.master_state.proofs.Sweeping.{heard_state}
use Rattle.master_tables.specs.declared.entries.SplitEntry.{SplitEntry}
use Rattle.master_tables.specs.Entries.{shown_as}
use Rattle.master_core.specs.declared.kept.Kept.{Kept}
use Rattle.master_core.specs.declared.kept.Kept.TheVariants.{None, Near, Far}
use Rattle.master_core.specs.declared.touched.Touched.{Touched}
use Rattle.master_tables.specs.Lines.{split_lines}
use Rattle.master_core.specs.declared.master.Master.TheInside.{Inside}
use Rattle.master_core.specs.Inside.{job_of, setup_of, state_of}
use Rattle.master_core.specs.Near.{HasFlags, IsFlagged, IsTouched, StaysTouched}

-- whether a split is pending in these states
abbrev flag_in : List SplitState → ℕ → Bool
flag_in states s = slice_index_or (map is_pending states) s false

pub stays_then : (first now next : Touched) → StaysTouched first now → StaysTouched now next →
    StaysTouched first next
stays_then first now next one two = record {
  splits = λ s was. two.splits s (one.splits s was);
  workers = λ w was. two.workers w (one.workers w was);
}

-- where each split is touched or keeps its flag
flagged_still : (kept : Kept) (old new : Touched) (before after : List SplitState) → StaysTouched old new →
    ((s : ℕ) → IsTouched new s ⊎ (flag_in after s ≡ flag_in before s)) →
    IsFlagged kept old before → IsFlagged kept new after
flagged_still None old new before after stays same flagged = tt
flagged_still (Near engine) old new before after stays same flagged = λ s l. elim (flagged s l) [
  | inl was ↦ inl (stays.splits s was)
  | inr is ↦ elim (same s) [
    | inl touched ↦ inl touched
    | inr kept ↦ inr (is ∙ sym kept)
  ]
]
flagged_still (Far engine) old new before after stays same flagged = tt

-- and so where no split changes
pub flagged_then : (kept : Kept) (old new : Touched) (states : List SplitState) → StaysTouched old new →
    IsFlagged kept old states → IsFlagged kept new states
flagged_then kept old new states stays flagged =
    flagged_still kept old new states states stays (λ s. inr refl) flagged

-- the other entries show what they showed
shown_other : (change : SplitEntry → SplitEntry) (entries : List SplitEntry) (n k : ℕ) → k ≢ n →
    flag_in (map shown_as (updated change entries n)) k ≡ flag_in (map shown_as entries) k
shown_other change [] n k other = refl
shown_other change (e ∷ entries) zero zero other = absurd (other refl)
shown_other change (e ∷ entries) zero (suc k) other = refl
shown_other change (e ∷ entries) (suc n) zero other = refl
shown_other change (e ∷ entries) (suc n) (suc k) other = shown_other change entries n k (λ is. other (ap suc is))

-- a split whose entry changes is touched
pub flagged_updated : (kept : Kept) (old new : Touched) (change : SplitEntry → SplitEntry)
    (entries : List SplitEntry) (n : ℕ) → IsTouched new n → StaysTouched old new →
    IsFlagged kept old (map shown_as entries) → IsFlagged kept new (map shown_as (updated change entries n))
flagged_updated kept old new change entries n here stays flagged =
    flagged_still kept old new (map shown_as entries) (map shown_as (updated change entries n)) stays
    (λ s. elim (cases_eq s n) [
      | inl is ↦ inl (subst (λ (s : ℕ). IsTouched new s) (sym is) here)
      | inr other ↦ inr (shown_other change entries n s other)
    ])
    flagged

state_other : (change : SplitState → SplitState) (states : List SplitState) (n k : ℕ) → k ≢ n →
    flag_in (updated change states n) k ≡ flag_in states k
state_other change [] n k other = refl
state_other change (s ∷ states) zero zero other = absurd (other refl)
state_other change (s ∷ states) zero (suc k) other = refl
state_other change (s ∷ states) (suc n) zero other = refl
state_other change (s ∷ states) (suc n) (suc k) other = state_other change states n k (λ is. other (ap suc is))

-- the splits of these pairs have started
abbrev started_all : State → List (ℕ × ℕ) → State
started_all s pairs = fold (λ now pair. split_started now pair.0 pair.1) s pairs

starts_touched : (touched : Touched) (s : State) (pairs : List (ℕ × ℕ)) (k : ℕ) →
    All (λ pair. IsTouched touched pair.0) pairs →
    IsTouched touched k ⊎ (flag_in (started_all s pairs).splits k ≡ flag_in s.splits k)
starts_touched touched s [] k all = inr refl
starts_touched touched s (pair ∷ pairs) k all =
    elim (cases_eq k pair.0) [
      | inl is ↦ inl (subst (λ (s : ℕ). IsTouched touched s) (sym is) (all 0 pair (omega arith)))
      | inr other ↦ elim (starts_touched touched (split_started s pair.0 pair.1) pairs k
          (λ i d l. all (suc i) d (omega arith))) [
            | inl here ↦ inl here
            | inr kept ↦ inr (kept ∙ state_other _ s.splits pair.0 k other)
          ]
    ]

-- where each split that starts is touched
pub flagged_started : (kept : Kept) (old new : Touched) (s : State) {next : State} (pairs : List (ℕ × ℕ)) →
    started_all s pairs ≡ next → All (λ pair. IsTouched new pair.0) pairs → StaysTouched old new →
    IsFlagged kept old s.splits → IsFlagged kept new next.splits
flagged_started kept old new s pairs is all stays flagged =
    subst (λ (x : State). IsFlagged kept new x.splits) is
    (flagged_still kept old new s.splits (started_all s pairs).splits stays
    (λ k. starts_touched new s pairs k all) flagged)

-- where nobody dies in a sweep, no split changes
pub flagged_swept : (s : State) (counts : List ℕ) (old new : Kept) (touched : Touched) (dead : List ℕ)
    (next : State) →
    ((touched : Touched) (before after : List SplitState) → IsFlagged old touched before →
    (dead ≡ [] → after ≡ before) → IsFlagged new touched after) →
    IsFlagged old touched s.splits → fold died (heard_state s counts) dead ≡ next →
    IsFlagged new touched next.splits
flagged_swept s counts old new touched dead next far flagged is =
    far touched s.splits next.splits flagged
    (λ none. sym (ap (λ (x : State). x.splits) is)
    ∙ ap (λ those. (fold died (heard_state s counts) those).splits) none)

-- a split is still to come in a list from the place i on
abbrev pub IsAhead : List ℕ → ℕ → ℕ → Type 0
IsAhead splits i k = (j : ℕ) × (i ≤ j) × (j < length splits) × (slice_index_or splits j k ≡ k)

-- a wave has the flag of a split
abbrev pub HasFlag : Wave → List Bool → ℕ → Type 0
HasFlag wave flags k = (split_at wave k).pending ≡ slice_index_or flags k false

-- the wave has the flags of all splits but those still to come in the list
pub record AreFlaggedBefore (old now : Wave) (splits : List ℕ) (flags : List Bool) (i : ℕ) : Type 0 where
  pub ground : HasSameGround old now
  pub done : (k : ℕ) → k < length old.splits → IsAhead splits i k ⊎ HasFlag now flags k

pub none_flagged : (wave : Wave) (splits : List ℕ) (flags : List Bool) →
    ((k : ℕ) → k < length wave.splits → Contains splits k ⊎ HasFlag wave flags k) →
    AreFlaggedBefore wave wave splits flags 0
none_flagged wave splits flags others = record {
  ground = same_ground wave;
  done = λ k l. elim (others k l) [
    | inl (j, known, is) ↦ inl (j, omega arith, known, is)
    | inr has ↦ inr has
  ];
}

-- the others are still to come behind the place
pub ahead_then : (splits : List ℕ) (i split : ℕ) → i < length splits → split ≡ slice_index_or splits i split →
    (k : ℕ) → k ≢ split → IsAhead splits i k → IsAhead splits (i + 1) k
ahead_then splits i split known is k other (j, from, within, found) = elim (cases_eq j i) [
  | inl here ↦ absurd (other (sym found ∙ ap (λ (j : ℕ). slice_index_or splits j k) here
      ∙ get_or_default splits i k split known ∙ sym is))
  | inr later ↦ (j, (let apart = later in omega arith), within, found)
]

-- one split more is flagged
module _ (old now next : Wave) (splits : List ℕ) (flags : List Bool) (i split : ℕ)
    (before : AreFlaggedBefore old now splits flags i) (known : i < length splits)
    (is : split ≡ slice_index_or splits i split) where
  pub one_flagged : HasSameGround now next → HasFlag next flags split →
      ((k : ℕ) → k ≢ split → (split_at next k).pending ≡ (split_at now k).pending) →
      AreFlaggedBefore old next splits flags (i + 1)
  one_flagged ground here others = record {
    ground = same_ground_then old now next before.ground ground;
    done = λ k l. elim (cases_eq k split) [
      | inl same ↦ inr (subst (HasFlag next flags) (sym same) here)
      | inr other ↦ elim (before.done k l) [
        | inl left ↦ inl (ahead_then splits i split known is k other left)
        | inr has ↦ inr (others k other ∙ has)
      ]
    ];
  }

  -- or it is no split of the wave
  pub one_unknown : length now.splits ≤ split → AreFlaggedBefore old now splits flags (i + 1)
  one_unknown past = record {
    ground = before.ground;
    done = λ k l. elim (cases_eq k split) [
      | inl same ↦ absurd (let size = splits_same old now before.ground in omega (arith, same, past, l, size))
      | inr other ↦ elim (before.done k l) [
        | inl left ↦ inl (ahead_then splits i split known is k other left)
        | inr has ↦ inr has
      ]
    ];
  }

-- all are flagged at the end of the list
pub all_flagged : (old now : Wave) (splits : List ℕ) (flags : List Bool) (i : ℕ) →
    AreFlaggedBefore old now splits flags i → length splits ≤ i → length flags ≡ length old.splits →
    flagged now.splits flags ≡ now.splits
all_flagged old now splits flags i before past size =
    let same = splits_same old now before.ground in
    flagged_already now.splits flags (omega (arith, size, same))
    (λ k l. elim (before.done k (omega (arith, l, same))) [
      | inl (j, from, within, found) ↦ absurd (omega (arith, from, within, past))
      | inr has ↦ has
    ])

-- the lines of splits have the flags of their states
lines_flagged : (lines : List Split) (states : List SplitState) (holders : List (List ℕ)) (s : ℕ) →
    s < length (split_lines lines states holders) →
    (slice_index_or (split_lines lines states holders) s no_split).pending ≡ flag_in states s
lines_flagged [] states holders s l = absurd (omega arith)
lines_flagged (line ∷ lines) [] holders s l = absurd (omega arith)
lines_flagged (line ∷ lines) (state ∷ states) [] s l = absurd (omega arith)
lines_flagged (line ∷ lines) (state ∷ states) (h ∷ holders) zero l = refl
lines_flagged (line ∷ lines) (state ∷ states) (h ∷ holders) (suc s) l =
    lines_flagged lines states holders s (omega arith)

-- and so has the wave of the present state, whatever was touched
pub present_flagged : (m : Inside) {j : Job} (wave : Wave) (touched : Touched) → job_of m ≡ j →
    wave ≡ problem_of j.setup j.state → HasFlags wave touched (map shown_as m.splits.items)
present_flagged m wave touched is made = λ s l.
    let here : wave ≡ problem_of (setup_of m) (state_of m) =
    made ∙ ap (λ (i : Job). problem_of i.setup i.state) (sym is) in
    inr (ap (λ (x : Wave). (split_at x s).pending) here
    ∙ lines_flagged m.cluster.splits (map shown_as m.splits.items) m.holders s
    (subst (λ (x : Wave). s < length x.splits) here l))
