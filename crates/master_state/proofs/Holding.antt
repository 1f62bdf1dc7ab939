-- A replica that is added or lost keeps a state tidy.
use Rattle.std.proofs.Common.{◌≡◌, ◌≢◌, ℕ, List, [], ◌∷◌, ◌++◌, Bool, true, false, not, ◌==◌, None}
use Rattle.std.proofs.Common.{◌≤◌, length, sym, ◌∙◌, arith, All}
use Rattle.std.specs.List.{list_any}
use Rattle.std.specs.Prelude.{filter}
use Rattle.std.specs.Cmp.{unsigned_Decides}
use Rattle.std.proofs.lemmas.Bool.{true≢false, leb-false, or_parts, not-false}
use Rattle.std.proofs.lemmas.Grind.{common_steps}
use Rattle.std.proofs.lemmas.List.Sums.{length-filter, count_by-le-length}
use Rattle.std.proofs.lemmas.List.Kept.{AllPairs-filter}
use Rattle.std.proofs.lemmas.List.Elements.{All-nil, All-cons, All-append, All-filter, filter_passes}
use Rattle.node_ids.proofs.Updating.{length-updated}
use Rattle.worker_table.specs.Workers.{Workers, is_live}
use Rattle.block_map.specs.Holdings.{holders_of, are_full, without, with_holder, without_holder}
use Rattle.block_map.specs.declared.HolderLimit.{HolderLimit}
use Rattle.block_map.specs.declared.HolderLimit.TheVariants.{Eight, Sixteen}
use Rattle.wave_problem.specs.declared.TheConstants.{MAX_HOLDERS}
use Rattle.master_state.specs.States.{Setup, State}
use Rattle.master_state.specs.Refusals.{Add, Lose, reasons, refusal}
use Rattle.master_state.specs.Changes.{after}
use Rattle.master_state.specs.Tidy.{IsTidy, AreHolders}
use Rattle.master_state.proofs.Lists.{AllPairs-append, All-updated}
use Rattle.master_state.proofs.Reasons.{none_applies, room_left}
use Rattle.master_state.proofs.Tidying.{tidy_held}
use Rattle.std.proofs.lemmas.List.{length-append}

-- those of the holders that pass a test, in a table in which these live
pub held_less : (old new : Workers) (test : ℕ → Bool) (holders : List ℕ) →
    ((h : ℕ) → test h ≡ true → is_live old h ≡ true → is_live new h ≡ true) → AreHolders old holders →
    AreHolders new (filter test holders)
held_less old new test holders lives held = record {
  few = omega (arith, length-filter test holders, count_by-le-length test holders, held.few);
  once = AllPairs-filter (λ a b. a ≢ b) test holders held.once;
  live = λ k d l. lives _ (filter_passes test holders k d l)
      (All-filter test (λ h. is_live old h ≡ true) holders held.live k d l);
}

-- no holder is a worker that is none
none_is : (w : ℕ) (holders : List ℕ) → list_any (λ h. h == w) holders ≡ false →
    All (λ h. All (λ v. h ≢ v) (w ∷ [])) holders
none_is w [] none = All-nil (λ h. All (λ v. h ≢ v) (w ∷ []))
none_is w (h ∷ holders) none =
    All-cons (λ g. All (λ v. g ≢ v) (w ∷ [])) h holders
    (All-cons (λ v. h ≢ v) w [] (λ same. true≢false (sym ((unsigned_Decides h w).1 same)
    ∙ (or_parts (h == w) (list_any (λ g. g == w) holders) none).0)) (All-nil (λ v. h ≢ v)))
    (none_is w holders (or_parts (h == w) (list_any (λ g. g == w) holders) none).1)

-- a list that is not full has room for a holder more
pub room_more : (limit : HolderLimit) (holders : List ℕ) (w : ℕ) → are_full limit holders ≡ false →
    length (holders ++ w ∷ []) ≤ MAX_HOLDERS
room_more Eight holders w few =
    omega (arith, leb-false 8 (length holders) few, length-append holders (w ∷ []))
room_more Sixteen holders w few =
    omega (arith, leb-false 16 (length holders) few, length-append holders (w ∷ []))

held_with : (limit : HolderLimit) (workers : Workers) (w : ℕ) (holders : List ℕ) → is_live workers w ≡ true →
    list_any (λ h. h == w) holders ≡ false →
    are_full limit holders ≡ false → AreHolders workers holders → AreHolders workers (holders ++ w ∷ [])
held_with limit workers w holders lives none few held =
    let room = room_more limit holders w few in
    grind (
      arith,
      common_steps,
      none_is,
      AllPairs-append,
      All-append,
      All-cons,
      All-nil,
    )

pub tidy_lose : (setup : Setup) (s : State) (split w : ℕ) → IsTidy setup s →
    refusal setup s (Lose split w) ≡ None →
    IsTidy setup (after s (Lose split w))
tidy_lose setup s split w tidy allowed =
    tidy_held setup s (without_holder s.holders split w) tidy (length-updated (without w) s.holders split)
    (All-updated (AreHolders s.workers) (without w) s.holders split [] tidy.held
    (held_less s.workers s.workers (λ h. not (h == w)) (holders_of s.holders split) (λ h on live. live)))
    (room_left setup s (none_applies (reasons setup s (Lose split w)) allowed).1.0)

pub tidy_add : (setup : Setup) (s : State) (split w : ℕ) → IsTidy setup s →
    refusal setup s (Add split w) ≡ None →
    IsTidy setup (after s (Add split w))
tidy_add setup s split w tidy allowed =
    let none = none_applies (reasons setup s (Add split w)) allowed in
    tidy_held setup s (with_holder s.holders split w) tidy
    (length-updated (λ holders. holders ++ w ∷ []) s.holders split)
    (All-updated (AreHolders s.workers) (λ holders. holders ++ w ∷ []) s.holders split [] tidy.held
    (held_with setup.cluster.holder_limit s.workers w (holders_of s.holders split)
    (not-false (is_live s.workers w) none.0)
    none.1.0 none.1.1.0))
    (room_left setup s none.1.1.1.0)
