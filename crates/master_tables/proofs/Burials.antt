-- Deaths one after another, and all at once.
use Rattle.std.proofs.Common.{◌≡◌, ℕ, List, [], ◌∷◌, map, cond, not, Bool, true, false, ◌||◌}
use Rattle.std.proofs.Common.{◌&&◌, ◌==◌, None, Some, refl, ap, sym, ◌∙◌, arith}
use Rattle.std.specs.Prelude.{filter, fold}
use Rattle.std.specs.List.{list_all}
use Rattle.std.proofs.lemmas.Bool.{and_right, cases_eq, eq-eqb, ne_eqb}
use Rattle.worker_table.specs.Workers.{Workers, with_death}
use Rattle.node_ids.specs.Sets.{is_in_row}
use Rattle.block_map.specs.Holdings.{without}
use Rattle.master_state.specs.declared.states.Attempt.{Attempt}
use Rattle.master_state.specs.declared.states.SplitState.{SplitState}
use Rattle.master_state.specs.declared.states.SplitState.TheVariants.{Pending, Running, Done}
use Rattle.master_state.specs.declared.states.PartState.{PartState}
use Rattle.master_state.specs.declared.states.PartState.TheVariants as part
use Rattle.master_state.specs.States.{Setup, State}
use Rattle.master_state.specs.Tests.{all_parts_done, is_on, part_is_done}
use Rattle.master_state.specs.Changes.{after_death, died, part_without}
use Rattle.master_state.proofs.Keeping.{done_without}
use Rattle.master_tables.specs.declared.entries.SplitEntry.{SplitEntry}
use Rattle.master_tables.specs.Entries.{entry_after_death, shown_as}
use Rattle.master_tables.specs.Kept.{AreOfSplits}
use Rattle.master_tables.proofs.Showing.{after_deaths, death_makes_none, made_mapped, shown-deaths}
use Rattle.master_tables.proofs.Together.{filter-both, filter-none, map-both, map-nothing}

done_both : (stays p q : Bool) (test : Attempt → Bool) (attempt : Attempt) → test attempt ≡ q →
    after_deaths stays test (cond (p && not stays) Pending (Done attempt))
    ≡ cond ((p || q) && not stays) Pending (Done attempt)
done_both true true q test attempt here = rw (and_right (test attempt) false refl) refl
done_both false true q test attempt here = refl
done_both stays false q test attempt here = rw here refl

deaths_both : (stays : Bool) (p q either : Attempt → Bool) → ((a : Attempt) → either a ≡ (p a || q a)) →
    (split : SplitState) →
    after_deaths stays q (after_deaths stays p split) ≡ after_deaths stays either split
deaths_both stays p q either same Pending = refl
deaths_both stays p q either same (Running one None) = grind arith
deaths_both stays p q either same (Running one (Some other)) = grind arith
deaths_both stays p q either same (Done attempt) =
    rw (same attempt) (done_both stays (p attempt) (q attempt) q attempt refl)

one_death : (stays : Bool) (w : ℕ) (split : SplitState) →
    after_death stays w split ≡ after_deaths stays (is_on w) split
one_death stays w Pending = refl
one_death stays w (Running one None) = refl
one_death stays w (Running one (Some other)) = refl
one_death stays w (Done attempt) = refl

part_left : (p q : Bool) (test : Attempt → Bool) (attempt : Attempt) → test attempt ≡ q →
    part_without test (cond p part.Pending (part.Running attempt))
    ≡ cond (p || q) part.Pending (part.Running attempt)
part_left true q test attempt here = refl
part_left false q test attempt here = rw here refl

parts_both : (p q either : Attempt → Bool) → ((a : Attempt) → either a ≡ (p a || q a)) → (state : PartState) →
    part_without q (part_without p state) ≡ part_without either state
parts_both p q either same part.Pending = refl
parts_both p q either same (part.Running attempt) =
    rw (same attempt) (part_left (p attempt) (q attempt) q attempt refl)
parts_both p q either same part.Done = refl

-- a death leaves no part done, and takes none back that is
all_done_after : (test : Attempt → Bool) (parts : List PartState) →
    list_all part_is_done (map (part_without test) parts) ≡ list_all part_is_done parts
all_done_after test [] = refl
all_done_after test (state ∷ parts) = rw (done_without test state, all_done_after test parts) refl

-- the state after the deaths of these workers, which are those that the test names
abbrev pub buried : State → (ℕ → Bool) → List ℕ → State
buried s test dead = record s {
  workers = fold with_death s.workers dead;
  holders = map (filter (λ h. not (test h))) s.holders;
  splits = map (after_deaths (all_parts_done s) (λ attempt. test attempt.worker)) s.splits;
  parts = map (part_without (λ attempt. test attempt.worker)) s.parts;
}

-- the state with these tables
abbrev pub with_tables : State → Workers → List (List ℕ) → List SplitState → List PartState → State
with_tables s workers holders splits parts = record s {
  workers = workers;
  holders = holders;
  splits = splits;
  parts = parts;
}

spares : (test : ℕ → Bool) → ((w : ℕ) → test w ≡ false) → (stays : Bool) (split : SplitState) →
    after_deaths stays (λ attempt. test attempt.worker) split ≡ split
spares test none stays Pending = refl
spares test none stays (Running one None) = rw (none one.worker) refl
spares test none stays (Running one (Some other)) = rw (none one.worker, none other.worker) refl
spares test none stays (Done attempt) = rw (none attempt.worker) refl

spares_part : (test : ℕ → Bool) → ((w : ℕ) → test w ≡ false) → (state : PartState) →
    part_without (λ attempt. test attempt.worker) state ≡ state
spares_part test none part.Pending = refl
spares_part test none (part.Running attempt) = rw (none attempt.worker) refl
spares_part test none part.Done = refl

-- one worker dies, and then those that a second test names: those have died that either names
died_before : (s : State) (w : ℕ) (dead : List ℕ) (later test : ℕ → Bool) →
    ((v : ℕ) → test v ≡ (v == w || later v)) → buried (died s w) later dead ≡ buried s test (w ∷ dead)
died_before s w dead later test same =
    let stays = all_parts_done s in
    let lost : SplitState → SplitState = after_deaths stays (λ attempt. later attempt.worker) in
    let holders = map-both (without w) (filter (λ h. not (later h))) (filter (λ h. not (test h)))
    (filter-both (λ h. h == w) later test same) s.holders in
    let splits = ap (λ (b : Bool). map (after_deaths b (λ attempt. later attempt.worker))
    (map (after_death stays w) s.splits)) (all_done_after (is_on w) s.parts)
    ∙ map-both (after_death stays w) lost (after_deaths stays (λ attempt. test attempt.worker))
    (λ split. ap lost (one_death stays w split)
    ∙ deaths_both stays (is_on w) (λ attempt. later attempt.worker) (λ attempt. test attempt.worker)
    (λ attempt. same attempt.worker) split) s.splits in
    let parts = map-both (part_without (is_on w)) (part_without (λ attempt. later attempt.worker))
    (part_without (λ attempt. test attempt.worker))
    (parts_both (is_on w) (λ attempt. later attempt.worker) (λ attempt. test attempt.worker)
    (λ attempt. same attempt.worker)) s.parts in
    (λ k. with_tables s (fold with_death s.workers (w ∷ dead)) (holders k) (splits k) (parts k))

pub turned_round : (w v : ℕ) → (w == v) ≡ (v == w)
turned_round w v = grind (arith, cases_eq, eq-eqb, ne_eqb)

-- deaths one after another change each table once
pub all_died : (s : State) (dead : List ℕ) (test : ℕ → Bool) → ((w : ℕ) → test w ≡ is_in_row dead w) →
    fold died s dead ≡ buried s test dead
all_died s [] test none = grind (arith, map-nothing, filter-none, after_deaths, spares, spares_part)
all_died s (w ∷ dead) test same =
    all_died (died s w) dead (is_in_row dead) (λ v. refl)
    ∙ died_before s w dead (is_in_row dead) test
    (λ v. same v ∙ ap (λ b. b || is_in_row dead v) (turned_round w v))

-- the tables that a state has after deaths, by what became of those that a master keeps
pub buried_is : (s : State) (dead : List ℕ) (test : ℕ → Bool) (old : List SplitEntry) {t left : Workers}
    {held lists : List (List ℕ)} {new : List SplitEntry} {had parts : List PartState} →
    ((w : ℕ) → test w ≡ is_in_row dead w) → s.workers ≡ t → s.holders ≡ held → s.splits ≡ map shown_as old →
    s.parts ≡ had → left ≡ fold with_death t dead → lists ≡ map (filter (λ h. not (test h))) held →
    new ≡ map (entry_after_death (list_all part_is_done had) (λ attempt. test attempt.worker)) old →
    parts ≡ map (part_without (λ attempt. test attempt.worker)) had →
    fold died s dead ≡ with_tables s left lists (map shown_as new) parts
buried_is s dead test old {had = had} those workers holders splits parts a b c d =
    let on : Attempt → Bool = λ attempt. test attempt.worker in
    let shown = ap (map shown_as) c ∙ shown-deaths (list_all part_is_done had) on old in
    all_died s dead test those
    ∙ (λ k. with_tables s (fold with_death (workers k) dead) (map (filter (λ h. not (test h))) (holders k))
    (map (after_deaths (list_all part_is_done (parts k)) on) (splits k)) (map (part_without on) (parts k)))
    ∙ (λ k. with_tables s (sym a k) (sym b k) (sym shown k) (sym d k))

pub made_buried : (setup : Setup) (stays : Bool) (test : Attempt → Bool) (old : List SplitEntry)
    {new : List SplitEntry} → new ≡ map (entry_after_death stays test) old → AreOfSplits setup old →
    AreOfSplits setup new
made_buried setup stays test old is made =
    rw is (made_mapped setup (entry_after_death stays test) old (death_makes_none stays test) made)
