-- The heads of a plan ahead are an admissible assignment of the present state, so that they may start together.
use Rattle.std.proofs.Common.{◌≡◌, ℕ, zero, suc, ◌*◌, ◌<◌, ◌≤◌, ◌==◌, List, [], ◌∷◌, length, map, cond, All}
use Rattle.std.proofs.Common.{Option, Some, refl, sym, ap, ◌∙◌, arith, subst}
use Rattle.std.specs.Prelude.{is_some, slice_index_or, sum_by, unwrap_or}
use Rattle.std.specs.Option.{option_map}
use Rattle.std.proofs.Math.Nat.{min-le_right}
use Rattle.std.proofs.lemmas.Bool.{eq-eqb}
use Rattle.std.proofs.lemmas.List.Elements.{All-cons, filter_agree}
use Rattle.std.proofs.lemmas.List.Sums.{get_or-le-sum_by}
use Rattle.rack_tree.specs.Tree.{distance}
use Rattle.wave_problem.specs.declared.TheConstants.{MAX_SLOTS}
use Rattle.wave_problem.specs.declared.lines.WorkerLine.{WorkerLine}
use Rattle.wave_problem.specs.Sums.{least}
use Rattle.wave_problem.specs.Wave.{Wave, IsAdmissible, cost, live_holders, split_at, worker_at, worker_in}
use Rattle.wave_problem.specs.Assignment.{IsAssignment, load, pairs_of, start_of, total}
use Rattle.wave_problem.proofs.Pairs.{pairs_started, times_at_most_once}
use Rattle.price_certificate.specs.Certificate.{Certifies, claim}
use Rattle.price_certificate.specs.PriceList.{PriceList}
use Rattle.price_certificate.specs.declared.Condition.TheVariants as condition
use Rattle.master_state.specs.Steps.{AreHeads, queue_lines, with_places}

-- the same workers live, whatever places they have
live_queued : (asked : List ℕ) (lines : List WorkerLine) (w : ℕ) →
    (worker_in (queue_lines asked lines) w).live ≡ (worker_in lines w).live
live_queued asked [] w = refl
live_queued [] (line ∷ lines) zero = refl
live_queued [] (line ∷ lines) (suc w) = live_queued [] lines w
live_queued (n ∷ asked) (line ∷ lines) zero = refl
live_queued (n ∷ asked) (line ∷ lines) (suc w) = live_queued asked lines w

pub queued_holders : (asked : List ℕ) (wave : Wave) (s : ℕ) →
    live_holders (with_places asked wave) s ≡ live_holders wave s
queued_holders asked wave s =
    filter_agree (λ h. (worker_in (queue_lines asked wave.workers) h).live)
    (λ h. (worker_in wave.workers h).live) (live_queued asked wave.workers) (split_at wave s).holders

-- so that no start costs more or less, and none together
queued_cost : (asked : List ℕ) (wave : Wave) (s w : ℕ) → cost (with_places asked wave) s w ≡ cost wave s w
queued_cost asked wave s w =
    ap (λ (holders : List ℕ). option_map (λ d. (split_at wave s).bytes * d)
    (least (map (λ h. distance wave.tree h w) holders))) (queued_holders asked wave s)

pub queued_total : (asked : List ℕ) (wave : Wave) (pairs : List (ℕ × ℕ)) →
    total (with_places asked wave) pairs ≡ total wave pairs
queued_total asked wave pairs =
    (λ i. sum_by (λ (pair : ℕ × ℕ). unwrap_or (queued_cost asked wave pair.0 pair.1 i) 0) pairs)

-- no line has more places than a worker may have slots
pub queued_slots : (asked : List ℕ) (lines : List WorkerLine) → All (λ n. n ≤ MAX_SLOTS) asked →
    All (λ line. line.free ≤ MAX_SLOTS) lines → All (λ line. line.free ≤ MAX_SLOTS) (queue_lines asked lines)
queued_slots asked [] small few = few
queued_slots [] (line ∷ lines) small few =
    All-cons (λ (l : WorkerLine). l.free ≤ MAX_SLOTS) line _ (few 0 line (omega arith))
    (queued_slots [] lines small (λ k d l. few (suc k) d (omega (arith, l))))
queued_slots (n ∷ asked) (line ∷ lines) small few =
    All-cons (λ (l : WorkerLine). l.free ≤ MAX_SLOTS) _ _
    (omega (arith, few 0 line (omega arith), small 0 n (omega arith)))
    (queued_slots asked lines (λ k d l. small (suc k) d (omega (arith, l)))
    (λ k d l. few (suc k) d (omega (arith, l))))

-- a worker on which a pair starts has a load
loaded : (pairs : List (ℕ × ℕ)) →
    All (λ pair. 0 < load pairs pair.1) pairs
loaded pairs k d l =
    let w = (slice_index_or pairs k d).1 in
    let count : ℕ × ℕ → ℕ = λ other. cond (other.1 == w) 1 0 in
    let here : count (slice_index_or pairs k d) ≡ 1 = ap (λ b. let n : ℕ = cond b 1 0 in n) (eq-eqb w w refl) in
    omega (arith, here, get_or-le-sum_by count pairs k d l)

module _ (wave : Wave) (asked : List ℕ) (plan starts : List (Option ℕ))
    (prices : PriceList) (certifies : Certifies (claim (with_places asked wave) plan prices))
    (heads : AreHeads wave.workers plan starts) where
  head_admissible : (s w : ℕ) → start_of starts s ≡ Some w → 0 < load (pairs_of starts) w →
      IsAdmissible wave s w
  head_admissible s w is some =
      let planned = heads.of_plan s w is in
      let waits = certifies (condition.Open s) (ap is_some planned) in
      let may = certifies (condition.Allowed s w) planned in
      record {
        pending = waits.0;
        held = subst (λ (holders : List ℕ). 0 < length holders) (queued_holders asked wave s) waits.1;
        live = sym (live_queued asked wave.workers w) ∙ may.0;
        has_slot = omega (
          arith,
          some,
          heads.as_many w,
          min-le_right (load (pairs_of plan) w) (worker_at wave w).free,
        );
        not_barred = may.1;
      }

  pub heads_assigned : IsAssignment wave (pairs_of starts)
  heads_assigned = record {
    admissible = λ k d l. head_admissible _ _ (pairs_started starts k d l) (loaded (pairs_of starts) k d l);
    once = times_at_most_once starts;
    within_free = λ w. omega (
      arith,
      heads.as_many w,
      min-le_right (load (pairs_of plan) w) (worker_at wave w).free,
    );
  }
