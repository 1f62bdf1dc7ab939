-- A legal history: a wave with its certificate, and a result.
use Rattle.std.proofs.Common.{◌≡◌, ℕ, zero, suc, ◌==◌, [], ◌∷◌, Some, refl, sym, ap, subst, true}
use Rattle.std.proofs.Common.{false, arith}
use Rattle.std.specs.Prelude.{is_some, unwrap_or}
use Rattle.std.proofs.lemmas.Bool.{false≢true}
use Rattle.rack_tree.proofs.Distances.{within_reach}
use Rattle.wave_problem.specs.Wave.{Split, IsSmall, IsHeldWell}
use Rattle.price_certificate.specs.Certificate.{Claim, Certifies, MayTake, claim, priced_at}
use Rattle.price_certificate.specs.declared.Condition.TheVariants.{Open, Allowed, Room, SplitPrice}
use Rattle.price_certificate.specs.declared.Condition.TheVariants.{WorkerPrice, Priced, Tight, Unstarted}
use Rattle.price_certificate.specs.declared.Condition.TheVariants.{Spare}
use Rattle.price_certificate.proofs.Duality.{certified-best}
use Rattle.master_state.specs.declared.events.Event.TheVariants as events
use Rattle.master_state.specs.States.{IsWhole, opening}
use Rattle.master_state.specs.Refusals.{MapDone}
use Rattle.master_state.specs.Changes.{after, after_wave}
use Rattle.master_state.specs.Steps.{IsLegal, problem_of}
use Rattle.master_state.proofs.Rows.{job, made}

abbrev split : Split
split = record { bytes = 5; pending = true; holders = 0 ∷ [] }

small : IsSmall split
small = record { bytes = omega arith; holders = omega arith }

held : IsHeldWell 1 split
held = grind arith

-- the cluster of the late result is whole
pub whole : IsWhole job.cluster
whole = grind arith

not_zero : (w : ℕ) → 0 == suc w ≡ false
not_zero w = grind arith

abbrev asked : Claim
asked = claim (problem_of job (opening job)) (Some 0 ∷ []) (record { splits = 21 ∷ []; workers = 0 ∷ [] })

is_zero : (w : ℕ) → Some 0 ≡ Some w → 0 ≡ w
is_zero w e = ap (λ o. unwrap_or o 0) e

certified : Certifies asked
certified (Open zero) = λ some. (refl, omega arith)
certified (Open (suc s)) = λ some. absurd (false≢true some)
certified (Allowed zero w) = λ e. subst (λ v. MayTake asked.wave 0 v) (is_zero w e) (refl, λ h. false≢true h)
certified (Allowed (suc s) w) = λ e. absurd (false≢true (ap is_some e))
certified (Room zero) = omega arith
certified (Room (suc w)) = rw (not_zero w) (omega arith)
certified (SplitPrice zero) = omega arith
certified (SplitPrice (suc s)) = omega arith
certified (WorkerPrice zero) = omega arith
certified (WorkerPrice (suc w)) = omega arith
certified (Priced zero zero) = λ there. omega arith
certified (Priced zero (suc w)) = λ there. absurd (false≢true there.live)
certified (Priced (suc s) w) = λ there. absurd (false≢true there.pending)
certified (Tight zero w) = λ e. subst (λ v. priced_at asked.wave asked.prices 0 v ≡ 21) (is_zero w e) refl
certified (Tight (suc s) w) = λ e. absurd (false≢true (ap is_some e))
certified (Unstarted zero) = λ e. absurd (false≢true (sym (ap is_some e)))
certified (Unstarted (suc s)) = λ e. refl
certified (Spare zero) = record { taken = λ _. omega arith; left = λ _. omega arith }
certified (Spare (suc w)) = record { taken = λ _. omega arith; left = λ _. omega arith }

-- the wave, and its result
pub legal : IsLegal job (events.Wave 1 1 0 ∷ events.MapDone 1 ∷ [])
    (after (after_wave (opening job) ((0, 0) ∷ [])) (MapDone 1 made))
legal = (
  after_wave (opening job) ((0, 0) ∷ []),
  (
    Some 0 ∷ [],
    record {
      best = certified-best asked (within_reach asked.wave.tree whole.tree.centres_known) certified;
      priced = (asked.prices, certified);
      room = refl;
      first_is = refl;
      count_is =
          refl;
      cost_is = refl;
      leads = refl;
    },
  ),
  (
    after (after_wave (opening job) ((0, 0) ∷ [])) (MapDone 1 made),
    (made, record { known = tt; allowed = refl; leads = refl }),
    refl,
  ),
)
