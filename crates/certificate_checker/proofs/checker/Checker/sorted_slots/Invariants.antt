use Rattle.std.proofs.Common.{◌≡◌, ℕ, ◌<◌, ◌≤◌, length, vec_capacity}
use Rattle.wave_problem.specs.Wave.{IsUsable}
use Rattle.price_certificate.specs.Certificate.{worker_price}
use Rattle.certificate_checker.specs.Slots.{slot_at}
use Rattle.certificate_checker.proofs.checker.Checker.sorted_slots.Given as goal

abbrev pub invariant-loop-i : goal.invariant-loop-i
invariant-loop-i l = record {
  long : length l.slots.items ≡ l.i;
  room : l.i-end ≤ vec_capacity l.slots;
  each : (k : ℕ) → k < l.i → ((slot_at l.slots.items k).worker ≡ k)
      × (IsUsable l.self.wave.workers k → (slot_at l.slots.items k).price ≡ worker_price l.self.prices k);
}
