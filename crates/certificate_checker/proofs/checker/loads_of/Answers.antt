use Rattle.std.proofs.Common.{◌≡◌, ◌<◌, ◌+◌, ℕ, List, Vec, Global, arith, get_or, length, length-set}
use Rattle.std.proofs.Common.{replicate, set, sym, ap, ◌∙◌}
use Rattle.std.proofs.lemmas.Grind.{common_steps}
use Rattle.std.proofs.lemmas.List.{get_or-replicate}
use Rattle.wave_problem.specs.Assignment.{start_of}
use Rattle.wave_problem.proofs.Pairs.{load_same}
use Rattle.certificate_checker.proofs.Loads.{loads_more, one_more-le}
use Rattle.certificate_checker.proofs.checker.loads_of.Goals as goal
use Rattle.certificate_checker.proofs.checker.loads_of.Goals.{in-Some, in_default}

pub loop-i-init : goal.loop-i-init
loop-i-init c =
    let n = c.args.plan.now.workers in
    let none : c.in_ok-loads.loads.items ≡ replicate n 0 = grind (arith, common_steps) in
    let each : (w : ℕ) → w < n → get_or c.in_ok-loads.loads.items w 0 ≡ 0 =
    λ w below. ap (λ (xs : List ℕ). get_or xs w 0) none ∙ get_or-replicate {A = ℕ} n w 0 0 below in
    record {
      places = grind (arith, common_steps);
      counted = each;
      few = λ w below. omega (arith, each w below);
    }

pub loop-i-preserved : goal.loop-i-preserved
loop-i-preserved c =
    let starts = c.args.plan.now.starts in
    let i = c.loop-i.i in
    let loads = c.loop-i.loads.items in
    let here : c.of.result ≡ start_of starts i = c.of.ensures.start ∙ ap (start_of starts) c.new.ensures in
    let within : i < length starts = omega (arith, c.loop-i-test.true, c.splits-i-end.ensures.count) in
    elim c.match-of.branch [
      | in-Some w ↦
          let place = w.index.result in
          let chosen : w.in-Some.worker < c.args.plan.now.workers = (rw w.in-Some.is at c.of.ensures.known) in
          let inside : place < length loads = omega (
            arith,
            w.index.ensures.value,
            chosen,
            c.loop-i.invariant.places,
          ) in
          let one_more : c.match-of.loads.items ≡ set loads place (get_or loads place 0 + 1) =
          grind (arith, common_steps) in
          record {
            places = ap (λ (z : List ℕ). length z) one_more ∙ length-set loads place
                (get_or loads place 0 + 1) ∙ c.loop-i.invariant.places;
            counted = λ v below. ap (λ (z : List ℕ). get_or z v 0) one_more
                ∙ loads_more starts loads i w.in-Some.worker place v c.of.result within here w.in-Some.is
                w.index.ensures.value inside (c.loop-i.invariant.counted v below);
            few = λ v below. omega (
              arith,
              ap (λ (z : List ℕ). get_or z v 0) one_more,
              one_more-le loads place v inside,
              c.loop-i.invariant.few v below,
            );
          }
      | in_default w ↦
          let same : c.match-of.loads.items ≡ loads = ap (λ (v : Vec ℕ Global). v.items) w.loads-is in
          record {
            places = ap (λ (z : List ℕ). length z) same ∙ c.loop-i.invariant.places;
            counted = λ v below. ap (λ (z : List ℕ). get_or z v 0) same
                ∙ c.loop-i.invariant.counted v below
                ∙ sym (load_same starts i v c.of.result within here w.in_default.is);
            few = λ v below. omega (
              arith,
              ap (λ (z : List ℕ). get_or z v 0) same,
              c.loop-i.invariant.few v below,
            );
          }
    ]
