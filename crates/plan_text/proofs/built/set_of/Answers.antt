use Rattle.std.proofs.Common.{List, ℕ, ◌≡◌, ◌∙◌, ap, get_or, length, subst, sym, take, take_all}
use Rattle.std.specs.Prelude.{◌↔◌, ◌⊎◌}
use Rattle.std.specs.List.{Contains}
use Rattle.std.proofs.lemmas.List.{take_more}
use Rattle.node_ids.specs.Sets.{HasPair}
use Rattle.node_ids.proofs.Updating.{length-updated}
use Rattle.plan_text.proofs.Numbers.{one_more_pair}
use Rattle.plan_text.proofs.built.set_of.Goals as goal

pub loop-pair-preserved : goal.loop-pair-preserved
loop-pair-preserved c = record {
  room = ap length c.in_ok-put.ensures.value ∙ length-updated _ _ _ ∙ c.loop-pair.invariant.room;
  members = λ s w.
      let pairs = c.args.pairs.now in
      let i = c.loop-pair.pair-index in
      let pair : ℕ × ℕ = get_or pairs i c.pair-item.result in
      let step : HasPair c.put.new.self s w ↔ (((s ≡ pair.0) × (w ≡ pair.1)) ⊎ HasPair c.loop-pair.set s w) =
      subst (λ (p : ℕ × ℕ). HasPair c.put.new.self s w ↔ (((s ≡ p.0) × (w ≡ p.1)) ⊎ HasPair c.loop-pair.set s w))
      c.pair-item.is (c.in_ok-put.ensures.members s w) in
      subst (λ (front : List (ℕ × ℕ)). HasPair c.put.new.self s w ↔ Contains front (s, w))
      (sym (take_more pairs i c.pair-item.result c.loop-pair-test.true))
      (one_more_pair (take i pairs) pair s w _ _ step (c.loop-pair.invariant.members s w));
}

pub returns : goal.returns
returns c s w =
    subst (λ (front : List (ℕ × ℕ)). HasPair c.loop-pair.set s w ↔ Contains front (s, w))
    (take_all c.loop-pair.pair-index c.args.pairs.now c.loop-pair-test.false)
    (c.loop-pair.invariant.members s w)
