use Rattle.std.proofs.Common.{◌≡◌, ℕ, ◌+◌, List, [], length, subst, sym, ◌∙◌}
use Rattle.std.proofs.lemmas.List.{with_items_is}
use Rattle.std.proofs.lemmas.Result.{IfOk-weaker}
use Rattle.network_prices.specs.Prices.{IsPlanOf}
use Rattle.network_prices.specs.HandOn.{CanHandOn, IsHandedOn}
use Rattle.network_prices.specs.Layers.{nodes_from, AreFirst, AreStartsTo}
use Rattle.network_prices.proofs.Handed.{can_hand_on, plan_is}
use Rattle.network_prices.proofs.reading.read_plan.Goals as goal

pub decompose_flow-requires : goal.decompose_flow-requires
decompose_flow-requires c =
    let wave = c.args.problem.now in
    let arcs = c.args.arcs.now in
    let flows = c.args.flows.now in
    let first : AreFirst wave c.deref_mut.result.now =
    subst (AreFirst wave) (sym c.deref_mut.ensures.value) c.in_ok-places.ensures in
    subst (λ (n : ℕ). CanHandOn arcs flows (c.args.first + n + 1) c.deref_mut.result.now)
    (sym c.workers.ensures.count)
    (can_hand_on wave arcs flows c.deref_mut.result.now c.args.first (λ w. []) c.requires.layers.past_splits
    c.requires.layers
    c.requires.shipped first)

pub returns-clause-read : goal.returns-clause-read
returns-clause-read c =
    let wave = c.args.problem.now in
    let arcs = c.args.arcs.now in
    let flows = c.args.flows.now in
    let base = c.args.first in
    let first : AreFirst wave c.deref_mut.result.now =
    subst (AreFirst wave) (sym c.deref_mut.ensures.value) c.in_ok-places.ensures in
    let size = c.decompose_flow.ensures.size in
    let len = c.deref_mut.ensures.len in
    let there : c.deref.result.now ≡ c.decompose_flow.new.places =
    c.deref.ensures.value ∙ with_items_is c.in_ok-places.places c.decompose_flow.new.places (size ∙ len)
    in
    let state : IsHandedOn arcs flows (base + length wave.workers + 1) c.deref_mut.result.now
    c.decompose_flow.new.places (length arcs) =
    subst (λ (n : ℕ). IsHandedOn arcs flows (base + n + 1) c.deref_mut.result.now c.decompose_flow.new.places
    (length arcs))
    c.workers.ensures.count c.decompose_flow.ensures in
    IfOk-weaker c.starts_of.result
    (λ plan. AreStartsTo wave base c.deref.result.now (length wave.splits) plan)
    (λ plan. (above : ℕ → List ℕ) → IsPlanOf wave (nodes_from wave base above) arcs flows plan.starts)
    (λ plan read above. plan_is wave arcs flows c.deref_mut.result.now base above
    c.requires.layers.past_splits c.requires.layers c.requires.shipped first c.decompose_flow.new.places
    plan state
    (subst (λ (xs : List ℕ). AreStartsTo wave base xs (length wave.splits) plan) there read))
    c.starts_of.ensures
