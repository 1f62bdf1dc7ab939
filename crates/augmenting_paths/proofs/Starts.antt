-- What is asked of a network and its sources, source by source.
use Rattle.std.proofs.Common.{ℕ, ◌<◌, List, length, get_or, sym, inl, inr, arith}
use Rattle.std.proofs.lemmas.Bool.{cases_lt}
use Rattle.flow_network.specs.declared.arcs.FlowArc.{FlowArc}
use Rattle.flow_network.specs.Flows.{AreArcs}
use Rattle.augmenting_paths.specs.Shipping.{HasPath, CanShip, AreSources}

pub can_ship_from : (nodes : ℕ) (arcs : List FlowArc) (sources : List ℕ) (sink : ℕ) → AreArcs nodes arcs →
    AreSources arcs sources sink
    → ((k : ℕ) → k < length sources → HasPath arcs sources sink (get_or sources k 0)) →
    CanShip nodes arcs sources sink
can_ship_from nodes arcs sources sink are starts paths = record {
  arcs_in = are;
  paths = paths;
  distinct = λ j k l m e. elim (cases_lt j k) [
    | inl before ↦ absurd ((starts k m).first j before e)
    | inr past ↦ elim (cases_lt k j) [
      | inl after ↦ absurd ((starts j l).first k after (sym e))
      | inr same ↦
          omega arith
    ]
  ];
  not_sink = λ k l. (starts k l).not_sink;
  no_entry = λ k j l m e. (starts k l).no_entry (j, m, e);
}

pub starts_of : {nodes : ℕ} {arcs : List FlowArc} {sources : List ℕ} {sink : ℕ} →
    CanShip nodes arcs sources sink → AreSources arcs sources sink
starts_of can = grind arith
