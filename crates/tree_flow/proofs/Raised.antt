-- Depths that rise or fall by the rest of a bound.
use Rattle.std.proofs.Common.{◌≡◌, ℕ, ◌-◌, Option, refl, sym, ap, ◌∙◌, arith, inl, inr}
use Rattle.wave_problem.specs.Wave.{Wave}
use Rattle.std.proofs.lemmas.Bool.{cases_lt}
use Rattle.tree_flow.specs.Moves.{Caps, SearchBackEnds, SearchEnds}
use Rattle.tree_flow.specs.declared.nodes.TreeNode.{TreeNode}
use Rattle.tree_flow.specs.declared.nodes.TreeNode.TheVariants.{Worker}
use Rattle.tree_flow.specs.declared.nodes.End.{End}
use Rattle.tree_flow.specs.Nodes.{parent}
use Rattle.tree_flow.specs.declared.nodes.Place.TheVariants.{Stands}
use Rattle.tree_flow.specs.State.{State, Terms, place_of, taken}
use Rattle.tree_flow.specs.State.{IsBalancedBut}
use Rattle.tree_flow.specs.Moves.{Raises, Lowers}

pub same_place : (old new : State) (s : ℕ) → new.places ≡ old.places → place_of new s ≡ place_of old s
same_place old new s e = ap (λ places. place_of (record old { places = places }) s) e

-- a state that has changed in its depths alone is balanced
pub same_balance : (wave : Wave) (old new : State) (hole : Option TreeNode) → new.places ≡ old.places
    → new.flow ≡ old.flow → new.free ≡ old.free
    → IsBalancedBut wave old hole → IsBalancedBut wave new hole
same_balance wave old new hole places flow free b = record {
  size = rw places b.size;
  top = rw flow b.top;
  each = λ v. rw (places, flow, free) (b.each v);
}

pub raises : Raises
raises wave old new far bound hole kept near raised = record {
  cheapest = record {
    ends = λ s e stands. kept.cheapest.ends s e (was s e stands);
    least = λ s e x stands is.
        (let least = kept.cheapest.least s e x (was s e stands) is in
        let over = near.over s e x (was s e stands) is in
        let one = raised.depth e.node in
        let two = raised.depth x.node in
        omega arith);
    below_waiting = λ s e stands.
        (let below = kept.cheapest.below_waiting s e (was s e stands) in
        let out = near.out s e (was s e stands) in
        let one = raised.depth e.node in
        let worth = ap (λ (t : Terms). t.worth) raised.terms in
        omega arith);
    waiting = λ s x waits is.
        (let least = kept.cheapest.waiting s x (sym (same_place old new s raised.places) ∙ waits) is in
        let worth = ap (λ (t : Terms). t.worth) raised.terms in
        let one = raised.depth x.node in
        omega arith);
  };
  level = record {
    down = λ v room.
        (let r = rw raised.flow at room in
        let least = kept.level.down v r in
        let step = near.down v r in
        let one = raised.depth v in
        let two = raised.depth (parent wave.tree v) in
        omega arith);
    up = λ v some.
        (let r = rw raised.flow at some in
        let least = kept.level.up v r in
        let step = near.up v r in
        let one = raised.depth v in
        let two = raised.depth (parent wave.tree v) in
        omega arith);
    bottom = λ w known some.
        rw (raised.terms, raised.free)
        (let r = rw raised.free at some in
        let most = kept.level.bottom w known r in
        let step = near.bottom w known r in
        let one = raised.depth (Worker w) in
        omega arith);
    floor = λ w known some.
        rw (raised.terms, raised.free)
        (let least = kept.level.floor w known (rw raised.free at some) in
        let one = raised.depth (Worker w) in
        omega arith);
  };
  balanced = same_balance wave old new hole raised.places raised.flow raised.free kept.balanced;
  fair = rw raised.terms kept.fair;
}
  where
    was : (s : ℕ) (e : End) → place_of new s ≡ Stands e → place_of old s ≡ Stands e
    was s e stands = sym (same_place old new s raised.places) ∙ stands

pub lowers : Lowers
lowers wave old new far bound hole free kept near lowered = record {
  cheapest = record {
    ends = λ s e stands. kept.cheapest.ends s e (was s e stands);
    least = λ s e x stands is.
        (let least = kept.cheapest.least s e x (was s e stands) is in
        let over = near.over s e x (was s e stands) is in
        let one = lowered.depth e.node in
        let two = lowered.depth x.node in
        let low = near.low x.node in
        let low' = near.low e.node in
        omega arith);
    below_waiting = λ s e stands.
        (let below = kept.cheapest.below_waiting s e (was s e stands) in
        let one = lowered.depth e.node in
        let worth = ap (λ (t : Terms). t.worth) lowered.terms in
        omega arith);
    waiting = λ s x waits is.
        (let before = sym (same_place old new s lowered.places) ∙ waits in
        let least = kept.cheapest.waiting s x before is in
        let step = near.waits s x before is in
        let one = lowered.depth x.node in
        let worth = ap (λ (t : Terms). t.worth) lowered.terms in
        let low = near.low x.node in
        omega arith);
  };
  level = record {
    down = λ v room.
        (let r = rw lowered.flow at room in
        let least = kept.level.down v r in
        let step = near.down v r in
        let one = lowered.depth v in
        let two = lowered.depth (parent wave.tree v) in
        let low = near.low v in
        omega arith);
    up = λ v some.
        (let r = rw lowered.flow at some in
        let least = kept.level.up v r in
        let step = near.up v r in
        let one = lowered.depth v in
        let two = lowered.depth (parent wave.tree v) in
        let low = near.low (parent wave.tree v) in
        omega arith);
    bottom = λ w known some.
        rw (lowered.terms, lowered.free)
        (let zero = kept.level.bottom w known (rw lowered.free at some) in
        let one = lowered.depth (Worker w) in
        omega arith);
    floor = λ w known some.
        rw (lowered.terms, lowered.free)
        (let zero = free w (taken wave old w - 1) in
        omega arith);
  };
  balanced = same_balance wave old new hole lowered.places lowered.flow lowered.free
      kept.balanced;
  fair = rw lowered.terms kept.fair;
}
  where
    was : (s : ℕ) (e : End) → place_of new s ≡ Stands e → place_of old s ≡ Stands e
    was s e stands = sym (same_place old new s lowered.places) ∙ stands

pub search_ends : SearchEnds
search_ends wave state far bound hole kept looked = record {
  down = λ v room. (let least = kept.level.down v room in
      elim (cases_lt (far (parent wave.tree v)) bound) [
        | inl near ↦ (looked (parent wave.tree v) near).down v refl room
        | inr past ↦ omega arith
      ]);
  up = λ v some. (let least = kept.level.up v some in
      elim (cases_lt (far v) bound) [
        | inl near ↦ (looked v near).up some
        | inr past ↦ omega arith
      ]);
  over = λ s e x stands is. (let least = kept.cheapest.least s e x stands is in
      elim (cases_lt (far e.node) bound) [
        | inl near ↦ (looked e.node near).over s e x stands refl is
        | inr past ↦ omega arith
      ]);
  out = λ s e stands. (let below = kept.cheapest.below_waiting s e stands in
      elim (cases_lt (far e.node) bound) [
        | inl near ↦ (looked e.node near).out s e stands refl
        | inr past ↦ omega arith
      ]);
  bottom = λ w known some. (let most = kept.level.bottom w known some in
      elim (cases_lt (far (Worker w)) bound) [
        | inl near ↦ (looked (Worker w) near).bottom w known refl some
        | inr past ↦ omega arith
      ]);
}

pub search_back_ends : SearchBackEnds
search_back_ends wave state far bound hole kept looked = record {
  down = λ v room. (let least = kept.level.down v room in
      elim (cases_lt (far v) bound) [
        | inl near ↦ (looked v near).down room
        | inr past ↦ omega arith
      ]);
  up = λ v some. (let least = kept.level.up v some in
      elim (cases_lt (far (parent wave.tree v)) bound) [
        | inl near ↦ (looked (parent wave.tree v) near).up v refl some
        | inr past ↦ omega arith
      ]);
  over = λ s e x stands is. (let least = kept.cheapest.least s e x stands is in
      elim (cases_lt (far x.node) bound) [
        | inl near ↦ (looked x.node near).over s e x stands is refl
        | inr past ↦ omega arith
      ]);
  waits = λ s x waits is. (let least = kept.cheapest.waiting s x waits is in
      elim (cases_lt (far x.node) bound) [
        | inl near ↦ (looked x.node near).waits s x waits is refl
        | inr past ↦ omega arith
      ]);
  low = λ v. elim (cases_lt (far v) bound) [
    | inl near ↦ (looked v near).low
    | inr past ↦ omega arith
  ];
}

pub caps : Caps
caps wave old new hole kept to = record {
  cheapest = record {
    ends = λ s e stands. kept.cheapest.ends s e (was s e stands);
    least = λ s e x stands is.
        (let least = kept.cheapest.least s e x (was s e stands) is in
        let below = kept.cheapest.below_waiting s e (was s e stands) in
        let one = to.depth e.node in
        let two = to.depth x.node in
        omega arith);
    below_waiting = λ s e stands.
        (let below = kept.cheapest.below_waiting s e (was s e stands) in
        let one = to.depth e.node in
        let worth = ap (λ (t : Terms). t.worth) to.terms in
        omega arith);
    waiting = λ s x waits is.
        (let least = kept.cheapest.waiting s x (sym (same_place old new s to.places) ∙ waits) is in
        let one = to.depth x.node in
        let worth = ap (λ (t : Terms). t.worth) to.terms in
        omega arith);
  };
  level = record {
    down = λ v room.
        (let least = kept.level.down v (rw to.flow at room) in
        let one = to.depth v in let two = to.depth (parent wave.tree v) in omega arith);
    up = λ v some.
        (let least = kept.level.up v (rw to.flow at some) in
        let one = to.depth v in let two = to.depth (parent wave.tree v) in omega arith);
    bottom = λ w known some.
        rw (to.terms, to.free)
        (let most = kept.level.bottom w known (rw to.free at some) in
        let one = to.depth (Worker w) in omega arith);
    floor = λ w known some.
        rw (to.terms, to.free)
        (let r = rw to.free at some in
        let least = kept.level.floor w known r in
        let below = kept.fair.capped w (taken wave old w - 1) (omega arith) in
        let one = to.depth (Worker w) in omega arith);
  };
  balanced = same_balance wave old new hole to.places to.flow to.free kept.balanced;
  fair = rw to.terms kept.fair;
}
  where
    was : (s : ℕ) (e : End) → place_of new s ≡ Stands e → place_of old s ≡ Stands e
    was s e stands = sym (same_place old new s to.places) ∙ stands
