-- Tables in which one split has another place.
use Rattle.std.proofs.Common.{◌≡◌, ℕ, ◌<◌, List, length, sym, ap, ◌∙◌, subst, inl, inr, arith, slice_set, cond, ◌+◌}
use Rattle.std.proofs.Common.{get_or-set_same, get_or-set_other}
use Rattle.std.specs.Prelude.{◌≢◌}
use Rattle.std.proofs.lemmas.Bool.{cases_eq}
use Rattle.std.proofs.lemmas.List.{length-set}
use Rattle.wave_problem.specs.Wave.{Wave}
use Rattle.tree_flow.specs.declared.nodes.End.{End}
use Rattle.tree_flow.specs.declared.nodes.Place.{Place}
use Rattle.tree_flow.specs.declared.nodes.Place.TheVariants.{Stands, Waits}
use Rattle.tree_flow.specs.Nodes.{is_under, IsNode}
use Rattle.tree_flow.specs.declared.node_table.NodeTable.{NodeTable}
use Rattle.tree_flow.specs.declared.nodes.TreeNode.{TreeNode}
use Rattle.tree_flow.specs.declared.nodes.TreeNode.TheVariants.{Worker}
use Rattle.tree_flow.specs.Moves.{IsTaken}
use Rattle.tree_flow.specs.State.{place_of, sum_under}
use Rattle.tree_flow.specs.Table.{at_node, IsOver, IsSized}
use Rattle.tree_flow.proofs.Moved.{sum_less}
use Rattle.tree_planner.specs.declared.cursors.Cursors.{Cursors}
use Rattle.tree_planner.specs.declared.tables.Tables.{Tables}
use Rattle.tree_planner.specs.Listing.{AreLists, HasListed}
use Rattle.tree_planner.proofs.Added.{over_sized}
use Rattle.tree_planner.specs.View.{state_of, AreListed, AreOnNodes, AreTables}

module _ (wave : Wave) (old new : Tables) (split : ℕ) (place : Place) (a : AreTables wave old)
    (l : split < length wave.splits) (set : new.places.items ≡ slice_set old.places.items split place) where
  place_here : place_of (state_of new) split ≡ place
  place_here = ap (λ (xs : List Place). place_of (record (state_of new) { places = xs }) split) set
      ∙ get_or-set_same old.places.items split place Waits (let size = a.places in omega arith)

  place_other : (s : ℕ) → s ≢ split → place_of (state_of new) s ≡ place_of (state_of old) s
  place_other s n = ap (λ (xs : List Place). place_of (record (state_of new) { places = xs }) s) set
      ∙ get_or-set_other old.places.items split s place Waits n

  on_nodes : ((e : End) → place ≡ Stands e → IsNode wave.tree e.node) → AreOnNodes wave new
  on_nodes known s e stands = elim (cases_eq s split) [
    | inl is ↦ known e (sym place_here ∙ ap (λ (s : ℕ). place_of (state_of new) s) (sym is) ∙ stands)
    | inr n ↦ a.known s e (sym (place_other s n) ∙ stands)
  ]

  others_listed : (s : ℕ) (e : End) → s ≢ split → place_of (state_of new) s ≡ Stands e
      → HasListed old.standing e.node s
  others_listed s e n stands = a.listed s e (sym (place_other s n) ∙ stands)

  pub none_more : new.standing ≡ old.standing → ((e : End) → place ≡ Stands e → ⊥) → AreListed new
  none_more same off s e stands = elim (cases_eq s split) [
    | inl is ↦ absurd (off e (sym place_here ∙ ap (λ (s : ℕ). place_of (state_of new) s) (sym is) ∙ stands))
    | inr n ↦ subst (λ lists. HasListed lists e.node s) (sym same) (others_listed s e n stands)
  ]

  module _ (rest : new ≡ record old { places = new.places; standing = new.standing }) where
    pub placed_tables : ((e : End) → place ≡ Stands e → IsNode wave.tree e.node)
        → AreLists wave.tree (length wave.splits) new.standing → AreListed new → AreTables wave new
    placed_tables known lists listed = record {
      places = ap length set ∙ length-set old.places.items split place ∙ a.places;
      flow = subst (λ t. IsOver wave.tree t) (sym (ap (λ (t : Tables). t.flow) rest)) a.flow;
      depth = subst (λ t. IsOver wave.tree t) (sym (ap (λ (t : Tables). t.depth) rest)) a.depth;
      free = ap (λ (t : Tables). length t.free.items) rest ∙ a.free;
      below = subst (λ t. IsOver wave.tree t) (sym (ap (λ (t : Tables). t.below) rest)) a.below;
      sums = λ v. ap (λ (t : Tables). at_node t.below v) rest ∙ a.sums v
          ∙ sym (ap (λ (t : Tables). sum_under wave v (state_of t).free) rest);
      lists = lists;
      known = on_nodes known;
      listed = listed;
    }

-- other free slots, as they are counted under the nodes, and other cursors
counted_tables : (wave : Wave) (old mid : Tables) (below : NodeTable ℕ) (cursors : Cursors) → AreTables wave old
    → mid ≡ record old { free = mid.free } → length mid.free.items ≡ length old.free.items
    → IsSized mid.below below → ((v : TreeNode) → at_node below v ≡ sum_under wave v (state_of mid).free)
    → AreTables wave (record mid { below = below; cursors = cursors })
counted_tables wave old mid below cursors a rest size sized sums = record {
  places = ap (λ (t : Tables). length t.places.items) rest ∙ a.places;
  flow = subst (λ t. IsOver wave.tree t) (sym (ap (λ (t : Tables). t.flow) rest)) a.flow;
  depth = subst (λ t. IsOver wave.tree t) (sym (ap (λ (t : Tables). t.depth) rest)) a.depth;
  free = size ∙ a.free;
  below = over_sized wave.tree mid.below below
      (subst (λ t. IsOver wave.tree t) (sym (ap (λ (t : Tables). t.below) rest)) a.below) sized;
  sums = sums;
  lists = subst (λ t. AreLists wave.tree (length wave.splits) t) (sym (ap (λ (t : Tables). t.standing) rest)) a.lists;
  known = λ s e stands. a.known s e (sym (ap (λ (t : Tables). place_of (state_of t) s) rest) ∙ stands);
  listed = λ s e stands. subst (λ t. HasListed t e.node s) (sym (ap (λ (t : Tables). t.standing) rest))
      (a.listed s e (sym (ap (λ (t : Tables). place_of (state_of t) s) rest) ∙ stands));
}

-- one free slot of a worker less, counted on all nodes above it
pub taken_tables : (wave : Wave) (old mid : Tables) (below : NodeTable ℕ) (w : ℕ) → AreTables wave old
    → mid ≡ record old { free = mid.free } → length mid.free.items ≡ length old.free.items
    → IsTaken wave (state_of old) (state_of mid) w → IsSized mid.below below
    → ((v : TreeNode) → at_node mid.below v ≡ at_node below v + cond (is_under wave.tree (Worker w) v) 1 0)
    → AreTables wave (record mid { below = below })
taken_tables wave old mid below w a rest size taken sized less =
    counted_tables wave old mid below mid.cursors a rest size sized (λ v.
    (let same = ap (λ (t : Tables). at_node t.below v) rest in
    let was = a.sums v in
    let fell = less v in
    let sums = sum_less (length wave.workers) w (λ x. is_under wave.tree (Worker x) v) (state_of old).free
    (state_of mid).free taken.known taken.here taken.others in
    omega arith))

-- one free slot of a worker more, counted on all nodes above it
pub given_tables : (wave : Wave) (old mid : Tables) (below : NodeTable ℕ) (cursors : Cursors) (w : ℕ)
    → AreTables wave old
    → mid ≡ record old { free = mid.free } → length mid.free.items ≡ length old.free.items
    → IsTaken wave (state_of mid) (state_of old) w → IsSized mid.below below
    → ((v : TreeNode) → at_node below v ≡ at_node mid.below v + cond (is_under wave.tree (Worker w) v) 1 0)
    → AreTables wave (record mid { below = below; cursors = cursors })
given_tables wave old mid below cursors w a rest size taken sized more =
    counted_tables wave old mid below cursors a rest size sized (λ v.
    (let same = ap (λ (t : Tables). at_node t.below v) rest in
    let was = a.sums v in
    let rose = more v in
    let sums = sum_less (length wave.workers) w (λ x. is_under wave.tree (Worker x) v) (state_of mid).free
    (state_of old).free taken.known taken.here taken.others in
    omega arith))
