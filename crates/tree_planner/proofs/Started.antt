-- A split that has started is gone, with its unit and a slot.
use Rattle.std.proofs.Common.{◌≡◌, ℕ, ◌+◌, ◌-◌, ◌<◌, None, Some, cond, length, ap, refl, sym, ◌∙◌, subst}
use Rattle.std.proofs.Common.{arith}
use Rattle.std.specs.Prelude.{◌≢◌}
use Rattle.wave_problem.specs.Wave.{worker_at, IsUsable, Wave}
use Rattle.tree_flow.specs.declared.node_table.NodeTable.{NodeTable}
use Rattle.tree_flow.specs.declared.nodes.End.{End}
use Rattle.tree_flow.specs.declared.nodes.Place.{Place}
use Rattle.tree_flow.specs.declared.nodes.Place.TheVariants.{Stands, Unshipped, Waits}
use Rattle.tree_flow.specs.declared.nodes.TreeNode.{TreeNode}
use Rattle.tree_flow.specs.declared.nodes.TreeNode.TheVariants.{Worker}
use Rattle.tree_flow.specs.Moves.{IsPlaced, IsTaken}
use Rattle.tree_flow.specs.Nodes.{is_under, IsEnd}
use Rattle.tree_flow.specs.Slots.{HasSlotMore}
use Rattle.tree_flow.specs.State.{place_of, stands_under, taken, AreFair}
use Rattle.tree_flow.specs.Table.{at_node, IsSized}
use Rattle.tree_flow.proofs.Given.{removes_slot, takes_off}
use Rattle.tree_flow.proofs.Moved.{lets_wait, one, placed_balance, placed_cheapest, placed_level}
use Rattle.tree_flow.proofs.Moved.{takes_slot, under_own}
use Rattle.tree_flow.proofs.Under.{slots_under}
use Rattle.tree_planner.specs.declared.engine.Fixed.{Fixed}
use Rattle.tree_planner.specs.declared.tables.Tables.{Tables}
use Rattle.tree_planner.specs.Engine.{IsFixed, IsStanding, IsStandingBut}
use Rattle.tree_planner.specs.Events.{slot_less}
use Rattle.tree_planner.specs.View.{state_of, AreTables}
use Rattle.tree_planner.specs.Listing.{AreLists}
use Rattle.tree_planner.proofs.Added.{over_sized}
use Rattle.tree_planner.proofs.Standing.{stands_as_deep}
use Rattle.tree_planner.proofs.Placed.{none_more, placed_tables}
use Rattle.tree_planner.proofs.Lines.{fixed_with, more_under, set_ends, set_less, set_line, set_size}
use Rattle.tree_planner.proofs.Lines.{tables_with}

-- a split that is taken off leaves a hole
pub off_standing : (wave : Wave) (old new : Tables) (s : ℕ) (e : End) → IsStanding wave old
    → place_of (state_of old) s ≡ Stands e → AreTables wave new
    → IsPlaced (state_of old) (state_of new) s Unshipped
    → IsStandingBut wave new (Some e.node)
off_standing wave old new s e standing stands tables set =
    stands_as_deep wave old new None (Some e.node) standing set.terms set.depth tables
    (takes_off wave (state_of old) (state_of new) s e standing.kept stands set)

-- one without ends may wait
pub waiting_standing : (wave : Wave) (old new : Tables) (s : ℕ) → IsStanding wave old
    → place_of (state_of old) s ≡ Unshipped → ((e : End) → IsEnd wave s e → ⊥) → AreTables wave new
    → IsPlaced (state_of old) (state_of new) s Waits → IsStanding wave new
waiting_standing wave old new s standing unshipped none tables set =
    stands_as_deep wave old new None None standing set.terms set.depth tables
    (lets_wait wave (state_of old) (state_of new) s standing.kept unshipped (λ e is. absurd (none e is)) set)

module _ (wave : Wave) (t : Tables) (w : ℕ) (known : w < length wave.workers)
    (s : IsStandingBut wave t (Some (Worker w))) where
  -- at a hole the worker lives and has a slot
  pub usable : IsUsable wave.workers w
  usable = slots_under wave w
      (let each = s.kept.balanced.each (Worker w) in
      let here = ap one (under_own wave.tree (Worker w)) in
      omega arith)

  abbrev free : ℕ
  free = (worker_at wave w).free - 1

  pub less : HasSlotMore (slot_less wave w) wave.workers w
  less = set_less wave w free known usable.0 (let some = usable.1 in omega arith)

  pub removed_standing : IsStanding (slot_less wave w) t
  removed_standing = record {
    plain = s.plain;
    worth = s.worth;
    tables = tables_with wave (set_line wave w free known) t (set_size wave w free known) s.tables;
    low = s.low;
    kept = removes_slot (slot_less wave w) wave.workers (state_of t) w s.plain s.kept less;
  }

  pub removed_fixed : (fixed : Fixed) (slots : NodeTable ℕ) → IsFixed wave fixed → IsSized fixed.slots slots
      → ((v : TreeNode) → at_node fixed.slots v ≡ at_node slots v + cond (is_under wave.tree
      (Worker w) v) 1 0)
      → IsFixed (slot_less wave w) (record fixed { slots = slots })
  removed_fixed fixed slots f size sums =
      fixed_with wave (set_line wave w free known) fixed slots (set_size wave w free known)
      (set_ends wave w free known) f
      (over_sized wave.tree fixed.slots slots f.over size)
      (λ v.
      (let sum = sums v in
      let before = f.slots v in
      let more = more_under (slot_less wave w) wave.workers w less v in
      omega arith))

-- tables in which a split does not stand any more
pub tables_placed : (wave : Wave) (old new : Tables) (s : ℕ) (place : Place) → s < length wave.splits
    → new ≡ record old { places = new.places } → IsPlaced (state_of old) (state_of new) s place
    → ((e : End) → place ≢ Stands e) → AreTables wave old → AreTables wave new
tables_placed wave old new s place known rest set off a =
    let lists = ap (λ (t : Tables). t.standing) rest in
    placed_tables wave old new s place a known set.places
    (rest ∙ ap (λ x. record old { places = new.places; standing = x }) (sym lists))
    (λ e is. absurd (off e is)) (subst (λ x. AreLists wave.tree (length wave.splits) x) (sym lists) a.lists)
    (none_more wave old new s place a known set.places lists off)

-- a split that does not stand may be taken off
pub laid_off : (wave : Wave) (old new : Tables) (s : ℕ) → IsStanding wave old
    → ((e : End) → place_of (state_of old) s ≢ Stands e) → AreTables wave new
    → IsPlaced (state_of old) (state_of new) s Unshipped → IsStanding wave new
laid_off wave old new s standing idle tables set =
    stands_as_deep wave old new None None standing set.terms set.depth tables (record {
      cheapest = placed_cheapest wave (state_of old) (state_of new) s Unshipped set standing.kept.cheapest
          (record {
            own_end = λ y same. cc;
            own_wait = λ same. cc;
          });
      level = placed_level wave (state_of old) (state_of new) s Unshipped set standing.kept.level;
      balanced = placed_balance wave (state_of old) (state_of new) s Unshipped set None None
          standing.kept.balanced
          (λ v. no_place wave v (place_of (state_of old) s) idle);
      fair = subst (λ terms. AreFair wave terms) (sym set.terms) standing.kept.fair;
    })
  where
    no_place : (wave : Wave) (v : TreeNode) (p : Place) → ((e : End) → p ≢ Stands e)
        → one (stands_under wave.tree v p) + 0 ≡ 0 + 0
    no_place wave v (Stands e) idle = absurd (idle e refl)
    no_place wave v Waits idle = refl
    no_place wave v Unshipped idle = refl

-- a free slot that is taken leaves a hole
pub taken_standing : (wave : Wave) (old new : Tables) (w : ℕ) → IsStanding wave old → AreTables wave new
    → IsTaken wave (state_of old) (state_of new) w → IsStandingBut wave new (Some (Worker w))
taken_standing wave old new w standing tables set =
    stands_as_deep wave old new None (Some (Worker w)) standing set.terms set.depth tables
    (takes_slot wave (state_of old) (state_of new) w standing.kept set
    (let free = standing.plain w (taken wave (state_of old) w) in omega arith))
