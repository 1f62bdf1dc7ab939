-- A state of one wave as a state of another in which some ends are others.
use Rattle.std.proofs.Common.{◌≡◌, ℕ, ◌*◌, ◌<◌, ◌↔◌, cond, length, sym, ap, ◌∙◌, subst, inl, inr, arith}
use Rattle.std.proofs.Common.{refl, slice_index, List, Option, None, Some}
use Rattle.std.specs.Prelude.{◌≢◌, unwrap_or}
use Rattle.std.proofs.lemmas.Bool.{cases_lt}
use Rattle.rack_tree.specs.Tree.{Tree}
use Rattle.wave_problem.specs.Wave.{Wave}
use Rattle.wave_problem.proofs.Bound.{pending_known}
use Rattle.tree_flow.specs.declared.nodes.End.{End}
use Rattle.tree_flow.specs.declared.nodes.Place.TheVariants.{Unshipped}
use Rattle.tree_flow.specs.Nodes.{is_under, AreNodes, IsEnd, IsKnown, IsNode}
use Rattle.tree_flow.specs.Slots.{IsAnother}
use Rattle.tree_flow.specs.State.{place_of, slots_of}
use Rattle.tree_flow.specs.Table.{at_node, IsOver}
use Rattle.tree_flow.specs.declared.nodes.TreeNode.TheVariants.{Worker}
use Rattle.wave_problem.specs.Sums.{sum_below}
use Rattle.tree_planner.specs.Listing.{AreLists}
use Rattle.tree_flow.proofs.Given.{changes}
use Rattle.tree_planner.specs.declared.engine.Fixed.{Fixed}
use Rattle.tree_planner.specs.declared.tables.Tables.{Tables}
use Rattle.tree_planner.specs.Ends.{ends_at, Grouped, HasEnd}
use Rattle.tree_planner.specs.Engine.{IsFixed, IsStanding}
use Rattle.tree_planner.specs.Events.{other_at, AreOtherEnds, ArePut, IsLike, IsOffIfChanged, IsOtherEnds}
use Rattle.tree_planner.specs.Hanging.{AreChildren}
use Rattle.tree_planner.proofs.Fresh.{same_sum}
use Rattle.tree_planner.specs.View.{state_of}

known_like : (wave next : Wave) → IsLike wave next → IsKnown wave → IsKnown next
known_like wave next like known = record {
  lines = like.slots.workers ∙ known.lines ∙ ap (λ (x : Tree). length x.rack_of) (sym like.tree);
  racks = λ w l. subst (λ (x : Tree). slice_index x.rack_of w < length x.centre_of) (sym like.tree)
      (known.racks w (let same = like.slots.workers in omega arith));
  centres = λ r l. subst (λ (x : Tree). slice_index x.centre_of r < x.centres) (sym like.tree)
      (known.centres r (subst (λ (x : Tree). r < length x.centre_of) like.tree l));
}

-- ends that are not others are the same
not_other : (wave next : Wave) (s : ℕ) (e : End) (x : Option Grouped) → IsOtherEnds wave next s x
    → ((xs : Grouped) → x ≡ Some xs → ⊥) → IsEnd next s e ↔ IsEnd wave s e
not_other wave next s e None is none = is e
not_other wave next s e (Some xs) is none = absurd (none xs refl)

-- what is put is the ends of the second wave
put_other : (wave next : Wave) (s : ℕ) (e : End) (x : Option Grouped) (before : Grouped)
    → IsOtherEnds wave next s x → (HasEnd next.tree before e ↔ IsEnd wave s e)
    → HasEnd next.tree (unwrap_or x before) e ↔ IsEnd next s e
put_other wave next s e None before is ends =
    (let both = is e in (λ has. both.1 (ends.0 has), λ end. ends.1 (both.0 end)))
put_other wave next s e (Some xs) before is ends = is e

module _ (wave next : Wave) (others : List (Option Grouped)) (like : IsLike wave next)
    (o : AreOtherEnds wave next others) where
  -- the fixed parts of the second wave
  pub turned_fixed : (fixed new : Fixed) → IsFixed wave fixed → new ≡ record fixed { ends = new.ends }
      → ArePut fixed.ends others new.ends → IsFixed next new
  turned_fixed fixed new f rest put = record {
    known = known_like wave next like f.known;
    small = (let small = f.small in let same = like.same_reward in omega arith);
    few = (let few = f.few in let size = like.bytes.splits in omega arith);
    nodes = subst (λ (x : Tree). AreNodes x new.nodes.items) (sym like.tree)
        (subst (λ (x : Fixed). AreNodes wave.tree x.nodes.items) (sym rest) f.nodes);
    children = subst (λ (x : Tree). AreChildren x new.children) (sym like.tree)
        (subst (λ (x : Fixed). AreChildren wave.tree x.children) (sym rest) f.children);
    ends = record {
      size = put.size ∙ f.ends.size ∙ sym like.bytes.splits;
      each = λ s e l. subst (λ xs. HasEnd next.tree xs e ↔ IsEnd next s e) (sym (put.each s))
          (put_other wave next s e (other_at others s) (ends_at fixed.ends s) (o.each s l)
          (subst (λ (x : Tree). HasEnd x (ends_at fixed.ends s) e ↔ IsEnd wave s e) (sym like.tree)
          (f.ends.each s e (let size = like.bytes.splits in omega arith))));
    };
    worth = ap (λ (x : Fixed). x.reward) rest ∙ f.worth ∙ sym like.same_reward;
    over = subst (λ (x : Tree). IsOver x new.slots) (sym like.tree)
        (subst (λ (x : Fixed). IsOver wave.tree x.slots) (sym rest) f.over);
    slots = λ v. ap (λ (x : Fixed). at_node x.slots v) rest ∙ f.slots v
        ∙ same_sum wave v (slots_of wave) (slots_of next) (λ w. sym (like.slots.slots w))
        ∙ ap (λ (x : Tree). sum_below (length wave.workers)
        (λ w. cond (is_under x (Worker w) v) (slots_of next w) 0)) (sym like.tree)
        ∙ ap (λ n. sum_below n (λ w. cond (is_under next.tree (Worker w) v) (slots_of next w) 0))
        (sym like.slots.workers);
  }

module _ (wave next : Wave) (t : Tables) (others : List (Option Grouped)) (like : IsLike wave next)
    (o : AreOtherEnds wave next others)
    (gone : (s : ℕ) → s < length wave.splits → IsOffIfChanged (state_of t) others s) where
  -- a split that is shipped has the same ends
  ends : (s : ℕ) → place_of (state_of t) s ≢ Unshipped → (e : End) → IsEnd next s e ↔ IsEnd wave s e
  ends s shipped e = elim (cases_lt s (length wave.splits)) [
    | inl known ↦
        (let size = like.bytes.splits in
        not_other wave next s e (other_at others s) (o.each s (omega arith))
        (λ xs is. shipped (gone s known xs is)))
    | inr past ↦
        (let size = like.bytes.splits in (
          λ is. absurd (let known = pending_known next s is.pending in omega arith),
          λ is. absurd (let known = pending_known wave s is.pending in omega arith),
        ))
  ]

  another : IsAnother wave next (state_of t)
  another = record {
    tree = like.tree;
    size = like.bytes.splits;
    workers = like.slots.workers;
    slots = like.slots.slots;
    others = λ s shipped. (
      λ e. ap (λ (b : ℕ). b * (2 * e.level))
          (like.bytes.bytes s),
      λ e. ends s shipped e,
    );
  }

  pub turned_standing : IsStanding wave t → IsStanding next t
  turned_standing s = record {
    plain = s.plain;
    worth = s.worth ∙ sym like.same_reward;
    tables = record {
      places = s.tables.places ∙ sym like.bytes.splits;
      flow = subst (λ (x : Tree). IsOver x t.flow) (sym like.tree) s.tables.flow;
      depth = subst (λ (x : Tree). IsOver x t.depth) (sym like.tree) s.tables.depth;
      free = s.tables.free ∙ sym like.slots.workers;
      below = subst (λ (x : Tree). IsOver x t.below) (sym like.tree) s.tables.below;
      sums = λ v. s.tables.sums v ∙ ap (λ (x : Tree). sum_below (length wave.workers)
          (λ w. cond (is_under x (Worker w) v) ((state_of t).free w) 0)) (sym like.tree)
          ∙ ap (λ n. sum_below n (λ w. cond (is_under next.tree (Worker w) v) ((state_of t).free w) 0))
          (sym like.slots.workers);
      lists = subst (λ n. AreLists next.tree n t.standing) (sym like.bytes.splits)
          (subst (λ (x : Tree). AreLists x (length wave.splits) t.standing) (sym like.tree) s.tables.lists);
      known = λ u e stands. subst (λ (x : Tree). IsNode x e.node) (sym like.tree) (s.tables.known u e stands);
      listed = s.tables.listed;
    };
    low = λ v. (let low = s.low v in let same = like.same_reward in omega arith);
    kept = changes wave next (state_of t) s.kept another;
  }
