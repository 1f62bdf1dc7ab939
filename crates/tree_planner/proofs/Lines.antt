-- A worker's line with another number of slots.
use Rattle.std.proofs.Common.{◌≡◌, ℕ, zero, suc, ◌+◌, ◌<◌, ◌≤◌, ◌↔◌, true, false, cond, List, [], ◌∷◌}
use Rattle.std.proofs.Common.{length, Contains, Some, refl, sym, ap, ◌∙◌, subst}
use Rattle.std.proofs.Common.{get_or-set_same, get_or-set_other, inl, inr, arith}
use Rattle.std.specs.Prelude.{◌≢◌, slice_set}
use Rattle.std.proofs.lemmas.Bool.{cases_eq}
use Rattle.std.proofs.lemmas.List.{length-set}
use Rattle.wave_problem.specs.declared.lines.WorkerLine.{WorkerLine}
use Rattle.wave_problem.specs.Wave.{live_among, live_holders, split_at, worker_at, worker_in, Wave}
use Rattle.tree_flow.specs.declared.nodes.End.{End}
use Rattle.tree_flow.specs.declared.nodes.TreeNode.{TreeNode}
use Rattle.tree_flow.specs.declared.nodes.TreeNode.TheVariants.{Cluster, Worker}
use Rattle.rack_tree.specs.Tree.{Tree}
use Rattle.tree_flow.specs.declared.node_table.NodeTable.{NodeTable}
use Rattle.tree_flow.specs.Nodes.{is_under, node_above, parent, HasBarUnder, IsEnd, IsKnown}
use Rattle.tree_flow.specs.Table.{at_node, IsOver, IsSized}
use Rattle.tree_flow.proofs.Certified.{which_above}
use Rattle.tree_flow.proofs.Given.{adds_slot}
use Rattle.tree_planner.specs.declared.engine.Fixed.{Fixed}
use Rattle.tree_planner.specs.declared.tables.Tables.{Tables}
use Rattle.tree_planner.specs.Engine.{IsFixed, IsStanding, IsStandingBut}
use Rattle.tree_planner.specs.Events.{slot_more}
use Rattle.tree_planner.specs.View.{state_of, AreTables}
use Rattle.tree_planner.proofs.Added.{over_sized}
use Rattle.tree_flow.proofs.Moved.{sum_less}
use Rattle.tree_flow.specs.Slots.{with_workers, HasSlotMore}
use Rattle.wave_problem.specs.Sums.{sum_below}
use Rattle.tree_flow.specs.State.{slots_of, sum_under}

-- the same workers live
same_live : (old new : List WorkerLine) → ((w : ℕ) → (worker_in new w).live ≡ (worker_in old w).live)
    → (xs : List ℕ)
    → live_among new xs ≡ live_among old xs
same_live old new same [] = refl
same_live old new same (x ∷ xs) =
    ap (λ b. cond b (x ∷ live_among new xs) (live_among new xs)) (same x)
    ∙ ap (λ ys. cond (worker_in old x).live (x ∷ ys) ys) (same_live old new same xs)

-- an end of s stays one where as many workers live as before
module _ (wave : Wave) (workers : List WorkerLine) (size : length workers ≡ length wave.workers)
    (live : (w : ℕ) → (worker_in workers w).live ≡ (worker_in wave.workers w).live) where
  abbrev other : Wave
  other = with_workers wave workers

  bars : (s : ℕ) (v : TreeNode) → HasBarUnder other s v ↔ HasBarUnder wave s v
  bars s v = (
    λ b. (b.0, (let l = b.1 in omega arith), b.2, b.3),
    λ b. (b.0, (let l = b.1 in omega arith), b.2, b.3),
  )

  same_holders : (s : ℕ) → live_holders other s ≡ live_holders wave s
  same_holders s = same_live wave.workers workers live (split_at wave s).holders

  pub ends_same : (s : ℕ) (e : End) → IsEnd other s e ↔ IsEnd wave s e
  ends_same s e = (
    λ is. record {
      pending = is.pending;
      known = is.known;
      level = is.level;
      holder = is.holder;
      held = subst (λ xs. Contains xs is.holder) (same_holders s) is.held;
      near = is.near;
      no_bar = λ b. is.no_bar ((bars s e.node).1 b);
      largest = elim is.largest [ inl top ↦ inl top | inr b ↦ inr ((bars s _).0 b) ];
    },
    λ is. record {
      pending = is.pending;
      known = is.known;
      level = is.level;
      holder = is.holder;
      held = subst (λ xs. Contains xs is.holder) (sym (same_holders s)) is.held;
      near = is.near;
      no_bar = λ b. is.no_bar ((bars s e.node).0 b);
      largest = elim is.largest [ inl top ↦ inl top | inr b ↦ inr ((bars s _).1 b) ];
    },
  )

-- a worker's line was set, and lives as it did
module _ (wave : Wave) (w free : ℕ) (known : w < length wave.workers) where
  abbrev line : WorkerLine
  line = record { live = (worker_at wave w).live; free = free }

  abbrev pub set_line : List WorkerLine
  set_line = slice_set wave.workers w line

  pub set_here : worker_in set_line w ≡ line
  set_here = get_or-set_same wave.workers w line (record { live = false; free = 0 }) known

  pub set_other : (x : ℕ) → x ≢ w → worker_in set_line x ≡ worker_in wave.workers x
  set_other x n = get_or-set_other wave.workers w x line (record { live = false; free = 0 }) n

  pub set_size : length set_line ≡ length wave.workers
  set_size = length-set wave.workers w line

  pub set_live : (x : ℕ) → (worker_in set_line x).live ≡ (worker_in wave.workers x).live
  set_live x = elim (cases_eq x w) [
    | inl e ↦ ap (λ (x : ℕ). (worker_in set_line x).live) e ∙ ap (λ (l : WorkerLine). l.live) set_here
        ∙ ap (λ (x : ℕ). (worker_in wave.workers x).live) (sym e)
    | inr n ↦ ap (λ (l : WorkerLine). l.live) (set_other x n)
  ]

  pub set_ends : (s : ℕ) (e : End) → IsEnd (with_workers wave set_line) s e ↔ IsEnd wave s e
  set_ends = ends_same wave set_line set_size set_live

  -- with one slot more
  module _ (live : (worker_at wave w).live ≡ true) where
    slots_before : slots_of wave w ≡ (worker_at wave w).free
    slots_before = ap (λ b. cond {A = ℕ} b (worker_at wave w).free 0) live

    slots_after : slots_of (with_workers wave set_line) w ≡ free
    slots_after = ap (λ (l : WorkerLine). cond {A = ℕ} l.live l.free 0) set_here
        ∙ ap (λ b. cond {A = ℕ} b free 0) live

    slots_else : (x : ℕ) → x ≢ w → slots_of (with_workers wave set_line) x ≡ slots_of wave x
    slots_else x n = ap (λ (l : WorkerLine). cond {A = ℕ} l.live l.free 0) (set_other x n)

    pub set_more : free ≡ (worker_at wave w).free + 1 → HasSlotMore wave set_line w
    set_more more = record {
      known = known;
      size = set_size;
      ends = set_ends;
      here = omega (arith, slots_before, slots_after, more);
      others = λ x n. sym (slots_else x n);
    }

    -- or one slot less
    pub set_less : free + 1 ≡ (worker_at wave w).free → HasSlotMore
        (with_workers wave set_line) wave.workers w
    set_less less = record {
      known = (let size = set_size in omega arith);
      size = sym set_size;
      ends = λ s e. (let same = set_ends s e in (same.1, same.0));
      here = omega (arith, slots_before, slots_after, less);
      others = λ x n. slots_else x n;
    }

-- so many slots more are under the nodes above it
pub more_under : (wave : Wave) (workers : List WorkerLine) (w : ℕ) → HasSlotMore wave workers w
    → (v : TreeNode)
    → sum_under wave v (slots_of wave) + cond (is_under wave.tree (Worker w) v) 1 0
    ≡ sum_under (with_workers wave workers) v (slots_of (with_workers wave workers))
more_under wave workers w more v = sum_less (length wave.workers) w (λ x. is_under wave.tree (Worker x) v)
    (slots_of (with_workers wave workers)) (slots_of wave) more.known more.here more.others
    ∙ ap (λ n. sum_below n (λ x. cond (is_under wave.tree (Worker x) v)
    (slots_of (with_workers wave workers) x) 0)) (sym more.size)

pub known_with : (wave : Wave) (workers : List WorkerLine) → length workers ≡ length wave.workers
    → IsKnown wave
    → IsKnown (with_workers wave workers)
known_with wave workers size known = record {
  lines = size ∙ known.lines;
  racks = λ w l. known.racks w (omega arith);
  centres = known.centres;
}

-- what was read of a wave, and the tables of its state, with other lines of workers
pub tables_with : (wave : Wave) (workers : List WorkerLine) (t : Tables)
    → length workers ≡ length wave.workers
    → AreTables wave t → AreTables (with_workers wave workers) t
tables_with wave workers t size tables = record {
  places = tables.places;
  flow = tables.flow;
  depth = tables.depth;
  free = tables.free ∙ sym size;
  below = tables.below;
  sums = λ v. tables.sums v
      ∙ ap (λ n. sum_below n (λ x. cond (is_under wave.tree (Worker x) v) ((state_of t).free x) 0)) (sym size);
  lists = tables.lists;
  known = tables.known;
  listed = tables.listed;
}

pub fixed_with : (wave : Wave) (workers : List WorkerLine) (fixed : Fixed) (slots : NodeTable ℕ)
    → length workers ≡ length wave.workers
    → ((s : ℕ) (e : End) → IsEnd (with_workers wave workers) s e ↔ IsEnd wave s e)
    → IsFixed wave fixed → IsOver wave.tree slots
    → ((v : TreeNode) → at_node slots v
    ≡ sum_under (with_workers wave workers) v (slots_of (with_workers wave workers)))
    → IsFixed (with_workers wave workers) (record fixed { slots = slots })
fixed_with wave workers fixed slots size ends f over sums = record {
  known = known_with wave workers size f.known;
  small = f.small;
  few = f.few;
  nodes = f.nodes;
  children = f.children;
  worth = f.worth;
  ends = record {
    size = f.ends.size;
    each = λ s e l.
        (let was = f.ends.each s e l in
        let is = ends s e in
        (λ has. is.1 (was.0 has), λ end. was.1 (is.0 end)));
  };
  over = over;
  slots = sums;
}

-- a slot more of a worker is a hole there, where no node above it lies higher than its parent
pub added_standing : (wave : Wave) (t : Tables) (w : ℕ) → w < length wave.workers
    → (worker_at wave w).live ≡ true
    → IsStanding wave t
    → ((u : TreeNode) → is_under wave.tree (Worker w) u ≡ true
    → at_node t.depth (parent wave.tree u) ≤ at_node t.depth u)
    → IsStandingBut (slot_more wave w) t (Some (Worker w))
added_standing wave t w known live s above = record {
  plain = s.plain;
  worth = s.worth;
  tables = tables_with wave (set_line wave w ((worker_at wave w).free + 1) known) t
      (set_size wave w ((worker_at wave w).free + 1) known) s.tables;
  low = s.low;
  kept = adds_slot wave (set_line wave w ((worker_at wave w).free + 1) known) (state_of t) w s.plain s.kept
      (set_more wave w ((worker_at wave w).free + 1) known live refl) above;
}

pub added_fixed : (wave : Wave) (fixed : Fixed) (slots : NodeTable ℕ) (w : ℕ) → w < length wave.workers
    → (worker_at wave w).live ≡ true → IsFixed wave fixed → IsSized fixed.slots slots
    → ((v : TreeNode) → at_node slots v ≡ at_node fixed.slots v + cond (is_under wave.tree (Worker w) v) 1 0)
    → IsFixed (slot_more wave w) (record fixed { slots = slots })
added_fixed wave fixed slots w known live f size sums =
    let free : ℕ = (worker_at wave w).free + 1 in
    fixed_with wave (set_line wave w free known) fixed slots (set_size wave w free known)
    (set_ends wave w free known) f
    (over_sized wave.tree fixed.slots slots f.over size)
    (λ v.
    (let sum = sums v in
    let before = f.slots v in
    let more = more_under wave (set_line wave w free known) w (set_more wave w free known live refl) v in
    omega arith))

-- nodes deepened from the top down
pub above_level : (tree : Tree) (w : ℕ) (one two three : TreeNode → ℕ)
    → one Cluster ≤ one (node_above tree 2 w)
    → two (node_above tree 2 w) ≤ two (node_above tree 1 w)
    → ((v : TreeNode) → v ≢ node_above tree 1 w → two v ≡ one v)
    → three (node_above tree 1 w) ≤ three (node_above tree 0 w)
    → ((v : TreeNode) → v ≢ node_above tree 0 w → three v ≡ two v)
    → (u : TreeNode) → is_under tree (Worker w) u ≡ true → three (parent tree u) ≤ three u
above_level tree w one two three first second others third else u under =
    let at = which_above tree w u under in
    subst (λ u. three (parent tree u) ≤ three u) (sym at.2) (level at.0)
  where
    level : (i : ℕ) → three (parent tree (node_above tree i w)) ≤ three (node_above tree i w)
    level zero = third
    level (suc zero) =
        omega (arith, second, else (node_above tree 1 w) (λ e. cc), else (node_above tree 2 w) (λ e. cc))
    level (suc (suc zero)) =
        omega (
          arith,
          first,
          others (node_above tree 2 w) (λ e. cc),
          others Cluster (λ e. cc),
          else (node_above tree 2 w) (λ e. cc),
          else Cluster (λ e. cc),
        )
    level (suc (suc (suc i))) = omega arith
