-- What no end of a split elsewhere costs less than.
use Rattle.std.proofs.Common.{◌≡◌, ℕ, zero, suc, true, ◌+◌, ◌*◌, ◌≤◌, ◌⊎◌, refl, sym, ap, subst, inl, inr, arith}
use Rattle.std.proofs.lemmas.Bool.{false≢true}
use Rattle.std.proofs.Math.Nat.{mul-le-mul_left}
use Rattle.rack_tree.specs.Tree.{Tree}
use Rattle.wave_problem.specs.Wave.{Wave, split_at}
use Rattle.tree_flow.specs.declared.nodes.End.{End}
use Rattle.tree_flow.specs.declared.nodes.TreeNode.{TreeNode}
use Rattle.tree_flow.specs.declared.nodes.TreeNode.TheVariants.{Rack}
use Rattle.tree_flow.specs.Nodes.{is_under, node_above, IsEnd}
use Rattle.tree_flow.specs.State.{State, reach_cost}
use Rattle.tree_planner.specs.declared.lows.Low.{Low}
use Rattle.tree_planner.specs.declared.lows.Lows.{Lows}
use Rattle.tree_planner.specs.declared.search.Ground.{Ground}
use Rattle.tree_planner.specs.declared.search.Search.{Search}
use Rattle.tree_planner.specs.Lows.{low_at, no_low, AreLow, IsLow}
use Rattle.tree_planner.specs.Searching.{state_at, wave_of, Improves, IsSearching}
use Rattle.tree_planner.proofs.Improved.{turned_improves, turned_kept}

-- lows that say nothing
pub none_low : (wave : Wave) (state : State) (lows : Lows) → ((s : ℕ) → low_at lows s ≡ no_low)
    → AreLow wave state lows
none_low wave state lows none s = subst (λ low. IsLow wave state s low) (sym (none s)) (record {
  least = λ x is other. omega arith;
  most = omega arith;
})

-- lows hold on where nodes lie deeper
pub deeper_low : (wave : Wave) (old new : State) (lows : Lows) → ((v : TreeNode) → old.depth v ≤ new.depth v)
    → AreLow wave old lows → AreLow wave new lows
deeper_low wave old new lows deeper low s = record {
  least = λ x is other.
      (let before = (low s).least x is other in let deep = deeper x.node in omega arith);
  most = (low s).most;
}

-- a split has another low
module _ (old : Search) (lows : Lows) (split : ℕ) (low : Low)
    (put : (s : ℕ) → (low_at lows s ≡ low_at old.lows s) ⊎ ((s ≡ split) × (low_at lows s ≡ low))) where
  pub noted_improves : Improves old (record old { lows = lows })
  noted_improves = turned_improves old old.bound old.goal old.covers lows old.reached (omega arith)

  pub noted_kept : (g : Ground) → IsSearching g old → IsLow (wave_of g) (state_at g) split low
      → IsSearching g (record old { lows = lows })
  noted_kept g s is = turned_kept old old.bound old.goal old.covers lows old.reached (omega arith) g s
      (record { workers = refl; racks = refl; centres = refl }) refl s.floors s.goal s.covered (λ t. elim (put t) [
        | inl same ↦ subst (λ low. IsLow (wave_of g) (state_at g) t low) (sym same) (s.low t)
        | inr here ↦ subst (λ low. IsLow (wave_of g) (state_at g) t low) (sym here.1)
            (subst (λ t. IsLow (wave_of g) (state_at g) t low) (sym here.0) is)
      ])

-- no rack is at a worker
above_worker : (tree : Tree) (r level h : ℕ) → is_under tree (Rack r) (node_above tree level h) ≡ true → 1 ≤ level
above_worker tree r zero h under = absurd (false≢true under)
above_worker tree r (suc level) h under = omega arith

-- so an end at a rack costs no less than one of the level above workers
pub rack_least : (wave : Wave) (state : State) (s r : ℕ) (x : End) → IsEnd wave s x → x.node ≡ Rack r
    → (split_at wave s).bytes * (2 * 1) + state.depth (Rack r) ≤ reach_cost wave state s x
rack_least wave state s r x is at =
    let high = above_worker wave.tree r x.level is.holder
    (subst (λ v. is_under wave.tree v (node_above wave.tree x.level is.holder) ≡ true) at is.near) in
    let steps : 2 * 1 ≤ 2 * x.level = omega arith in
    let scaled = mul-le-mul_left (split_at wave s).bytes steps in
    let deep = ap state.depth at in
    omega arith
