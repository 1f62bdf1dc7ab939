-- Ends in groups, in a search.
use Rattle.std.proofs.Common.{◌≡◌, refl, ℕ, ◌+◌, ◌*◌, ◌<◌, ◌≤◌, inl, inr, List, length, get_or, Contains, subst, sym, ap, ◌∙◌, arith}
use Rattle.std.proofs.lemmas.List.Elements.{Contains-get_or}
use Rattle.wave_problem.specs.Wave.{split_at, Wave}
use Rattle.tree_flow.specs.declared.nodes.End.{End}
use Rattle.tree_flow.specs.Nodes.{is_under, IsEnd, IsNode}
use Rattle.tree_flow.specs.Table.{HasNode}
use Rattle.tree_flow.specs.declared.node_table.NodeTable.{NodeTable}
use Rattle.rack_tree.specs.Tree.{Tree}
use Rattle.tree_planner.specs.Hanging.{HangsFrom}
use Rattle.tree_planner.specs.declared.search.Ground.{Ground}
use Rattle.tree_planner.specs.declared.split_ends.Group.{Group}
use Rattle.tree_planner.specs.declared.split_ends.Group.TheVariants.{Below}
use Rattle.tree_planner.specs.Ends.{ends_at, AreEnds, Grouped, HasEnd, IsBarred, IsLeft, IsOf}
use Rattle.tree_planner.specs.Searching.{state_at, wave_of, AreOf, Improves, IsCovered, IsGround, IsLeaving, IsOut, IsOverTo, IsSearching}
use Rattle.tree_planner.specs.Searching.{far_at, worth_at, IsOutBy, IsStartedAt}
use Rattle.tree_planner.specs.Choosing.{IsLeast}
use Rattle.tree_planner.specs.Covers.{IsInner, IsOverInner}
use Rattle.tree_flow.specs.State.{reach_cost}
use Rattle.tree_planner.specs.declared.covers.Cover.{Cover}
use Rattle.tree_flow.specs.declared.nodes.TreeNode.TheVariants.{Worker, Rack, Centre, Cluster}
use Rattle.std.proofs.lemmas.Bool.{cases_lt}
use Rattle.std.specs.Prelude.{min, true}
use Rattle.tree_planner.specs.declared.over.Leaving.{Leaving}
use Rattle.tree_planner.specs.declared.search.Search.{Search}
use Rattle.tree_planner.proofs.Grouped.{first}
use Rattle.tree_planner.proofs.Improved.{at_kept, improves_trans}
use borrow.Author.Count.{below_more}
use Rattle.tree_flow.specs.declared.nodes.TreeNode.{TreeNode}

-- what is of one of its groups is an end of the split
pub of_group : (wave : Wave) (all : List Grouped) → AreEnds wave all → (s : ℕ) → s < length wave.splits
    → (ends : Grouped) → ends ≡ ends_at all s → (groups : List Group) → groups ≡ ends.groups
    → (k : ℕ) → k < length groups → (x : End)
    → IsOf wave.tree (IsBarred wave.tree ends.barred) (get_or groups k first) x → IsEnd wave s x
of_group wave all are s known ends is groups same k l x of =
    (are.each s x known).0 (subst (λ ends. HasEnd wave.tree ends x) is (record {
      group = get_or groups k first;
      here = subst (λ gs. Contains gs (get_or groups k first)) same (Contains-get_or groups k first l);
      is_of = of;
    }))

pub group_ends : (g : Ground) → IsGround g → (s : ℕ) → s < length (wave_of g).splits
    → (ends : Grouped) → ends ≡ ends_at g.ends.now s → (groups : List Group) → groups ≡ ends.groups
    → (k : ℕ) → k < length groups → (x : End)
    → IsOf (wave_of g).tree (IsOutBy g ends) (get_or groups k first) x → IsEnd (wave_of g) s x
group_ends g ground = of_group (wave_of g) g.ends.now ground.ends

module _ (g : Ground) (old new : Search) (i : Improves old new) (m : Leaving) (l : IsLeaving g old m) where
  -- a split goes on to leave its end, and its steps stay taken
  pub leaving_kept : IsLeaving g new m
  leaving_kept = record {
    known = l.known;
    at = at_kept old new i m.end.node l.at;
    far = l.far ∙ sym (i.nearer.settled m.end.node l.at.settled);
    stands = l.stands;
    spent = l.spent;
  }

  pub to_kept : (x : End) → IsOverTo g old m.end m.split x → IsOverTo g new m.end m.split x
  to_kept x before =
      (let same = i.nearer.settled m.end.node l.at.settled in
      let bound = i.nearer.bound in
      let far = i.nearer.far x.node in
      omega arith)

-- a node is an end of the split, if it is not left out
pub left_end : (g : Ground) (s : ℕ) (Out : TreeNode → Type 0) (u : TreeNode) (level : ℕ) → AreOf g s Out (Below u level)
    → (v : TreeNode) → IsLeft (wave_of g).tree Out u v → IsEnd (wave_of g) s (record { node = v; level = level })
left_end g s Out u level all v left = all (record { node = v; level = level }) (left, refl)

pub least_kept : (g : Ground) (old new : Search) → Improves old new
    → IsLeast (wave_of g) (state_at g) old.split old.least → IsLeast (wave_of g) (state_at g) new.split new.least
least_kept g old new i is = record {
  most = (let most = is.most in let same = i.nearer.least in omega arith);
  ends = λ x end.
      (let same = ap (λ s. reach_cost (wave_of g) (state_at g) s x) i.nearer.split in
      let least = i.nearer.least in
      let before = is.ends x (subst (λ s. IsEnd (wave_of g) s x) i.nearer.split end) in
      omega arith);
}

-- the tree has a node from which another hangs, and it is no worker
pub inner_above : (g : Ground) → IsGround g → (u v : TreeNode) → HangsFrom (wave_of g).tree u v
    → IsInner (wave_of g).tree u
inner_above g ground u (Worker w) hangs = subst (λ u. IsInner (wave_of g).tree u) hangs.above
    (ground.known.racks w (let lines = ground.known.lines in let known = hangs.known in omega arith))
inner_above g ground u (Rack r) hangs = subst (λ u. IsInner (wave_of g).tree u) hangs.above
    (ground.known.centres r hangs.known)
inner_above g ground u (Centre c) hangs = subst (λ u. IsInner (wave_of g).tree u) hangs.above tt
inner_above g ground u Cluster hangs = absurd (hangs.below refl)

pub inner_known : (tree : Tree) (u : TreeNode) → IsInner tree u → IsNode tree u
inner_known tree (Worker w) inner = absurd inner
inner_known tree (Rack r) inner = inner
inner_known tree (Centre c) inner = inner
inner_known tree Cluster inner = tt

-- covers have such a node
pub inner_entry : (tree : Tree) (covers : NodeTable Cover) (u : TreeNode) → IsOverInner tree covers → IsInner tree u
    → HasNode covers u
inner_entry tree covers (Worker w) over inner = absurd inner
inner_entry tree covers (Rack r) over inner = (let size = over.racks in omega arith)
inner_entry tree covers (Centre c) over inner = (let size = over.centres in omega arith)
inner_entry tree covers Cluster over inner = tt

-- what an earlier cover does not tell is left out by its split
pub rest_over : (g : Ground) (search : Search) (m : Leaving) (Out : TreeNode → Type 0) (u : TreeNode) (level : ℕ)
    → IsLeaving g search m → (cover : Cover) → IsCovered g search cover u
    → cover.offset + m.spent ≤ m.far + (split_at (wave_of g) m.split).bytes * (2 * level) + worth_at g
    → ((v : TreeNode) → IsOut g cover.split v → IsLeft (wave_of g).tree Out u v
    → IsOverTo g search m.end m.split (record { node = v; level = level }))
    → (v : TreeNode) → IsLeft (wave_of g).tree Out u v → IsOverTo g search m.end m.split (record { node = v; level = level })
rest_over g search m Out u level leaving cover covered less rest v l =
    elim (cases_lt (far_at search m.end.node
    + reach_cost (wave_of g) (state_at g) m.split (record { node = v; level = level }))
    (min search.bound (far_at search v) + reach_cost (wave_of g) (state_at g) m.split m.end)) [
      | inl past ↦
          (let near = covered.near v (l.0, λ out. (let over = rest v out l in omega arith)) in
          let far = leaving.far in
          let spent = leaving.spent in
          absurd (omega arith))
      | inr over ↦ omega arith
    ]

-- all steps of a split to nodes below a node make a cover
pub over_covers : (g : Ground) (search : Search) (m : Leaving) (ends : Grouped) (u : TreeNode) (level : ℕ)
    → IsLeaving g search m → ends ≡ ends_at g.ends.now m.split → (offset : ℕ)
    → offset + m.spent ≡ m.far + (split_at (wave_of g) m.split).bytes * (2 * level) + worth_at g
    → ((x : End) → IsOf (wave_of g).tree (IsOutBy g ends) (Below u level) x → IsOverTo g search m.end m.split x)
    → IsCovered g search (record { offset = offset; split = m.split }) u
over_covers g search m ends u level leaving is offset same over = record {
  known = leaving.known;
  near = λ v left.
      (let step = over (record { node = v; level = level })
      (subst (λ (e : Grouped). IsLeft (wave_of g).tree (IsOutBy g e) u v) (sym is) left, refl) in
      let far = leaving.far in
      let spent = leaving.spent in
      omega arith);
}

-- and so do the first ends
pub start_covers : (g : Ground) (search : Search) (ends : Grouped) (u : TreeNode) (level : ℕ) → IsSearching g search
    → search.split < length (wave_of g).splits → ends ≡ ends_at g.ends.now search.split → (offset : ℕ)
    → offset ≡ (split_at (wave_of g) search.split).bytes * (2 * level) + search.limit
    → ((x : End) → IsOf (wave_of g).tree (IsOutBy g ends) (Below u level) x → IsStartedAt g search x)
    → IsCovered g search (record { offset = offset; split = search.split }) u
start_covers g search ends u level s known is offset same started = record {
  known = known;
  near = λ v left.
      (let start = started (record { node = v; level = level })
      (subst (λ (e : Grouped). IsLeft (wave_of g).tree (IsOutBy g e) u v) (sym is) left, refl) in
      let limit = s.limit in
      omega arith);
}

-- the split's steps to the nodes above a worker that hang from u have been taken
abbrev pub IsRestAt : Ground → Search → Leaving → (TreeNode → Type 0) → TreeNode → ℕ → ℕ → Type 0
IsRestAt g search m Out u level w = (v : TreeNode) → w < length (wave_of g).tree.rack_of
    → is_under (wave_of g).tree (Worker w) v ≡ true → IsLeft (wave_of g).tree Out u v
    → IsOverTo g search m.end m.split (record { node = v; level = level })

-- of a list of workers the first have been gone through: the nodes above them that hang from u
pub record IsRestTaken (g : Ground) (first now : Search) (m : Leaving) (Out : TreeNode → Type 0) (u : TreeNode)
    (level : ℕ) (list : List ℕ) (n : ℕ) : Type 0 where
  pub searching : IsSearching g now
  pub improves : Improves first now
  pub leaving : IsLeaving g now m
  pub over : (k : ℕ) → k < n → IsRestAt g now m Out u level (get_or list k 0)

pub next_rest : (g : Ground) (first now new : Search) (m : Leaving) (Out : TreeNode → Type 0) (u : TreeNode) (level : ℕ)
    (list : List ℕ) (n : ℕ) → IsRestTaken g first now m Out u level list n → IsSearching g new → Improves now new
    → IsRestAt g new m Out u level (get_or list n 0) → IsRestTaken g first new m Out u level list (n + 1)
next_rest g first now new m Out u level list n rest s i here = record {
  searching = s;
  improves = improves_trans first now new rest.improves i;
  leaving = leaving_kept g now new i m rest.leaving;
  over = below_more (λ (k : ℕ). IsRestAt g new m Out u level (get_or list k 0)) n
      (λ k l v known under left. to_kept g now new i m rest.leaving (record { node = v; level = level })
      (rest.over k l v known under left)) here;
}
