use Rattle.std.proofs.Common.{◌≡◌, ◌∙◌, ◌+◌, ◌<◌, ◌++◌, ◌∷◌, [], ℕ, List, All, Contains, ap, subst, sym, arith}
use Rattle.std.specs.declared.alloc.Global.{Global}
use Rattle.std.specs.declared.vec.Vec.{Vec}
use borrow.Author.Count.{below_more}
use Rattle.std.proofs.lemmas.List.Elements.{All-push, Contains-append_left, Contains-push}
use Rattle.tree_flow.specs.State.{place_of}
use Rattle.tree_planner.specs.Handing.{HasStand}
use Rattle.tree_planner.specs.Listing.{at_cell}
use Rattle.tree_planner.specs.View.{state_of}
use Rattle.tree_planner.proofs.hand_down.standing_of_cells.Goals.{in-Stands+in_ok-push, in_default}
use Rattle.tree_planner.proofs.hand_down.standing_of_cells.Goals as goal

pub loop-k-preserved : goal.loop-k-preserved
loop-k-preserved c =
    let state = state_of c.args.tables.now in
    let at : ℕ → ℕ = λ j. (at_cell c.args.tables.now.standing.cells.items j).split in
    let k = c.loop-k.k in
    let s = c.split_at-split.result in
    let is : s ≡ at k = c.split_at-split.ensures in
    let splits = c.loop-k.splits.items in
    let i = c.loop-k.invariant in
    elim c.match-place_at.branch [
      | in-Stands+in_ok-push w ↦
          let items = ap (λ (v : Vec ℕ Global). v.items) w.splits-is ∙ w.in_ok-push.ensures.items in
          record {
            each = subst (λ (xs : List ℕ). All (HasStand state) xs) (sym items)
                (All-push (HasStand state) splits s i.each (w.in-Stands.field-0, sym c.place_at.ensures ∙ w.in-Stands.is));
            all = subst (λ (xs : List ℕ). (j : ℕ) → j < k + 1 → HasStand state (at j) → Contains xs (at j)) (sym items)
                (below_more (λ (j : ℕ). HasStand state (at j) → Contains (splits ++ s ∷ []) (at j)) k
                (λ j l there. Contains-append_left splits (s ∷ []) (at j) (i.all j l there))
                (λ there. subst (λ (x : ℕ). Contains (splits ++ s ∷ []) x) is (Contains-push splits s)));
          }
      | in_default w ↦
          let items = ap (λ (v : Vec ℕ Global). v.items) w.splits-is in
          record {
            each = subst (λ (xs : List ℕ). All (HasStand state) xs) (sym items) i.each;
            all = subst (λ (xs : List ℕ). (j : ℕ) → j < k + 1 → HasStand state (at j) → Contains xs (at j)) (sym items)
                (below_more (λ (j : ℕ). HasStand state (at j) → Contains splits (at j)) k i.all
                (λ there. absurd (w.in_default.not-Stands there.0
                (c.place_at.ensures ∙ ap (λ (x : ℕ). place_of state x) is ∙ there.1))));
          }
    ]

pub returns-clause-all : goal.returns-clause-all
returns-clause-all c = λ s there.
    (let state = state_of c.args.tables.now in
    let listed = c.requires.listed s there.0 there.1 in
    subst (λ (x : ℕ). Contains c.loop-k.splits.items x) listed.split
    (c.loop-k.invariant.all listed.place (let l = listed.used in omega (arith, l, c.loop-k-test.false))
    (subst (HasStand state) (sym listed.split) there)))
