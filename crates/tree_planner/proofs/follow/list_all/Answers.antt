use Rattle.std.proofs.Common.{◌≡◌, ℕ, ◌∙◌, ap}
use borrow.Author.Count.{below_more}
use Rattle.tree_flow.specs.declared.nodes.End.{End}
use Rattle.tree_flow.specs.declared.nodes.Place.TheVariants.{Stands}
use Rattle.tree_flow.specs.State.{place_of}
use Rattle.tree_planner.specs.declared.tables.Tables.{Tables}
use Rattle.tree_planner.specs.Listing.{HasListed}
use Rattle.tree_planner.specs.View.{state_of}
use Rattle.tree_planner.proofs.follow.list_all.Goals as goal

pub loop-s-preserved : goal.loop-s-preserved
loop-s-preserved c =
    let fn = c.args.tables.now in
    let old = c.loop-s.tables in
    let new = c.list_again.new.tables in
    let i = c.loop-s.invariant in
    let same : (t : ℕ) → place_of (state_of old) t ≡ place_of (state_of fn) t =
    λ t. ap (λ (x : Tables). place_of (state_of x) t) i.rest in
    let all = below_more (λ (t : ℕ). (e : End) → place_of (state_of fn) t ≡ Stands e → HasListed new.standing e.node t)
    c.loop-s.s (λ t l e stands. c.list_again.ensures.others e.node t (i.listed t e l stands))
    (λ e stands. c.list_again.ensures.here e (same c.loop-s.s ∙ stands)) in
    record {
      rest = c.list_again.ensures.rest ∙ ap (λ (t : Tables). record t { standing = new.standing }) i.rest;
      lists = c.list_again.ensures.lists;
      few = c.list_again.ensures.few;
      listed = λ t e l stands. all t l e stands;
    }
