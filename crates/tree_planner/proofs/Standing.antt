-- Tables that show a state which is kept to.
use Rattle.std.proofs.Common.{◌≡◌, ◌^◌, ◌<◌, ◌≤◌, [], All, None, Option, ap, ◌∙◌, arith}
use Rattle.wave_problem.specs.Wave.{reward, Wave}
use Rattle.price_certificate.specs.Places.{IsFitRow}
use Rattle.tree_flow.specs.declared.nodes.TreeNode.{TreeNode}
use Rattle.tree_flow.specs.Settled.{AreTermsOf}
use Rattle.tree_flow.specs.Slots.{IsFresh}
use Rattle.tree_flow.specs.State.{IsKeptBut, Terms}
use Rattle.tree_flow.specs.Table.{at_node}
use Rattle.tree_flow.proofs.Given.{begins}
use Rattle.tree_planner.specs.declared.engine.Fixed.{Fixed}
use Rattle.tree_planner.specs.declared.tables.Tables.{Tables}
use Rattle.tree_planner.specs.Engine.{IsFixed, IsHeld, IsStanding, IsStandingBut}
use Rattle.tree_planner.specs.View.{state_of, AreTables}

-- a fresh state is kept to
pub begins_held : (wave : Wave) (t : Tables) → t.worth < 2 ^ 60 → AreTables wave t → IsFresh wave (state_of t)
    → IsHeld wave t
begins_held wave t small tables fresh = record {
  tables = tables;
  small = small;
  low = λ v. (let zero = fresh.depth v in omega arith);
  kept = begins wave (state_of t) fresh;
}

-- and where all places are free, it is one of the kept engine
pub begins_standing : (wave : Wave) (t : Tables) → AreTermsOf wave [] (state_of t).terms → AreTables wave t
    → IsFresh wave (state_of t) → IsStanding wave t
begins_standing wave t terms tables fresh = record {
  plain = λ w k. terms.price w k;
  worth = (let worth = terms.worth in omega arith);
  tables = tables;
  low = λ v. (let zero = fresh.depth v in omega arith);
  kept = begins wave (state_of t) fresh;
}

-- a state on the same terms whose nodes lie no deeper than the reward
pub stands_so : (wave : Wave) (old new : Tables) (a b : Option TreeNode) → IsStandingBut wave old a
    → (state_of new).terms ≡ (state_of old).terms → AreTables wave new
    → ((v : TreeNode) → at_node new.depth v ≤ reward wave) → IsKeptBut wave (state_of new) b
    → IsStandingBut wave new b
stands_so wave old new a b s terms tables low kept = record {
  plain = λ w k. ap (λ (t : Terms). t.price w k) terms ∙ s.plain w k;
  worth = ap (λ (t : Terms). t.worth) terms ∙ s.worth;
  tables = tables;
  low = low;
  kept = kept;
}

-- one in which no depth has changed
pub stands_as_deep : (wave : Wave) (old new : Tables) (a b : Option TreeNode) → IsStandingBut wave old a
    → (state_of new).terms ≡ (state_of old).terms → (state_of new).depth ≡ (state_of old).depth
    → AreTables wave new → IsKeptBut wave (state_of new) b → IsStandingBut wave new b
stands_as_deep wave old new a b s terms depth tables kept = stands_so wave old new a b s terms tables
    (λ v. (let same = ap (λ d. d v) depth in let low = s.low v in omega arith)) kept

-- the search takes such tables, and gives them back
module _ (wave : Wave) (old : Tables) (s : IsStanding wave old) where
  pub held : (fixed : Fixed) → IsFixed wave fixed → IsHeld wave old
  held fixed f = record {
    tables = s.tables;
    small = (let small = f.small in let worth = s.worth in omega arith);
    low = λ v. (let low = s.low v in let worth = s.worth in omega arith);
    kept = s.kept;
  }

  pub stands_held : (new : Tables) → (state_of new).terms ≡ (state_of old).terms → IsHeld wave new
      → IsStanding wave new
  stands_held new terms h = stands_so wave old new None None s terms h.tables
      (λ v.
      (let low = h.low v in
      let same = ap (λ (t : Terms). t.worth) terms in
      let worth = s.worth in
      omega arith)) h.kept

-- a state of the kept engine has the terms of the wave whose places are free
pub plain_terms : (wave : Wave) (t : Tables) → IsStanding wave t → AreTermsOf wave [] (state_of t).terms
plain_terms wave t s = record { worth = (let worth = s.worth in omega arith); price = s.plain }

-- no row of prices is not fit where there is none
pub no_rows : All IsFitRow []
no_rows = λ k d l. absurd (omega arith)
