-- A split that waits for a start no more, or again.
use Rattle.std.proofs.Common.{◌≡◌, ℕ, ◌+◌, ◌*◌, ◌<◌, ◌↔◌, Bool, [], true, false, length, Contains, refl}
use Rattle.std.proofs.Common.{sym, ap, ◌∙◌, subst}
use Rattle.std.proofs.Common.{get_or-set_same, get_or-set_other, inl, inr, arith}
use Rattle.std.specs.Prelude.{◌≢◌, slice_set, sum_by, List}
use Rattle.std.proofs.lemmas.Bool.{cases_eq, false≢true}
use Rattle.std.proofs.lemmas.List.{length-set, set-get_or, set-set}
use Rattle.std.proofs.lemmas.List.Sums.{sum_by-set}
use Rattle.rack_tree.specs.Tree.{reach}
use Rattle.wave_problem.specs.Wave.{live_among, reward, split_at, Split, Wave}
use Rattle.tree_flow.specs.declared.nodes.End.{End}
use Rattle.tree_flow.specs.declared.nodes.Place.TheVariants.{Unshipped}
use Rattle.tree_flow.specs.Nodes.{IsEnd}
use Rattle.tree_flow.specs.Slots.{IsAnother}
use Rattle.tree_flow.specs.State.{State, place_of}
use Rattle.tree_flow.proofs.Given.{changes}
use Rattle.tree_planner.specs.declared.engine.Fixed.{Fixed}
use Rattle.tree_planner.specs.declared.tables.Tables.{Tables}
use Rattle.tree_planner.specs.Ends.{ends_at, no_ends, AreEnds, Grouped, HasEnd, IsBarred}
use Rattle.tree_planner.proofs.Grouped.{none_among}
use Rattle.tree_planner.specs.Engine.{IsFixed, IsStanding}
use Rattle.tree_planner.specs.Events.{with_pending}
use Rattle.tree_planner.specs.Listing.{AreLists}
use Rattle.tree_planner.specs.View.{state_of}

module _ (wave : Wave) (s : ℕ) (pending : Bool) (known : s < length wave.splits) where
  abbrev new : Wave
  new = with_pending wave s pending

  abbrev line : Split
  line = record (split_at wave s) { pending = pending }

  abbrev past : Split
  past = record { bytes = 0; pending = false; holders = [] }

  split_here : split_at new s ≡ line
  split_here = get_or-set_same wave.splits s line past known

  split_other : (t : ℕ) → t ≢ s → split_at new t ≡ split_at wave t
  split_other t n = get_or-set_other wave.splits s t line past n

  same_reward : reward new ≡ reward wave
  same_reward =
      (let sums = sum_by-set (λ (x : Split). x.bytes) wave.splits s line past known in
      let same : sum_by (λ (x : Split). x.bytes) new.splits ≡ sum_by (λ
      (x : Split). x.bytes) wave.splits = omega arith in
      ap (λ (n : ℕ). 1 + reach wave.tree * n) same)

  pub ends_other : (t : ℕ) (e : End) → t ≢ s → IsEnd new t e ↔ IsEnd wave t e
  ends_other t e n = (
    λ is. record {
      pending = ap (λ (x : Split). x.pending) (sym (split_other t n)) ∙ is.pending;
      known = is.known;
      level = is.level;
      holder = is.holder;
      held = subst (λ (x : Split). Contains (live_among wave.workers x.holders) is.holder)
          (split_other t n) is.held;
      near = is.near;
      no_bar = is.no_bar;
      largest = is.largest;
    },
    λ is. record {
      pending = ap (λ (x : Split). x.pending) (split_other t n) ∙ is.pending;
      known = is.known;
      level = is.level;
      holder = is.holder;
      held = subst (λ (x : Split). Contains (live_among wave.workers x.holders) is.holder) (sym
          (split_other t n)) is.held;
      near = is.near;
      no_bar = is.no_bar;
      largest = is.largest;
    },
  )

  -- the state is kept to, where the split is not shipped
  pub another : (state : State) → place_of state s ≡ Unshipped → IsAnother wave new state
  another state unshipped = record {
    tree = refl;
    size = length-set wave.splits s line;
    workers = refl;
    slots = λ w. refl;
    others = λ t shipped.
        (let other : t ≢ s = λ e. shipped (ap (λ (t : ℕ). place_of state t) e ∙ unshipped) in (
          λ e. ap (λ (x : Split). x.bytes * (2 * e.level)) (split_other t other),
          λ e. ends_other t e other,
        ));
  }

  pub pending_standing : (t : Tables) → place_of (state_of t) s ≡ Unshipped → IsStanding wave t
      → IsStanding new t
  pending_standing t unshipped standing = record {
    plain = standing.plain;
    worth = standing.worth ∙ sym same_reward;
    tables = record {
      places = (let size = length-set wave.splits s line in standing.tables.places ∙ sym size);
      flow = standing.tables.flow;
      depth = standing.tables.depth;
      free = standing.tables.free;
      below = standing.tables.below;
      sums = standing.tables.sums;
      lists = subst (λ n. AreLists wave.tree n t.standing) (sym (length-set wave.splits s line)) standing.tables.lists;
      known = standing.tables.known;
      listed = standing.tables.listed;
    };
    low = λ v. (let low = standing.low v in let same = same_reward in omega arith);
    kept = changes wave new (state_of t) standing.kept (another (state_of t) unshipped);
  }

  pub pending_fixed : (fixed new_fixed : Fixed) → IsFixed wave fixed → AreEnds new new_fixed.ends
      → new_fixed ≡ record fixed { ends = new_fixed.ends } → IsFixed new new_fixed
  pending_fixed fixed new_fixed f ends same = subst (λ (x : Fixed). IsFixed new x) (sym same) (record {
    known = record { lines = f.known.lines; racks = f.known.racks; centres = f.known.centres };
    small = (let small = f.small in let same = same_reward in omega arith);
    few = (let few = f.few in let size = length-set wave.splits s line in omega arith);
    nodes = f.nodes;
    children = f.children;
    worth = f.worth ∙ sym same_reward;
    ends = ends;
    over = f.over;
    slots = f.slots;
  })

  -- the lists of ends, of which that of the split was changed
  pub ends_set : (old : List Grouped) (list : Grouped) → AreEnds wave old
      → ((e : End) → HasEnd wave.tree list e ↔ IsEnd new s e) → AreEnds new (slice_set old s list)
  ends_set old list was is = record {
    size = length-set old s list ∙ was.size ∙ sym (length-set wave.splits s line);
    each = λ t e l. elim (cases_eq t s) [
      | inl same ↦ subst (λ (t : ℕ). HasEnd wave.tree (ends_at (slice_set old s list) t) e ↔ IsEnd new t e) (sym same)
          (subst (λ xs. HasEnd wave.tree xs e ↔ IsEnd new s e)
          (sym (get_or-set_same old s list no_ends (let size = was.size in omega arith))) (is e))
      | inr other ↦
          (let size = length-set wave.splits s line in
          let before = was.each t e (omega arith) in
          let ends = ends_other t e other in
          let at = get_or-set_other old s t list no_ends other in
          subst (λ xs. HasEnd wave.tree xs e ↔ IsEnd new t e) (sym at)
          (λ has. ends.1 (before.0 has), λ end. before.1 (ends.0 end)))
    ];
  }

-- a split that is not pending has no ends
pub none_ends : (wave : Wave) (s : ℕ) → s < length wave.splits → (e : End)
    → HasEnd wave.tree (record { groups = []; barred = [] }) e ↔ IsEnd (with_pending wave s false) s e
none_ends wave s known e = (
  λ has. absurd (none_among wave.tree (IsBarred wave.tree []) e has),
  λ is. absurd (false≢true (ap (λ (x : Split). x.pending) (sym
      (split_here wave s false known)) ∙ is.pending)),
)

-- pending for a moment, and then as before
pub unpended : (wave : Wave) (s : ℕ) → s < length wave.splits → (split_at wave s).pending ≡ false
    → with_pending (with_pending wave s true) s false ≡ wave
unpended wave s known idle = ap (λ splits. record wave { splits = splits })
    (ap (λ (x : Split). slice_set (slice_set wave.splits s (line wave s true known)) s
    (record x { pending = false }))
    (split_here wave s true known)
    ∙ set-set wave.splits s (line wave s true known) (record (split_at wave s) { pending = false })
    ∙ ap (λ b. slice_set wave.splits s (record (split_at wave s) { pending = b })) (sym idle)
    ∙ set-get_or wave.splits s (past wave s true known))
