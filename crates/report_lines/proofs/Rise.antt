-- Turns whose events do not fall, and tables from which events may come.
use Rattle.std.proofs.Common.{◌≡◌, ◌∙◌, ℕ, ◌+◌, ◌<◌, ◌≤◌, ◌++◌, List, [], ◌∷◌, sym, ap, arith, subst}
use Rattle.std.proofs.Common.{drop, get_or, length}
use Rattle.std.proofs.lemmas.List.{drop_more}
use Rattle.rack_tree.specs.Tree.{Tree}
use Rattle.block_map.specs.declared.HolderLimit.{HolderLimit}
use Rattle.master_state.specs.declared.events.Event.{Event}
use Rattle.report_lines.specs.declared.tables.Tables.{Tables}
use Rattle.report_lines.specs.Past.{IsSound, MayAllCome}
use Rattle.report_lines.specs.Rising.{IsRising}
use Rattle.report_lines.specs.ToldTurn.{ToldTurn}

-- one turn more
pub rising_more : (first last : ℕ) (turns : List ToldTurn) (turn : ToldTurn) → IsRising first turns last →
    last ≤ turn.events → IsRising first (turns ++ turn ∷ []) turn.events
rising_more first last [] turn rising more = (omega (arith, rising, more), omega arith)
rising_more first last (head ∷ turns) turn rising more =
    (rising.0, rising_more head.events last turns turn rising.1 more)

pub rising_ends : (first last : ℕ) (turns : List ToldTurn) → IsRising first turns last → first ≤ last
rising_ends first last [] rising = rising
rising_ends first last (head ∷ turns) rising =
    omega (arith, rising.0, rising_ends head.events last turns rising.1)

-- the turn at a place comes next
pub rising_at : (first last n : ℕ) (turns : List ToldTurn) (turn : ToldTurn) → n < length turns →
    turn ≡ get_or turns n turn → IsRising first (drop n turns) last →
    (first ≤ turn.events) × IsRising turn.events (drop (n + 1) turns) last
rising_at first last n turns turn inside at rising =
    let next : drop n turns ≡ turn ∷ drop (n + 1) turns =
    drop_more turns n turn inside ∙ ap (λ (t : ToldTurn). t ∷ drop (n + 1) turns) (sym at) in
    subst (λ (l : List ToldTurn). IsRising first l last) next rising

-- tables from which all may come are sound
pub sound_of : (tree : Tree) (limit : HolderLimit) (sweeps : List (List ℕ)) (t : Tables)
    (events : List Event) → MayAllCome tree limit sweeps t events → IsSound tree t
sound_of tree limit sweeps t [] may = may
sound_of tree limit sweeps t (event ∷ events) may = may.0
