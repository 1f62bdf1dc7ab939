-- What the past of a job tells of its copies.
use Rattle.std.proofs.Common.{◌≡◌, ◌∙◌, ℕ, zero, suc, ◌++◌, List, [], ◌∷◌, refl, sym, ap, take, drop}
use Rattle.std.proofs.Common.{append_assoc, length, take_all, append-nil, arith}
use Rattle.std.specs.Prelude.{fold}
use Rattle.std.proofs.lemmas.List.{take-append-le}
use Rattle.block_map.specs.Copies.{all_copies, holdings}
use Rattle.master_state.specs.declared.events.Event.{Event}
use Rattle.master_state.specs.States.{Setup, State, opening}
use Rattle.master_state.specs.Steps.{IsLegal, Leads}
use Rattle.master_state.proofs.Opening.{tidy_opening}
use Rattle.report_lines.specs.declared.tables.Tables.{Tables}
use Rattle.report_lines.specs.Laws.{LaterPastsTellTheSame, LegalHistoriesArePasts, PastsTellTheCopies}
use Rattle.report_lines.specs.Past.{copies_of, opening_tables, replayed}
use Rattle.report_lines.proofs.Bare.{same_copies}
use Rattle.report_lines.proofs.Following.{AreOf, GoesOn, all_come, leads_goes_on, of_history}

opening_are : (setup : Setup) → AreOf (opening setup).workers (opening setup).holders (opening_tables setup)
opening_are setup = record { workers_are = refl; holders_are = refl }

pub legal_histories_are_pasts : LegalHistoriesArePasts
legal_histories_are_pasts setup target history s whole legal =
    all_come setup (opening setup) history s s.sweeps (opening_tables setup) whole (tidy_opening setup whole)
    (opening_are setup) legal ([], sym (append-nil s.sweeps))

-- the copies of a state, told of the events that lead there
copies_told : (setup : Setup) (target : ℕ) (history : List Event) (s : State) (sweeps : List (List ℕ)) →
    IsLegal setup history s → GoesOn s.sweeps sweeps →
    copies_of setup.cluster.tree target (fold (replayed sweeps) (opening_tables setup) history)
    ≡ all_copies (holdings s.workers setup.cluster.tree s.holders target)
copies_told setup target history s sweeps legal more =
    let t : Tables = fold (replayed sweeps) (opening_tables setup) history in
    let are = of_history setup (opening setup) history s sweeps (opening_tables setup) (opening_are setup)
    legal more in
    same_copies t.workers s.workers are.workers_are setup.cluster.tree t.holders target
    ∙ ap (λ (lists : List (List ℕ)). all_copies (holdings s.workers setup.cluster.tree lists target))
    are.holders_are

pub pasts_tell_the_copies : PastsTellTheCopies
pasts_tell_the_copies setup target history s legal =
    ap (λ (events : List Event).
    copies_of setup.cluster.tree target (fold (replayed s.sweeps) (opening_tables setup) events))
    (take_all (length history) history (omega arith))
    ∙ copies_told setup target history s s.sweeps legal ([], sym (append-nil s.sweeps))

-- the state after the first n events
pub record IsPassed (setup : Setup) (s : State) (n : ℕ) (history : List Event) (last mid : State)
    : Type 0 where
  pub front : Leads setup s (take n history) mid
  pub back : Leads setup mid (drop n history) last

passed : (setup : Setup) (s : State) (n : ℕ) (history : List Event) (last : State) →
    Leads setup s history last → (mid : State) × IsPassed setup s n history last mid
passed setup s zero history last leads = (s, record { front = refl; back = leads })
passed setup s (suc n) [] last leads = (last, record { front = leads; back = refl })
passed setup s (suc n) (event ∷ history) last leads =
    let rest = passed setup leads.0 n history last leads.2 in
    (rest.0, record { front = (leads.0, leads.1, rest.1.front); back = rest.1.back })

pub later_pasts_tell_the_same : LaterPastsTellTheSame
later_pasts_tell_the_same setup target history later s more n legal within =
    let mid = passed setup (opening setup) n history s legal in
    let old = leads_goes_on setup mid.0 (drop n history) s mid.1.back in
    let new : GoesOn mid.0.sweeps (s.sweeps ++ more) =
    (old.0 ++ more, ap (λ (l : List (List ℕ)). l ++ more) old.1 ∙ append_assoc mid.0.sweeps old.0 more) in
    ap (λ (events : List Event).
    copies_of setup.cluster.tree target (fold (replayed (s.sweeps ++ more)) (opening_tables setup) events))
    (take-append-le n history later within)
    ∙ copies_told setup target (take n history) mid.0 (s.sweeps ++ more) mid.1.front new
    ∙ sym (copies_told setup target (take n history) mid.0 s.sweeps mid.1.front old)
