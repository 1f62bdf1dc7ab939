use Rattle.std.proofs.Common.{◌≡◌, ◌∙◌, ◌-◌, List, None, ap, sym, ℕ}
use Rattle.std.specs.Prelude.{slice_get, slice_index}
use Rattle.report_lines.proofs.Bare.{not_there}
use Rattle.report_lines.proofs.replaying.count_at.Goals as goal

pub returns-in-None : goal.returns-in-None
returns-in-None c =
    let items = c.args.sweeps.now.items in
    let none : slice_get items (c.args.place - 1) ≡ None =
    ap (slice_get items) (sym c.saturating_sub.ensures) ∙ sym c.get.ensures ∙ c.in-None.is in
    sym (ap (λ (l : List ℕ). slice_index l c.args.worker) (not_there items (c.args.place - 1) none))
