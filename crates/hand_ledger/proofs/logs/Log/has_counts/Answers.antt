use Rattle.std.proofs.Common.{◌≡◌, ◌-◌, [], take, drop, slice_get, sym, ap, ◌∙◌}
use Rattle.std.specs.Option.{option_to_list}
use Rattle.hand_ledger.specs.Hands.{counts_in}
use Rattle.hand_ledger.specs.Settling.{counts_at}
use Rattle.hand_ledger.proofs.Calls.{one_at, one_same}
use Rattle.hand_ledger.proofs.logs.Log.has_counts.Goals as goal

pub returns-in-Sweep : goal.returns-in-Sweep
returns-in-Sweep c =
    let sweeps = c.self.inside.sweeps.now.items in
    let items = c.args.counts.now.items in
    let event = c.args.event.now in
    let told : option_to_list c.get-found.result ≡ counts_at c.args.self.now event =
    ap option_to_list (c.get-found.ensures ∙ ap (slice_get sweeps) c.saturating_sub.ensures)
    ∙ one_at sweeps (c.in-Sweep.place - 1) ∙ (λ k. counts_at (c.self.view_is k) (sym c.in-Sweep.is k)) in
    let own : option_to_list c.get.result ≡ take (counts_in event) (drop c.args.from items) =
    ap option_to_list c.get.ensures ∙ one_at items c.args.from
    ∙ ap (λ e. take (counts_in e) (drop c.args.from items)) (sym c.in-Sweep.is) in (
      λ t. sym told ∙ ap option_to_list (c.are_same_counts.ensures.0 t) ∙ own,
      λ is. c.are_same_counts.ensures.1 (one_same _ _ (told ∙ is ∙ sym own)),
    )
