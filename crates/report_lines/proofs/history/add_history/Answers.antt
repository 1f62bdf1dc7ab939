use Rattle.std.proofs.Common.{◌≡◌, ◌+◌, ◌++◌, ◌∷◌, [], take, sym, ap, ◌∙◌}
use Rattle.std.specs.Prelude.{string_bytes}
use Rattle.std.specs.List.{flat_map}
use Rattle.std.proofs.lemmas.List.{flat_map_more, take_more}
use Rattle.std.proofs.lemmas.Option.{get_or_from_slice_get, slice_get_within}
use Rattle.report_lines.specs.History.{event_lines}
use Rattle.report_lines.proofs.history.add_history.Goals as goal

pub loop-index-preserved : goal.loop-index-preserved
loop-index-preserved c =
    let i = c.loop-index.index in
    let history = c.args.history.now.items in
    let event = c.at-event.result in
    let at = c.at-event.ensures in
    let before = string_bytes c.args.lines.now in
    let told = event_lines c.args.splits.now c.args.workers.now c.args.starts.now c.args.sweeps.now.items in
    let more : take (i + 1) history ≡ take i history ++ event ∷ [] =
    take_more history i event (slice_get_within history i event at)
    ∙ ap (λ e. take i history ++ e ∷ []) (get_or_from_slice_get history i event event at) in
    c.in_ok-add_event.ensures ∙ ap (λ lines. lines ++ told event) c.loop-index.invariant
    ∙ flat_map_more told before (take i history) event ∙ ap (λ es. before ++ flat_map told es) (sym more)
