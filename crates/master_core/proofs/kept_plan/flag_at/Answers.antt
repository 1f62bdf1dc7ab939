use Rattle.std.proofs.Common.{◌<◌, ◌∙◌, length, map, ap, sym, arith}
use Rattle.std.specs.Prelude.{false}
use Rattle.std.proofs.lemmas.List.{get_or-map, length-map}
use Rattle.master_state.specs.Tests.{is_pending}
use Rattle.master_tables.specs.Entries.{shown_as}
use Rattle.master_core.proofs.kept_plan.flag_at.Goals as goal

pub returns : goal.returns
returns c =
    let entries = c.args.entries.now in
    let entry = c.index-entries-place.result in
    let few : c.args.place < length (map shown_as entries) =
    (let size = length-map entries shown_as in let within = c.requires in omega arith) in
    c.is_pending.ensures ∙ ap (λ e. is_pending (shown_as e)) c.index-entries-place.is
    ∙ sym (ap is_pending (get_or-map shown_as entries c.args.place entry (shown_as entry) c.requires))
    ∙ sym (get_or-map is_pending (map shown_as entries) c.args.place (shown_as entry) false few)
