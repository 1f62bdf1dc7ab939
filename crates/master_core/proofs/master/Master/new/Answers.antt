use Rattle.std.proofs.Common.{◌∙◌, ℕ, length, map, ap, refl, arith}
use Rattle.std.specs.Prelude.{replicate}
use Rattle.wave_problem.specs.Wave.{Split}
use Rattle.master_state.specs.declared.states.PartState.TheVariants as part
use Rattle.master_state.specs.States.{Setup}
use Rattle.master_tables.specs.declared.entries.SplitEntry.TheVariants.{Pending}
use Rattle.master_core.proofs.Opening.{opening_is, made_from, kept_from}
use Rattle.master_core.proofs.master.Master.new.Goals as goal

pub returns-clause-state : goal.returns-clause-state
returns-clause-state c =
    let setup : Setup = record { cluster = c.args.cluster; limits = c.args.limits } in
    opening_is setup c.in_ok-workers.workers c.in_ok-holders.holders c.in_ok-splits.splits.items
    c.in_ok-parts.parts.items c.in_ok-lists.lists.starts.items c.in_ok-lists.lists.sweeps.items
    (length c.in_ok-lists.lists.history.items)
    (c.in_ok-workers.ensures
    ∙ rw (c.slots.ensures.value, c.splits-split_count.ensures.value, c.silence.ensures.count) refl)
    c.in_ok-holders.ensures
    (c.in_ok-splits.ensures ∙ ap (map (λ (split : Split). Pending)) c.splits.ensures.value)
    (c.in_ok-parts.ensures.items_if_clones_equal (λ _ e. e)
    ∙ ap (λ (n : ℕ). replicate n part.Pending) c.parts.ensures.count)
    c.in_ok-lists.ensures.starts c.in_ok-lists.ensures.sweeps (ap length c.in_ok-lists.ensures.history)

pub invariant_of-result : goal.invariant_of-result
invariant_of-result c =
    let setup : Setup = record { cluster = c.args.cluster; limits = c.args.limits } in
    record {
      kept = kept_from setup _ _ _ c.in_ok-lists.ensures.history (returns-clause-state c)
          c.in_ok-lists.ensures.results c.splits.ensures.whole c.requires;
      room = record {
        events = omega (arith, c.in_ok-lists.ensures.events);
        attempts = omega (arith, c.in_ok-lists.ensures.attempts);
        sweeps = omega (arith, c.in_ok-lists.ensures.counts);
        workers = search (arith, c.in_ok-lists.ensures.workers);
        results = omega (arith, c.in_ok-lists.ensures.parts, c.parts-2.ensures.count);
      };
      made = made_from setup c.in_ok-splits.splits.items
          (c.in_ok-splits.ensures ∙ ap (map (λ (split : Split). Pending)) c.splits.ensures.value);
      near = (tt, tt, tt);
    }
