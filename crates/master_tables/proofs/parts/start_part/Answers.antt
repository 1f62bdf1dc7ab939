use Rattle.std.proofs.Common.{refl}
use Rattle.master_state.specs.declared.states.PartState.TheVariants.{Running}
use Rattle.master_tables.proofs.Together.{updated_here}
use Rattle.master_tables.proofs.parts.start_part.Goals as goal

pub returns-clause-running : goal.returns-clause-running
returns-clause-running c =
    updated_here (λ _. Running c.args.attempt) c.args.parts.now.items c.index.ensures.value
    c.index_mut.ensures.value refl c.requires.part
