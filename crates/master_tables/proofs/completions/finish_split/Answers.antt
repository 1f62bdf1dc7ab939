use Rattle.std.proofs.Common.{refl}
use Rattle.master_tables.specs.declared.entries.SplitEntry.TheVariants.{Done}
use Rattle.master_tables.proofs.Together.{updated_here}
use Rattle.master_tables.proofs.completions.finish_split.Goals as goal

pub returns : goal.returns
returns c =
    updated_here (λ _. Done c.args.attempt c.args.made) c.args.entries.now.items c.index.ensures.value
    c.index_mut.ensures.value refl c.requires
