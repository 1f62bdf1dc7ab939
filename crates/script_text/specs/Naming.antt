-- The names that the head of a script or a job declares.
use Rattle.std.specs.Prelude.{List, ◌≡◌}
use Rattle.line_shapes.specs.Lines.{Statement}
use Rattle.line_shapes.specs.declared.keyword.Keyword.TheVariants as keyword
use Rattle.plan_text.specs.Names.{names_of}
use Rattle.script_text.specs.declared.script.Names.{Names}

pub record AreNames (rows : List Statement) (names : Names) : Type 0 where
  pub workers : names.workers ≡ names_of keyword.Worker rows
  pub splits : names.splits ≡ names_of keyword.Split rows
  pub documents : names.documents ≡ names_of keyword.Doc rows
