-- How the table of commands is put together.
use Rattle.std.proofs.Common.{◌≡◌, ◌∙◌, ap, true, false, ap₂}
use Rattle.std.proofs.lemmas.Bool.{not-true}
use Rattle.clap.specs.Words.{AddsSubcommand, App, app_of, with_subcommand}
use Rattle.clap.specs.declared.builder.command.Command.{Command}
use Rattle.clap.specs.declared.builder.command.Command.TheViews.{out-Command}
use Rattle.clap.proofs.WalkLemmas.{both}

-- a plain command has no global argument
pub is_local : (c : Command) → (app_of c).top.is_plain ≡ true → (out-Command c).has_globals ≡ false
is_local c plain = not-true _ (both _ _ (both _ _ (both _ _ plain).1).1).0

-- a plain command more
pub added : (old sub new : Command) (program command : App) → AddsSubcommand old sub new
    → app_of old ≡ program → app_of sub ≡ command → command.top.is_plain ≡ true
    → app_of new ≡ with_subcommand program command.top
added old sub new program command adds old_is sub_is plain =
    adds.shape (is_local sub (ap (λ (a : App). a.top.is_plain) sub_is ∙ plain))
    ∙ ap₂ with_subcommand old_is (ap (λ (a : App). a.top) sub_is)
