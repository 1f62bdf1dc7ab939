use Rattle.std.proofs.Common.{ℕ, List, [], ◌∷◌, ◌<◌, ap, arith, get_or, length, length-append, subst, sym}
use Rattle.line_shapes.specs.Lines.{Statement, statement_of}
use Rattle.script_text.specs.Commands.{SaysCommand}
use Rattle.script_text.specs.Ready.{IsWholeCommand}
use Rattle.script_text.specs.declared.script.Command.{Command}
use Rattle.script_text.proofs.Growing.{each_pushed}
use Rattle.script_text.proofs.commands.commands_of.Goals as goal

pub command_of-requires-clause-ready : goal.command_of-requires-clause-ready
command_of-requires-clause-ready c =
    let said = statement_of c.in_ok-line.line in
    subst (IsWholeCommand c.args.names.now) (c.in_ok-line.ensures said)
    (c.requires.ready c.loop-place.place said
    (omega (arith, c.loop-place-test.true, c.len-count.ensures)))

pub loop-place-preserved : goal.loop-place-preserved
loop-place-preserved c =
    let xs = c.loop-place.commands.items in
    let command = c.in_ok-command.command in
    let items = c.in_ok-push.ensures.items in
    let P : ℕ → Command → Type 0 =
    λ k x. (s : Statement) → SaysCommand c.args.names.now (get_or c.args.lines.now k s) x in
    let last : P (length xs) command =
    subst (λ i. P i command) (sym c.loop-place.invariant.0)
    (λ s. subst (λ (t : Statement). SaysCommand c.args.names.now t command) (sym (c.in_ok-line.ensures s))
    c.in_ok-command.ensures) in (
      omega (arith, c.loop-place.invariant.0, ap length items, length-append xs (command ∷ [])),
      subst (λ (ys : List Command). (k : ℕ) (d : Command) → k < length ys → P k (get_or ys k d)) (sym items)
          (each_pushed P xs command c.loop-place.invariant.1 last),
    )

pub returns : goal.returns
returns c = record {
  many = omega (
    arith,
    c.loop-place.invariant.0,
    c.len-count.ensures,
    c.loop-place-test.false,
  );
  each = λ k s x lt. c.loop-place.invariant.1 k x lt s;
}
