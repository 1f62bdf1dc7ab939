use Rattle.std.proofs.Common.{inl, refl}
use Rattle.line_rules.specs.declared.purpose.Purpose.TheVariants.{Playing}
use Rattle.plan_text.proofs.Tidy.{tidy-read}
use Rattle.script_text.proofs.OfHead.{is_of_head, is_target}
use Rattle.script_text.proofs.Read.{fit_master-read}
use Rattle.script_text.proofs.Ready.{ready-read}
use Rattle.script_text.proofs.script_reader.read_opening.Goals as goal

pub script_of-requires-clause-tidy : goal.script_of-requires-clause-tidy
script_of-requires-clause-tidy c =
    tidy-read Playing c.args.text.now c.in_ok-known.known c.in_ok-known.ensures.ok

pub script_of-requires-clause-few : goal.script_of-requires-clause-few
script_of-requires-clause-few c =
    fit_master-read Playing c.args.text.now c.in_ok-known.known (inl refl) c.in_ok-known.ensures.ok

pub script_of-requires-clause-ready : goal.script_of-requires-clause-ready
script_of-requires-clause-ready c =
    ready-read Playing c.args.text.now c.in_ok-known.known c.in_ok-known.ensures.ok

pub returns-clause-known : goal.returns-clause-known
returns-clause-known c = is_of_head Playing c.args.text.now c.in_ok-script.script (inl refl) (record {
  known = c.in_ok-known.known;
  read = c.in_ok-known.ensures.ok;
  declares = c.in_ok-script.ensures.script;
  head = c.in_ok-script.ensures.head;
})

pub returns-clause-target : goal.returns-clause-target
returns-clause-target c = is_target Playing c.args.text.now c.in_ok-script.script (inl refl) (record {
  known = c.in_ok-known.known;
  read = c.in_ok-known.ensures.ok;
  declares = c.in_ok-script.ensures.script;
  head = c.in_ok-script.ensures.head;
})
