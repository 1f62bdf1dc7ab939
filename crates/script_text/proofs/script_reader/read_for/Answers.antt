use Rattle.plan_text.proofs.Tidy.{tidy-read}
use Rattle.script_text.proofs.OfHead.{few_workers, is_of_head, is_target}
use Rattle.script_text.proofs.Read.{fit_master-read}
use Rattle.script_text.proofs.Ready.{ready-read}
use Rattle.script_text.proofs.script_reader.read_for.Goals as goal

pub script_of-requires-clause-tidy : goal.script_of-requires-clause-tidy
script_of-requires-clause-tidy c =
    tidy-read c.args.purpose c.args.text.now c.in_ok-known.known c.in_ok-known.ensures.ok

pub script_of-requires-clause-few : goal.script_of-requires-clause-few
script_of-requires-clause-few c =
    fit_master-read c.args.purpose c.args.text.now c.in_ok-known.known c.requires c.in_ok-known.ensures.ok

pub script_of-requires-clause-ready : goal.script_of-requires-clause-ready
script_of-requires-clause-ready c =
    ready-read c.args.purpose c.args.text.now c.in_ok-known.known c.in_ok-known.ensures.ok

pub returns-clause-ok : goal.returns-clause-ok
returns-clause-ok c = record {
  known = c.in_ok-known.known;
  read = c.in_ok-known.ensures.ok;
  declares = c.in_ok-script_of.ensures.script;
  head = c.in_ok-script_of.ensures.head;
}

pub returns-clause-known : goal.returns-clause-known
returns-clause-known c = is_of_head c.args.purpose c.args.text.now _ c.requires (returns-clause-ok c)

pub returns-clause-target : goal.returns-clause-target
returns-clause-target c = is_target c.args.purpose c.args.text.now _ c.requires (returns-clause-ok c)

pub returns-clause-few : goal.returns-clause-few
returns-clause-few c = few_workers c.args.purpose c.args.text.now _ c.requires (returns-clause-ok c)
