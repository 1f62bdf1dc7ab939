use Rattle.std.proofs.Common.{refl}
use Rattle.line_shapes.specs.Lines.{statement_of}
use Rattle.live_master.specs.Serving.{live_of}
use Rattle.live_master.proofs.Sessions.{known_command, obeys_command, obeys_end, whole_line}
use Rattle.live_master.proofs.serving.Session.obey.Goals as goal

pub add_end-requires : goal.add_end-requires
add_end-requires c = c.requires.ready.named.splits

pub returns-in_ok-_end-in-End-clause-ok : goal.returns-in_ok-_end-in-End-clause-ok
returns-in_ok-_end-in-End-clause-ok c =
    obeys_end c.args.self.now _ (statement_of c.args.line.now) _ _ c.in_ok-_end-in-End._end c.in-End.is refl
    c.in_ok-_end-in-End.ensures

pub command_of-requires-clause-few : goal.command_of-requires-clause-few
command_of-requires-clause-few c = c.requires.ready.named.few

pub command_of-requires-clause-ready : goal.command_of-requires-clause-ready
command_of-requires-clause-ready c =
    whole_line (live_of c.args.self.now) c.requires.fit.0 (statement_of c.args.line.now) c.requires.ready.named
    c.requires.fit.1 c.in_default.not-End

pub perform-requires-clause-known : goal.perform-requires-clause-known
perform-requires-clause-known c =
    known_command (live_of c.args.self.now) c.requires.fit.0 (statement_of c.args.line.now) c.requires.ready.named
    c.requires.fit.1 c.in_ok-command-in_default.command c.in_ok-command-in_default.ensures

pub returns-in_ok-perform-in_default-clause-ok : goal.returns-in_ok-perform-in_default-clause-ok
returns-in_ok-perform-in_default-clause-ok c =
    obeys_command c.args.self.now _ (statement_of c.args.line.now) _ _ c.in_ok-command-in_default.command c.in_ok-command-in_default.ensures
    c.in_ok-perform-in_default.ensures.ok
