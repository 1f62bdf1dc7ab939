use Rattle.std.proofs.Common.{refl}
use Rattle.live_master.specs.Serving.{served_on}
use Rattle.job_play.specs.PlayAnswer.{cluster_in}
use Rattle.live_master.proofs.Sessions.{few, is_opened, named_empty, named_open}
use Rattle.live_master.proofs.serving.Session.new.Goals as goal

pub draft_of-requires : goal.draft_of-requires
draft_of-requires c = few c.requires.opening.0 c.args.opening c.args.known c.requires.opening.1

pub no_runs-requires : goal.no_runs-requires
no_runs-requires c = (served_on (cluster_in c.args.opening.head), c.in_ok-master.ensures)

pub returns-clause-ready : goal.returns-clause-ready
returns-clause-ready c = record {
  given = c.in_ok-given.ensures;
  named = named_open c.requires.opening.0 c.args.opening c.args.known c.requires.opening.1 c.requires.of_head _ refl
      refl c.in_ok-master.ensures;
  draft = named_empty c.args.opening.script.names c.in_ok-draft.draft c.in_ok-draft.ensures;
  certified = tt;
}

pub returns-clause-opened : goal.returns-clause-opened
returns-clause-opened c = λ text is.
    is_opened text _ c.args.opening is refl refl refl c.in_ok-draft.ensures c.in_ok-master.ensures
