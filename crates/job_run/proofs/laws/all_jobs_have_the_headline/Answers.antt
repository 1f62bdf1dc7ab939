use Rattle.master_state.proofs.Headline.{headline}
use Rattle.job_run.specs.Headlines.{IsHeadlineJob}
use Rattle.job_run.proofs.Ran.{told_setup}
use Rattle.job_run.proofs.laws.all_jobs_have_the_headline.Goals as goal

pub returns-clause-reports : goal.returns-clause-reports
returns-clause-reports c setup script finish out report =
    record { given = report.given; headline = headline report.last report.kept }

pub returns-clause-runs : goal.returns-clause-runs
returns-clause-runs c setup names asked end out run =
    record { given = told_setup setup names run.last end run.ending run.ends; headline = headline run.last run.kept }
