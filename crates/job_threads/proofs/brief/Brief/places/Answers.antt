use Rattle.std.proofs.Common.{◌≡◌, Some, rules}
use Rattle.job_threads.specs.Steps.{queues_of}
use Rattle.job_threads.proofs.Planning.{queues_few}
use Rattle.job_threads.proofs.brief.Brief.places.Goals as goal

pub returns-in-Some-clause-few : goal.returns-in-Some-clause-few
returns-in-Some-clause-few g c =
    let is : queues_of g.L.OfJob.setup g.L.Aim.ahead ≡ Some c.as_slice.result.now = search rules in
    queues_few g.L.OfJob.setup g.L.Aim.ahead c.as_slice.result.now is
