use Rattle.std.proofs.Common.{◌∙◌, refl, sym}
use Rattle.job_threads.proofs.ending.is_done.Goals as goal

pub returns : goal.returns
returns c = λ is_done. (
    record {
      setup = refl;
      legal = c.is_kept.ensures.legal;
      done = sym c.are_parts_done.ensures ∙ is_done;
    })
