use Rattle.std.proofs.Common.{rules, ◌++◌, ◌≡◌, ◌∙◌, List, ℕ, [], ap, if◌then◌else◌, string_bytes}
use Rattle.job_run.specs.RunAnswer.{done_lines}
use Rattle.job_run.proofs.running.tell_run.Goals as goal

pub returns : goal.returns
returns g c = λ given is. (
    let told : List ℕ = if c.args.asked then done_lines c.args.names.now c.args.ran.master else [] in
    let none : string_bytes c.new-lines.result ≡ [] = search rules in
    record {
      last = c.args.ran.master;
      ending = string_bytes c.in_ok-ending.ending;
      kept = c.is_kept.ensures;
      ends = c.in_ok-ending.ensures given is;
      out_is = c.in_ok-put_together.ensures
          ∙ ap (λ front. front ++ string_bytes c.in_ok-ending.ending)
          (c.in_ok-add_done.ensures ∙ ap (λ s. s ++ told) none);
    })
