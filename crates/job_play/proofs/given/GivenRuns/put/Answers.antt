use Rattle.std.proofs.Common.{◌∙◌, ℕ, List, ap}
use Rattle.std.specs.Prelude.{slice_set}
use Rattle.std.proofs.lemmas.List.{map-set}
use Rattle.std.specs.declared.alloc.Global.{Global}
use Rattle.std.specs.declared.sync.Arc.{Arc}
use Rattle.std.specs.declared.vec.Vec.{Vec}
use Rattle.word_map.specs.Runs.{RunView}
use Rattle.job_play.specs.Given.{Runs}
use Rattle.job_play.proofs.given.GivenRuns.put.Goals as goal

pub returns : goal.returns
returns c =
    let given = c.args.runs.items in
    map-set (λ (runs : Vec (Arc RunView Global) Global). runs.items) c.self.inside.of_parts.items
    c.index.result
    c.args.runs
    ∙ ap (λ (table : List Runs). slice_set table c.index.result given) c.self.view_is
    ∙ ap (λ (i : ℕ). slice_set c.args.self.now i given) c.index.ensures.value
