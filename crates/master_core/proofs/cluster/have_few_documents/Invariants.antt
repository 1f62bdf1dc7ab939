use Rattle.std.proofs.Common.{◌≡◌, ◌+◌, length, take}
use Rattle.std.specs.List.{sum_by}
use Rattle.std.specs.Arc.{arc_value}
use Rattle.std.specs.declared.alloc.Global.{Global}
use Rattle.std.specs.declared.sync.Arc.{Arc}
use Rattle.word_map.specs.Texts.{SplitDocuments}
use Rattle.master_core.proofs.cluster.have_few_documents.Given as goal

abbrev pub invariant-loop-text : goal.invariant-loop-text
invariant-loop-text l =
    let documents = λ (text : Arc SplitDocuments Global). length (arc_value text).documents in
    l.left + sum_by documents (take l.text-index l.texts) ≡ 1048576
