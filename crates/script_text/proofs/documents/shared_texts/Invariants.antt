use Rattle.std.specs.Vec.Iter.{into_iter_items}
use Rattle.script_text.proofs.Sharing.{AreShared}
use Rattle.script_text.proofs.documents.shared_texts.Given as goal

abbrev pub invariant-loop-documents : goal.invariant-loop-documents
invariant-loop-documents l = AreShared l.texts.items (into_iter_items l.documents-iterator) l.fn.lists.items
