use Rattle.std.proofs.Common.{arith}
use Rattle.std.specs.Vec.Iter.{into_iter_items}
use Rattle.script_text.proofs.Sharing.{shared_few}
use Rattle.script_text.proofs.documents.shared_texts.Goals as goal

pub overflow_cast-len : goal.overflow_cast-len
overflow_cast-len c =
    omega (
      arith,
      c.requires,
      c.len.ensures,
      shared_few c.loop-documents.texts.items (into_iter_items c.loop-documents.documents-iterator)
          c.args.lists.items c.loop-documents.invariant,
    )
