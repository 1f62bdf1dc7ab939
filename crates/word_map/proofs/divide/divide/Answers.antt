use Rattle.std.proofs.Common.{◌∙◌, ap}
use Rattle.std.specs.Vec.Iter.{into_iter_items}
use Rattle.word_map.specs.Words.{part_of}
use Rattle.word_map.proofs.DivideLemmas.{divided_more}
use Rattle.word_map.proofs.divide.divide.Goals as goal

-- the entry goes into the part of its word
pub loop-entry-preserved : goal.loop-entry-preserved
loop-entry-preserved g c =
    let first = c.in-Some.ensures.steps.0 in
    divided_more
    (into_iter_items c.next.new.self) c.args.entries.items c.args.parts c.loop-entry.divided.items
    c.push.new.self
    (rw first at c.loop-entry.invariant)
    (c.part_of-part.ensures.value
    ∙ ap (λ w. part_of w c.args.parts) c.word.ensures) c.part_of-part.ensures.bound
    c.index_mut.ensures.value c.in_ok-push.ensures.items
