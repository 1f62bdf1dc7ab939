use Rattle.std.proofs.lemmas.Bool.{false≢true}
use Rattle.wave_arrays.proofs.PlaceLists.{are_place_prices}
use Rattle.wave_arrays.proofs.place_rows.build_places.Goals as goal

pub unreachable-requires : goal.unreachable-requires
unreachable-requires c =
    let fit = are_place_prices c.args.places.now c.requires.few c.requires.fit in
    absurd (false≢true (c.in-None.ensures.some.1 (rw c.in_ok-lists.ensures fit)))
