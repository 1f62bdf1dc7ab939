use Rattle.std.proofs.Common.{◌≡◌, [], length, not, Some, None, refl, ap, sym, ◌∙◌, arith}
use Rattle.std.specs.Prelude.{find}
use Rattle.node_ids.proofs.Updating.{length-updated}
use Rattle.block_map.specs.Holdings.{holders_of, without}
use Rattle.master_state.proofs.Lists.{at-updated_kept}
use Rattle.node_ids.specs.Sets.{is_in_row}
use Rattle.master_tables.specs.Ends.{without_all}
use Rattle.master_tables.proofs.Together.{filter-after, filter-empty, find-none, find-some, length-without}
use Rattle.master_tables.proofs.Together.{updated-both, updated-nothing}
use Rattle.master_tables.proofs.deaths.drop_from.Goals as goal

pub returns-in_default : goal.returns-in_default
returns-in_default c =
    let test = is_in_row c.args.dead.now in
    let none : find test (holders_of c.loop-turn.holders c.args.split) ≡ None =
    ap (find test) (sym c.holders.ensures.value) ∙ sym c.first_among.ensures ∙ c.in_default.is in
    sym (updated-nothing (without_all c.args.dead.now) c.loop-turn.holders c.args.split []
    (find-none test (holders_of c.loop-turn.holders c.args.split) none))
    ∙ c.loop-turn.invariant.dropped

pub drop_holder-requires-clause-holder : goal.drop_holder-requires-clause-holder
drop_holder-requires-clause-holder c =
    let test = is_in_row c.args.dead.now in
    let some : find test (holders_of c.loop-turn.holders c.args.split) ≡ Some c.in-Some.holder =
    ap (find test) (sym c.holders.ensures.value) ∙ sym c.first_among.ensures ∙ c.in-Some.is in
    (find-some test (holders_of c.loop-turn.holders c.args.split) c.in-Some.holder some).0

pub loop-turn-preserved : goal.loop-turn-preserved
loop-turn-preserved c =
    let test = is_in_row c.args.dead.now in
    let now = c.loop-turn.holders in
    let held = holders_of now c.args.split in
    let gone = c.in-Some.holder in
    let some : find test held ≡ Some gone =
    ap (find test) (sym c.holders.ensures.value) ∙ sym c.first_among.ensures ∙ c.in-Some.is in
    let found = find-some test held gone some in
    rw c.drop_holder.ensures (record {
      same = length-updated (without gone) now c.args.split ∙ c.loop-turn.invariant.same;
      dropped =
          updated-both (without gone) (without_all c.args.dead.now) (filter-after test gone found.1) now
          c.args.split
          ∙ c.loop-turn.invariant.dropped;
      fewer =
          omega (
            arith,
            ap length (at-updated_kept (without gone) now c.args.split [] refl),
            length-without held gone found.0,
            c.loop-turn.invariant.fewer,
          );
    })

pub returns : goal.returns
returns c =
    let held = holders_of c.loop-turn.holders c.args.split in
    let none = filter-empty (λ h. not (is_in_row c.args.dead.now h)) held
    (omega (
      arith,
      c.loop-turn.invariant.fewer,
      c.loop-turn-test.false,
      ap length c.holders-turn-end.ensures.value,
    )) in
    sym (updated-nothing (without_all c.args.dead.now) c.loop-turn.holders c.args.split [] none)
    ∙ c.loop-turn.invariant.dropped
