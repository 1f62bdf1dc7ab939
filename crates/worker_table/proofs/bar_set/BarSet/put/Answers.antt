use Rattle.std.proofs.Common.{◌≡◌, ◌-◌, ◌<◌, ◌∙◌, Result, Ok, Err, ap, arith, length, subst, sym}
use Rattle.std.specs.Result.{IfOk, IsOk}
use Rattle.std.proofs.lemmas.Bool.{false≢true}
use Rattle.worker_table.specs.Bars.{Bars, bars_with, in_rows}
use Rattle.worker_table.proofs.Barring.{AreKnown, known-with_one, length-in_rows, rows-with_one, with_one}
use Rattle.worker_table.proofs.bar_set.BarSet.put.Goals as goal

on_ok : {T E : Type 0} (r : Result T E) (A : Type 0) → IsOk r → IfOk r (λ _. A) → A
on_ok (Ok x) A ok has = has
on_ok (Err e) A ok has = absurd (false≢true ok)

module _ (c : goal.After-unwrap-is_new) where
  pub keys : c.insert.new.self.keys ≡ with_one c.self.inside.pairs.keys (c.args.split, c.args.worker)
  keys = on_ok c.insert.result _
      (c.insert.ensures.succeeds (omega (
        arith,
        c.self.invariant.room,
        c.requires.room,
        ap (λ (b : Bars). b.room) c.self.view_is,
      )))
      c.insert.ensures.keys

pub invariant_of-self : goal.invariant_of-self
invariant_of-self c =
    let inside = c.self.inside in
    let known : c.args.split < inside.splits = omega (
      arith,
      c.requires.split,
      ap (λ (b : Bars). length b.rows) c.self.view_is,
      length-in_rows inside.splits inside.pairs.keys,
    ) in
    record {
      known = subst (AreKnown inside.splits) (sym (keys c))
          (known-with_one inside.splits inside.pairs.keys (c.args.split, c.args.worker)
          c.self.invariant.known known);
      room = omega (arith, c.self.invariant.room, c.insert.ensures.spare);
    }

pub returns : goal.returns
returns c =
    let inside = c.self.inside in
    let rows = ap (in_rows inside.splits) (keys c)
    ∙ rows-with_one inside.splits inside.pairs.keys (c.args.split, c.args.worker) c.self.invariant.known in
    (λ i. record { rows = rows i; room = inside.room - 1 })
    ∙ ap (λ (b : Bars). bars_with b c.args.split c.args.worker) c.self.view_is
