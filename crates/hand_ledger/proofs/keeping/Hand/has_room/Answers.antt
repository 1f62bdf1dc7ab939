use Rattle.std.proofs.Common.{◌+◌, ◌-◌, ap, ◌∙◌, arith, length, nat_le}
use Rattle.hand_ledger.proofs.Calls.{fits_rest, room_is, first_false, second_false, third_is}
use Rattle.hand_ledger.proofs.keeping.Hand.has_room.Goals as goal

pub returns-then-len-self : goal.returns-then-len-self
returns-then-len-self g c =
    let h = c.self.inside in
    first_false (length h.entries.items) h.room.events _ _ _ _ (omega (arith, c.len.ensures))
    ∙ room_is c.args.counts c.args.starts c.self.view_is c.self.invariant.2

pub returns-then-counts-self : goal.returns-then-counts-self
returns-then-counts-self g c =
    let h = c.self.inside in
    second_false (length h.entries.items) h.room.events (length h.counts.items + c.args.counts) h.room.sweeps
    _ _ (omega (arith, c.len.ensures)) (omega (arith, c.len-2.ensures))
    ∙ room_is c.args.counts c.args.starts c.self.view_is c.self.invariant.2

pub returns : goal.returns
returns g c =
    let h = c.self.inside in
    let lists = c.self.invariant.2 in
    ap (λ n. nat_le c.args.starts (h.room.attempts - n)) (c.len-3.ensures ∙ h.starts.ok.0)
    ∙ fits_rest (length h.starts.items) c.args.starts h.room.attempts lists.few_starts
    ∙ third_is (length h.entries.items) h.room.events (length h.counts.items + c.args.counts) h.room.sweeps _
    _ (omega (arith, c.len.ensures)) (omega (arith, c.len-2.ensures))
    ∙ room_is c.args.counts c.args.starts c.self.view_is lists
