use Rattle.std.proofs.Common.{rules, inl, refl}
use Rattle.live_master.proofs.Sessions.{hears_fault, long_none, replies_heard}
use Rattle.live_master.proofs.serving.SessionTalker.reply.Goals as goal

pub returns-then-line-ge-MAX_HEARD_BYTES-clause-replies : goal.returns-then-line-ge-MAX_HEARD_BYTES-clause-replies
returns-then-line-ge-MAX_HEARD_BYTES-clause-replies c =
    replies_heard c.args.self.now c.args.self.now c.args.line.now _ _ _ (search rules)
    (hears_fault c.args.self.now c.args.self.now c.args.line.now _ _ (long_none _ (search rules)) _
    (inl (search rules, refl)) refl c.in_ok-add_fault.ensures)

pub returns-clause-replies : goal.returns-clause-replies
returns-clause-replies c =
    replies_heard c.args.self.now _ c.args.line.now _ _ c.in_ok-turn.turn (search rules) c.in_ok-turn.ensures.ok
