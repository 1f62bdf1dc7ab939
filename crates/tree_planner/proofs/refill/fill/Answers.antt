use Rattle.std.proofs.Common.{arith}
use Rattle.tree_planner.proofs.refill.fill.Goals as goal

pub follow-requires-clause-standing : goal.follow-requires-clause-standing
follow-requires-clause-standing c =
    let s = c.requires.standing in
    let t = s.tables in
    let ready = c.find.ensures.ready c.lift.new.depth c.lift.ensures.higher in
    record {
      plain = s.plain;
      worth = s.worth;
      tables = record {
        places = t.places;
        flow = t.flow;
        depth = c.lift.ensures.over;
        free = t.free;
        below = t.below;
        sums = t.sums;
        lists = t.lists;
        known = t.known;
        listed = t.listed;
      };
      low = λ v. (let less = c.lift.ensures.higher v in let low = s.low v in omega arith);
      kept = ready.kept;
    }

pub follow-requires-clause-ready : goal.follow-requires-clause-ready
follow-requires-clause-ready c = c.find.ensures.ready c.lift.new.depth c.lift.ensures.higher
