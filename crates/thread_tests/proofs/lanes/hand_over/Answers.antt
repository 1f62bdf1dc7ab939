use Rattle.std.proofs.Common.{rules, ◌≡◌, ◌+◌, ap, sym, ◌∙◌, [], ◌∷◌, ◌++◌, length}
use Rattle.lane_queue.proofs.Uses.{takes_all}
use Rattle.thread_tests.proofs.lanes.hand_over.Goals as goal

pub returns-in-Ok : goal.returns-in-Ok
returns-in-Ok g c =
    let done = c.put_and_take-putter in
    let p = done.result.0 in
    let q = done.result.1 in
    let orders = c.args.orders.items in
    let got = done.result.2.items in
    let fresh : c.in_ok-lane.putter
    ≡ record { lane = c.in_ok-lane.lane.lane; puts = []; takes = []; depth = 0 } = search rules in
    let half = c.share.ensures.half in
    let shared : c.in_ok-taker.taker
    ≡ record {
      lane = c.in_ok-lane.lane.lane;
      puts = [];
      takes = [];
      depth =
          c.in_ok-lane.putter.depth + 1;
    } = search rules in
    let empty : c.in_ok-passes.passes.items ≡ [] = search rules in
    let puts : p.puts ≡ orders =
    ap (λ x. x.puts) done.ensures.putter ∙ ap (λ x. x.puts ++ orders) half
    ∙ ap (λ x. x.puts ++ orders) fresh in
    let takes : q.takes ≡ got = ap (λ x. x.takes) done.ensures.taker ∙ ap (λ x. x.takes ++ got) shared in
    let both : c.push_reserved-2.new.self.items ≡ p ∷ q ∷ [] =
    c.push_reserved-2.ensures.items
    ∙ ap (λ l. l ++ q ∷ []) (c.push_reserved.ensures.items ∙ ap (λ l. l ++ p ∷ []) empty) in
    let one : p.depth ≡ 1 = ap (λ x. x.depth) done.ensures.putter ∙ ap (λ x. x.depth) half
    ∙ ap (λ x. x.depth + 1) fresh in
    let two : q.depth ≡ 1 = ap (λ x. x.depth) done.ensures.taker ∙ ap (λ x. x.depth) shared
    ∙ ap (λ x. x.depth + 1) fresh in
    let took_none : p.takes ≡ [] = ap (λ x. x.takes) done.ensures.putter ∙ ap (λ x. x.takes) half
    ∙ ap (λ x. x.takes) fresh in
    let put_none : q.puts ≡ [] = ap (λ x. x.puts) done.ensures.taker ∙ ap (λ x. x.puts) shared in
    let count : length q.takes ≡ length p.puts = ap length takes ∙ done.ensures.count
    ∙ sym (ap length puts) in
    sym takes ∙ takes_all _ p q _ both one two took_none put_none c.in-Ok.ensures.settled count ∙ puts
