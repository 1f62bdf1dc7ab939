use Rattle.std.proofs.Common.{◌≡◌, [], ◌∷◌, ◌++◌}
use Rattle.std.proofs.lemmas.List.Elements.{All-push, All-rest}
use Rattle.std.specs.declared.thread.PromisedHandle.{PromisedHandle}
use Rattle.lane_queue.specs.Lanes.{PassValue}
use Rattle.thread_tests.specs.declared.lanes.PassOf.{PassOf}
use Rattle.thread_tests.proofs.lanes.start_each.Goals as goal

-- the next thread makes the promise
pub loop-pass-preserved : goal.loop-pass-preserved
loop-pass-preserved g c =
    let was = c.loop-pass.invariant in
    let now = c.args.lane.now in
    let step : c.loop-pass.pass-iterator.rest.items ≡ c.in-Some.pass ∷ c.next.new.self.rest.items =
    c.in-Some.ensures.steps.0 in
    let items : c.push.new.self.items ≡ c.loop-pass.threads.items ++ c.start-thread.result ∷ [] =
    rw c.expect.ensures at c.push.ensures.items in (
      All-rest (λ (p : PassValue). p.lane ≡ now.lane) _ _ _ step was.0,
      rw items
          (All-push (λ (t : PromisedHandle PassValue PassOf). t.promise.0.now.lane ≡ now.lane) _ _ was.1
          c.start-thread.ensures),
    )
