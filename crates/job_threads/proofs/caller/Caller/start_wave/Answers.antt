use Rattle.std.proofs.Common.{◌≡◌, Ok, Some, inl, rules}
use Rattle.std.proofs.lemmas.Result.{IfOk-weaker}
use Rattle.job_threads.proofs.Planning.{kept_of, planned_so}
use Rattle.job_threads.proofs.caller.Caller.start_wave.Goals as goal

pub send_wave-requires-clause-attempts : goal.send_wave-requires-clause-attempts
send_wave-requires-clause-attempts g c κs within =
    let told : c.plan.result ≡ Ok (Some c.in-Ok-Some.wave) = search rules in
    (kept_of _ _ _ _ _ (planned_so _ _ _ _ _ _ told c.plan.ensures)).1.few

pub send_wave-requires-clause-maps : goal.send_wave-requires-clause-maps
send_wave-requires-clause-maps g c κs within =
    let told : c.plan.result ≡ Ok (Some c.in-Ok-Some.wave) = search rules in
    (kept_of _ _ _ _ _ (planned_so _ _ _ _ _ _ told c.plan.ensures)).1.maps

pub returns-in-Ok-Some-clause-starts : goal.returns-in-Ok-Some-clause-starts
returns-in-Ok-Some-clause-starts g c =
    let told : c.plan.result ≡ Ok (Some c.in-Ok-Some.wave) = search rules in
    IfOk-weaker c.send_wave.result _ _
    (λ started sends. inl (record {
      shared = c.in-Ok-Some.wave;
      answered = c.plan.new.hand;
      kept = planned_so _ _ _ _ _ _ told c.plan.ensures;
      starts = sends;
    }))
    c.send_wave.ensures.sends
