use Rattle.std.specs.Prelude.{◌≡◌, ◌≤◌}
use Rattle.price_certificate.specs.Certificate.{Claim, reward_of}
use Rattle.certificate_checker.specs.View.{most_reward}
use Rattle.certificate_checker.specs.Verdict.{MayComparePairs}
use Rattle.certificate_checker.specs.Slots.{chain_at, AreSlots, Links}
use Rattle.certificate_checker.specs.declared.pairs.PairChecker.TheInside.{Inside}
use Rattle.certificate_checker.specs.declared.slots.Level.{Level}

-- what the conditions speak of
abbrev pub claim_of : Inside → Claim
claim_of p = p.checker.now

-- the conditions before the pairs hold, and what is kept beside the claim is its
pub record IsReady (p : Inside) : Type 0 where
  pub before : MayComparePairs p.checker.now
  pub reward : p.reward ≡ reward_of p.checker.now
  pub small : p.reward ≤ most_reward
  pub slots : AreSlots p.checker.now p.slots.all.items
  pub links : (level : Level) → Links p.checker.now p.slots.all.items level (chain_at p.slots level)
