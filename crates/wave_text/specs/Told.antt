-- What the text of a wave says.
use Rattle.std.specs.Prelude.{ℕ, ◌≡◌, ◌<◌, ◌↔◌, List, [], Option, length}
use Rattle.node_ids.specs.Sets.{HasPair}
use Rattle.wave_problem.specs.Wave.{Wave}
use Rattle.price_certificate.specs.PriceList.{PriceList}
use Rattle.plan_text.specs.Reading.{IsReadingOf}
use Rattle.plan_text.specs.declared.built.PlanText.{PlanText}

-- the same tree, the same workers and splits, and the same pairs are barred
pub record IsSameWave (a b : Wave) : Type 0 where
  pub tree : a.tree ≡ b.tree
  pub workers : a.workers ≡ b.workers
  pub splits : a.splits ≡ b.splits
  pub barred : (s w : ℕ) → s < length b.splits → w < length b.workers
      → HasPair a.barred s w ↔ HasPair b.barred s w

-- the text has no fault, and declares this wave, these starts and these prices, and no place has a price
pub record TellsWave (text : List ℕ) (wave : Wave) (told_starts : List (Option ℕ))
    (told_prices : PriceList) : Type 0 where
  pub read : PlanText
  pub reading : IsReadingOf text read
  pub same : IsSameWave read.problem wave
  pub starts : read.plan.starts ≡ told_starts
  pub prices : read.prices ≡ told_prices
  pub free_places : read.places ≡ []
