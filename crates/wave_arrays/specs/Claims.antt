-- Starts and prices as numbers.
use Rattle.std.specs.Prelude.{ℕ, ◌≡◌, ◌<◌, ◌==◌, ◌⊎◌, List, All, Option, Some, None, if◌then◌else◌}
use Rattle.price_certificate.specs.PriceList.{PriceList}

-- the worker that a number says: 65,535 says none
abbrev pub start_in : ℕ → Option ℕ
start_in number = if number == 65535 then None else Some number

-- a number says none, or one of so many workers
abbrev pub IsStartFit : ℕ → ℕ → Type 0
IsStartFit workers number = (number ≡ 65535) ⊎ (number < workers)

abbrev pub AreStartsFit : ℕ → List ℕ → Type 0
AreStartsFit workers numbers = All (IsStartFit workers) numbers

-- prices of arrays
abbrev pub prices_in : List ℕ → List ℕ → PriceList
prices_in splits workers = record { splits = splits; workers = workers }
