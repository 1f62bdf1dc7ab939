-- The lines that are written.
use Rattle.std.specs.Prelude.{ℕ, List, [], ◌∷◌, ◌++◌, Option, Some, None, codes, slice_index}
use Rattle.wave_problem.specs.Assignment.{start_of}
use Rattle.std.specs.Fmt.{decimal}
use Rattle.std.specs.List.{flat_map}
use Rattle.price_certificate.specs.declared.Condition.{Condition}
use Rattle.price_certificate.specs.declared.Condition.TheVariants.{Open, Allowed, Room, SplitPrice}
use Rattle.price_certificate.specs.declared.Condition.TheVariants.{WorkerPrice, Priced, Tight, Unstarted}
use Rattle.price_certificate.specs.declared.Condition.TheVariants.{Spare}
use Rattle.price_certificate.specs.PriceList.{PriceList}
use Rattle.text_lines.specs.Texts.{Word, name_of, numbers_of}

-- what a plan comes to, after a word: how many splits it starts, and their byte-distance
abbrev pub free_line : Word → ℕ → ℕ → List ℕ
free_line word count cost = word ++ codes " " ++ decimal count ++ codes " " ++ decimal cost ++ 10 ∷ []

-- and what the places taken cost together
abbrev pub charged_line : Word → ℕ → ℕ → ℕ → List ℕ
charged_line word count cost taken =
    word ++ codes " " ++ decimal count ++ codes " " ++ decimal cost ++ codes " " ++ decimal taken ++ 10 ∷ []

-- which is told where places have prices
abbrev pub figures_line : Word → List (List ℕ) → ℕ → ℕ → ℕ → List ℕ
figures_line word [] count cost taken = free_line word count cost
figures_line word places count cost taken = charged_line word count cost taken

-- the answer to a plan that is certified
abbrev pub certified_by : List (List ℕ) → ℕ → ℕ → ℕ → List ℕ
certified_by places count cost taken = figures_line (codes "certified") places count cost taken

-- the first line of a plan that was made
abbrev pub planned_by : List (List ℕ) → ℕ → ℕ → ℕ → List ℕ
planned_by places count cost taken = figures_line (codes "wave") places count cost taken

-- a condition that fails at a split or a worker
abbrev pub refused_at : ℕ → Word → List ℕ
refused_at condition name = codes "refused C" ++ decimal condition ++ codes " " ++ name ++ 10 ∷ []

-- a condition that fails at a split and a worker
abbrev pub refused_at_pair : ℕ → Word → Word → List ℕ
refused_at_pair condition split worker =
    codes "refused C" ++ decimal condition ++ codes " " ++ split ++ codes " " ++ worker ++ 10 ∷ []

-- the number by which each condition is told, and its place by names
abbrev pub refused_line : List Word → List Word → Condition → List ℕ
refused_line splits workers (Open s) = refused_at 1 (name_of splits s)
refused_line splits workers (Allowed s w) = refused_at_pair 2 (name_of splits s) (name_of workers w)
refused_line splits workers (Room w) = refused_at 3 (name_of workers w)
refused_line splits workers (SplitPrice s) = refused_at 4 (name_of splits s)
refused_line splits workers (WorkerPrice w) = refused_at 4 (name_of workers w)
refused_line splits workers (Priced s w) = refused_at_pair 5 (name_of splits s) (name_of workers w)
refused_line splits workers (Tight s w) = refused_at_pair 6 (name_of splits s) (name_of workers w)
refused_line splits workers (Unstarted s) = refused_at 7 (name_of splits s)
refused_line splits workers (Spare w) = refused_at 8 (name_of workers w)

-- ---- a plan

-- the line of a split that starts on a worker, and none of one that does not start
abbrev pub start_line : List Word → Word → Option ℕ → List ℕ
start_line workers split (Some w) = codes "start " ++ split ++ codes " " ++ name_of workers w ++ 10 ∷ []
start_line workers split None = []

abbrev pub price_line : Word → ℕ → List ℕ
price_line name amount = codes "price " ++ name ++ codes " " ++ decimal amount ++ 10 ∷ []

-- a line for each split that starts, by number
abbrev pub start_lines : List Word → List Word → List (Option ℕ) → List ℕ
start_lines splits workers starts =
    flat_map (λ s. start_line workers (name_of splits s) (start_of starts s)) (numbers_of splits)

-- a line for each name, by number
abbrev pub price_lines_of : List Word → List ℕ → List ℕ
price_lines_of names amounts = flat_map (λ n. price_line (name_of names n) (slice_index amounts n))
    (numbers_of names)

-- the prices of all splits, then of all workers
abbrev pub price_lines : List Word → List Word → PriceList → List ℕ
price_lines splits workers prices =
    price_lines_of splits prices.splits ++ price_lines_of workers prices.workers

-- the starts and prices of a plan
abbrev pub lines_of_plan : List Word → List Word → List (Option ℕ) → PriceList → List ℕ
lines_of_plan splits workers starts prices =
    start_lines splits workers starts ++ price_lines splits workers prices
