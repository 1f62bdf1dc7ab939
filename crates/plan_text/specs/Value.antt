-- The value that the lines of a problem and a plan declare, over whole lists and by names.
use Rattle.std.specs.Prelude.{ℕ, List, [], ◌∷◌, ◌≡◌, ◌↔◌, Bool, not, Option, drop, length, map, max}
use Rattle.std.specs.Prelude.{slice_index_or, unwrap_or}
use Rattle.std.specs.List.{Contains, flat_map, list_any, position}
use Rattle.std.specs.Option.{option_map}
use Rattle.std.specs.Str.{bytes_eq}
use Rattle.node_ids.specs.Sets.{HasPair}
use Rattle.rack_tree.specs.Tree.{Tree}
use Rattle.wave_problem.specs.Wave as wave
use Rattle.wave_problem.specs.Wave.{Wave}
use Rattle.wave_problem.specs.declared.lines.WorkerLine.{WorkerLine}
use Rattle.price_certificate.specs.PriceList.{PriceList}
use Rattle.text_lines.specs.Texts.{Word, number_of}
use Rattle.line_shapes.specs.Lines.{Statement, tail_words}
use Rattle.line_shapes.specs.declared.keyword.Keyword.TheVariants.{Centre, Rack, Worker, Split, Barred, Dead}
use Rattle.line_shapes.specs.declared.keyword.Keyword.TheVariants.{Busy, Places, Start, Price}
use Rattle.line_rules.specs.Known.{rows_of}
use Rattle.plan_text.specs.Names.{names_in, names_of, rows_in, nth_word}

-- the number of a name: its place among the names of its kind
abbrev pub number_in : List Word → Word → ℕ
number_in names name = unwrap_or (position (λ n. bytes_eq name n) names) 0

abbrev pub stands_in : List Word → Word → Bool
stands_in names name = list_any (bytes_eq name) names

-- what stands beside the first of these names that is the name
abbrev pub beside : {X : Type 0} → X → List Word → List X → Word → Option X
beside d names values name =
    option_map (λ i. slice_index_or values i d) (position (λ n. bytes_eq name n) names)

-- ---- a line of each kind

-- `worker NAME RACK SLOTS`, among these racks
abbrev pub rack_number : List Word → Statement → ℕ
rack_number racks s = number_in racks (nth_word 1 s)

-- a worker lives where no line says that it is dead
abbrev pub declared_worker : List Word → Statement → WorkerLine
declared_worker dead s =
    record { live = not (stands_in dead (nth_word 0 s)); free = number_of (nth_word 2 s) }

-- `split NAME BYTES HOLDER ..`: it is pending where no line says that it is busy
abbrev pub declared_split : List Word → List Word → Statement → wave.Split
declared_split workers busy s = record {
  bytes = number_of (nth_word 1 s);
  pending = not (stands_in busy (nth_word 0 s));
  holders = map (number_in workers) (tail_words s);
}

-- the holders of these splits, split by split
abbrev pub holders_of : List Word → List Statement → List ℕ
holders_of workers splits = flat_map (λ s. map (number_in workers) (tail_words s)) splits

-- `barred SPLIT WORKER`
abbrev pub declared_bar : List Word → List Word → Statement → ℕ × ℕ
declared_bar splits workers s = (number_in splits (nth_word 0 s), number_in workers (nth_word 1 s))

-- one of these lines bars the worker w from the split s
abbrev pub IsBarred : List Word → List Word → List Statement → ℕ → ℕ → Type 0
IsBarred splits workers barred s w = Contains (map (declared_bar splits workers) barred) (s, w)

-- `start SPLIT WORKER`: the worker that the split starts on, if one of these lines says so
abbrev pub start_at : List Word → List Statement → Word → Option ℕ
start_at workers lines name =
    option_map (number_in workers) (beside [] (names_in lines) (map (nth_word 1) lines) name)

-- `price NAME AMOUNT`: the price of a split or a worker, 0 where none of these lines says it
abbrev pub price_at : List Statement → Word → ℕ
price_at lines name = unwrap_or (beside 0 (names_in lines) (map (λ s. number_of (nth_word 1 s)) lines) name) 0

-- `places WORKER PRICE ..`: the prices of the places of a worker, none where none of these lines says them
abbrev pub places_told : Statement → List ℕ
places_told s = map number_of (drop 1 s.words)

abbrev pub places_at : List Statement → Word → List ℕ
places_at lines name = unwrap_or (beside [] (names_in lines) (map places_told lines) name) []

-- ---- all lines

-- `rack NAME CENTRE`, among these centres; where the text has none, its racks stand in one without a name
abbrev pub centre_number : List Word → Statement → ℕ
centre_number centres s = number_in centres (nth_word 1 s)

-- the centres, and the lines of racks and of workers
abbrev pub declared_tree : List Word → List Statement → List Statement → Tree
declared_tree centres racks workers = record {
  centres = max 1 (length centres);
  centre_of = map (centre_number centres) racks;
  rack_of = map (rack_number (names_in racks)) workers;
}

-- the wave that the rows make
pub record MakesWave (rows : List Statement) (wave : Wave) : Type 0 where
  pub tree : wave.tree ≡ declared_tree (names_of Centre rows) (rows_of Rack rows) (rows_of Worker rows)
  pub workers : wave.workers ≡ map (declared_worker (names_of Dead rows)) (rows_of Worker rows)
  pub splits : wave.splits
      ≡ map (declared_split (names_of Worker rows) (names_of Busy rows)) (rows_of Split rows)
  pub barred : (s w : ℕ) → HasPair wave.barred s w
      ↔ IsBarred (names_of Split rows) (names_of Worker rows) (rows_of Barred rows) s w

abbrev pub declared_starts : List Statement → List (Option ℕ)
declared_starts rows = map (start_at (names_of Worker rows) (rows_of Start rows)) (names_of Split rows)

abbrev pub prices_in : List Statement → PriceList
prices_in rows = record {
  splits = map (price_at (rows_of Price rows)) (names_of Split rows);
  workers = map (price_at (rows_of Price rows)) (names_of Worker rows);
}

-- ---- of all that a text says

abbrev pub DeclaresWave : List Statement → Wave → Type 0
DeclaresWave ss wave = MakesWave (rows_in ss) wave

-- the prices of places of each worker by these lines, of none where there is no line
abbrev pub places_by : List Statement → List Word → List (List ℕ)
places_by [] workers = []
places_by (line ∷ lines) workers = map (places_at (line ∷ lines)) workers

abbrev pub declared_places : List Statement → List (List ℕ)
declared_places rows = places_by (rows_of Places rows) (names_of Worker rows)

-- the starts and prices of a plan to check, and its prices of places
abbrev pub starts : List Statement → List (Option ℕ)
starts ss = declared_starts (rows_in ss)

abbrev pub prices : List Statement → PriceList
prices ss = prices_in (rows_in ss)

abbrev pub places : List Statement → List (List ℕ)
places ss = declared_places (rows_in ss)
