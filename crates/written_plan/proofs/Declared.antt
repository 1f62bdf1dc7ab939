-- The names and values that the lines of a head and a plan declare.
use Rattle.std.proofs.Common.{zip, ℕ, List, [], ◌∷◌, ◌++◌, ◌≡◌, ◌<◌, ◌^◌, ◌∙◌, Option, Some}
use Rattle.std.proofs.Common.{append-nil, ap, arith, get_or, length, map, refl, sym}
use Rattle.std.proofs.lemmas.Slice.Zip.{firsts-zip, seconds-zip}
use Rattle.std.specs.List.{All}
use Rattle.std.proofs.lemmas.List.{map-append}
use Rattle.std.proofs.lemmas.List.Elements.{All-contains, All-filter, All-head, All-map, All-tail}
use Rattle.std.proofs.lemmas.List.Elements.{Contains-get_or, filter_passes}
use Rattle.wave_problem.specs.Assignment.{start_of}
use Rattle.wave_problem.specs.Wave.{Wave}
use Rattle.price_certificate.specs.PriceList.{PriceList}
use Rattle.text_lines.specs.Texts.{IsLongName, Word, number_of}
use Rattle.line_shapes.specs.Lines.{Statement}
use Rattle.line_shapes.specs.Places.{place_at, places_of}
use Rattle.line_shapes.specs.declared.place.Place.TheVariants.{New}
use Rattle.line_shapes.specs.declared.keyword.Keyword.{Keyword}
use Rattle.line_shapes.specs.declared.keyword.Keyword.TheVariants.{Centre, Rack, Worker, Split, Barred, Dead}
use Rattle.line_shapes.specs.declared.keyword.Keyword.TheVariants.{Busy, Places}
use Rattle.line_rules.specs.Entered.{AreSound, IsSound}
use Rattle.line_rules.specs.Entering.{entering_of}
use Rattle.line_rules.specs.Known.{is_of, keys_of, rows_of}
use Rattle.line_rules.specs.Names.{IsNameOf}
use Rattle.line_rules.specs.declared.edition.Version.{Version}
use Rattle.line_rules.specs.declared.entering.Entering.TheVariants.{Word as ByWord}
use Rattle.plan_text.specs.Names.{names_in, names_of, nth_word}
use Rattle.plan_text.specs.Tidy.{AreTidy, IsTidyRow}
use Rattle.plan_text.specs.Value.{MakesWave, price_at, prices_in, start_at}
use Rattle.plan_text.specs.Value.{declared_places, declared_starts, places_by}
use Rattle.line_rules.proofs.OfKeyword.{keyword_of}
use Rattle.plan_text.proofs.Named.{named_row, names_differ}
use Rattle.written_plan.proofs.Heads.{AreApart, IsBare}
use Rattle.written_plan.proofs.Pairs.{new-none, price_said, start_pairs, start_said}
use Rattle.written_plan.proofs.PlanPart.{AreNames, AreSpelled, plan_rows, price_names, rows-other, rows-price}
use Rattle.written_plan.proofs.PlanPart.{rows-start, start_names}
use Rattle.written_plan.proofs.Values.{priced_at, prices_read, started_on, starts_read}
use Rattle.written_plan.proofs.Words.{number_of-decimal}

-- ---- the names of a head

abbrev AreNamed : Keyword → List Statement → Type 0
AreNamed k rows = (s : Statement) → s.keyword ≡ k → IsTidyRow rows s → IsLongName (nth_word 0 s)

named_in : (k : Keyword) (rows : List Statement) → AreTidy rows → AreNamed k rows →
    All IsLongName (names_of k rows)
named_in k rows tidy named =
    All-map IsLongName (nth_word 0) (rows_of k rows)
    (λ i d lt. named (get_or (rows_of k rows) i d) (keyword_of k (get_or (rows_of k rows) i d)
    (filter_passes (is_of k) rows i d lt))
    (All-filter (is_of k) (IsTidyRow rows) rows tidy.each i d lt))

-- the word of a new name is a long name
first_named : (k : Keyword) → place_at k 0 ≡ Some New → 0 < length (places_of k) → (rows : List Statement)
    → AreNamed k rows
first_named k first some rows s same tidy = grind arith

-- the names of a keyword's rows are names in a text of the version
spelled_in : (version : Version) (k : Keyword) → entering_of k ≡ ByWord → place_at k 0 ≡ Some New
    → 0 < length (places_of k) → (rows : List Statement) → AreTidy rows → AreSound version rows
    → All (IsNameOf version) (names_of k rows)
spelled_in version k by new some rows tidy sound i d lt =
    let name = get_or (names_of k rows) i d in
    let long : IsLongName name = named_in k rows tidy (first_named k new some rows) i d lt in
    let row = named_row k by rows name (Contains-get_or (names_of k rows) i d lt) in
    (All-contains (IsSound version) (keys_of rows) (k, name, []) sound row).named by new long.0

pub head_spelled : (version : Version) (rows : List Statement) → AreTidy rows → AreSound version rows
    → AreSpelled version (names_of Split rows) (names_of Worker rows)
head_spelled version rows tidy sound = record {
  split_names = spelled_in version Split refl refl (omega arith) rows tidy sound;
  worker_names = spelled_in version Worker refl refl (omega arith) rows tidy sound;
}

pub head_names : (rows : List Statement) → AreTidy rows → AreApart rows
    → AreNames (names_of Split rows) (names_of Worker rows)
head_names rows tidy apart = record {
  splits_differ = names_differ Split refl rows tidy.differ;
  workers_differ = names_differ Worker refl rows tidy.differ;
  apart = λ n split worker. apart n (named_row Split refl rows n split) (named_row Worker refl rows n worker);
}

-- ---- the wave

pub same_wave : (rows : List Statement) (a : List (Word × Word)) (b c : List (Word × ℕ)) (w : Wave)
    → MakesWave rows w → MakesWave (rows ++ plan_rows a b c) w
same_wave rows a b c w h =
    let all = rows ++ plan_rows a b c in
    let centres = sym (rows-other Centre rows a b c (λ p ss. refl) (λ p ss. refl)) in
    let racks = sym (rows-other Rack rows a b c (λ p ss. refl) (λ p ss. refl)) in
    let workers = sym (rows-other Worker rows a b c (λ p ss. refl) (λ p ss. refl)) in
    let splits = sym (rows-other Split rows a b c (λ p ss. refl) (λ p ss. refl)) in
    let dead = sym (rows-other Dead rows a b c (λ p ss. refl) (λ p ss. refl)) in
    let busy = sym (rows-other Busy rows a b c (λ p ss. refl) (λ p ss. refl)) in
    let barred = sym (rows-other Barred rows a b c (λ p ss. refl) (λ p ss. refl)) in
    grind arith

-- ---- the starts

start_words : (a : List (Word × Word)) → map (nth_word 1) (map start_said a) ≡ map (λ p. p.1) a
start_words [] = refl
start_words (p ∷ ps) = ap (λ (ws : List Word). p.1 ∷ ws) (start_words ps)

pub starts-back : (rows : List Statement) (starts : List (Option ℕ)) (b c : List (Word × ℕ)) → IsBare rows
    → AreNames (names_of Split rows) (names_of Worker rows) → length starts ≡ length (names_of Split rows)
    → ((s w : ℕ) → start_of starts s ≡ Some w → w < length (names_of Worker rows))
    → declared_starts
    (rows ++ plan_rows (start_pairs (names_of Worker rows) (names_of Split rows) starts) b c)
    ≡ starts
starts-back rows starts b c bare names count of_workers =
    let splits = names_of Split rows in
    let workers = names_of Worker rows in
    let a = start_pairs workers splits starts in
    let split_rows = rows-other Split rows a b c (λ p ss. refl) (λ p ss. refl) in
    let worker_rows = rows-other Worker rows a b c (λ p ss. refl) (λ p ss. refl) in
    let lines = rows-start rows a b c bare.no_starts in
    (λ i. map (start_at (names_in (worker_rows i)) (lines i)) (names_in (split_rows i)))
    ∙ (λ i. map (started_on workers (start_names a i) (start_words a i)) splits)
    ∙ starts_read workers splits starts [] [] names.workers_differ refl count
    (new-none [] splits refl names.splits_differ) of_workers

-- ---- the prices

-- no line of the plan is of places
pub places-back : (rows : List Statement) (a : List (Word × Word)) (b c : List (Word × ℕ))
    → declared_places (rows ++ plan_rows a b c) ≡ declared_places rows
places-back rows a b c =
    let lines = rows-other Places rows a b c (λ p ss. refl) (λ p ss. refl) in
    let worker_rows = rows-other Worker rows a b c (λ p ss. refl) (λ p ss. refl) in
    λ i. places_by (lines i) (names_in (worker_rows i))

split_prices-back : (splits workers : List Word) (ps qs : List ℕ) → AreNames splits workers
    → length ps ≡ length splits
    → map (priced_at (splits ++ workers) (ps ++ qs)) splits ≡ ps
split_prices-back splits workers ps qs names count =
    prices_read splits ps [] workers [] qs refl count (new-none [] splits refl names.splits_differ)

worker_prices-back : (splits workers : List Word) (ps qs : List ℕ) → AreNames splits workers
    → length ps ≡ length splits
    → length qs ≡ length workers → map (priced_at (splits ++ workers) (ps ++ qs)) workers ≡ qs
worker_prices-back splits workers ps qs names count more_count =
    ap (λ ns. map (priced_at (splits ++ ns) (ps ++ qs)) workers) (sym (append-nil workers))
    ∙ ap (λ rs. map (priced_at (splits ++ (workers ++ [])) (ps ++ rs)) workers) (sym (append-nil qs))
    ∙ prices_read workers qs splits [] ps [] (sym count) more_count
    (record { differ = names.workers_differ; apart = names.apart })

abbrev both_kinds : List ℕ → List ℕ → PriceList
both_kinds splits workers = record { splits = splits; workers = workers }

abbrev priced_all : List Word → List ℕ → List Word → List Word → PriceList
priced_all priced amounts splits workers =
    both_kinds (map (priced_at priced amounts) splits) (map (priced_at priced amounts) workers)

pub prices-back : (priced : List Word) (amounts : List ℕ) (splits workers : List Word) (prices : PriceList)
    → AreNames splits workers
    → length prices.splits ≡ length splits → length prices.workers ≡ length workers
    → priced ≡ splits ++ workers → amounts ≡ prices.splits ++ prices.workers
    → priced_all priced amounts splits workers ≡ prices
prices-back priced amounts splits workers prices names count more_count all_names all_amounts =
    grind (arith, priced_at, split_prices-back, worker_prices-back)

amount_words : (b : List (Word × ℕ)) → All (λ a. a < 2 ^ 64) (map (λ p. p.1) b)
    → map (λ s. number_of (nth_word 1 s)) (map price_said b) ≡ map (λ p. p.1) b
amount_words [] small = refl
amount_words (p ∷ ps) small =
    let first = number_of-decimal p.1 (All-head (λ a. a < 2 ^ 64) p.1 (map (λ q. q.1) ps) small) in
    let rest = amount_words ps (All-tail (λ a. a < 2 ^ 64) p.1 (map (λ q. q.1) ps) small) in
    λ i. first i ∷ rest i

amounts_back : (names : List Word) (amounts : List ℕ) → length amounts ≡ length names
    → All (λ a. a < 2 ^ 64) amounts
    → map (λ s. number_of (nth_word 1 s)) (map price_said (zip names amounts)) ≡ amounts
amounts_back names amounts count small = grind (arith, seconds-zip, amount_words)

pub prices-read_back : (rows : List Statement) (a : List (Word × Word)) (prices : PriceList) → IsBare rows
    → AreNames (names_of Split rows) (names_of Worker rows) →
    length prices.splits ≡ length (names_of Split rows)
    → length prices.workers ≡ length (names_of Worker rows) → All (λ x. x < 2 ^ 64) prices.splits
    → All (λ x. x < 2 ^ 64) prices.workers
    → prices_in (rows ++ plan_rows a (zip (names_of Split rows) prices.splits)
    (zip (names_of Worker rows) prices.workers)) ≡ prices
prices-read_back rows a prices bare names count more_count small more_small =
    let splits = names_of Split rows in
    let workers = names_of Worker rows in
    let b = zip splits prices.splits in
    let c = zip workers prices.workers in
    let split_rows = rows-other Split rows a b c (λ p ss. refl) (λ p ss. refl) in
    let worker_rows = rows-other Worker rows a b c (λ p ss. refl) (λ p ss. refl) in
    let lines = rows-price rows a b c bare.no_prices in
    let bs = map price_said b in
    let cs = map price_said c in
    let priced : names_in (bs ++ cs) ≡ splits ++ workers =
    map-append (nth_word 0) bs cs
    ∙ (λ i. price_names b i ++ price_names c i)
    ∙ (λ i. firsts-zip splits prices.splits count i ++ firsts-zip workers prices.workers more_count i) in
    let amounts : map (λ s. number_of (nth_word 1 s)) (bs ++ cs) ≡ prices.splits ++ prices.workers =
    map-append (λ s. number_of (nth_word 1 s)) bs cs
    ∙ (λ i. amounts_back splits prices.splits count small i
    ++ amounts_back workers prices.workers more_count more_small i) in
    (λ i. both_kinds (map (price_at (lines i)) (names_in (split_rows i)))
    (map (price_at (lines i)) (names_in (worker_rows i))))
    ∙ prices-back (names_in (bs ++ cs)) (map (λ s. number_of (nth_word 1 s)) (bs ++ cs)) splits workers prices
    names
    count more_count priced amounts
