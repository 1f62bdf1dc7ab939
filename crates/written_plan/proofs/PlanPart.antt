-- The lines of a plan, with `plan` before and `end` after them: they fit, and what they leave in the rows.
use Rattle.std.proofs.Common.{zip, ℕ, List, [], ◌∷◌, ◌++◌, ◌≡◌, ◌≢◌, ◌<◌, ◌^◌, ◌∙◌, ◌⊎◌, Option, inl, inr, ap}
use Rattle.std.proofs.Common.{append-nil, append_assoc, arith, codes, get_or, length, map, refl, subst, sym}
use Rattle.std.proofs.lemmas.Slice.Zip.{firsts-zip}
use Rattle.std.specs.List.{All, AllPairs, Contains}
use Rattle.std.proofs.lemmas.Grind.{flat_map-append}
use Rattle.std.proofs.lemmas.Grind.{common_steps}
use Rattle.std.proofs.lemmas.List.Elements.{All-contains_itself, All-weaker, Contains-append_cases}
use Rattle.std.proofs.lemmas.List.Elements.{Contains-append_left, Contains-append_right, Contains-get_or}
use Rattle.std.proofs.lemmas.List.Elements.{filter-append}
use Rattle.std.proofs.lemmas.List.{get_or-map, length-map, map-append}
use Rattle.price_certificate.specs.PriceList.{PriceList}
use Rattle.text_lines.specs.Texts.{Line, Word}
use Rattle.line_shapes.specs.Lines.{Statement}
use Rattle.line_shapes.specs.declared.keyword.Keyword.{Keyword}
use Rattle.line_shapes.specs.declared.keyword.Keyword.TheVariants.{Worker, Split, Plan, Start, Price, End}
use Rattle.line_rules.specs.Entering.{Key, entered_by, entered_of, entering_of, key_of}
use Rattle.line_rules.specs.Faults.{HasItsPrice}
use Rattle.line_rules.specs.Known.{HasRow, Known, entered, keys_of, rows_of}
use Rattle.line_rules.specs.Names.{IsNameOf}
use Rattle.line_rules.specs.Reading.{AreFitLines}
use Rattle.line_rules.specs.declared.edition.Version.{Version}
use Rattle.line_rules.specs.declared.section.Section.TheVariants.{Head, Body}
use Rattle.line_rules.specs.declared.entering.Entering.{Entering}
use Rattle.line_rules.specs.declared.entering.Entering.TheVariants.{Nothing, InTurn, Word as ByWord}
use Rattle.line_rules.specs.declared.purpose.Purpose.TheVariants.{Checking}
use Rattle.line_rules.proofs.FitLines.{names_after}
use Rattle.plan_text.specs.Names.{names_in, names_of, rows_in, nth_word}
use Rattle.line_rules.proofs.OfKeyword.{at_element}
use Rattle.plan_text.proofs.Named.{key_by_word, row_named}
use Rattle.written_plan.specs.Joined.{IsWritable}
use Rattle.written_plan.proofs.Entered.{HasNames, IsBegun, are_prices, are_starts, fit-end, fit-plan}
use Rattle.written_plan.proofs.Entered.{fit-prices, fit-starts, has_price, names-priced, names-started}
use Rattle.written_plan.proofs.Entered.{with_rows}
use Rattle.written_plan.proofs.FitText.{fit-append}
use Rattle.written_plan.proofs.HeadKinds.{priced_kinds}
use Rattle.written_plan.proofs.Pairs.{AreNew, new-none, price_said, price_text, start_pairs, start_said}
use Rattle.written_plan.proofs.Pairs.{start_text}
use Rattle.written_plan.proofs.Words.{said}

-- ---- the lines and what they say

abbrev pub plan_texts : List (Word × Word) → List (Word × ℕ) → List (Word × ℕ) → List Line
plan_texts a b c =
    codes "plan" ∷ (map start_text a ++ (map price_text b ++ (map price_text c ++ codes "end" ∷ [])))

abbrev pub plan_said : List (Word × Word) → List (Word × ℕ) → List (Word × ℕ) → List Statement
plan_said a b c =
    said Plan [] ∷ (map start_said a ++ (map price_said b ++ (map price_said c ++ said End [] ∷ [])))

-- these names are names in a text of the version
pub record AreSpelled (version : Version) (splits workers : List Word) : Type 0 where
  pub split_names : All (IsNameOf version) splits
  pub worker_names : All (IsNameOf version) workers

-- none stands twice, also not as a split and a worker
pub record AreNames (splits workers : List Word) : Type 0 where
  pub splits_differ : AllPairs (λ a b. a ≢ b) splits
  pub workers_differ : AllPairs (λ a b. a ≢ b) workers
  pub apart : (name : Word) → Contains splits name → Contains workers name → ⊥

-- ---- names of the lines of a plan

no_name : {X : Type 0} (k : Keyword) (f : X → Statement) → ((x : X) (ss : List Statement)
    → rows_of k (f x ∷ ss) ≡ rows_of k ss) → (xs : List X) → rows_of k (map f xs) ≡ []
no_name k f none [] = refl
no_name k f none (x ∷ xs) = none x (map f xs) ∙ no_name k f none xs

each_row : {X : Type 0} (k : Keyword) (f : X → Statement) → ((x : X) (ss : List Statement)
    → rows_of k (f x ∷ ss) ≡ f x ∷ rows_of k ss) → (xs : List X) → rows_of k (map f xs) ≡ map f xs
each_row k f same [] = refl
each_row k f same (x ∷ xs) = same x (map f xs) ∙ ap (λ (l : List Statement). f x ∷ l) (each_row k f same xs)

pub start_rows : (a : List (Word × Word)) → rows_of Start (map start_said a) ≡ map start_said a
start_rows a = each_row Start start_said (λ x ss. refl) a

pub price_rows : (b : List (Word × ℕ)) → rows_of Price (map price_said b) ≡ map price_said b
price_rows b = each_row Price price_said (λ x ss. refl) b

names-map : {X : Type 0} (f : X → Statement) (g : X → Word) → ((x : X) → nth_word 0 (f x) ≡ g x) →
    (xs : List X)
    → names_in (map f xs) ≡ map g xs
names-map f g same [] = refl
names-map f g same (x ∷ xs) = grind (arith, names-map f g same xs)

pub start_names : (a : List (Word × Word)) → names_in (map start_said a) ≡ map (λ p. p.0) a
start_names a = names-map start_said (λ p. p.0) (λ p. refl) a

pub price_names : (b : List (Word × ℕ)) → names_in (map price_said b) ≡ map (λ p. p.0) b
price_names b = names-map price_said (λ p. p.0) (λ p. refl) b

names-starts : (rows : List Statement) (splits workers started priced : List Word) (a : List (Word × Word))
    → HasNames rows splits workers started priced
    → HasNames (rows ++ map start_said a) splits workers (started ++ map (λ p. p.0) a) priced
names-starts rows splits workers started priced a h =
    grind (arith, common_steps, names-started, start_said, no_name, start_rows, start_names)

names-prices : (rows : List Statement) (splits workers started priced : List Word) (b : List (Word × ℕ))
    → HasNames rows splits workers started priced
    → HasNames (rows ++ map price_said b) splits workers started (priced ++ map (λ p. p.0) b)
names-prices rows splits workers started priced b h =
    grind (arith, common_steps, names-priced, price_said, no_name, price_rows, price_names)

-- ---- what is known after them

-- the lines known after one line more in the body, which is entered as it stands
abbrev one_later : Known → Statement → Known
one_later k s = record k { section = Body; rows = k.rows ++ s ∷ []; commands = k.commands ++ [] }

after-each : {X : Type 0} (f : X → Statement) → ((k : Known) (x : X) → entered k (f x) ≡ one_later k (f x))
    → (k : Known) (xs : List X) → IsBegun k → names_after k (map f xs) ≡ with_rows k (map f xs)
after-each f one k [] begun = λ i. record k { rows = sym (append-nil k.rows) i }
after-each f one k (x ∷ xs) begun =
    ap (λ (j : Known). names_after j (map f xs)) (one k x)
    ∙ after-each f one (one_later k (f x)) xs (record { checking = begun.checking; body = refl })
    ∙ (λ i. record k {
      section = sym begun.body i;
      rows = append_assoc k.rows (f x ∷ []) (map f xs) i;
      commands = append-nil k.commands i;
    })

after-starts : (k : Known) (a : List (Word × Word)) → IsBegun k
    → names_after k (map start_said a) ≡ with_rows k (map start_said a)
after-starts k a begun = after-each start_said (λ j p. refl) k a begun

after-prices : (k : Known) (b : List (Word × ℕ)) → IsBegun k
    → names_after k (map price_said b) ≡ with_rows k (map price_said b)
after-prices k b begun = after-each price_said (λ j p. refl) k b begun

begun-rows : (k : Known) (more : List Statement) → IsBegun k → IsBegun (with_rows k more)
begun-rows k more begun = record { checking = begun.checking; body = begun.body }

-- ---- all have their price

in_keys : (rows : List Statement) (key : Key) → Contains (keys_of rows) key
    → (s : Statement) × (key_of s ≡ key)
in_keys rows key (i, lt, is) =
    let inside : i < length rows = rw length-map at lt in
    let d : Statement = said key.0 [] in
    (get_or rows i d, sym (get_or-map key_of rows i d key inside) ∙ is)

key_named : (k : Keyword) → entering_of k ≡ ByWord → (rows : List Statement) (key : Key) → key.0 ≡ k
    → Contains (keys_of rows) key → Contains (names_of k rows) key.1
key_named k by rows key same has =
    let (s, is) = in_keys rows key has in
    let of_k : s.keyword ≡ k = ap (λ (q : Key). q.0) is ∙ same in
    let whole : key ≡ (k, nth_word 0 s, []) = sym is ∙ key_by_word k by s of_k in
    let name : key.1 ≡ nth_word 0 s = ap (λ (q : Key). q.1) whole in
    subst (Contains (names_of k rows)) (sym name)
    (row_named k by rows (nth_word 0 s) (subst (Contains (keys_of rows)) whole has))

all_priced : (rows : List Statement) (splits workers started priced : List Word)
    → HasNames rows splits workers started priced → All (Contains priced) splits →
    All (Contains priced) workers
    → All (HasItsPrice rows) (keys_of rows)
all_priced rows splits workers started priced h split_prices worker_prices i d lt wants =
    let key : Key = get_or (keys_of rows) i d in
    let has : Contains (keys_of rows) key = Contains-get_or (keys_of rows) i d lt in
    let of : (names : List Word) → All (Contains priced) names → Contains names key.1 →
    HasRow rows Price key.1 =
    λ names all one. has_price rows [] splits workers started priced h key.1
    (at_element (Contains priced) names key.1 all one) in
    elim (priced_kinds key.0 wants) [
      | inl split ↦ of splits split_prices
          (subst (λ (l : List Word). Contains l key.1) h.splits_are (key_named Split refl rows key split has))
      | inr worker ↦ of workers worker_prices
          (subst (λ (l : List Word). Contains l key.1) h.workers_are
          (key_named Worker refl rows key worker has))
    ]

-- what has its price keeps it, and these names have it
price_each : (priced names : List Word) (amounts : List ℕ) → length amounts ≡ length names
    → All (Contains (priced ++ map (λ p. p.0) (zip names amounts))) names
price_each priced names amounts count =
    All-weaker (Contains names) (Contains (priced ++ map (λ p. p.0) (zip names amounts)))
    (λ name h. Contains-append_right priced (map (λ p. p.0) (zip names amounts)) name
    (subst (λ ns. Contains ns name) (sym (firsts-zip names amounts count)) h)) names
    (All-contains_itself names)

still_priced : (priced more names : List Word) → All (Contains priced) names
    → All (Contains (priced ++ more)) names
still_priced priced more names h = All-weaker (Contains priced) (Contains (priced ++ more))
    (Contains-append_left priced more) names h

-- ---- they fit

module _ (splits workers : List Word) (names : AreNames splits workers) where
  fit-worker_prices : (k : Known) → AreSpelled k.version splits workers → (started priced : List Word)
      (amounts : List ℕ) → IsBegun k
      → HasNames k.rows splits workers started priced → length amounts ≡ length workers
      → All (λ a. a < 2 ^ 64) amounts → AreNew priced workers → All (Contains priced) splits
      → AreFitLines k (map price_text (zip workers amounts) ++ codes "end" ∷ [])
      (map price_said (zip workers amounts) ++ said End [] ∷ [])
  fit-worker_prices k spelled started priced amounts begun h count small new split_prices =
      let ps = zip workers amounts in
      let more = map (λ p. p.0) ps in
      let known : All (λ x. Contains splits x ⊎ Contains workers x) workers =
      All-weaker (Contains workers) (λ x. Contains splits x ⊎ Contains workers x) (λ x w. inr w) workers
      (All-contains_itself workers) in
      let last : Known = with_rows k (map price_said ps) in
      let all = all_priced last.rows splits workers started (priced ++ more)
      (names-prices k.rows splits workers started priced ps h) (still_priced priced more splits split_prices)
      (price_each priced workers amounts count) in
      fit-append k (map price_text ps) (codes "end" ∷ []) (map price_said ps) (said End [] ∷ [])
      (fit-prices k splits workers started priced ps begun h
      (are_prices k.version splits workers priced workers amounts known spelled.worker_names new small))
      (subst (λ j. AreFitLines j (codes "end" ∷ []) (said End [] ∷ [])) (sym (after-prices k ps begun))
      (fit-end last (begun-rows k (map price_said ps) begun) all, tt))

  fit-all_prices : (k : Known) → AreSpelled k.version splits workers → (started : List Word)
      (prices : PriceList) → IsBegun k
      → HasNames k.rows splits workers started [] → length prices.splits ≡ length splits
      → length prices.workers ≡ length workers → All (λ a. a < 2 ^ 64) prices.splits
      → All (λ a. a < 2 ^ 64) prices.workers
      → AreFitLines k
      (map price_text (zip splits prices.splits)
      ++ (map price_text (zip workers prices.workers) ++ codes "end" ∷ []))
      (map price_said (zip splits prices.splits)
      ++ (map price_said (zip workers prices.workers) ++ said End [] ∷ []))
  fit-all_prices k spelled started prices begun h count more_count small more_small =
      let ps = zip splits prices.splits in
      let qs = zip workers prices.workers in
      let priced = map (λ p. p.0) ps in
      let known : All (λ x. Contains splits x ⊎ Contains workers x) splits =
      All-weaker (Contains splits) (λ x. Contains splits x ⊎ Contains workers x) (λ x s. inl s) splits
      (All-contains_itself splits) in
      let new : AreNew [] splits = new-none [] splits refl names.splits_differ in
      let later : AreNew priced workers = record {
        differ = names.workers_differ;
        apart = λ x split w. names.apart x
            (subst (λ ns. Contains ns x) (firsts-zip splits prices.splits count) split) w;
      } in
      fit-append k (map price_text ps) (map price_text qs ++ codes "end" ∷ []) (map price_said ps)
      (map price_said qs ++ said End [] ∷ [])
      (fit-prices k splits workers started [] ps begun h
      (are_prices k.version splits workers [] splits prices.splits known spelled.split_names new small))
      (subst (λ j. AreFitLines j (map price_text qs ++ codes "end" ∷ [])
      (map price_said qs ++ said End [] ∷ []))
      (sym (after-prices k ps begun))
      (fit-worker_prices (with_rows k (map price_said ps)) spelled started priced prices.workers
      (begun-rows k (map price_said ps) begun)
      (names-prices k.rows splits workers started [] ps h) more_count more_small
      later (price_each [] splits prices.splits count)))

  pub fit-plan_part : (j : Known) → AreSpelled j.version splits workers → (starts : List (Option ℕ))
      (prices : PriceList) → j.purpose ≡ Checking
      → j.section ≡ Head → (HasRow j.rows Plan [] → ⊥) → HasNames j.rows splits workers [] []
      → IsWritable splits workers starts prices
      → AreFitLines j
      (plan_texts (start_pairs workers splits starts) (zip splits prices.splits)
      (zip workers prices.workers))
      (plan_said (start_pairs workers splits starts) (zip splits prices.splits)
      (zip workers prices.workers))
  fit-plan_part j spelled starts prices checking in_head once h plan =
      let k = entered j (said Plan []) in
      let ss = start_pairs workers splits starts in
      let ps = zip splits prices.splits in
      let qs = zip workers prices.workers in
      let begun : IsBegun k = record { checking = checking; body = refl } in
      let named : HasNames k.rows splits workers [] [] =
      subst (λ (rows : List Statement). HasNames rows splits workers [] []) (sym (append-nil j.rows)) h in (
        fit-plan j checking in_head once,
        fit-append k (map start_text ss) (map price_text ps ++ (map price_text qs ++ codes "end" ∷ []))
            (map start_said ss) (map price_said ps ++ (map price_said qs ++ said End [] ∷ []))
            (fit-starts k splits workers [] [] ss begun named
            (are_starts k.version splits workers [] splits starts (All-contains_itself splits)
            spelled.split_names spelled.worker_names (new-none [] splits refl names.splits_differ) plan.of_workers))
            (subst (λ i. AreFitLines i (map price_text ps ++ (map price_text qs ++ codes "end" ∷ []))
            (map price_said ps ++ (map price_said qs ++ said End [] ∷ []))) (sym (after-starts k ss begun))
            (fit-all_prices (with_rows k (map start_said ss)) spelled (map (λ p. p.0) ss) prices
            (begun-rows k (map start_said ss) begun) (names-starts k.rows splits workers [] [] ss named)
            plan.split_prices plan.worker_prices plan.split_amounts plan.worker_amounts)),
      )

-- ---- the rows of the whole

-- a line that is not entered is no row
pub not_entered : (k : Keyword) → entering_of k ≡ Nothing → (n : Word) (ss : List Statement)
    → HasRow (rows_in ss) k n → ⊥
not_entered k none n [] h = absurd (let lt = h.1 in omega arith)
not_entered k none n (s ∷ ss) h =
    elim (Contains-append_cases (keys_of (entered_of s)) (keys_of (rows_in ss)) (k, n, [])
    (subst (λ (ks : List Key). Contains ks (k, n, [])) (map-append key_of (entered_of s) (rows_in ss)) h)) [
      | inl here ↦ of (entering_of s.keyword) refl here
      | inr later ↦ not_entered k none n ss later
    ]
  where
    row : (e : Entering) → entering_of s.keyword ≡ e → e ≢ Nothing → Contains (key_of s ∷ []) (k, n, []) → ⊥
    row e is some has = grind arith

    of : (e : Entering) → entering_of s.keyword ≡ e → Contains (keys_of (entered_by e s)) (k, n, []) → ⊥
    of Nothing is has = absurd (let lt = has.1 in omega arith)
    of InTurn is has = absurd (let lt = has.1 in omega arith)
    of e is has = row e is (λ none. cc) has

rows-map : {X : Type 0} (f : X → Statement) → ((x : X) → entered_of (f x) ≡ f x ∷ []) → (xs : List X)
    → rows_in (map f xs) ≡ map f xs
rows-map f one [] = refl
rows-map f one (x ∷ xs) = grind (arith, rows-map f one xs)

-- all rows of a plan
abbrev pub plan_rows : List (Word × Word) → List (Word × ℕ) → List (Word × ℕ) → List Statement
plan_rows a b c = map start_said a ++ (map price_said b ++ map price_said c)

rows-append : (ss ts : List Statement) → rows_in (ss ++ ts) ≡ rows_in ss ++ rows_in ts
rows-append ss ts = flat_map-append entered_of ss ts

pub rows-plan : (head : List Statement) (a : List (Word × Word)) (b c : List (Word × ℕ))
    → rows_in (head ++ plan_said a b c) ≡ rows_in head ++ plan_rows a b c
rows-plan head a b c = grind (arith, start_said, price_said, said, rows-append, append-nil, rows-map)

pub rows-end : (head : List Statement) → rows_in (head ++ said End [] ∷ []) ≡ rows_in head
rows-end head = rows-append head (said End [] ∷ []) ∙ append-nil (rows_in head)

-- the rows of a keyword, part by part
rows-split : (k : Keyword) (rows : List Statement) (a : List (Word × Word)) (b c : List (Word × ℕ))
    → rows_of k (rows ++ plan_rows a b c) ≡ rows_of k rows ++ (rows_of k (map start_said a)
    ++ (rows_of k (map price_said b) ++ rows_of k (map price_said c)))
rows-split k rows a b c = grind (arith, filter-append, start_said, price_said)

-- rows of another keyword
pub rows-other : (k : Keyword) (rows : List Statement) (a : List (Word × Word)) (b c : List (Word × ℕ))
    → ((p : Word × Word) (ss : List Statement) → rows_of k (start_said p ∷ ss) ≡ rows_of k ss)
    → ((p : Word × ℕ) (ss : List Statement) → rows_of k (price_said p ∷ ss) ≡ rows_of k ss)
    → rows_of k (rows ++ plan_rows a b c) ≡ rows_of k rows
rows-other k rows a b c no_start no_price =
    grind (arith, rows-split, no_name, start_said, price_said, append-nil)

pub rows-start : (rows : List Statement) (a : List (Word × Word)) (b c : List (Word × ℕ)) →
    rows_of Start rows ≡ []
    → rows_of Start (rows ++ plan_rows a b c) ≡ map start_said a
rows-start rows a b c none =
    grind (arith, rows-split, start_rows, no_name, price_said, append-nil, start_said)

pub rows-price : (rows : List Statement) (a : List (Word × Word)) (b c : List (Word × ℕ)) →
    rows_of Price rows ≡ []
    → rows_of Price (rows ++ plan_rows a b c) ≡ map price_said b ++ map price_said c
rows-price rows a b c none = grind (arith, rows-split, no_name, start_said, price_rows)
