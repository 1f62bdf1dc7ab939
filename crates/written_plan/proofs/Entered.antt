-- The starts and prices of a plan fit, one after the other.
use Rattle.std.proofs.Common.{zip, ℕ, List, [], ◌∷◌, ◌++◌, ◌≡◌, ◌≢◌, ◌≤◌, ◌<◌, ◌^◌, ◌∙◌, ◌⊎◌, Option, Some}
use Rattle.std.proofs.Common.{None, inl, inr, ap, append-nil, arith, codes, get_or, length, map, refl, subst}
use Rattle.std.proofs.Common.{suc, sym}
use Rattle.std.specs.Fmt.{decimal}
use Rattle.std.specs.List.{All, Contains}
use Rattle.std.proofs.lemmas.List.{map-append}
use Rattle.std.proofs.lemmas.List.Elements.{All-get_or, All-head, All-tail, Contains-get_or, filter-append}
use Rattle.text_lines.specs.Texts.{Word, number_of}
use Rattle.line_shapes.specs.Demands.{MeetsDemand}
use Rattle.line_shapes.specs.Lines.{Statement}
use Rattle.line_shapes.specs.Places.{place_at}
use Rattle.line_shapes.specs.declared.place.Place.{Place}
use Rattle.line_shapes.specs.declared.demand.Demand.TheVariants.{Range}
use Rattle.line_shapes.specs.declared.keyword.Keyword.{Keyword}
use Rattle.line_shapes.specs.declared.keyword.Keyword.TheVariants.{Worker, Split, Plan, Start, Price, End}
use Rattle.line_rules.specs.Faults.{HasItsPrice, IsFit, KeepsTo}
use Rattle.line_rules.specs.Known.{HasRow, Known, entered, keys_of}
use Rattle.line_rules.specs.Names.{IsNameOf, name_demand}
use Rattle.line_rules.specs.Reading.{AreFitLines, IsFitLine}
use Rattle.line_rules.specs.Sections.{section_of}
use Rattle.line_rules.specs.declared.edition.Version.{Version}
use Rattle.line_rules.specs.declared.purpose.Purpose.{Purpose}
use Rattle.line_rules.specs.declared.purpose.Purpose.TheVariants.{Checking}
use Rattle.line_rules.specs.declared.rule.Rule.TheVariants as rule
use Rattle.line_rules.specs.declared.section.Section.TheVariants.{Head, Body, Ended}
use Rattle.line_rules.proofs.Sound.{long_of, name_in}
use Rattle.plan_text.specs.Names.{names_of}
use Rattle.plan_text.proofs.Named.{named_row, row_named}
use Rattle.written_plan.proofs.Words.{IsMade, both_of, line_of, made-price, made-start}
use Rattle.written_plan.proofs.Words.{number-decimal, number_of-decimal, said}
use Rattle.written_plan.proofs.Pairs.{AreNew, new-first, new-next, new-skip, price_said, price_text}
use Rattle.written_plan.proofs.Pairs.{start_pairs, start_said, start_text}

-- ---- what stands in the rows

-- the names of the splits and the workers, and of those that start and have a price
pub record HasNames (rows : List Statement) (splits workers started priced : List Word) : Type 0 where
  pub splits_are : names_of Split rows ≡ splits
  pub workers_are : names_of Worker rows ≡ workers
  pub started_are : names_of Start rows ≡ started
  pub priced_are : names_of Price rows ≡ priced

pub names_of-append : (k : Keyword) (rows more : List Statement)
    → names_of k (rows ++ more) ≡ names_of k rows ++ names_of k more
names_of-append k rows more = grind (arith, filter-append, map-append)

-- with lines more that have these names
module _ (rows more : List Statement) (splits workers started priced : List Word)
    (h : HasNames rows splits workers started priced) where
  with_some : (k : Keyword) (names last : List Word) → names_of k rows ≡ names → names_of k more ≡ last
      → names_of k (rows ++ more) ≡ names ++ last
  with_some k names last is some = names_of-append k rows more ∙ (λ i. is i ++ some i)

  with_none : (k : Keyword) (names : List Word) → names_of k rows ≡ names → names_of k more ≡ []
      → names_of k (rows ++ more) ≡ names
  with_none k names is none = with_some k names [] is none ∙ append-nil names

  pub names-started : (last : List Word) → names_of Split more ≡ [] → names_of Worker more ≡ []
      → names_of Start more ≡ last → names_of Price more ≡ []
      → HasNames (rows ++ more) splits workers (started ++ last) priced
  names-started last a b c d = record {
    splits_are = with_none Split splits h.splits_are a;
    workers_are = with_none Worker workers h.workers_are b;
    started_are = with_some Start started last h.started_are c;
    priced_are = with_none Price priced h.priced_are d;
  }

  pub names-priced : (last : List Word) → names_of Split more ≡ [] → names_of Worker more ≡ []
      → names_of Start more ≡ [] → names_of Price more ≡ last
      → HasNames (rows ++ more) splits workers started (priced ++ last)
  names-priced last a b c d = record {
    splits_are = with_none Split splits h.splits_are a;
    workers_are = with_none Worker workers h.workers_are b;
    started_are = with_none Start started h.started_are c;
    priced_are = with_some Price priced last h.priced_are d;
  }

  pub has_split : (n : Word) → Contains splits n → HasRow rows Split n
  has_split n has =
      named_row Split refl rows n (subst (λ (l : List Word). Contains l n) (sym h.splits_are) has)

  pub has_worker : (n : Word) → Contains workers n → HasRow rows Worker n
  has_worker n has =
      named_row Worker refl rows n (subst (λ (l : List Word). Contains l n) (sym h.workers_are) has)

  pub has_price : (n : Word) → Contains priced n → HasRow rows Price n
  has_price n has =
      named_row Price refl rows n (subst (λ (l : List Word). Contains l n) (sym h.priced_are) has)

  pub not_started : (n : Word) → (Contains started n → ⊥) → HasRow rows Start n → ⊥
  not_started n new has =
      new (subst (λ (l : List Word). Contains l n) h.started_are (row_named Start refl rows n has))

  pub not_priced : (n : Word) → (Contains priced n → ⊥) → HasRow rows Price n → ⊥
  not_priced n new has =
      new (subst (λ (l : List Word). Contains l n) h.priced_are (row_named Price refl rows n has))

-- within a plan to check
pub record IsBegun (k : Known) : Type 0 where
  pub checking : k.purpose ≡ Checking
  pub body : k.section ≡ Body

-- where a line of the body may stand
in_body : (k : Known) (keyword : Keyword) → IsBegun k → section_of Checking keyword ≡ Some Body
    → section_of k.purpose keyword ≡ Some k.section
in_body k keyword begun stands =
    ap (λ (p : Purpose). section_of p keyword) begun.checking ∙ stands ∙ ap Some (sym begun.body)

fit-line : (k : Known) (keyword : Keyword) (ws : List Word) → IsMade keyword ws → k.section ≢ Ended
    → IsFit k (said keyword ws) → IsFitLine k (line_of keyword ws) (said keyword ws)
fit-line k keyword ws made going fit = grind arith

pub open-body : (k : Known) → IsBegun k → k.section ≢ Ended
open-body k begun ended = let both : Body ≡ Ended = sym begun.body ∙ ended in cc

-- the lines known with rows more, in the body
abbrev pub with_rows : Known → List Statement → Known
with_rows k more = record k { rows = k.rows ++ more }

-- a name stands where a name is used
used_name : (version : Version) (place : Option Place) (w : Word) → IsNameOf version w
    → MeetsDemand (name_demand version) place w
used_name version place w name = name_in version place w (λ is. name) (λ kind is. name)

-- ---- starts

-- a start of a split on a worker, that stands nowhere before
pub record IsStart (version : Version) (splits workers started : List Word) (p : Word × Word) : Type 0 where
  pub split : Contains splits p.0
  pub worker : Contains workers p.1
  pub split_name : IsNameOf version p.0
  pub worker_name : IsNameOf version p.1
  pub new : Contains started p.0 → ⊥

abbrev pub AreStarts : Version → List Word → List Word → List Word → List (Word × Word) → Type 0
AreStarts version splits workers started [] = Unit {0}
AreStarts version splits workers started (p ∷ ps) =
    IsStart version splits workers started p × AreStarts version splits workers (started ++ p.0 ∷ []) ps

pub are_starts : (version : Version) (splits workers started xs : List Word) (os : List (Option ℕ))
    → All (Contains splits) xs → All (IsNameOf version) xs
    → All (IsNameOf version) workers → AreNew started xs
    → ((s w : ℕ) → get_or os s None ≡ Some w → w < length workers)
    → AreStarts version splits workers started (start_pairs workers xs os)
are_starts version splits workers started (x ∷ xs) (None ∷ os) known named workers_named new of_workers =
    are_starts version splits workers started xs os (All-tail (Contains splits) x xs known)
    (All-tail (IsNameOf version) x xs named)
    workers_named (new-skip started x xs new) (λ s. of_workers (suc s))
are_starts version splits workers started (x ∷ xs) (Some w ∷ os) known named workers_named new of_workers =
    let inside : w < length workers = of_workers 0 w refl in (
      record {
        split = All-head (Contains splits) x xs known;
        worker = Contains-get_or workers w [] inside;
        split_name = All-head (IsNameOf version) x xs named;
        worker_name = All-get_or (IsNameOf version) workers w [] inside workers_named;
        new = new-first started x xs new;
      },
      are_starts version splits workers (started ++ x ∷ []) xs os (All-tail (Contains splits) x xs known)
          (All-tail (IsNameOf version) x xs named)
          workers_named (new-next started x xs new) (λ s. of_workers (suc s)),
    )
are_starts version splits workers started xs os known named workers_named new of_workers = tt

fit-start : (k : Known) (splits workers started priced : List Word) (p : Word × Word) → IsBegun k
    → HasNames k.rows splits workers started priced → IsStart k.version splits workers started p →
    IsFit k (start_said p)
fit-start k splits workers started priced p begun names h =
    let split = has_split k.rows [] splits workers started priced names p.0 h.split in
    let worker = has_worker k.rows [] splits workers started priced names p.1 h.worker in
    record {
      whole = tt;
      may_stand = (in_body k Start begun refl, tt);
      named = both_of (λ i w. MeetsDemand (name_demand k.version) (place_at Start i) w) p.0 p.1
          (used_name k.version (place_at Start 0) p.0 h.split_name)
          (used_name k.version (place_at Start 1) p.1 h.worker_name);
      known = both_of (λ i w. KeepsTo rule.Declared k.rows (place_at Start i) w) p.0 p.1 split worker;
      new = record {
        names = both_of (λ i w. KeepsTo rule.Free k.rows (place_at Start i) w) p.0 p.1 tt tt;
        first = tt;
      };
      in_range = record {
        places = both_of (λ i w. MeetsDemand Range (place_at Start i) w) p.0 p.1 tt tt;
        size = tt;
        rising = tt;
      };
      within_limit = record { room = tt; few = tt };
      tail_apart = tt;
      once = not_started k.rows [] splits workers started priced names p.0 h.new;
      priced = tt;
    }

pub fit-starts : (k : Known) (splits workers started priced : List Word) (ps : List (Word × Word)) → IsBegun k
    → HasNames k.rows splits workers started priced → AreStarts k.version splits workers started ps
    → AreFitLines k (map start_text ps) (map start_said ps)
fit-starts k splits workers started priced [] begun names h = tt
fit-starts k splits workers started priced (p ∷ ps) begun names h = (
  fit-line k Start (p.0 ∷ p.1 ∷ [])
      (made-start p.0 p.1 (long_of k.version p.0 h.0.split_name) (long_of k.version p.1 h.0.worker_name))
      (open-body k begun)
      (fit-start k splits workers started priced p begun names h.0),
  fit-starts (entered k (start_said p)) splits workers (started ++ p.0 ∷ []) priced ps
      (record { checking = begun.checking; body = refl })
      (names-started k.rows (start_said p ∷ []) splits workers started priced names
      (p.0 ∷ []) refl refl refl refl)
      h.1,
)

-- ---- prices

-- a price of a split or a worker, that stands nowhere before
pub record IsPrice (version : Version) (splits workers priced : List Word) (p : Word × ℕ) : Type 0 where
  pub known : Contains splits p.0 ⊎ Contains workers p.0
  pub name : IsNameOf version p.0
  pub amount : p.1 < 2 ^ 64
  pub new : Contains priced p.0 → ⊥

abbrev pub ArePrices : Version → List Word → List Word → List Word → List (Word × ℕ) → Type 0
ArePrices version splits workers priced [] = Unit {0}
ArePrices version splits workers priced (p ∷ ps) =
    IsPrice version splits workers priced p × ArePrices version splits workers (priced ++ p.0 ∷ []) ps

pub are_prices : (version : Version) (splits workers priced xs : List Word) (amounts : List ℕ)
    → All (λ x. Contains splits x ⊎ Contains workers x) xs
    → All (IsNameOf version) xs → AreNew priced xs → All (λ a. a < 2 ^ 64) amounts
    → ArePrices version splits workers priced (zip xs amounts)
are_prices version splits workers priced (x ∷ xs) (a ∷ amounts) known named new small = (
  record {
    known = All-head (λ y. Contains splits y ⊎ Contains workers y) x xs known;
    name = All-head (IsNameOf version) x xs named;
    amount = All-head (λ b. b < 2 ^ 64) a amounts small;
    new = new-first priced x xs new;
  },
  are_prices version splits workers (priced ++ x ∷ []) xs amounts
      (All-tail (λ y. Contains splits y ⊎ Contains workers y) x xs known)
      (All-tail (IsNameOf version) x xs named) (new-next priced x xs new)
      (All-tail (λ b. b < 2 ^ 64) a amounts small),
)
are_prices version splits workers priced xs amounts known named new small = tt

fit-price : (k : Known) (splits workers started priced : List Word) (p : Word × ℕ) → IsBegun k
    → HasNames k.rows splits workers started priced → IsPrice k.version splits workers priced p
    → IsFit k (price_said p)
fit-price k splits workers started priced p begun names h =
    let known : HasRow k.rows Split p.0 ⊎ HasRow k.rows Worker p.0 = elim h.known [
      | inl split ↦ inl (has_split k.rows [] splits workers started priced names p.0 split)
      | inr worker ↦ inr (has_worker k.rows [] splits workers started priced names p.0 worker)
    ] in
    let is : number_of (decimal p.1) ≡ p.1 = number_of-decimal p.1 h.amount in
    let small : number_of (decimal p.1) ≤ 18446744073709551615 =
    let amount : p.1 < 2 ^ 64 = h.amount in omega arith in
    record {
      whole = tt;
      may_stand = (in_body k Price begun refl, tt);
      named = both_of (λ i w. MeetsDemand (name_demand k.version) (place_at Price i) w) p.0 (decimal p.1)
          (used_name k.version (place_at Price 0) p.0 h.name)
          (name_in k.version (place_at Price 1) (decimal p.1) (λ is. cc) (λ kind is. cc));
      known = both_of (λ i w. KeepsTo rule.Declared k.rows (place_at Price i) w) p.0 (decimal p.1) known tt;
      new = record {
        names = both_of (λ i w. KeepsTo rule.Free k.rows (place_at Price i) w) p.0 (decimal p.1) tt tt;
        first = tt;
      };
      in_range = record {
        places = both_of (λ i w. MeetsDemand Range (place_at Price i) w) p.0 (decimal p.1) tt
            (number-decimal p.1 h.amount, omega arith, small);
        size = tt;
        rising = tt;
      };
      within_limit = record { room = tt; few = tt };
      tail_apart = tt;
      once = not_priced k.rows [] splits workers started priced names p.0 h.new;
      priced = tt;
    }

pub fit-prices : (k : Known) (splits workers started priced : List Word) (ps : List (Word × ℕ)) → IsBegun k
    → HasNames k.rows splits workers started priced → ArePrices k.version splits workers priced ps
    → AreFitLines k (map price_text ps) (map price_said ps)
fit-prices k splits workers started priced [] begun names h = tt
fit-prices k splits workers started priced (p ∷ ps) begun names h = (
  fit-line k Price (p.0 ∷ decimal p.1 ∷ [])
      (made-price p.0 p.1 (long_of k.version p.0 h.0.name) h.0.amount) (open-body k begun)
      (fit-price k splits workers started priced p begun names h.0),
  fit-prices (entered k (price_said p)) splits workers started (priced ++ p.0 ∷ []) ps
      (record { checking = begun.checking; body = refl })
      (names-priced k.rows (price_said p ∷ []) splits workers started priced names
      (p.0 ∷ []) refl refl refl refl)
      h.1,
)

-- ---- the lines about them

pub fit-plan : (k : Known) → k.purpose ≡ Checking → k.section ≡ Head → (HasRow k.rows Plan [] → ⊥)
    → IsFitLine k (codes "plan") (said Plan [])
fit-plan k checking in_head once = grind arith

pub fit-end : (k : Known) → IsBegun k → All (HasItsPrice k.rows) (keys_of k.rows)
    → IsFitLine k (codes "end") (said End [])
fit-end k begun priced = grind arith
