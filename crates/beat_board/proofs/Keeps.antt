-- Each step keeps the rule of the board.
use Rattle.std.proofs.Common.{◌≡◌, ◌≢◌, ℕ, ◌+◌, ◌*◌, ◌%◌, ◌^◌, ◌<◌, ◌≤◌, ◌==◌, Bool, true, false}
use Rattle.std.proofs.Common.{cond, List, [], ◌∷◌, ◌++◌, length, length-append, set, slice_index, refl}
use Rattle.std.proofs.Common.{sym, ap, ◌∙◌, subst, arith, get_or-set_same, get_or-set_other}
use Rattle.std.proofs.Math.Nat.{mod-eq_of_lt}
use Rattle.std.proofs.lemmas.Bool.Decides.{nat_tests}
use Rattle.std.proofs.lemmas.Grind.{common_steps}
use Rattle.std.proofs.lemmas.List.{append-nil, length-set, set-get_or}
use Rattle.std.proofs.lemmas.List.Elements.{All-nil, All-cons, All-head, All-tail, All-append, All-map}
use Rattle.std.proofs.lemmas.List.Elements.{All-weaker}
use Rattle.std.proofs.lemmas.List.Sums.{sum_by-cons, sum_by-append, sum_by-le-sum_by}
use Rattle.std.specs.List.{sum_by, All}
use mathlib.Core.Option.{none, some, some-injective}
use lib.ListN.{get_elem?}
use Rattle.atomic_table.specs.Table.{Me, step, keeps, Allows, Splits, Joins}
use Rattle.atomic_table.proofs.Lists.{at_set, set_here, set_else, set_again}
use Rattle.view_sums.proofs.Sums.{sum_by-set, term_within, sum_within, sum_alone}
use Rattle.view_sums.proofs.Each.{place_within, each_set, each_snoc}
use Rattle.beat_board.specs.declared.view.View.{View}
use Rattle.beat_board.specs.declared.view.Tally.{Tally}
use Rattle.beat_board.specs.declared.view.Look.{Look}
use Rattle.beat_board.specs.Values.{look, last_seen, AreWithin, down_from}
use Rattle.beat_board.specs.Views.{tally, seated, reading, making, spent}
use Rattle.beat_board.specs.Rule.{beats_of, told_of, seats_in, Fits, AreCounted, Rule}
use Rattle.beat_board.specs.Steps.{Beats, Looks, Turns, more, shown, gathers}

abbrev pub worth : ℕ → View → ℕ
worth k v = beats_of k v.tallies

abbrev pub told_worth : ℕ → (ℕ → ℕ) → View → ℕ
told_worth k f v = told_of k f v.tallies

-- the numbers up to a word, weighed
abbrev pub up_to : (ℕ → ℕ) → List ℕ → ℕ → ℕ
up_to f words k = sum_by f (down_from (slice_index words k))

abbrev pub AreRising : List ℕ → List ℕ → Type 0
AreRising words words' = (k : ℕ) → slice_index words k ≤ slice_index words' k

fits_rises : (words words' : List ℕ) (v : View) → AreRising words words' → Fits words v → Fits words' v
fits_rises words words' v rises h = grind arith

-- one view changes, and maybe the words
pub keep : (words words' : List ℕ) (views : List View) (id : ℕ) (v w : View) → AreCounted words views
    → get_elem? views id ≡ some v → length words' ≡ length words → AreRising words words'
    → length w.tallies ≡ length v.tallies → w.made ≡ v.made
    → ((k : ℕ) → k < length words → slice_index words' k + worth k v ≡ slice_index words k + worth k w)
    → ((k : ℕ) → k < length words → (f : ℕ → ℕ)
    → up_to f words' k + told_worth k f v ≡ up_to f words k + told_worth k f w)
    → Fits words' w → AreCounted words' (set views id w)
keep words words' views id v w h at len rises same made sums told fits =
    let seats = sum_by-set seats_in views id v w at in record {
      width = omega (arith, len, h.width);
      sums = λ k lt. omega (
        arith,
        sum_by-set (worth k) views id v w at,
        h.sums k (omega arith),
        sums k (omega arith),
      );
      told = grind (arith, sum_by-set);
      made = grind (arith, seats, at_set);
      limit = omega (arith, seats, same, h.limit);
      each = each_set (Fits words') views id w
          (λ j u _ e. fits_rises words words' u rises (h.each j u e)) fits;
    }

-- one view changes, and neither the words nor its counts
pub learns : (words : List ℕ) (views : List View) (id : ℕ) (v w : View) → AreCounted words views
    → get_elem? views id ≡ some v
    → w.tallies ≡ v.tallies → w.made ≡ v.made → AreWithin words w.looks → AreCounted words (set views id w)
learns words views id v w h at tallies made seen =
    let old = h.each id v at in
    keep words words views id v w h at refl (λ k. omega arith) (ap length tallies) made
    (λ k _. ap (λ ts. slice_index words k + beats_of k ts) (sym tallies))
    (λ k _ f. ap (λ ts. up_to f words k + told_of k f ts) (sym tallies))
    record {
      small = subst (All (λ t. t.beats ≤ 2 ^ 40)) (sym tallies) old.small;
      told = subst (All (λ t. All (λ n. n ≤ slice_index words t.worker) t.told)) (sym tallies) old.told;
      seen = seen;
    }

beats_here : (w n : ℕ) (told : List ℕ) → beats_of w (tally w n told ∷ []) ≡ n
beats_here w n told = grind (arith, nat_tests)

beats_else : (k w n : ℕ) (told : List ℕ) → k ≢ w → beats_of k (tally w n told ∷ []) ≡ 0
beats_else k w n told ne = grind (arith, nat_tests)

told_here : (w n : ℕ) (told : List ℕ) (f : ℕ → ℕ) → told_of w f (tally w n told ∷ []) ≡ sum_by f told
told_here w n told f = grind (arith, nat_tests)

told_else : (k w n : ℕ) (told : List ℕ) (f : ℕ → ℕ) → k ≢ w → told_of k f (tally w n told ∷ []) ≡ 0
told_else k w n told f ne = grind (arith, nat_tests)

-- a seat without a beat adds nothing
no_beats : (k w : ℕ) → beats_of k (tally w 0 [] ∷ []) ≡ 0
no_beats k w = grind arith

not_told : (k w : ℕ) (f : ℕ → ℕ) → told_of k f (tally w 0 [] ∷ []) ≡ 0
not_told k w f = grind arith

-- a worker's beats are among all
part : (b : Bool) (n : ℕ) → cond b n 0 ≤ n
part true n = omega arith
part false n = omega arith

beats_within : (k : ℕ) (ts : List Tally) → beats_of k ts ≤ sum_by (λ t. t.beats) ts
beats_within k ts = grind (arith, sum_by-le-sum_by, part)

small_sum : (ts : List Tally) → All (λ t. t.beats ≤ 2 ^ 40) ts → sum_by (λ t. t.beats) ts ≤ length ts * 2 ^ 40
small_sum [] h = omega arith
small_sum (t ∷ ts) h =
    let here : t.beats ≤ 2 ^ 40 = All-head (λ (x : Tally). x.beats ≤ 2 ^ 40) t ts h in
    let rest = small_sum ts (All-tail (λ (x : Tally). x.beats ≤ 2 ^ 40) t ts h) in
    omega (arith, sum_by-cons (λ (x : Tally). x.beats) t ts)

no_tallies : (P : Tally → Type 0) → All P []
no_tallies P = All-nil P

one_tally : (P : Tally → Type 0) (t : Tally) → P t → All P (t ∷ [])
one_tally P t p = All-cons P t [] p (no_tallies P)

-- no word passes 2 ^ 52
pub bounded : (words : List ℕ) (views : List View) (k : ℕ) → AreCounted words views → k < length words
    → slice_index words k ≤ 2 ^ 52
bounded words views k h lt =
    let all = sum_within (worth k) seats_in (2 ^ 40) views
    (λ i v e. omega (arith, beats_within k v.tallies, small_sum v.tallies (h.each i v e).small)) in
    omega (arith, all, h.limit, h.sums k lt)

at_word : (words : List ℕ) (i n k : ℕ) → i < length words
    → (k ≡ i → slice_index (set words i n) k ≡ n)
    × (k ≢ i → slice_index (set words i n) k ≡ slice_index words k)
at_word words i n k lt = grind (arith, get_or-set_same, get_or-set_other)

both_are : (m : Me ℕ View) (v : View) → m.0 ≡ v → m.1 ≡ [] → (v, []) ≡ m
both_are m v e f = λ k. (sym e k, sym f k)

-- one word is raised by one
rises_by_one : (words : List ℕ) (i : ℕ) → i < length words
    → AreRising words (set words i (slice_index words i + 1))
rises_by_one words i here k = grind (arith, at_word)

-- the seat's count and the word rise together
sums_rise : (words : List ℕ) (i n m : ℕ) (old new : List ℕ) → i < length words → m ≡ slice_index words i + 1
    → (k : ℕ) → slice_index (set words i m) k + worth k (seated i n old)
    ≡ slice_index words k + worth k (seated i (n + 1) new)
sums_rise words i n m old new here is k = grind (arith, at_word, beats_here, beats_else)

-- and the seat is told the number that comes to those up to the word
told_rises : (words : List ℕ) (i n m : ℕ) (old : List ℕ) → i < length words → m ≡ slice_index words i + 1
    → (k : ℕ) (f : ℕ → ℕ) → up_to f (set words i m) k + told_worth k f (seated i n old)
    ≡ up_to f words k + told_worth k f (seated i (n + 1) (m ∷ old))
told_rises words i n m old here is k f = grind (arith, at_word, told_here, sum_by-cons, told_else)

beats : (id i n slots : ℕ) (told : List ℕ) → i < 1024 → n < 2 ^ 40
    → Allows Rule slots id (seated i n told, []) i (λ k. (k + 1) % 2 ^ 64)
    (Beats (step slots i 1 0 none) (seated i n told, []))
beats id i n slots told lt small s h homes at fits =
    let here : i < length s.words = omega (arith, h.width) in
    let most = bounded s.words s.views i h here in
    let found = slice_index s.words i in
    let next : (found + 1) % 2 ^ 64 ≡ found + 1 = mod-eq_of_lt (omega arith) in
    let v = seated i n told in
    let w = seated i (n + 1) ((found + 1) ∷ told) in
    let old = h.each id v at in
    let words' = set s.words i (found + 1) in
    let rises = rises_by_one s.words i here in
    let known : All (λ k. k ≤ found) told =
    All-head (λ (t : Tally). All (λ k. k ≤ slice_index s.words t.worker) t.told)
    (tally i n told) [] old.told in
    let now = get_or-set_same s.words i (found + 1) 0 here in
    let kept = keep s.words words' s.views id v w h at (length-set s.words i (found + 1)) rises refl refl
    (λ k _. sums_rise s.words i n (found + 1) told ((found + 1) ∷ told) here refl k)
    (λ k _ f. told_rises s.words i n (found + 1) told here refl k f)
    record {
      small = one_tally (λ t. t.beats ≤ 2 ^ 40) (tally i (n + 1) ((found + 1) ∷ told)) (omega arith);
      told = one_tally (λ t. All (λ k. k ≤ slice_index words' t.worker) t.told)
          (tally i (n + 1) ((found + 1) ∷ told))
          (All-cons (λ k. k ≤ slice_index words' i) (found + 1) told (omega (arith, now))
          (All-weaker (λ k. k ≤ found) (λ k. k ≤ slice_index words' i)
          (λ k le. omega (arith, now)) told known));
      seen = All-nil (λ (x : Look). x.beats ≤ slice_index words' x.worker);
    } in (
      w,
      keeps,
      tt,
      subst (λ m. AreCounted (set s.words i m) (set s.views id w)) (sym next) kept,
      (
        refl,
        refl,
        omega (arith, h.sums i here, term_within (worth i) s.views id v at, beats_here i n told),
        one_tally (λ (t : Tally). All (λ k. k ≤ found) t.told) (tally i n told) known,
        most,
      ),
    )

pub beats_as : (id slots : ℕ) (m : Me ℕ View) (i n : ℕ) (told : List ℕ) → m.0 ≡ seated i n told → m.1 ≡ []
    → i < 1024
    → n < 2 ^ 40 → Allows Rule slots id m i (λ k. (k + 1) % 2 ^ 64) (Beats (step slots i 1 0 none) m)
beats_as id slots m i n told e f lt small =
    subst (λ x. Allows Rule slots id x i (λ k. (k + 1) % 2 ^ 64) (Beats (step slots i 1 0 none) x))
    (both_are m (seated i n told) e f) (beats id i n slots told lt small)

-- a step that leaves the words
stays : (words : List ℕ) (views : List View) (id i : ℕ) (v w : View) → AreCounted words views
    → get_elem? views id ≡ some v
    → w.tallies ≡ v.tallies → w.made ≡ v.made → AreWithin words w.looks
    → AreCounted (set words i (slice_index words i)) (set views id w)
stays words views id i v w h at tallies made seen = search (arith, set-get_or, learns)

looks : (id i slots : ℕ) (xs : List Look)
    → Allows Rule slots id (reading xs, []) i (λ n. n) (Looks (step slots i 0 0 none) (reading xs, []))
looks id i slots xs s h homes at fits =
    let n = slice_index s.words i in
    let old = (h.each id (reading xs) at).seen in (
      reading (look i n ∷ xs),
      keeps,
      tt,
      stays s.words s.views id i (reading xs) (reading (look i n ∷ xs)) h at refl refl
          (All-cons (λ (x : Look). x.beats ≤ slice_index s.words x.worker) (look i n) xs (omega arith) old),
      (
        refl,
        refl,
        All-weaker (λ (x : Look). x.beats ≤ slice_index s.words x.worker) (λ (x : Look). x.worker ≡ i
            → x.beats ≤ n)
            (λ x le e. omega (arith, ap (λ j. slice_index s.words j) e)) xs old,
      ),
    )

pub looks_as : (id slots : ℕ) (m : Me ℕ View) (i : ℕ) → m.0 ≡ reading m.0.looks → m.1 ≡ []
    → Allows Rule slots id m i (λ n. n) (Looks (step slots i 0 0 none) m)
looks_as id slots m i e f =
    subst (λ x. Allows Rule slots id x i (λ n. n) (Looks (step slots i 0 0 none) x))
    (both_are m (reading m.0.looks) e f) (looks id i slots m.0.looks)

turns : (id i slots next made : ℕ)
    → Allows Rule slots id (making [] [] next made, []) i (λ n. n)
    (Turns (step slots i 0 0 none) (making [] [] next made, []))
turns id i slots next made s h homes at fits = (
  making [] [] i made,
  keeps,
  tt,
  stays s.words s.views id i (making [] [] next made) (making [] [] i made) h at refl refl
      (h.each id (making [] [] next made) at).seen,
  (refl, refl),
)

pub turns_as : (id slots : ℕ) (m : Me ℕ View) (i next made : ℕ) → m.0 ≡ making [] [] next made → m.1 ≡ []
    → Allows Rule slots id m i (λ n. n) (Turns (step slots i 0 0 none) m)
turns_as id slots m i next made e f =
    subst (λ x. Allows Rule slots id x i (λ n. n) (Turns (step slots i 0 0 none) x))
    (both_are m (making [] [] next made) e f) (turns id i slots next made)

-- a new view is made by another
split : (words : List ℕ) (views : List View) (id : ℕ) (v left right : View) → AreCounted words views
    → get_elem? views id ≡ some v
    → left.tallies ≡ v.tallies → AreWithin words left.looks
    → ((k : ℕ) → worth k right ≡ 0) → ((k : ℕ) (f : ℕ → ℕ) → told_worth k f right ≡ 0)
    → ((u : View) → get_elem? (set views id left) 0 ≡ some u
    → sum_by seats_in views + seats_in right ≡ u.made)
    → sum_by seats_in views + seats_in right ≤ 4096 → Fits words right
    → AreCounted words (set views id left ++ right ∷ [])
split words views id v left right h at tallies seen idle quiet made room theirs =
    let old = h.each id v at in
    let views' = set views id left in
    let seats = sum_by-set seats_in views id v left at in
    let all = sum_by-append seats_in views' (right ∷ []) in
    let same = ap length tallies in
    record {
      width = h.width;
      sums = λ k lt. omega (
        arith,
        h.sums k lt,
        sum_by-set (worth k) views id v left at,
        sum_by-append (worth k) views' (right ∷ []),
        idle k,
        ap (λ ts. beats_of k ts) tallies,
      );
      told = λ k lt f. omega (
        arith,
        h.told k lt f,
        sum_by-set (told_worth k f) views id v left at,
        sum_by-append (told_worth k f) views' (right ∷ []),
        quiet k f,
        ap (λ ts. told_of k f ts) tallies,
      );
      made = λ u e. omega (arith, seats, all, same, made u (before u e));
      limit = omega (arith, seats, all, same, room);
      each = each_snoc (Fits words) views' right
          (each_set (Fits words) views id left (λ j u _ e. h.each j u e)
          record {
            small = subst (All (λ t. t.beats ≤ 2 ^ 40)) (sym tallies) old.small;
            told = subst (All (λ t. All (λ n. n ≤ slice_index words t.worker) t.told)) (sym tallies) old.told;
            seen = seen;
          })
          theirs;
    }
  where
    place : 0 < length (set views id left)
    place = omega (arith, place_within views id v at, length-set views id left)

    there : (us : List View) → 0 < length us → (u : View) → get_elem? (us ++ right ∷ []) 0 ≡ some u
        → get_elem? us 0 ≡ some u
    there [] lt u e = absurd (omega arith)
    there (x ∷ us) lt u e = e

    before : (u : View) → get_elem? (set views id left ++ right ∷ []) 0 ≡ some u
        → get_elem? (set views id left) 0 ≡ some u
    before u e = there (set views id left) place u e

seats : (next made : ℕ) → made < 4096
    → Splits Rule 0 (making [] [] next made) (more (making [] [] next made)) (seated next 0 [])
seats next made lt s h at =
    let v = making [] [] next made in
    let is = h.made v at in
    let first = set_here s.views 0 (more v) (place_within s.views 0 v at) in
    split s.words s.views 0 v (more v) (seated next 0 []) h at refl (h.each 0 v at).seen
    (λ k. no_beats k next) (λ k f. not_told k next f)
    (λ u e. omega (arith, is, ap (λ (y : View). y.made) (some-injective (more v) u (sym first ∙ e))))
    (omega (arith, is))
    record {
      small = one_tally (λ t. t.beats ≤ 2 ^ 40) (tally next 0 []) (omega arith);
      told = one_tally (λ t. All (λ n. n ≤ slice_index s.words t.worker) t.told) (tally next 0 [])
          (All-nil (λ n. n ≤ slice_index s.words next));
      seen = All-nil (λ (x : Look). x.beats ≤ slice_index s.words x.worker);
    }

pub seats_as : (id : ℕ) (v : View) (next made : ℕ) → id ≡ 0 → v ≡ making [] [] next made → made < 4096
    → Splits Rule id v (more v) (seated v.next 0 [])
seats_as id v next made z e lt =
    subst (λ (x : ℕ × View). Splits Rule x.0 x.1 (more x.1) (seated x.1.next 0 [])) (λ k. (sym z k, sym e k))
    (seats next made lt)

-- what was seen or told may be known to a reader
pub readers : (id : ℕ) (v : View) (xs : List Look) → ((words : List ℕ) → Fits words v → AreWithin words xs)
    → Splits Rule id v v (reading xs)
readers id v xs seen s h at =
    let old = h.each id v at in
    split s.words s.views id v v (reading xs) h at refl old.seen (λ k. refl) (λ k f. refl)
    (λ u e. omega (arith, h.made u (subst (λ us. get_elem? us 0 ≡ some u) (set_again s.views id v at) e)))
    (omega (arith, h.limit))
    record {
      small = no_tallies (λ t. t.beats ≤ 2 ^ 40);
      told = no_tallies (λ t. All (λ n. n ≤ slice_index s.words t.worker) t.told);
      seen = seen s.words old;
    }

pub none_seen : (words : List ℕ) → AreWithin words []
none_seen words = All-nil (λ (x : Look). x.beats ≤ slice_index words x.worker)

-- what a seat was told is within the words
pub told_seen : (words : List ℕ) (v : View) → Fits words v → AreWithin words (shown v.tallies)
told_seen words v h = of v.tallies h.told
  where
    of : (ts : List Tally) → All (λ t. All (λ n. n ≤ slice_index words t.worker) t.told) ts
        → AreWithin words (shown ts)
    of [] all = none_seen words
    of (t ∷ ts) all = search (arith, All-map, All-head)

-- a view takes in what a reader knows
pub hears : (id : ℕ) (v : View) (other : ℕ) (xs : List Look)
    → Joins Rule id v other (reading xs) (gathers v (reading xs)) spent
hears id v other xs s h at apart there =
    let w = gathers v (reading xs) in
    let u = reading xs in
    let was = sym (set_else s.views id other w apart) ∙ there in
    let seen = All-append (λ (x : Look). x.beats ≤ slice_index s.words x.worker) xs v.looks
    (h.each other u was).seen
    (h.each id v at).seen in
    learns s.words (set s.views id w) other u spent
    (learns s.words s.views id v w h at (append-nil v.tallies) refl seen) there refl refl (none_seen s.words)

pub hears_as : (id : ℕ) (v : View) (other : ℕ) (u : View) → u ≡ reading u.looks
    → Joins Rule id v other u (gathers v u) spent
hears_as id v other u e =
    subst (λ x. Joins Rule id v other x (gathers v x) spent) (sym e) (hears id v other u.looks)

joins : (other next made w n : ℕ) (told : List ℕ) (ts : List Tally)
    → Joins Rule 0 (making ts [] next made) other (seated w n told)
    (gathers (making ts [] next made) (seated w n told)) spent
joins other next made w n told ts s h at apart there =
    let v = making ts [] next made in
    let u = seated w n told in
    let one = tally w n told ∷ [] in
    let both = gathers v u in
    let views' = set s.views 0 both in
    let words = s.words in
    let was = set_else s.views 0 other both apart in
    let theirs = h.each other u (sym was ∙ there) in
    let mine = h.each 0 v at in
    let kept = set_here s.views 0 both (place_within s.views 0 v at) in
    let first : get_elem? (set views' other spent) 0 ≡ some both =
    set_else views' other 0 spent (λ e. apart (sym e)) ∙ kept in
    let seats1 = sum_by-set seats_in s.views 0 v both at in
    let seats2 = sum_by-set seats_in views' other u spent there in
    let longer : seats_in both ≡ seats_in v + 1 = length-append ts one in
    record {
      width = h.width;
      sums = grind (arith, sum_by-set, sum_by-append);
      told = grind (arith, sum_by-set, sum_by-append);
      made = grind arith;
      limit = omega (arith, h.limit, seats1, seats2, longer);
      each = each_set (Fits words) views' other spent
          (λ j x _ e. each_set (Fits words) s.views 0 both (λ i y _ a. h.each i y a)
          record {
            small = All-append (λ (t : Tally). t.beats ≤ 2 ^ 40) ts one mine.small theirs.small;
            told = All-append (λ (t : Tally). All
                (λ k. k ≤ slice_index words t.worker) t.told) ts one mine.told theirs.told;
            seen = none_seen words;
          }
          j x e)
          record {
            small = no_tallies (λ t. t.beats ≤ 2 ^ 40);
            told = no_tallies (λ t. All (λ k. k ≤ slice_index words t.worker) t.told);
            seen = none_seen words;
          };
    }

pub joins_as : (id : ℕ) (v : View) (other : ℕ) (u : View) (next made w n : ℕ) (told : List ℕ)
    (ts : List Tally)
    → id ≡ 0 → v ≡ making ts [] next made → u ≡ seated w n told → Joins Rule id v other u (gathers v u) spent
joins_as id v other u next made w n told ts z e f =
    subst (λ (x : ℕ × View × View). Joins Rule x.0 x.1 other x.2 (gathers x.1 x.2) spent)
    (λ k. (sym z k, sym e k, sym f k)) (joins other next made w n told ts)

no_worth : (k : ℕ) (v : View) → seats_in v ≡ 0 → worth k v ≡ 0
no_worth k v e = grind (arith, common_steps)

no_told : (k : ℕ) (f : ℕ → ℕ) (v : View) → seats_in v ≡ 0 → told_worth k f v ≡ 0
no_told k f v e = grind (arith, common_steps)

-- The maker never has more than was made. Where it has all, each word is the sum of what it has, and what
-- that was told are the numbers up to the word; and what it saw is within the words
pub record Gathered (words : List ℕ) (ts : List Tally) (xs : List Look) (made : ℕ) : Type 0 where
  pub few : length ts ≤ made
  pub sums : made ≤ length ts → (k : ℕ) → k < 1024 → slice_index words k ≡ beats_of k ts
  pub told : made ≤ length ts → (k : ℕ) → k < 1024 → (f : ℕ → ℕ) → told_of k f ts ≡ up_to f words k
  pub seen : AreWithin words xs

pub gathered : (words : List ℕ) (views : List View) (ts : List Tally) (xs : List Look) (next made : ℕ)
    → AreCounted words views
    → get_elem? views 0 ≡ some (making ts xs next made) → Gathered words ts xs made
gathered words views ts xs next made h at = grind (arith, term_within, sum_alone, no_worth, no_told)

-- what the one seat of a view was told
pub told_head : (n : ℕ) (v : View) (w m : ℕ) (told : List ℕ) → v ≡ seated w m told
    → All (λ t. All (λ k. k ≤ n) t.told) v.tallies → All (λ k. k < n + 1) told
told_head n v w m told e h =
    let all = subst (λ (u : View). All (λ t. All (λ k. k ≤ n) t.told) u.tallies) e h in
    let one = All-head (λ (t : Tally). All (λ k. k ≤ n) t.told) (tally w m told) [] all in
    All-weaker (λ k. k ≤ n) (λ k. k < n + 1) (λ k le. omega arith) told one

-- what was last seen of a worker is one of the numbers that were seen
pub last_within : (w n : ℕ) (xs : List Look) → All (λ x. x.worker ≡ w → x.beats ≤ n) xs → last_seen w xs ≤ n
last_within w n [] h = omega arith
last_within w n (x ∷ xs) h =
    let here = All-head (λ (y : Look). y.worker ≡ w → y.beats ≤ n) x xs h in
    let rest = last_within w n xs (All-tail (λ (y : Look). y.worker ≡ w → y.beats ≤ n) x xs h) in
    by_cases (x.worker == w) refl here rest
  where
    by_cases : (b : Bool) → (x.worker == w) ≡ b → (x.worker ≡ w → x.beats ≤ n) → last_seen w xs ≤ n
        → cond b x.beats (last_seen w xs) ≤ n
    by_cases true e here rest = here (grind (arith, nat_tests))
    by_cases false e here rest = rest
