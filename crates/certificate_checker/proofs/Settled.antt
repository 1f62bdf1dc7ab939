-- By what a split is settled: its pairs are priced.
use Rattle.std.proofs.Common.{◌≡◌, ℕ, ◌*◌, ◌<◌, Bool, true, List, [], ◌∷◌, length, filter, All, Option, refl}
use Rattle.std.proofs.Common.{ap, ◌∙◌, subst, sym, inl, inr, arith, unwrap_or}
use Rattle.std.specs.Prelude.{◌==◌, slice_index}
use Rattle.std.specs.List.{list_any}
use Rattle.std.specs.Option.{option_map}
use Rattle.std.proofs.lemmas.Bool.{cases_Bool, eqb-true, false≢true, or_cases}
use Rattle.std.proofs.lemmas.List.Elements.{All-head, All-tail}
use Rattle.rack_tree.specs.Tree.{centre_at}
use Rattle.wave_problem.specs.Wave.{Wave, cost, live_holders, split_at, worker_at, IsUsable}
use Rattle.wave_problem.proofs.Gathered.{least_near, steps_to}
use Rattle.price_certificate.specs.declared.Condition.TheVariants.{Priced}
use Rattle.price_certificate.specs.Certificate.{Claim, Holds}
use Rattle.certificate_checker.specs.Settled.{ArePriced, IsPricedAround, IsPricedNear, IsPricedOn}
use Rattle.certificate_checker.specs.declared.slots.Level.TheVariants.{Centre, Cluster}

-- where one that a filter keeps passes a test, all that holds of each holds of one that passes
found : (q p : ℕ → Bool) (P : ℕ → Type 0) (xs : List ℕ) → All P xs → list_any p (filter q xs) ≡ true →
    (x : ℕ) × (P x) × (q x ≡ true) × (p x ≡ true)
found q p P [] h e = absurd (false≢true e)
found q p P (x ∷ xs) h e = elim (cases_Bool (q x)) [
  | inl kept ↦ elim (or_cases (p x) (list_any p (filter q xs)) (rw kept at e)) [
    | inl here ↦ (x, All-head P x xs h, kept, here)
    | inr there ↦ found q p P xs (All-tail P x xs h) there
  ]
  | inr dropped ↦ found q p P xs (All-tail P x xs h) (rw dropped at e)
]

-- what a start costs, by the steps to the nearest live holder
cost_by : (wave : Wave) (s w : ℕ) → 0 < length (live_holders wave s) →
    unwrap_or (cost wave s w) 0 ≡ (split_at wave s).bytes * steps_to wave.tree w (live_holders wave s)
cost_by wave s w some =
    ap (λ (o : Option ℕ). unwrap_or (option_map (λ d. (split_at wave s).bytes * d) o) 0)
    (least_near wave.tree w (live_holders wave s) some)

pub settled : (claim : Claim) (s : ℕ) → ArePriced claim s Cluster 0 6 →
    All (IsPricedAround claim s Centre 4) (split_at claim.wave s).holders →
    All (IsPricedNear claim s) (split_at claim.wave s).holders → (w : ℕ) → Holds claim (Priced s w)
settled claim s far in_centres near w admissible =
    let wave = claim.wave in
    let tree = wave.tree in
    let all = (split_at wave s).holders in
    let live : List ℕ = live_holders wave s in
    let bytes : ℕ = (split_at wave s).bytes in
    let lives : ℕ → Bool = λ h. (worker_at wave h).live in
    let usable : IsUsable wave.workers w = (admissible.live, admissible.has_slot) in
    let unbarred = admissible.not_barred in
    let same = cost_by wave s w admissible.held in
    let paid : (d : ℕ) → steps_to tree w live ≡ d → unwrap_or (cost wave s w) 0 ≡ bytes * d =
    λ d e. same ∙ ap (λ (z : ℕ). bytes * z) e in
    let holds : ℕ → Bool = λ h. h == w in
    let racks : ℕ → Bool = λ h. slice_index tree.rack_of h == slice_index tree.rack_of w in
    let centres : ℕ → Bool = λ h. centre_at tree h == centre_at tree w in
    elim (cases_Bool (list_any holds live)) [
      | inl one ↦
          let f = found lives holds (IsPricedNear claim s) all near one in
          omega (arith, subst (IsPricedOn claim s) (eqb-true f.0 w f.3) f.1.1 usable unbarred)
      | inr apart ↦ elim (cases_Bool (list_any racks live)) [
        | inl two ↦
            let f = found lives racks (IsPricedNear claim s) all near two in
            let rack = eqb-true (slice_index tree.rack_of f.0) (slice_index tree.rack_of w) f.3 in
            omega (arith, f.1.0 f.2 w usable (sym rack) unbarred, paid 2 (rw (apart, two) refl))
        | inr off ↦ elim (cases_Bool (list_any centres live)) [
          | inl four ↦
              let f = found lives centres (IsPricedAround claim s Centre 4) all in_centres four in
              let centre = eqb-true (centre_at tree f.0) (centre_at tree w) f.3 in
              omega (arith, f.1 f.2 w usable (sym centre) unbarred, paid 4 (rw (apart, off, four) refl))
          | inr away ↦ omega (arith, far w usable refl unbarred, paid 6 (rw (apart, off, away) refl))
        ]
      ]
    ]
