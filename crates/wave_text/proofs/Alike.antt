-- What certifies a wave certifies each wave that is the same.
use Rattle.std.proofs.Common.{ℕ, List, ◌≡◌, ◌<◌, Option, length, arith, true, refl, sym, subst}
use Rattle.std.specs.Prelude.{◌↔◌, IsSome}
use Rattle.std.proofs.lemmas.List.{get_or_past}
use Rattle.node_ids.specs.Sets.{HasPair}
use Rattle.wave_problem.specs.Wave.{IsOpen, Wave, split_at, wave_from, worker_at}
use Rattle.price_certificate.specs.Certificate.{Certifies, Holds, claim}
use Rattle.price_certificate.specs.PriceList.{PriceList}
use Rattle.price_certificate.specs.declared.Condition.{Condition}
use Rattle.price_certificate.specs.declared.Condition.TheVariants.{Allowed, Open, Priced}
use Rattle.wave_text.specs.Told.{IsSameWave}

-- a split that is pending is one of the wave's, and a worker that lives too
pending_known : (wave : Wave) (s : ℕ) → (split_at wave s).pending ≡ true → s < length wave.splits
pending_known wave s pending = grind (arith, get_or_past)

live_known : (wave : Wave) (w : ℕ) → (worker_at wave w).live ≡ true → w < length wave.workers
live_known wave w live = grind (arith, get_or_past)

-- the wave with this set of barred pairs
abbrev barring : Wave → List (List ℕ) → Wave
barring wave barred = wave_from wave.tree wave.workers wave.splits barred

-- the sets have the same pairs of the wave's splits and workers
abbrev HaveSameBars : Wave → List (List ℕ) → Type 0
HaveSameBars wave barred = (s w : ℕ) → s < length wave.splits → w < length wave.workers
    → HasPair barred s w ↔ HasPair wave.barred s w

holds_alike : (wave : Wave) (barred : List (List ℕ)) (starts : List (Option ℕ)) (prices : PriceList)
    → HaveSameBars wave barred → Certifies (claim wave starts prices) → (d : Condition)
    → Holds (claim (barring wave barred) starts prices) d
holds_alike wave barred starts prices same certifies (Allowed s w) = λ starts_there.
    let allowed = certifies (Allowed s w) starts_there in
    let opened : IsOpen wave s = certifies (Open s) (subst IsSome (sym starts_there) refl) in (
      allowed.0,
      (λ bars. allowed.1
          ((same s w (pending_known wave s opened.0) (live_known wave w allowed.0)).0 bars)),
    )
holds_alike wave barred starts prices same certifies (Priced s w) = λ may.
    certifies (Priced s w) (record {
      pending = may.pending;
      held = may.held;
      live = may.live;
      has_slot = may.has_slot;
      not_barred = λ bars. may.not_barred
          ((same s w (pending_known wave s may.pending) (live_known wave w may.live)).1 bars);
    })
holds_alike wave barred starts prices same certifies d = certifies d

pub same_certifies : (a b : Wave) (starts : List (Option ℕ)) (prices : PriceList) → IsSameWave a b
    → Certifies (claim b starts prices) → Certifies (claim a starts prices)
same_certifies a b starts prices same certifies =
    let is_a : barring b a.barred ≡ a =
    λ i. wave_from (sym same.tree i) (sym same.workers i) (sym same.splits i) a.barred in
    subst (λ wave. Certifies (claim wave starts prices)) is_a
    (holds_alike b a.barred starts prices same.barred certifies)
