-- A check answers each text in one way, with at most one end and one line; planning ends in one way.
-- (Proved here, since an impl cites its own crate's specs alone.)
use Rattle.std.proofs.Common.{ℕ, List, [], ◌∷◌, Bool, Ok, Err, ◌≡◌, ◌∙◌, refl, sym, ap, subst}
use Rattle.wave_problem.specs.Wave.{Wave}
use Rattle.line_shapes.specs.Lines.{Statement}
use Rattle.price_certificate.specs.Certificate.{Claim}
use Rattle.price_certificate.proofs.SameBars.{HaveSamePairs, barring, have_same_pairs-sym}
use Rattle.price_certificate.proofs.SameBars.{certified-faultless, first_failures-equal}
use Rattle.flow_network.specs.declared.kinds.NetworkKind.{NetworkKind}
use Rattle.text_lines.specs.Texts.{Word}
use Rattle.plan_text.specs.Names.{rows_in, splits, workers}
use Rattle.line_rules.specs.declared.purpose.Purpose.TheVariants.{Checking, Planning}
use Rattle.line_rules.proofs.OneReading.{reads-faultless, reads-unique}
use Rattle.plan_text.specs.Report.{refused_line}
use Rattle.plan_text.specs.Value.{DeclaresWave, places}
use Rattle.command_runner.specs.CommandRun.{HasOneAnswer, AnyLines}
use Rattle.line_rules.proofs.OneFault.{one_fault}
use Rattle.plan_text.proofs.OneWave.{same_bars, same_parts}
use Rattle.tools.specs.CheckAnswer.{AnswersRead, CheckAnswer, Judges, declared_claim}
use Rattle.tools.specs.PlanAnswer.{IsPastNetwork, IsPastWith, PlanAnswer, PlansRead}
use Rattle.tools.specs.declared.program_end.CheckEnd.{CheckEnd}
use Rattle.tools.specs.declared.program_end.CheckEnd.TheVariants.{Certified, Refused}
use Rattle.tools.specs.declared.program_end.PlanEnd.TheVariants.{PastNetwork, Planned}

-- claims that differ only in how the set of barred pairs is kept are judged alike
one_judgement : (c : Claim) (ss ws : List Word) (p q : List (List ℕ)) → HaveSamePairs p q
    → (a b : CheckEnd) (x y : List ℕ) → Judges a (barring c p) ss ws x
    → Judges b (barring c q) ss ws y → (a ≡ b) × (x ≡ y)
one_judgement c ss ws p q same Certified Certified x y g h = (refl, g.said ∙ sym h.said)
one_judgement c ss ws p q same Certified (Refused b) x y g h =
    absurd (certified-faultless c p q same b g.certifies h.first)
one_judgement c ss ws p q same (Refused a) Certified x y g h =
    absurd (certified-faultless c q p (have_same_pairs-sym p q same) a h.certifies g.first)
one_judgement c ss ws p q same (Refused a) (Refused b) x y g h =
    let condition = first_failures-equal c p q same a b g.first h.first in
    (ap Refused condition, g.said ∙ ap (refused_line ss ws) condition ∙ sym h.said)

-- the statements are the same, and the waves that they declare
one_answer_read : (text : List ℕ) (a b : CheckEnd) (x y : List ℕ) → AnswersRead text a x
    → AnswersRead text b y → (a ≡ b) × (x ≡ y)
one_answer_read text a b x y g h =
    let ss = g.statements in
    let rows = rows_in ss in
    let same : h.statements ≡ ss = reads-unique Checking text h.statements ss h.reads g.reads in
    let made : DeclaresWave ss h.wave =
    subst (λ q. DeclaresWave q h.wave) same h.declared in
    let judges : Judges b (declared_claim h.wave ss) (splits ss) (workers ss) y =
    subst (λ q. Judges b (declared_claim h.wave q) (splits q) (workers q) y) same h.judges in
    let parts = same_parts rows g.wave h.wave g.declared made in
    one_judgement (declared_claim g.wave ss) (splits ss) (workers ss) g.wave.barred h.wave.barred
    (same_bars rows g.wave h.wave g.declared made) a b x y g.judges
    (subst (λ w. Judges b (declared_claim w ss) (splits ss) (workers ss) y) parts judges)

-- at most one end of a check and one line answer a text
pub one_check_answer : HasOneAnswer CheckAnswer (λ a b. a ≡ b) (λ x y. x ≡ y)
one_check_answer text (Ok a) (Ok b) x y g h =
    let one = one_answer_read text a b x y g h in (ap Ok one.0, one.1)
one_check_answer text (Ok a) (Err f) x y g h =
    absurd (reads-faultless Checking text g.statements f.line f.number g.reads h.least)
one_check_answer text (Err f) (Ok b) x y g h =
    absurd (reads-faultless Checking text h.statements f.line f.number h.reads g.least)
one_check_answer text (Err f) (Err g) x y p q =
    let one = one_fault Checking text f g x y p q in (ap Err one.0, one.1)

-- it does not matter how the set of barred pairs is kept
past_alike : (network : NetworkKind) (ps : List (List ℕ)) (wave : Wave) (barred : List (List ℕ))
    → IsPastWith network ps (record wave { barred = barred }) → IsPastWith network ps wave
past_alike network [] wave barred past = past
past_alike network (p ∷ ps) wave barred past = past

-- a problem is past the limits of the network, or not
not_both : (text : List ℕ) (network : NetworkKind) (with_prices : Bool) (x y : List ℕ)
    → PlansRead text network with_prices x → IsPastNetwork text network y → ⊥
not_both text network with_prices x y g h =
    let same : h.statements ≡ g.statements =
    reads-unique Planning text h.statements g.statements h.reads g.reads in
    let made : DeclaresWave g.statements h.wave = subst (λ q. DeclaresWave q h.wave) same h.declared in
    let past : IsPastWith network (places g.statements) h.wave =
    subst (λ q. IsPastWith network (places q) h.wave) same h.past in
    let parts = same_parts (rows_in g.statements) g.wave h.wave g.declared made in
    g.fits (past_alike network (places g.statements) g.wave h.wave.barred
    (subst (λ (w : Wave). IsPastWith network (places g.statements) w) parts past))

-- at most one end of planning answers a text
pub one_plan_answer : (network : NetworkKind) (with_prices : Bool) →
    HasOneAnswer (λ text. PlanAnswer text network with_prices) (λ a b. a ≡ b) AnyLines
one_plan_answer network with_prices text (Ok Planned) (Ok Planned) x y g h = (refl, tt)
one_plan_answer network with_prices text (Ok PastNetwork) (Ok PastNetwork) x y g h = (refl, tt)
one_plan_answer network with_prices text (Ok Planned) (Ok PastNetwork) x y g h =
    absurd (not_both text network with_prices x y g h)
one_plan_answer network with_prices text (Ok PastNetwork) (Ok Planned) x y g h =
    absurd (not_both text network with_prices y x h g)
one_plan_answer network with_prices text (Ok Planned) (Err f) x y g h =
    absurd (reads-faultless Planning text g.statements f.line f.number g.reads h.least)
one_plan_answer network with_prices text (Ok PastNetwork) (Err f) x y g h =
    absurd (reads-faultless Planning text g.statements f.line f.number g.reads h.least)
one_plan_answer network with_prices text (Err f) (Ok Planned) x y g h =
    absurd (reads-faultless Planning text h.statements f.line f.number h.reads g.least)
one_plan_answer network with_prices text (Err f) (Ok PastNetwork) x y g h =
    absurd (reads-faultless Planning text h.statements f.line f.number h.reads g.least)
one_plan_answer network with_prices text (Err f) (Err g) x y p q =
    let one = one_fault Planning text f g x y p q in (ap Err one.0, tt)
