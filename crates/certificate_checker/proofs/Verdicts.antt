-- A claim has one verdict.
use Rattle.std.proofs.Common.{◌≡◌, ℕ, Ok, Err, refl, sym, ap, ◌∙◌}
use Rattle.std.specs.Prelude.{◌↔◌}
use Rattle.std.specs.Result.{IfErr, IfOk, IsErrAnd, IsOk, OnOk}
use Rattle.std.proofs.lemmas.Bool.{false≢true}
use Rattle.std.specs.declared.result.Result.{Result}
use Rattle.price_certificate.specs.declared.Condition.{Condition}
use Rattle.price_certificate.specs.Certificate.{Certifies, Claim, IsFirstFailure}
use Rattle.price_certificate.proofs.Order.{first_failure-unique}
use Rattle.certificate_checker.specs.declared.Certified.{Certified}
use Rattle.certificate_checker.specs.declared.CheckError.{CheckError}
use Rattle.certificate_checker.specs.declared.CheckError.TheVariants.{Failed, Memory}
use Rattle.certificate_checker.specs.Verdict.{answer_of, IfFailed, IsCertified, IsVerdict}

same_parts : (x y : Certified) → x.count ≡ y.count → x.cost ≡ y.cost → x.places ≡ y.places → x ≡ y
same_parts x y e f g =
    ap (λ (n : ℕ). let z : Certified = record { count = n; cost = x.cost; places = x.places } in z) e
    ∙ ap (λ (n : ℕ). let z : Certified = record { count = y.count; cost = n; places = x.places } in z) f
    ∙ ap (λ (n : ℕ). let z : Certified = record { count = y.count; cost = y.cost; places = n } in z) g

pub verdict-unique : (claim : Claim) (a b : Result Certified Condition) → IsVerdict claim a →
    IsVerdict claim b →
    a ≡ b
verdict-unique claim (Ok x) (Ok y) p q =
    ap Ok (same_parts x y (p.count ∙ sym q.count) (p.cost ∙ sym q.cost) (p.places ∙ sym q.places))
verdict-unique claim (Ok x) (Err d) p q = absurd (q.fails (p.certifies d))
verdict-unique claim (Err c) (Ok y) p q = absurd (p.fails (q.certifies c))
verdict-unique claim (Err c) (Err d) p q = ap Err (first_failure-unique claim c d p q)

-- what a verdict says of the claim
pub verdict-certifies : (claim : Claim) (r : Result Certified Condition) → IsVerdict claim r →
    IsOk r ↔ Certifies claim
verdict-certifies claim (Ok x) v = (λ _. v.certifies, λ _. refl)
verdict-certifies claim (Err c) v = (λ ok. absurd (false≢true ok), λ all. absurd (v.fails (all c)))

pub verdict-certified : (claim : Claim) (r : Result Certified Condition) → IsVerdict claim r →
    IfOk r (IsCertified claim)
verdict-certified claim (Ok x) v = v
verdict-certified claim (Err c) v = tt

pub verdict-refused : (claim : Claim) (r : Result Certified Condition) → IsVerdict claim r →
    IfErr r (IsFirstFailure claim)
verdict-refused claim (Ok x) v = tt
verdict-refused claim (Err c) v = v

-- what is certified is best, where that follows
pub certified-so : {E P : Type 0} (claim : Claim) (r : Result Certified E) → (Certifies claim → P) →
    IfOk r (IsCertified claim) → OnOk r P
certified-so claim (Ok x) best v = best v.certifies
certified-so claim (Err e) best v = tt

-- a checker that may want memory gives the verdict, unless it wants memory
pub verdict-same : (claim : Claim) (r : Result Certified CheckError) (answer : Result Certified Condition) →
    IfOk r (IsCertified claim) → IfFailed r (IsFirstFailure claim) → IsVerdict claim answer →
    (r ≡ Err Memory → ⊥) → r ≡ answer_of answer
verdict-same claim (Ok x) answer certified failed verdict found =
    ap answer_of (verdict-unique claim (Ok x) answer certified verdict)
verdict-same claim (Err Memory) answer certified failed verdict found = absurd (found refl)
verdict-same claim (Err (Failed c)) answer certified failed verdict found =
    ap answer_of (verdict-unique claim (Err c) answer failed verdict)

-- an error of which it is known which it is
pub err_is : {X E : Type 0} (r : Result X E) (e : E) → IsErrAnd r (λ d. d ≡ e) → r ≡ Err e
err_is (Ok x) e same = absurd same
err_is (Err d) e same = ap Err same
