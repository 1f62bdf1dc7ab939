-- Commands that are performed one after another.
use Rattle.std.proofs.Common.{◌≡◌, ℕ, ◌+◌, ◌<◌, Some, List, [], ◌∷◌, ◌++◌, length, get_or, take, refl, sym}
use Rattle.std.proofs.Common.{ap, ◌∙◌, subst, append_assoc, append-nil}
use Rattle.std.specs.Prelude.{slice_get}
use Rattle.std.proofs.lemmas.List.{take_more}
use Rattle.std.proofs.lemmas.Option.{get_or_from_slice_get, slice_get_within}
use Rattle.master_state.specs.Jobs.{Job}
use Rattle.script_text.specs.declared.script.Names.{Names}
use Rattle.script_text.specs.declared.script.Command.{Command}
use Rattle.job_play.specs.Reports.{Performs, PerformsAll}
use Rattle.job_play.specs.Playing.{Performed, PerformedAll}

performs_more : (names : Names) (target : ℕ) (old mid new : Job) (commands : List Command) (c : Command)
    (front back : List ℕ) → PerformsAll names target old commands front mid →
    Performs names target mid c back new →
    PerformsAll names target old (commands ++ c ∷ []) (front ++ back) new
performs_more names target old mid new [] c front back h step = (
  new,
  back,
  [],
  subst (λ (j : Job). Performs names target j c back new) h.1 step,
  (refl, refl),
  (λ i. h.0 i ++ back) ∙ sym (append-nil back),
)
performs_more names target old mid new (d ∷ commands) c front back h step = (
  h.0,
  h.1,
  h.2 ++ back,
  h.3,
  performs_more names target h.0 mid new commands c h.2 back h.4 step,
  (λ i. h.5 i ++ back) ∙ append_assoc h.1 h.2 back,
)

pub performed_more : (names : Names) (target : ℕ) (old mid new : Job) (commands : List Command) (i : ℕ)
    (c : Command) (a b d : List ℕ) → i < length commands → c ≡ get_or commands i c →
    PerformedAll names target old (take i commands) a b mid → Performed names target mid c b d new →
    PerformedAll names target old (take (i + 1) commands) a d new
performed_more names target old mid new commands i c a b d below is h k =
    let more : take (i + 1) commands ≡ take i commands ++ c ∷ [] =
    take_more commands i c below ∙ ap (λ (y : Command). take i commands ++ y ∷ []) (sym is) in
    subst (λ (cs : List Command). PerformedAll names target old cs a d new) (sym more) (record {
      out = h.out ++ k.out;
      performs = performs_more names target old mid new (take i commands) c h.out k.out h.performs k.performs;
      written = k.written ∙ (λ i. h.written i ++ k.out) ∙ append_assoc a h.out k.out;
    })

-- what is read next comes to those that stood before it
pub take_next : {X : Type 0} (xs : List X) (n k : ℕ) (x : X) → k ≡ n → slice_get xs k ≡ Some x →
    take (n + 1) xs ≡ take n xs ++ x ∷ []
take_next {X} xs n k x same found =
    let at : slice_get xs n ≡ Some x = subst (λ (m : ℕ). slice_get xs m ≡ Some x) same found in
    take_more xs n x (slice_get_within xs n x at)
    ∙ ap (λ (y : X). take n xs ++ y ∷ []) (get_or_from_slice_get xs n x x at)
