-- The numbers below the next one, and steps of which an answer tells.
use Rattle.std.proofs.Common.{◌≡◌, ℕ, ◌+◌, ◌-◌, ◌||◌, Bool, false, List, [], ◌∷◌, ◌++◌, add-one, ◌<◌, ◌⊎◌}
use Rattle.std.proofs.Common.{◌∙◌, ap, append_assoc, inl, inr, length, map, refl, subst, sym, Some, Ok, Err}
use Rattle.std.proofs.Common.{◌==◌, get_or}
use Rattle.std.specs.Prelude.{slice_get, slice_index, slice_index_or, IfErr, IfOk, IsOk}
use Rattle.std.specs.Prelude.{MatchResult, OnOk, not}
use Rattle.std.specs.declared.result.Result.{Result}
use Rattle.std.proofs.lemmas.Grind.{get_or_default_zero}
use Rattle.std.proofs.lemmas.List.{map-append}
use Rattle.job_threads.specs.Chains.{EachBelow, OnlyIf}
use Rattle.job_threads.specs.declared.holdings.Holding.{Holding}
use Rattle.job_threads.specs.Holdings.{all_buried, buried, changed_at, has_risen, upto}
use Rattle.job_threads.specs.Steps.{IsBack, IsBackIf, IsBackedUp, IsBackedUpToo, IsMapStartSent, IsStartSent}
use Rattle.job_threads.specs.Steps.{AreCopied, Follows, IsSwept, Known, Sent, known, judged}
use Rattle.job_threads.specs.declared.outcome.RunError.{RunError}
use Rattle.job_threads.specs.declared.outcome.RunError.TheVariants as ends
use Rattle.job_threads.specs.Outcomes.{IsRecordOf}
use Rattle.job_threads.specs.Settled.{AreSettled, ConcludesAs, RecordsAs, SettlesAs}
use Rattle.job_threads.specs.declared.outcome.Record.{Record}
use Rattle.master_state.specs.Jobs.{Job, Plain}
use Rattle.hand_ledger.specs.Settling.{IsLowestTorn}
use Rattle.shared_master.specs.Held.{IsMasterOf, is_short, log_of}
use Rattle.master_state.specs.States.{Setup}
use Rattle.hand_ledger.specs.Hands.{HandValue, last_place}
use Rattle.shared_master.specs.Steps.{AreDeadOf, IsKeptSweep}
use Rattle.master_state.specs.declared.states.Start.{Start}
use Rattle.shared_master.specs.declared.waves.SharedWave.{SharedWave}
use Rattle.word_map.specs.Texts.{SplitDocuments}

pub all_buried_zero : (dead told : List ℕ) (workers : List Holding) → all_buried dead told 0 workers ≡ workers
unfolding all_buried
all_buried_zero dead told workers = refl

pub all_buried_next : (dead told : List ℕ) (n : ℕ) (workers : List Holding) →
    all_buried dead told (n + 1) workers ≡
    changed_at (buried (slice_index told (slice_index dead n))) (all_buried dead told n workers)
    (slice_index dead n)
unfolding all_buried
all_buried_next dead told n workers = rw add-one

-- one more of the dead is buried
pub one_buried : (dead told seen list : List ℕ) (first before after : List Holding) (n w : ℕ)
    → before ≡ all_buried dead told n first → seen ≡ told → list ≡ dead → n < length dead
    → w ≡ get_or list n w
    → after ≡ changed_at (buried (slice_index seen w)) before w → after ≡ all_buried dead told (n + 1) first
one_buried dead told seen list first before after n w was told_is list_is inside w_is done =
    let at : w ≡ slice_index dead n =
    w_is ∙ ap (λ xs. get_or xs n w) list_is ∙ get_or_default_zero dead n w inside in
    done ∙ (λ k. changed_at (buried (slice_index (told_is k) (at k))) (was k) (at k))
    ∙ sym (all_buried_next dead told n first)

pub upto_zero : upto 0 ≡ []
unfolding upto
upto_zero = refl

pub upto_next : (n : ℕ) → upto (n + 1) ≡ upto n ++ n ∷ []
unfolding upto
upto_next n = rw add-one

-- what holds anyhow holds of an Ok
pub on_ok : {T E : Type 0} (r : Result T E) (P : Type 0) → P → OnOk r P
on_ok (Ok x) P p = p
on_ok (Err e) P p = tt

-- a step of a worker that may have risen
pub back_more : (told seen : List ℕ) (splits few w v : ℕ) (rose r : Bool) (before after : Known) →
    seen ≡ told → few ≡ splits → v ≡ w →
    rose ≡ has_risen (slice_index seen v) (slice_get before.workers v) →
    OnlyIf rose (IsBack few v) before after → IsBackIf told splits w (before, r) (after, r || rose)
back_more told seen splits few w v rose r before after told_is few_is w_is is back = (
  rose,
  is ∙ (λ k. has_risen (slice_index (told_is k) (w_is k)) (slice_get before.workers (w_is k))),
  subst (λ (n : ℕ). OnlyIf rose (IsBack n w) before after) few_is
      (subst (λ (x : ℕ). OnlyIf rose (IsBack few x) before after) w_is back),
  refl,
)

-- a split more was backed up
pub backed_up_more : (setup : Setup) (split s : ℕ) (put r : Bool) (before after : Sent) → s ≡ split →
    IsBackedUp setup s before put after → IsBackedUpToo setup split (before, r) (after, r || put)
backed_up_more setup split s put r before after is backed =
    (put, subst (λ (x : ℕ). IsBackedUp setup x before put after) is backed, refl)

-- a start more was sent
pub start_more : (shared : SharedWave) (texts : List SplitDocuments) (k a : ℕ) (start : Start) (put r : Bool)
    (before after : Sent) → k < length shared.starts.items →
    start ≡ slice_index_or shared.starts.items k start →
    a ≡ shared.wave.first + k →
    IsMapStartSent texts a start put before.lanes before.hand after.lanes after.hand →
    IsStartSent shared texts k (before, r) (after, r || put)
start_more shared texts k a start put r before after within is attempt sends = record {
  start = start;
  put = put;
  within = within;
  is = is;
  sends = subst
      (λ (n : ℕ). IsMapStartSent texts n start put before.lanes before.hand after.lanes after.hand)
      attempt sends;
  started = refl;
}

-- what follows a sweep, of what each step says
pub follows_so : (setup : Setup) (target splits few : ℕ) (told seen dead : List ℕ)
    (workers left : List Holding) (hand same : HandValue) (rose : Bool) (copied after : Known) →
    left ≡ all_buried dead told (length dead) workers → same ≡ hand →
    OnlyIf (not (length dead == 0)) (AreCopied setup target) (known left same) copied →
    seen ≡ told → few ≡ splits →
    EachBelow (IsBackIf seen few) (length seen) (copied, false) (after, rose) →
    Follows setup target splits told dead (known workers hand) rose after
follows_so setup target splits few told seen dead workers left hand same rose copied after
    buried_is hand_is copies told_is few_is joined = record {
      copied = copied;
      copies = subst
          (λ (ws : List Holding). OnlyIf (not (length dead == 0)) (AreCopied setup target)
          (known ws hand) copied)
          buried_is
          (subst
          (λ (h : HandValue). OnlyIf (not (length dead == 0)) (AreCopied setup target) (known left h) copied)
          hand_is copies);
      joined = subst
          (λ (n : ℕ). EachBelow (IsBackIf told n) (length told) (copied, false) (after, rose)) few_is
          (subst (λ (t : List ℕ). EachBelow (IsBackIf t few) (length t) (copied, false) (after, rose)) told_is
          joined);
    }

pub swept_so : (setup : Setup) (target splits few : ℕ) (told seen dead : List ℕ) (workers same : List Holding)
    (hand answered : HandValue) (answer : Plain) (rose : Bool) (after : Known) →
    told ≡ seen → few ≡ splits → same ≡ workers →
    IsKeptSweep hand told answer answered → judged answer (last_place answered.calls) ≡ Ok tt →
    AreDeadOf setup told answer dead →
    Follows setup target few told dead (known same answered) rose after →
    IsSwept setup target splits seen (known workers hand) rose after
swept_so setup target splits few told seen dead workers same hand answered answer rose after
    told_is few_is same_is kept passes dead_are follows = record {
      answer = answer;
      answered = answered;
      kept = subst (λ (t : List ℕ). IsKeptSweep hand t answer answered) told_is kept;
      passes = passes;
      dead = dead;
      dead_are = subst (λ (t : List ℕ). AreDeadOf setup t answer dead) told_is dead_are;
      follows = subst
          (λ (t : List ℕ). Follows setup target splits t dead (known workers answered) rose after)
          told_is
          (subst
          (λ (n : ℕ). Follows setup target n told dead (known workers answered) rose after) few_is
          (subst
          (λ (ws : List Holding). Follows setup target few told dead (known ws answered) rose after)
          same_is follows));
    }

-- what holds of an answer that is the record of a master, or an error
records_as : (last : Job) (given : Result Record RunError) →
    IfOk given (λ ran. (ran.master ≡ last) × IsRecordOf last.setup ran) →
    IfErr given (λ e. (e ≡ ends.Memory) ⊎ (e ≡ ends.Torn 0)) → RecordsAs last given
records_as last (Ok ran) ok err = ok
records_as last (Err e) ok err = err

pub concluded_ok : (setup : Setup) (closed master : Job) (hands : List HandValue)
    (given : Result Record RunError) →
    master ≡ closed → IsMasterOf setup closed → AreSettled closed hands →
    IfOk given (λ ran. (ran.master ≡ master) × IsRecordOf master.setup ran) →
    IfErr given (λ e. (e ≡ ends.Memory) ⊎ (e ≡ ends.Torn 0)) → ConcludesAs setup (Ok tt) hands given
concluded_ok setup closed master hands given is of_job settled ok err = (
  master,
  subst (λ (j : Job). IsMasterOf setup j) (sym is) of_job,
  inl (subst (λ (j : Job). AreSettled j hands) (sym is) settled, records_as master given ok err),
)

-- before a full history is told, the master settles
full_so : (last : Job) (hands : List HandValue) (given : Result Job RunError) (e : RunError)
    (told : Result Record RunError) → told ≡ Err e →
    MatchResult given (λ master. (master ≡ last) × AreSettled last hands)
    (λ x. (place : ℕ) × IsLowestTorn (log_of last) (is_short last) hands (Some place)
    × (x ≡ ends.Torn place)) →
    (IsOk given → e ≡ ends.HistoryFull) → IfErr given (λ x. e ≡ x) →
    SettlesAs last hands told (told ≡ Err ends.HistoryFull)
full_so last hands (Ok master) e told is settled full passed = inl (settled.1, is ∙ ap Err (full refl))
full_so last hands (Err x) e told is settled full passed =
    inr (settled.0, settled.1, is ∙ ap Err (passed ∙ settled.2))

pub concluded_full : (setup : Setup) (end : Result (Unit {0}) RunError) (last : Job) (hands : List HandValue)
    (given : Result Job RunError) (e : RunError) → end ≡ Err ends.HistoryFull → IsMasterOf setup last →
    MatchResult given (λ master. (master ≡ last) × AreSettled last hands)
    (λ x. (place : ℕ) × IsLowestTorn (log_of last) (is_short last) hands (Some place)
    × (x ≡ ends.Torn place)) →
    (IsOk given → e ≡ ends.HistoryFull) → IfErr given (λ x. e ≡ x) → ConcludesAs setup end hands (Err e)
concluded_full setup end last hands given e end_is of_job settled full passed =
    let told : Result Record RunError = Err e in
    subst (λ (r : Result (Unit {0}) RunError). ConcludesAs setup r hands told) (sym end_is)
    (last, of_job, full_so last hands given e told refl settled full passed)

-- one more in a list, by the numbers that a function gives
pub numbered_more : {A : Type 0} (f : A → ℕ) (all new : List A) (x : A) (n m : ℕ) → new ≡ all ++ x ∷ [] →
    map f all ≡ upto n → f x ≡ m → m ≡ n → map f new ≡ upto (n + 1)
numbered_more f all new x n m is before here same =
    ap (map f) is ∙ map-append f all (x ∷ []) ∙ (λ k. before k ++ (here ∙ same) k ∷ []) ∙ sym (upto_next n)

-- one more in each of two lists, with the same lane
pub laned_more : {A B C : Type 0} (f : A → C) (g : B → C) (first before after : List A) (all new : List B)
    (x : B) →
    new ≡ all ++ x ∷ [] → map f before ≡ map f first ++ map g all → map f after ≡ map f before ++ g x ∷ [] →
    map f after ≡ map f first ++ map g new
laned_more f g first before after all new x is so here =
    here ∙ ap (λ (l : List _). l ++ g x ∷ []) so ∙ append_assoc (map f first) (map g all) (g x ∷ [])
    ∙ ap (λ (l : List _). map f first ++ l) (sym (map-append g all (x ∷ [])) ∙ ap (map g) (sym is))
