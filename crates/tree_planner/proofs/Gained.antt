-- Workers' lines with more slots, or with fewer.
use Rattle.std.proofs.Common.{◌≡◌, ℕ, ◌+◌, ◌<◌, ◌≤◌, Bool, false, All, List, length, refl, sym, ap, ◌∙◌, subst}
use Rattle.std.proofs.Common.{get_or-set_same, get_or-set_other, inl, inr, arith}
use Rattle.std.specs.Prelude.{◌≢◌, map, slice_set}
use Rattle.std.proofs.lemmas.Bool.{cases_eq}
use Rattle.std.proofs.lemmas.List.{ext_get_or, length-set}
use Rattle.wave_problem.specs.declared.TheConstants.{MAX_SLOTS}
use Rattle.wave_problem.specs.declared.lines.WorkerLine.{WorkerLine}
use Rattle.wave_problem.specs.Wave.{worker_at, worker_in, Wave}
use Rattle.tree_flow.specs.Slots.{with_workers}
use Rattle.tree_planner.specs.Events.{slot_more, with_free}
use Rattle.tree_planner.specs.Going.{bare, HasLine, HasSameGround, IsHeldBack}
use Rattle.tree_planner.proofs.Lines.{set_here, set_other, set_size}

abbrev line_with : Bool → ℕ → WorkerLine
line_with live free = record { live = live; free = free }

-- a line that is none of the list's
abbrev pub no_line : WorkerLine
no_line = record { live = false; free = 0 }

-- a worker has the line that it has
pub line_at_first : (wave : Wave) (w : ℕ) (live : Bool) (free : ℕ) → live ≡ (worker_at wave w).live
    → free ≡ (worker_at wave w).free → HasLine wave wave w (record { live = live; free = free })
line_at_first wave w live free lives frees = record {
  rest = refl;
  size = refl;
  here = ap (λ b. line_with b (worker_at wave w).free) (sym lives) ∙ ap (line_with live) (sym frees);
  others = λ x n. refl;
}

-- a slot more
pub line_with_more : (first now next : Wave) (w : ℕ) (line : WorkerLine) → w < length now.workers
    → HasLine first now w line → next ≡ slot_more now w
    → HasLine first next w (record { live = line.live; free = line.free + 1 })
line_with_more first now next w line known has is = record {
  rest = is ∙ ap (λ (x : Wave). with_workers x (slot_more now w).workers) has.rest
      ∙ ap (λ (x : Wave). with_workers first x.workers) (sym is);
  size = ap (λ (x : Wave). length x.workers) is ∙ set_size now w ((worker_at now w).free + 1) known ∙ has.size;
  here = ap (λ (x : Wave). worker_at x w) is ∙ set_here now w ((worker_at now w).free + 1) known
      ∙ ap (λ (l : WorkerLine). line_with l.live (l.free + 1)) has.here;
  others = λ x n. ap (λ (v : Wave). worker_at v x) is ∙ set_other now w ((worker_at now w).free + 1) known x n
      ∙ has.others x n;
}

-- a worker has the line that it has
pub own_line : (wave : Wave) (w : ℕ) → HasLine wave wave w (worker_at wave w)
own_line wave w = record { rest = refl; size = refl; here = refl; others = λ x n. refl }

-- with another number of slots
module _ (first now next : Wave) (w free : ℕ) (known : w < length now.workers)
    (has : HasLine first now w (worker_at now w)) (is : next ≡ with_free now w free) where
  pub line_with_free : HasLine first next w (worker_at next w)
  line_with_free = record {
    rest = is ∙ ap (λ (x : Wave). with_workers x (with_free now w free).workers) has.rest
        ∙ ap (λ (x : Wave). with_workers first x.workers) (sym is);
    size = ap (λ (x : Wave). length x.workers) is ∙ set_size now w free known ∙ has.size;
    here = refl;
    others = λ x n. ap (λ (v : Wave). worker_at v x) is ∙ set_other now w free known x n ∙ has.others x n;
  }

  pub live_with_free : (worker_at next w).live ≡ (worker_at now w).live
  live_with_free = ap (λ (x : Wave). (worker_at x w).live) is
      ∙ ap (λ (l : WorkerLine). l.live) (set_here now w free known)

-- the first lines are these, and all else is as at first
pub record AreFit (first now : Wave) (lines : List WorkerLine) (k : ℕ) : Type 0 where
  pub rest : now ≡ with_workers first now.workers
  pub size : length now.workers ≡ length first.workers
  pub done : (j : ℕ) → j < k → worker_at now j ≡ worker_in lines j

pub none_fit : (wave : Wave) (lines : List WorkerLine) → AreFit wave wave lines 0
none_fit wave lines = record { rest = refl; size = refl; done = λ j l. absurd (omega arith) }

-- waves that differ in workers' lines alone have the same ground
pub ground_with_workers : (first now : Wave) → now ≡ with_workers first now.workers
    → length now.workers ≡ length first.workers → HasSameGround first now
ground_with_workers first now rest size = record {
  tree = ap (λ (x : Wave). x.tree) rest;
  workers = size;
  splits = ap (λ (x : Wave). map bare x.splits) rest;
  barred = ap (λ (x : Wave). x.barred) rest;
}

-- all lines are these
pub all_gained : (first now : Wave) (lines : List WorkerLine) → now ≡ with_workers first now.workers
    → length lines ≡ length now.workers
    → ((k : ℕ) → k < length lines → worker_at now k ≡ worker_in lines k)
    → now ≡ with_workers first lines
all_gained first now lines rest size same =
    rest ∙ ap (with_workers first) (ext_get_or no_line now.workers lines (sym size)
    (λ k l. same k (omega arith)))

-- nothing is held back at first
pub none_held : (wave : Wave) → All (λ line. line.free ≤ MAX_SLOTS) wave.workers → IsHeldBack wave wave
none_held wave most = record {
  rest = refl;
  more = record {
    size = refl;
    live = λ w. refl;
    more = λ w. omega arith;
    dead = λ w is. refl;
    most = most;
  };
}

-- slots of one worker more are held back
module _ (first now next : Wave) (w : ℕ) (line : WorkerLine) (known : w < length now.workers)
    (held : IsHeldBack first now)
    (set : next ≡ with_workers now (slice_set now.workers w line)) where
  here : worker_at next w ≡ line
  here = ap (λ (x : Wave). worker_at x w) set ∙ get_or-set_same now.workers w line no_line known

  other : (x : ℕ) → x ≢ w → worker_at next x ≡ worker_at now x
  other x n = ap (λ (v : Wave). worker_at v x) set ∙ get_or-set_other now.workers w x line no_line n

  module _ (live : line.live ≡ (worker_at now w).live) (less : line.free ≤ (worker_at now w).free)
      (dead : line.live ≡ false → line.free ≡ (worker_at now w).free) where
    same_live : (x : ℕ) → (worker_at next x).live ≡ (worker_at now x).live
    same_live x = elim (cases_eq x w) [
      | inl e ↦ subst (λ (x : ℕ). (worker_at next x).live ≡ (worker_at now x).live) (sym e)
          (ap (λ (l : WorkerLine). l.live) here ∙ live)
      | inr n ↦ ap (λ (l : WorkerLine). l.live) (other x n)
    ]

    fewer : (x : ℕ) → (worker_at next x).free ≤ (worker_at now x).free
    fewer x = elim (cases_eq x w) [
      | inl e ↦ subst (λ (x : ℕ). (worker_at next x).free ≤ (worker_at now x).free) (sym e)
          (let is = ap (λ (l : WorkerLine). l.free) here in omega arith)
      | inr n ↦ (let is = ap (λ (l : WorkerLine). l.free) (other x n) in omega arith)
    ]

    same_dead : (x : ℕ) → (worker_at now x).live ≡ false → (worker_at next x).free ≡ (worker_at now x).free
    same_dead x is = elim (cases_eq x w) [
      | inl e ↦ subst (λ (x : ℕ). (worker_at next x).free ≡ (worker_at now x).free) (sym e)
          (ap (λ (l : WorkerLine). l.free) here
          ∙ dead (live ∙ subst (λ (x : ℕ). (worker_at now x).live ≡ false) e is))
      | inr n ↦ ap (λ (l : WorkerLine). l.free) (other x n)
    ]

    pub held_more : IsHeldBack first next
    held_more = record {
      rest = set ∙ ap (λ (x : Wave). with_workers x (slice_set now.workers w line)) held.rest
          ∙ ap (λ (x : Wave). with_workers first x.workers) (sym set);
      more = record {
        size = held.more.size ∙ sym (length-set now.workers w line)
            ∙ ap (λ (x : Wave). length x.workers) (sym set);
        live = λ x. held.more.live x ∙ sym (same_live x);
        more = λ x. (let less = fewer x in let more = held.more.more x in omega arith);
        dead = λ x is. held.more.dead x is
            ∙ sym (same_dead x (sym (held.more.live x) ∙ is));
        most = held.more.most;
      };
    }
