-- A parse in which no step fails does not stop at `help`.
use Rattle.std.proofs.Common.{◌≡◌, ℕ, Bool, true, false, List, [], ◌∷◌, Option, Some, None, codes, refl, sym}
use Rattle.std.proofs.Common.{subst, inl, inr}
use Rattle.std.specs.Prelude.{◌⊎◌, ◌&&◌, IfSome, fold, if◌then◌else◌, not}
use Rattle.std.specs.Str.{bytes_eq}
use Rattle.clap.specs.Faults.{other_fault, turn_fault, walk_fault, word_fault}
use Rattle.clap.specs.Kinds.{Kinds, or_else}
use Rattle.clap.specs.Lexer.{long_of, short_of}
use Rattle.clap.specs.Simple.{Shape}
use Rattle.clap.specs.Walk.{Held, Names, Outcome, Rule, Step, Text, Waiting, Walk, done, waits, idle, next}
use Rattle.clap.specs.Walk.{trailing, subcommand, value, after_flag, after_step, arg_by_index, long_or_other}
use Rattle.clap.specs.Walk.{plain_word, short_or_plain, subcommand_met, subcommand_or_other, to_positional}
use Rattle.clap.specs.Walk.{walked, word_met}
use Rattle.clap.proofs.WalkLemmas.{walk_stopped}

-- where the first step or the next has no fault, neither has one
pub no_fault : (a b : Kinds) → or_else a b ≡ [] → (a ≡ []) × (b ≡ [])
no_fault [] b none = (refl, none)
no_fault (k ∷ ks) b none = cc

-- the subcommand at which a step stops
abbrev stop_at : Step → Option Text
stop_at (subcommand name) = Some name
stop_at _ = None

plain_goes_on : (c : List Rule) (waiting : Waiting) (word : Text) (h : Held)
    → stop_at (plain_word c waiting word h).1 ≡ None
plain_goes_on c idle word h = refl
plain_goes_on c waiting word h = refl

flag_goes_on : (c : List Rule) (waiting : Waiting) (word : Text) (h : Held) (o : Outcome)
    → stop_at (after_flag c waiting word h o).1 ≡ None
flag_goes_on c waiting word h done = refl
flag_goes_on c waiting word h (waits id) = refl
flag_goes_on c waiting word h o = plain_goes_on c waiting word h

short_goes_on : (c : List Rule) (waiting : Waiting) (word : Text) (o : Option Text) (h : Held)
    → stop_at (short_or_plain c waiting word o h).1 ≡ None
short_goes_on c waiting word None h = plain_goes_on c waiting word h
short_goes_on c waiting word (Some flags) h = flag_goes_on c waiting word _ _

long_goes_on : (c : List Rule) (waiting : Waiting) (word : Text) (o : Option (Text × Option Text)) (h : Held)
    → stop_at (long_or_other c waiting word o h).1 ≡ None
long_goes_on c waiting word None h = short_goes_on c waiting word (short_of word) h
long_goes_on c waiting word (Some p) h = flag_goes_on c waiting word _ _

other_goes_on : (c : List Rule) (waiting : Waiting) (position : ℕ) (word : Text) (h : Held)
    → stop_at (subcommand_or_other c None waiting position word h).1 ≡ None
other_goes_on c waiting position word h = go (bytes_eq word (45 ∷ 45 ∷ []))
  where
    go : (b : Bool)
        → stop_at (if b then (h, trailing position)
        else long_or_other c waiting word (long_of word) h).1 ≡ None
    go true = refl
    go false = long_goes_on c waiting word (long_of word) h

-- the name is not that of help
abbrev pub IsOther : Text → Type 0
IsOther name = bytes_eq name (codes "help") ≡ false

-- the walk after a word: it goes on, or has stopped at a subcommand other than `help`
abbrev IsPast : Walk → Type 0
IsPast after =
    ((w : Walk) × ◌≡◌ {A = Walk} after (record w { stopped = None }))
    ⊎ ((w : Walk) × (name : Text)
    × ◌≡◌ {A = Walk} after (record w { stopped = Some (name, []) }) × IsOther name)

goes_on : (c : List Rule) (word : Text) (w : Walk) (h : Held) (step : Step) → stop_at step ≡ None
    → IsPast (after_step c word (record w { stopped = None }) h step)
goes_on c word w h (next waiting) e = inl (record w { held = h; waiting = waiting }, refl)
goes_on c word w h (trailing position) e =
    inl (record w { held = h; position = position; is_trailing = true }, refl)
goes_on c word w h (subcommand name) e = cc
goes_on c word w h value e = go (arg_by_index c w.position)
  where
    go : (o : Option Rule) → IsPast (to_positional c o word (record w { stopped = None }) h)
    go None = inl (record w { held = h }, refl)
    go (Some a) = inl (to_positional c (Some a) word w h, refl)

not_help : (b disabled : Bool) (k l : _) → disabled ≡ false
    → ◌≡◌ {A = Kinds} (if b && not disabled then k ∷ l ∷ [] else []) [] → b ≡ false
not_help false disabled k l on none = refl
not_help true true k l on none = cc
not_help true false k l on none = cc

module _ (s : Shape) (names : Names) (helps : s.disable_help_subcommand ≡ false) where
  met_past : (o : Option Text) (word : Text) (w : Walk) → other_fault s o word w.held ≡ []
      → IsPast (after_step s.rules word (record w { stopped = None })
      (subcommand_or_other s.rules o w.waiting w.position word w.held).0
      (subcommand_or_other s.rules o w.waiting w.position word w.held).1)
  met_past (Some name) word w none =
      inr (w, name, refl, not_help (bytes_eq name (codes "help")) s.disable_help_subcommand _ _ helps none)
  met_past None word w none =
      goes_on s.rules word w _ _ (other_goes_on s.rules w.waiting w.position word w.held)

  word_past : (is_trailing : Bool) (word : Text) (w : Walk)
      → word_fault s names is_trailing w.waiting word w.held ≡ []
      → IsPast (after_step s.rules word (record w { stopped = None })
      (word_met s.rules names is_trailing w.waiting w.position word w.held).0
      (word_met s.rules names is_trailing w.waiting w.position word w.held).1)
  word_past true word w none = goes_on s.rules word w w.held value refl
  word_past false word w none = met_past (subcommand_met names w.waiting word) word w none

  -- a walk with no fault, where it stops at a subcommand, stops at another than `help`
  abbrev EndsWell : Walk → List Text → Type 0
  EndsWell w words = IfSome (fold (walked s.rules names) w words).stopped (λ p. IsOther p.0)

  pub never_help : (w : Walk) (words : List Text)
      → walk_fault s names (record w { stopped = None }) words ≡ []
      → EndsWell (record w { stopped = None }) words
  unfolding walk_fault walked
  never_help w [] none = tt
  never_help w (word ∷ words) none =
      let faults = no_fault (turn_fault s names (record w { stopped = None }) word) _ none in
      let first = no_fault (word_fault s names w.is_trailing w.waiting word w.held) _ faults.0 in
      elim (word_past w.is_trailing word w first.0) [
        | inl (v, is) ↦ subst (λ after. EndsWell after words) (sym is)
            (never_help v words (subst (λ after. walk_fault s names after words ≡ []) is faults.1))
        | inr (v, name, is, other) ↦ subst (λ after. EndsWell after words) (sym is)
            (subst (λ after. IfSome after.stopped (λ p. IsOther p.0))
            (walk_stopped s.rules names v name [] words) other)
      ]
