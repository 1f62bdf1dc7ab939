-- The bytes of one line, and a talk that goes on.
use Rattle.std.proofs.Common.{ℕ, List, [], ◌∷◌, ◌++◌, ◌≡◌, ◌≢◌, ◌-◌, ◌+◌, ◌≤◌, ◌∙◌, length, take, ap, sym, subst, refl, arith}
use Rattle.std.proofs.Common.{Bool, true, true≢false, min, take_all, take-take, length-take, IfSome, append_assoc, inl, inr, Option, append-nil, Result, Ok, Err, None, Some, zero, suc}
use Rattle.std.specs.Io.KnownBytes.{Appends, Consumes, IsAtEnd, Keeps}
use Rattle.std.proofs.KnownBytes.{Appends-nil, Appends-trans, Consumes-nil, Consumes-trans}
use Rattle.std.proofs.Math.Seq.{take-append-add}
use Rattle.std.proofs.lemmas.Grind.{flat_map-append}
use Rattle.std.proofs.lemmas.List.Elements.{All-append, All-nil}
use Rattle.std.specs.Result.{IsErrAnd}
use Rattle.command_runner.specs.declared.tool_error.ToolError.{ToolError}
use Rattle.command_runner.specs.declared.tool_error.ToolError.TheVariants as tool
use Rattle.line_talk.specs.declared.Piece.{Piece}
use Rattle.line_talk.specs.declared.Piece.TheVariants as piece
use Rattle.line_talk.specs.declared.LineRead.{LineRead}
use Rattle.line_talk.specs.declared.LineRead.TheVariants as read
use Rattle.line_talk.specs.declared.TalkEnd.{TalkEnd}
use Rattle.line_talk.specs.declared.TalkEnd.TheVariants as end
use Rattle.line_talk.specs.declared.Turn.{Turn}
use Rattle.line_talk.specs.declared.Turn.TheVariants.{Last, More}
use Rattle.line_talk.specs.Talks.{AtTurn, Finds, IsBegun, IsBroken, IsOfOneLine, IsOfReading, IsSettled, IsUnbroken}
use Rattle.line_talk.specs.Talks.{IsWhole, ReadsLine, Replied, Said, Shows, TakesPiece, Talked, Turned, closed}
use Rattle.line_talk.specs.Talks.{heard, kept}

-- ---- what is kept of a line

-- a front of what stands behind a front is one of all
pub take_again : (n : ℕ) (xs ys : List ℕ) → take n (take n xs ++ ys) ≡ take n (xs ++ ys)
take_again zero xs ys = refl
take_again (suc n) [] ys = refl
take_again (suc n) (x ∷ xs) ys = ap (λ l. x ∷ l) (take_again n xs ys)

pub kept_more : (most : ℕ) (old xs ys : List ℕ) → kept most (kept most old xs) ys ≡ kept most old (xs ++ ys)
kept_more most old xs ys =
    take_again most (old ++ xs) ys ∙ ap (take most) (append_assoc old xs ys)

-- what there is room for
pub kept_room : (most : ℕ) (old xs : List ℕ) → length old ≤ most
    → old ++ take (most - length old) xs ≡ kept most old xs
kept_room most old xs room =
    let n : length old + (most - length old) ≡ most = omega (arith, room) in
    sym (take-append-add old xs (most - length old)) ∙ ap (λ k. take k (old ++ xs)) n

take_min : (e m : ℕ) (xs : List ℕ) → take (min e m) xs ≡ take m (take e xs)
take_min e m xs = grind (arith, take-take, take_all, length-take)

-- a front that there is room for
pub items_kept : (most : ℕ) (old xs new : List ℕ) (e k : ℕ) → length old ≤ most → k ≡ min e (most - length old)
    → new ≡ old ++ take k xs → new ≡ kept most old (take e xs)
items_kept most old xs new e k room is grown =
    grown ∙ ap (λ l. old ++ l) (ap (λ n. take n xs) is ∙ take_min e (most - length old) xs)
    ∙ kept_room most old (take e xs) room

-- ---- what one read gives

at_end_shown : (unread : Option (List ℕ)) (shown : List ℕ) → IfSome unread (λ xs. length shown ≡ 0 → xs ≡ [])
    → length shown ≡ 0 → IsAtEnd unread
at_end_shown None shown end none = tt
at_end_shown (Some xs) shown end none = end none

pub took : (most : ℕ) (old new shown : List ℕ) (count : ℕ) (unread left : Option (List ℕ)) (p : Piece)
    → Shows most old new shown count p → IfSome unread (λ xs. length shown ≡ 0 → xs ≡ [])
    → (count ≤ length shown → Consumes unread left (take count shown))
    → TakesPiece most old new unread left (Ok p)
took most old new shown count unread left piece.Last (body, whole, within, is) end consumed = record {
  bytes = take count shown;
  consumed = consumed within;
  gives = (body, whole, is);
}
took most old new shown count unread left piece.Part (unbroken, all, is) end consumed = record {
  bytes = shown;
  consumed = subst (Consumes unread left) (take_all count shown (omega (arith, all))) (consumed (omega (arith, all)));
  gives = (unbroken, is);
}
took most old new shown count unread left piece.Nothing h end consumed = absurd h
took most old new shown count unread left piece.End (none, zero_is, is) end consumed =
    let within : count ≤ length shown = omega (arith, zero_is) in
    record {
      bytes = [];
      consumed = subst (Consumes unread left) (ap (take count) none ∙ take_all count [] (omega arith)) (consumed within);
      gives = (refl, is, at_end_shown unread shown end (ap length none));
    }

-- ---- a line that is begun

-- bytes more
pub begun_more : (most : ℕ) (old line next : List ℕ) (unread at left : Option (List ℕ)) (b : Bool) (bytes : List ℕ)
    → IsBegun most old line unread at b → Consumes at left bytes → IsUnbroken bytes → next ≡ kept most line bytes
    → IsBegun most old next unread left true
begun_more most old line next unread at left b bytes h consumed unbroken is = record {
  bytes = h.bytes ++ bytes;
  consumed = Consumes-trans unread at left h.bytes bytes h.consumed consumed;
  unbroken = All-append (λ c. c ≢ 10) h.bytes bytes h.unbroken unbroken;
  line_is = is ∙ ap (λ l. kept most l bytes) h.line_is ∙ kept_more most old h.bytes bytes;
  none = λ e. absurd (true≢false e);
}

-- none
pub begun_same : (most : ℕ) (old line next : List ℕ) (unread at left : Option (List ℕ)) (b : Bool) (bytes : List ℕ)
    → IsBegun most old line unread at b → Consumes at left bytes → bytes ≡ [] → next ≡ line
    → IsBegun most old next unread left b
begun_same most old line next unread at left b bytes h consumed none is = record {
  bytes = h.bytes;
  consumed = subst (Consumes unread left) (append-nil h.bytes)
      (Consumes-trans unread at left h.bytes [] h.consumed (subst (Consumes at left) none consumed));
  unbroken = h.unbroken;
  line_is = is ∙ h.line_is;
  none = h.none;
}

-- the rest of a line that is begun makes it whole
pub whole_more : (front body bytes : List ℕ) → IsUnbroken front → IsWhole body bytes
    → IsWhole (front ++ body) (front ++ bytes)
whole_more front body bytes unbroken whole = record {
  unbroken = All-append (λ c. c ≢ 10) front body unbroken whole.unbroken;
  fed = ap (λ l. front ++ l) whole.fed ∙ sym (append_assoc front body (10 ∷ []));
}

-- the piece that ends a line
pub ended_whole : (most : ℕ) (old line new : List ℕ) (unread at left : Option (List ℕ)) (b : Bool) (p : Piece)
    → p ≡ piece.Last → IsBegun most old line unread at b → TakesPiece most line new at left (Ok p)
    → ReadsLine most old new unread left (Ok read.Whole)
ended_whole most old line new unread at left b p last h t =
    let taken = subst (λ (q : Piece). TakesPiece most line new at left (Ok q)) last t in
    let body = taken.gives.0 in
    record {
      bytes = h.bytes ++ taken.bytes;
      consumed = Consumes-trans unread at left h.bytes taken.bytes h.consumed taken.consumed;
      finds = (
        h.bytes ++ body,
        whole_more h.bytes body taken.bytes h.unbroken taken.gives.1,
        taken.gives.2 ∙ ap (λ l. kept most l body) h.line_is ∙ kept_more most old h.bytes body,
      );
    }

pub begun_part : (most : ℕ) (old line new : List ℕ) (unread at left : Option (List ℕ)) (b : Bool) (p : Piece)
    → p ≡ piece.Part → IsBegun most old line unread at b → TakesPiece most line new at left (Ok p)
    → IsBegun most old new unread left true
begun_part most old line new unread at left b p part h t =
    let taken = subst (λ (q : Piece). TakesPiece most line new at left (Ok q)) part t in
    begun_more most old line new unread at left b taken.bytes h taken.consumed taken.gives.0 taken.gives.1

pub begun_nothing : (most : ℕ) (old line new : List ℕ) (unread at left : Option (List ℕ)) (b : Bool) (p : Piece)
    → p ≡ piece.Nothing → IsBegun most old line unread at b → TakesPiece most line new at left (Ok p)
    → IsBegun most old new unread left b
begun_nothing most old line new unread at left b p nothing h t =
    let taken = subst (λ (q : Piece). TakesPiece most line new at left (Ok q)) nothing t in
    begun_same most old line new unread at left b taken.bytes h taken.consumed taken.gives.0 taken.gives.1

-- ---- a turn more

pub replied_more : {T : Type 0} (Replies : T → List ℕ → List ℕ → T → Type 0) (before mid after : T) (said : Said)
    (line answer : List ℕ) → Replied Replies before said mid → Replies mid line answer after
    → Replied Replies before (said ++ (line, answer) ∷ []) after
replied_more Replies before mid after [] line answer h step =
    (after, subst (λ t. Replies t line answer after) h step, refl)
replied_more Replies before mid after (turn ∷ said) line answer h step =
    (h.0, h.1, replied_more Replies h.0 mid after said line answer h.2 step)

pub settled_more : {T : Type 0} (Replies : T → List ℕ → List ℕ → T → Type 0)
    (unread at left old by new : Option (List ℕ)) (before mid after : T) (line answer : List ℕ)
    → IsSettled Replies unread at old by before mid → IsUnbroken line → Consumes at left (line ++ 10 ∷ [])
    → Replies mid line answer after → Appends by new (closed answer)
    → IsSettled Replies unread left old new before after
settled_more Replies unread at left old by new before mid after line answer h unbroken consumed step wrote = record {
  said = h.said ++ (line, answer) ∷ [];
  unbroken = All-append (λ turn. IsUnbroken turn.0) h.said ((line, answer) ∷ []) h.unbroken (grind arith);
  consumed = subst (Consumes unread left) (grind (arith, flat_map-append, append-nil))
      (Consumes-trans unread at left _ _ h.consumed consumed);
  appended = subst (Appends old new) (grind (arith, flat_map-append, append-nil))
      (Appends-trans old by new _ _ h.appended wrote);
  replied = replied_more Replies before mid after h.said line answer h.replied step;
}

-- ---- a talk

pub whole_of : (most : ℕ) (old new bytes : List ℕ) (unread : Option (List ℕ)) (r : LineRead) → r ≡ read.Whole
    → Finds most old new bytes unread (Ok r) → (body : List ℕ) × IsWhole body bytes × (new ≡ kept most old body)
whole_of most old new bytes unread r is h =
    subst (λ (s : LineRead). Finds most old new bytes unread (Ok s)) is h

pub over_of : (most : ℕ) (old new bytes : List ℕ) (unread : Option (List ℕ)) (r : LineRead) → r ≡ read.Over
    → Finds most old new bytes unread (Ok r) → (bytes ≡ []) × (new ≡ old) × IsAtEnd unread
over_of most old new bytes unread r is h =
    subst (λ (s : LineRead). Finds most old new bytes unread (Ok s)) is h

end_kept : (unread at left : Option (List ℕ)) (xs : List ℕ) → Consumes unread at xs → Consumes at left []
    → IsAtEnd at → IfSome unread (λ _. IsAtEnd left)
end_kept None at left xs p q none = tt
end_kept (Some x) None left xs p q none = absurd p
end_kept (Some x) (Some y) None xs p q none = absurd q
end_kept (Some x) (Some y) (Some z) xs p q none = sym q ∙ none

-- nothing was said, and nothing was read or written
pub settled_first : {T : Type 0} (Replies : T → List ℕ → List ℕ → T → Type 0) (unread old : Option (List ℕ))
    (before : T) → IsSettled Replies unread unread old old before before
settled_first Replies unread old before = record {
  said = [];
  unbroken = All-nil (λ turn. IsUnbroken turn.0);
  consumed = Consumes-nil unread;
  appended = Appends-nil old;
  replied = refl;
}

-- the input ended between two lines
pub over : {T : Type 0} (Replies : T → List ℕ → List ℕ → T → Type 0) (unread at left old new : Option (List ℕ))
    (before after : T) (bytes : List ℕ) → IsSettled Replies unread at old new before after → Consumes at left bytes
    → bytes ≡ [] → IsAtEnd at
    → IsSettled Replies unread left old new before after × IfSome unread (λ _. IsAtEnd left)
over Replies unread at left old new before after bytes h consumed none end =
    let nothing = subst (Consumes at left) none consumed in (
      record {
        said = h.said;
        unbroken = h.unbroken;
        consumed = subst (Consumes unread left) (append-nil _) (Consumes-trans unread at left _ [] h.consumed nothing);
        appended = h.appended;
        replied = h.replied;
      },
      end_kept unread at left _ h.consumed nothing end,
    )

is_error : {X : Type 0} (e : ToolError) (r : Result X ToolError) → IsErrAnd r (λ f. f ≡ e) → r ≡ Err e
is_error e (Ok end) is = absurd is
is_error e (Err f) is = cc

pub of_one : (body bytes : List ℕ) → IsWhole body bytes → IsOfOneLine bytes
of_one body bytes whole = (body, whole.unbroken, inr whole.fed)

module _ {T : Type 0} (Replies : T → List ℕ → Turn → List ℕ → T → Type 0)
    (unread at left old by new : Option (List ℕ))
    (before mid after : T) (bytes : List ℕ) (settled : IsSettled (AtTurn Replies More) unread at old by before mid)
    (consumed : Consumes at left bytes) where
  module _ (body shown : List ℕ) (whole : IsWhole body bytes) (same : shown ≡ heard body) where
    pub went_on : (turn : Turn) → turn ≡ More
        → ((line : List ℕ) → shown ≡ heard line → Turned Replies by new mid line after (Ok turn))
        → IsSettled (AtTurn Replies More) unread left old new before after
    went_on turn is turned =
        let t = subst (λ (n : Turn). Turned Replies by new mid body after (Ok n)) is (turned body same) in
        settled_more (AtTurn Replies More) unread at left old by new before mid after body t.answer settled
        whole.unbroken (subst (Consumes at left) whole.fed consumed) t.replies t.wrote

    pub ended_by : (turn : Turn) → turn ≡ Last
        → ((line : List ℕ) → shown ≡ heard line → Turned Replies by new mid line after (Ok turn))
        → Talked Replies unread left old new before after (Ok end.Told)
    ended_by turn is turned = record {
      at = at;
      by = by;
      mid = mid;
      settled = settled;
      rest = bytes;
      one = of_one body bytes whole;
      taken = consumed;
      wrote = record {
        line = body;
        line_is = whole.fed;
        answers = subst (λ (n : Turn). Turned Replies by new mid body after (Ok n)) is (turned body same);
      };
    }

  unkept : IsOfOneLine bytes → Keeps by new
      → IsBroken (AtTurn Replies More) (λ b m rest. Keeps b new) unread left old before
  unkept one keeps = record {
    at = at;
    by = by;
    mid = mid;
    settled = settled;
    rest = bytes;
    one = one;
    taken = consumed;
    wrote = keeps;
  }

  pub unread_line : Keeps by new → IsUnbroken bytes → (e : ToolError) → IsOfReading e
      → (r : Result TalkEnd ToolError) → IsErrAnd r (λ f. f ≡ e) → Talked Replies unread left old new before after r
  unread_line keeps unbroken tool.Read of r is = subst (Talked Replies unread left old new before after)
      (sym (is_error tool.Read r is)) (unkept (bytes, unbroken, inl refl) keeps)
  unread_line keeps unbroken tool.Memory of r is = subst (Talked Replies unread left old new before after)
      (sym (is_error tool.Memory r is)) (unkept (bytes, unbroken, inl refl) keeps)
  unread_line keeps unbroken tool.Write of r is = absurd of
  unread_line keeps unbroken tool.HistoryFull of r is = absurd of
  unread_line keeps unbroken (tool.Text fault) of r is = absurd of

  pub unanswered : (body shown : List ℕ) → IsWhole body bytes → shown ≡ heard body → (e : ToolError)
      → (r : Result TalkEnd ToolError) → IsErrAnd r (λ f. f ≡ e)
      → ((line : List ℕ) → shown ≡ heard line → Turned Replies by new mid line after (Err e))
      → Talked Replies unread left old new before after r
  unanswered body shown whole same tool.Write r is turned = subst (Talked Replies unread left old new before after)
      (sym (is_error tool.Write r is)) (record {
        at = at;
        by = by;
        mid = mid;
        settled = settled;
        rest = bytes;
        one = of_one body bytes whole;
        taken = consumed;
        wrote = record { line = body; line_is = whole.fed; answers = turned body same };
      })
  unanswered body shown whole same tool.Memory r is turned =
      subst (Talked Replies unread left old new before after) (sym (is_error tool.Memory r is))
      (unkept (of_one body bytes whole) (turned body same))
  unanswered body shown whole same tool.Read r is turned =
      subst (Talked Replies unread left old new before after) (sym (is_error tool.Read r is))
      (unkept (of_one body bytes whole) (turned body same))
  unanswered body shown whole same tool.HistoryFull r is turned =
      subst (Talked Replies unread left old new before after) (sym (is_error tool.HistoryFull r is))
      (unkept (of_one body bytes whole) (turned body same))
  unanswered body shown whole same (tool.Text fault) r is turned =
      subst (Talked Replies unread left old new before after) (sym (is_error (tool.Text fault) r is))
      (unkept (of_one body bytes whole) (turned body same))

pub keeps_itself : (bytes : Option (List ℕ)) → Keeps bytes bytes
keeps_itself None = tt
keeps_itself (Some xs) = refl
