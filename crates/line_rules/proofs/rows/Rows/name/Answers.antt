use Rattle.std.proofs.Common.{List, [], ◌≡◌, ◌≤◌, ◌<◌, ◌∙◌, ℕ, ap, arith, get_or, length, map, subst, sym}
use Rattle.std.proofs.lemmas.List.{length-map}
use Rattle.line_shapes.specs.Lines.{Statement, statement_of}
use Rattle.line_rules.specs.Known.{rows_of}
use Rattle.line_rules.specs.Rows.{IsRowAt, name_in, places_of, rows_in, said_in, worded}
use Rattle.line_rules.specs.Rows.Kept.{Bar, Line}
use Rattle.line_rules.specs.declared.line_list.KeptLine.TheVariants as kept_line
use Rattle.line_rules.proofs.Barred.{kept_there, name_past, not_bar, row_bar, row_kept}
use Rattle.line_rules.proofs.OfKeyword.{no_row}
use Rattle.line_rules.proofs.Placed.{count_placed, list_at, row_placed}
use Rattle.line_rules.proofs.rows.Rows.name.Goals as goal

pub returns-in-Some-Line : goal.returns-in-Some-Line
returns-in-Some-Line c =
    let k = c.args.keyword in
    let n = c.args.number in
    let p = c.in-Some.place.now in
    let ks = c.self.inside.lines in
    let vs = c.self.inside.places.items in
    let list : c.deref.result.now ≡ places_of (map (λ v. v.items) vs) k =
    c.deref.ensures.value ∙ list_at _ vs c.self.invariant.0 k _ _ c.index.ensures in
    let found = c.in-Some.ensures.lookup in
    let lt = subst (λ (ps : List ℕ). n < length ps) list found.3.0 in
    let is = subst (λ (ps : List ℕ). p ≡ get_or ps n p) list found.1 in
    let said = statement_of c.in-Some-Line.line in
    let row = row_kept ks p (Line said)
    (kept_there ks p _ _ c.in-Some-Line.field-0-is c.in-Some-Line.ensures) in
    let there : IsRowAt (rows_of k (rows_in ks)) n said =
    row_placed (rows_in ks) _ c.self.invariant.0 k n p said lt is row.1 in
    c.word_at.ensures ∙ ap (λ (s : Statement). get_or s.words 0 []) (sym (there (no_row k)))
    ∙ ap (λ (rows : List Statement). name_in k rows n) c.self.view_is

pub returns-in-Some-Bar : goal.returns-in-Some-Bar
returns-in-Some-Bar c =
    let k = c.args.keyword in
    let n = c.args.number in
    let p = c.in-Some.place.now in
    let ks = c.self.inside.lines in
    let vs = c.self.inside.places.items in
    let list : c.deref.result.now ≡ places_of (map (λ v. v.items) vs) k =
    c.deref.ensures.value ∙ list_at _ vs c.self.invariant.0 k _ _ c.index.ensures in
    let found = c.in-Some.ensures.lookup in
    let lt = subst (λ (ps : List ℕ). n < length ps) list found.3.0 in
    let is = subst (λ (ps : List ℕ). p ≡ get_or ps n p) list found.1 in
    let row = row_bar ks p _ _
    (kept_there ks p _ (kept_line.Bar _ _) c.in-Some-Bar.field-0-is c.in-Some-Bar.ensures) in
    let within : n < length (rows_of k (rows_in ks)) =
    subst (λ m. n < m) (count_placed (rows_in ks) _ c.self.invariant.0 k) lt in
    absurd (not_bar ks p k c.requires n within _ _
    (row_placed (rows_in ks) _ c.self.invariant.0 k n p _ lt is row.1))

pub returns-in-None-line : goal.returns-in-None-line
returns-in-None-line c =
    let k = c.args.keyword in
    let n = c.args.number in
    let p = c.in-Some.place.now in
    let ks = c.self.inside.lines in
    let vs = c.self.inside.places.items in
    let list : c.deref.result.now ≡ places_of (map (λ v. v.items) vs) k =
    c.deref.ensures.value ∙ list_at _ vs c.self.invariant.0 k _ _ c.index.ensures in
    let found = c.in-Some.ensures.lookup in
    let lt = subst (λ (ps : List ℕ). n < length ps) list found.3.0 in
    let is = subst (λ (ps : List ℕ). p ≡ get_or ps n p) list found.1 in
    let inside : p < length (rows_in ks) =
    subst (λ q. q < length (rows_in ks)) (sym is) (c.self.invariant.0.inside k n p lt) in
    let past : length ks ≤ p = c.in-None-line.ensures in
    absurd (omega (arith, inside, past, length-map ks (said_in (worded ks))))

pub returns-in-None : goal.returns-in-None
returns-in-None c =
    let k = c.args.keyword in
    let vs = c.self.inside.places.items in
    let list : c.deref.result.now ≡ places_of (map (λ v. v.items) vs) k =
    c.deref.ensures.value ∙ list_at _ vs c.self.invariant.0 k _ _ c.index.ensures in
    let past : length c.deref.result.now ≤ c.args.number = c.in-None.ensures.lookup.3 in
    let count : length c.deref.result.now ≡ length (rows_of k c.args.self.now) =
    ap length list ∙ count_placed _ _ c.self.invariant.0 k
    ∙ ap (λ rows. length (rows_of k rows)) c.self.view_is in
    sym (name_past k c.args.self.now c.args.number (omega (arith, past, count)))
