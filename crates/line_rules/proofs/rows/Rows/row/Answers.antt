use Rattle.std.proofs.Common.{List, ◌≡◌, ◌≤◌, ◌<◌, ◌∙◌, ℕ, ap, arith, get_or, length, map, subst}
use Rattle.line_shapes.specs.Lines.{Statement}
use Rattle.line_rules.specs.Known.{rows_of}
use Rattle.line_rules.specs.Rows.{ArePlaced, places_of}
use Rattle.line_rules.specs.Said.{row_said}
use Rattle.line_rules.proofs.Placed.{count_placed, list_at, row_found}
use Rattle.line_rules.proofs.rows.Rows.row.Goals as goal

pub returns-in-Some : goal.returns-in-Some
returns-in-Some c =
    let k = c.args.keyword in
    let n = c.args.number in
    let p = c.in-Some.place.now in
    let vs = c.self.inside.places.items in
    let placed = subst (λ (rows : List Statement). ArePlaced rows (map (λ v. v.items) vs)) c.self.view_is
    c.self.invariant.0 in
    let list : c.deref.result.now ≡ places_of (map (λ v. v.items) vs) k =
    c.deref.ensures.value ∙ list_at _ vs placed k _ _ c.index.ensures in
    let found = c.in-Some.ensures.lookup in
    let lt = subst (λ (ps : List ℕ). n < length ps) list found.3.0 in
    let is = subst (λ (ps : List ℕ). p ≡ get_or ps n p) list found.1 in
    row_found _ _ placed k row_said n p lt is c.row_at.result c.row_at.ensures

pub returns-in-None : goal.returns-in-None
returns-in-None c =
    let k = c.args.keyword in
    let vs = c.self.inside.places.items in
    let list : c.deref.result.now ≡ places_of (map (λ v. v.items) vs) k =
    c.deref.ensures.value ∙ list_at _ vs c.self.invariant.0 k _ _ c.index.ensures in
    let past : length c.deref.result.now ≤ c.args.number = c.in-None.ensures.lookup.3 in
    let count : length c.deref.result.now ≡ length (rows_of k c.args.self.now) =
    ap length list ∙ count_placed _ _ c.self.invariant.0 k
    ∙ ap (λ rows. length (rows_of k rows)) c.self.view_is in
    omega (arith, past, count)
