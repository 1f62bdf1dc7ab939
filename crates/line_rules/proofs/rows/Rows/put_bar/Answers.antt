use Rattle.std.proofs.Common.{None, Some, ◌≡◌, ◌∙◌, ◌++◌, ◌∷◌, [], List, ℕ, ap, ap₂, length, map, refl, set}
use Rattle.std.proofs.Common.{subst, sym, take}
use Rattle.std.specs.Prelude.{Contains}
use Rattle.std.proofs.Math.Seq.{take-append_seam}
use Rattle.std.proofs.lemmas.List.{length-map, map-set}
use Rattle.std.specs.declared.alloc.Global.{Global}
use Rattle.std.specs.declared.vec.Vec.{Vec}
use Rattle.line_shapes.specs.Lines.{Statement}
use Rattle.line_shapes.specs.declared.keyword.Keyword.TheVariants.{Barred, Split, Worker}
use Rattle.line_rules.specs.Known.{keys_of, rows_of}
use Rattle.line_rules.specs.Rows.{AreNumbered, AreNumbers, ArePlaced, AreTabled, bar_by, bar_said, name_in}
use Rattle.line_rules.specs.Rows.{places_of, rows_in, said_in, worded}
use Rattle.line_rules.proofs.Barred.{bar_entered, bar_line, numbered_bar, rows_bar, tabled_bar}
use Rattle.line_rules.proofs.Keyed.{none_of}
use Rattle.line_rules.proofs.Placed.{list_at, number, placed_more}
use Rattle.line_rules.proofs.Put.{reserved, same_places, unchanged}
use Rattle.line_rules.proofs.rows.Rows.put_bar.Goals as goal

pub invariant_of-self : goal.invariant_of-self
invariant_of-self c = (
  reserved (rows_in c.self.inside.lines) c.self.inside.places.items Barred c.reserve.new.self
      c.index_mut.result.now c.reserve.ensures.items c.index_mut.ensures.value c.self.invariant.0,
  c.self.invariant.1,
  c.self.invariant.2,
)

pub invariant_of-self-in_err-push_bar : goal.invariant_of-self-in_err-push_bar
invariant_of-self-in_err-push_bar c =
    let placed = reserved (rows_in c.self.inside.lines) c.self.inside.places.items Barred c.reserve.new.self
    c.index_mut.result.now c.reserve.ensures.items c.index_mut.ensures.value c.self.invariant.0 in
    unchanged _ c.push_bar.new.self _ _ _ _ _ _ _ c.in_err-push_bar.ensures.err refl refl refl
    (placed, c.self.invariant.1, c.self.invariant.2)

pub put_numbers-requires : goal.put_numbers-requires
put_numbers-requires c =
    let bar = c.args.bar in
    none_of (bar_by c.self.inside.bars.entries bar) (λ n there. c.requires.new
    (subst (λ (rows : List Statement). Contains (keys_of rows)
    (Barred, name_in Split rows bar.0, name_in Worker rows bar.1)) c.self.view_is
    (bar_entered _ _ _ _ c.self.invariant.1 bar n there)))

pub invariant_of-self-in-Ok : goal.invariant_of-self-in-Ok
invariant_of-self-in-Ok c =
    let bar = c.args.bar in
    let vs = c.self.inside.places.items in
    let ks = c.self.inside.lines in
    let rows = rows_in ks in
    let line = bar_line ks bar.0 bar.1 in
    let ws = set vs (number Barred) c.reserve.new.self in
    let same = same_places vs Barred c.reserve.new.self c.index_mut.result.now c.reserve.ensures.items
    c.index_mut.ensures.value in
    let placed = subst (ArePlaced rows) (sym same) c.self.invariant.0 in
    let place : c.len-place.result ≡ length rows =
    c.len-place.ensures ∙ sym (length-map ks (said_in (worded ks))) in
    let list : c.push_reserved.new.self.items
    ≡ places_of (map (λ v. v.items) ws) Barred ++ length rows ∷ [] =
    c.push_reserved.ensures.items
    ∙ (λ i. list_at rows ws placed Barred _ c.index_mut-in-Ok.result.now c.index_mut-in-Ok.ensures.value i
    ++ place i ∷ []) in
    let lists : map (λ v. v.items) (set ws (number Barred) c.push_reserved.new.self)
    ≡ set (map (λ v. v.items) ws) (number Barred)
    (places_of (map (λ v. v.items) ws) Barred ++ length rows ∷ []) =
    map-set (λ (v : Vec ℕ Global). v.items) ws (number Barred) c.push_reserved.new.self
    ∙ ap (set (map (λ v. v.items) ws) (number Barred)) list in
    let counted : c.in_ok-number.number ≡ length (rows_of Barred rows) =
    c.in_ok-number.ensures ∙ c.count.ensures
    ∙ ap (λ rows. length (rows_of Barred rows)) (sym c.self.view_is) in
    let firsts = c.self.inside.firsts.entries in
    let others = c.self.inside.others.entries in
    let bars = c.self.inside.bars.entries in
    let none : bar_by bars bar ≡ None = none_of (bar_by bars bar) (λ n there. c.requires.new
    (subst (λ (rows : List Statement). Contains (keys_of rows)
    (Barred, name_in Split rows bar.0, name_in Worker rows bar.1)) c.self.view_is
    (bar_entered _ _ _ _ c.self.invariant.1 bar n there))) in
    let within = subst (λ (rows : List Statement). AreNumbers rows bar.0 bar.1) (sym c.self.view_is)
    c.requires.within in
    let all : rows_in c.push_bar.new.self ≡ rows ++ line ∷ [] =
    ap rows_in c.in_ok-push_bar.ensures.ok ∙ rows_bar ks bar.0 bar.1 in (
      subst (λ (t : List Statement × List (List ℕ)). ArePlaced t.0 t.1)
          (λ i. (sym all i, sym lists i)) (placed_more rows _ line placed),
      subst (λ (l : List Statement). AreTabled l firsts others c.put_numbers.new.bars.entries) (sym all)
          (tabled_bar rows firsts others bars c.self.invariant.1 bar.0 bar.1 c.in_ok-number.number
          c.put_numbers.new.bars.entries within counted none c.in-Ok.ensures.ok),
      subst AreNumbered (sym c.in_ok-push_bar.ensures.ok)
          (numbered_bar ks bar.0 bar.1 c.self.invariant.2 within),
    )

pub returns-in-Ok-clause-ok : goal.returns-in-Ok-clause-ok
returns-in-Ok-clause-ok c =
    let bar = c.args.bar in
    ap rows_in c.in_ok-push_bar.ensures.ok ∙ rows_bar c.self.inside.lines bar.0 bar.1
    ∙ ap (λ (rows : List Statement). rows
    ++ bar_said (name_in Split rows bar.0) (name_in Worker rows bar.1) ∷ []) c.self.view_is

pub invariant_of-self-in-Err : goal.invariant_of-self-in-Err
invariant_of-self-in-Err c =
    let placed = reserved (rows_in c.self.inside.lines) c.self.inside.places.items Barred c.reserve.new.self
    c.index_mut.result.now c.reserve.ensures.items c.index_mut.ensures.value c.self.invariant.0 in
    let lines : c.truncate.new.self ≡ c.self.inside.lines =
    c.truncate.ensures ∙ ap₂ take c.len-place.ensures c.in_ok-push_bar.ensures.ok ∙ take-append_seam _ _ in
    unchanged _ c.truncate.new.self _ _ _ _ _ _ _ lines refl refl c.in-Err.ensures.err
    (placed, c.self.invariant.1, c.self.invariant.2)
