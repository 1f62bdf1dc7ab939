use Rattle.std.proofs.Common.{◌≡◌, ◌∙◌, ◌++◌, ◌∷◌, [], List, ℕ, ap, ap₂, length, map, refl, set, subst, sym}
use Rattle.std.proofs.Common.{take}
use Rattle.std.specs.Prelude.{Contains}
use Rattle.std.proofs.Math.Seq.{take-append_seam}
use Rattle.std.proofs.lemmas.List.{length-map, map-set}
use Rattle.std.specs.declared.alloc.Global.{Global}
use Rattle.std.specs.declared.vec.Vec.{Vec}
use Rattle.line_shapes.specs.Lines.{Statement, statement_of}
use Rattle.line_rules.specs.Entering.{Key, key_of}
use Rattle.line_rules.specs.Known.{keys_of, rows_of}
use Rattle.line_rules.specs.Rows.{AreNumbered, ArePlaced, AreTabled, Firsts, HasKeyMore, IsNewKey, Kept, Others}
use Rattle.line_rules.specs.Rows.{places_of, rows_in, said_in, worded}
use Rattle.line_rules.specs.Rows.Kept.{Line}
use Rattle.line_rules.proofs.Barred.{numbered_line, rows_line, tabled_line}
use Rattle.line_rules.proofs.Keyed.{key_new}
use Rattle.line_rules.proofs.Placed.{list_at, number, placed_more}
use Rattle.line_rules.proofs.Put.{reserved, same_places, unchanged}
use Rattle.line_rules.proofs.rows.Rows.put.Goals as goal

pub invariant_of-self : goal.invariant_of-self
invariant_of-self c = (
  reserved (rows_in c.self.inside.lines) c.self.inside.places.items c.args.line.now.keyword c.reserve.new.self
      c.index_mut.result.now c.reserve.ensures.items c.index_mut.ensures.value c.self.invariant.0,
  c.self.invariant.1,
  c.self.invariant.2,
)

pub invariant_of-self-in_err-push : goal.invariant_of-self-in_err-push
invariant_of-self-in_err-push c =
    let placed = reserved (rows_in c.self.inside.lines) c.self.inside.places.items c.args.line.now.keyword
    c.reserve.new.self c.index_mut.result.now c.reserve.ensures.items c.index_mut.ensures.value
    c.self.invariant.0 in
    unchanged _ c.push.new.self _ _ _ _ _ _ _ c.in_err-push.ensures.err refl refl refl
    (placed, c.self.invariant.1, c.self.invariant.2)

pub put_key-requires : goal.put_key-requires
put_key-requires c =
    let said = statement_of c.args.line.now in
    let HasKey : List Statement → Type 0 = λ rows. Contains (keys_of rows) (key_of said) in
    let new = key_new _ _ _ _ c.self.invariant.1 (key_of said)
    (λ h. c.requires (subst HasKey c.self.view_is h)) in
    subst (λ (k : Key). IsNewKey c.self.inside.firsts.entries c.self.inside.others.entries k)
    (λ i. (said.keyword, sym c.first_of_key-first.ensures i, sym c.second_of_key-second.ensures i)) new

pub invariant_of-self-in-Ok : goal.invariant_of-self-in-Ok
invariant_of-self-in-Ok c =
    let said = statement_of c.args.line.now in
    let k = said.keyword in
    let vs = c.self.inside.places.items in
    let ks = c.self.inside.lines in
    let rows = rows_in ks in
    let ws = set vs (number k) c.reserve.new.self in
    let same = same_places vs k c.reserve.new.self c.index_mut.result.now c.reserve.ensures.items
    c.index_mut.ensures.value in
    let placed = subst (ArePlaced rows) (sym same) c.self.invariant.0 in
    let place : c.len-place.result ≡ length rows =
    c.len-place.ensures ∙ sym (length-map ks (said_in (worded ks))) in
    let list : c.push_reserved.new.self.items
    ≡ places_of (map (λ v. v.items) ws) k ++ length rows ∷ [] =
    c.push_reserved.ensures.items
    ∙ (λ i. list_at rows ws placed k _ c.index_mut-in-Ok.result.now c.index_mut-in-Ok.ensures.value i
    ++ place i ∷ []) in
    let lists : map (λ v. v.items) (set ws (number k) c.push_reserved.new.self)
    ≡ set (map (λ v. v.items) ws) (number k) (places_of (map (λ v. v.items) ws) k ++ length rows ∷ []) =
    map-set (λ (v : Vec ℕ Global). v.items) ws (number k) c.push_reserved.new.self
    ∙ ap (set (map (λ v. v.items) ws) (number k)) list in
    let numbered : c.in_ok-number.number ≡ length (rows_of k rows) =
    c.in_ok-number.ensures ∙ c.count.ensures ∙ ap (λ rows. length (rows_of k rows)) (sym c.self.view_is) in
    let firsts = c.self.inside.firsts.entries in
    let others = c.self.inside.others.entries in
    let bars = c.self.inside.bars.entries in
    let more = subst (λ (p : Key × ℕ). HasKeyMore firsts others p.0 p.1 c.put_key.new.firsts.entries
    c.put_key.new.others.entries)
    (λ i. ((k, c.first_of_key-first.ensures i, c.second_of_key-second.ensures i), numbered i))
    c.in-Ok.ensures.ok in
    let new = key_new _ _ _ _ c.self.invariant.1 (key_of said)
    (λ h. c.requires
    (subst (λ (rows : List Statement). Contains (keys_of rows) (key_of said)) c.self.view_is h)) in
    let all : rows_in c.push.new.self ≡ rows ++ said ∷ [] =
    ap rows_in c.in_ok-push.ensures.ok ∙ rows_line ks said c.self.invariant.2 in (
      subst (λ (t : List Statement × List (List ℕ)). ArePlaced t.0 t.1)
          (λ i. (sym all i, sym lists i)) (placed_more rows _ said placed),
      subst (λ (l : List Statement). AreTabled l c.put_key.new.firsts.entries c.put_key.new.others.entries bars)
          (sym all)
          (tabled_line rows firsts others bars c.self.invariant.1 said c.put_key.new.firsts.entries
          c.put_key.new.others.entries more new),
      subst AreNumbered (sym c.in_ok-push.ensures.ok) (numbered_line ks said c.self.invariant.2),
    )

pub returns-in-Ok-clause-ok : goal.returns-in-Ok-clause-ok
returns-in-Ok-clause-ok c =
    ap rows_in c.in_ok-push.ensures.ok
    ∙ rows_line c.self.inside.lines (statement_of c.args.line.now) c.self.invariant.2
    ∙ ap (λ (l : List Statement). l ++ statement_of c.args.line.now ∷ []) c.self.view_is

pub invariant_of-self-in-Err : goal.invariant_of-self-in-Err
invariant_of-self-in-Err c =
    let placed = reserved (rows_in c.self.inside.lines) c.self.inside.places.items c.args.line.now.keyword
    c.reserve.new.self c.index_mut.result.now c.reserve.ensures.items c.index_mut.ensures.value
    c.self.invariant.0 in
    let lines : c.truncate.new.self ≡ c.self.inside.lines =
    c.truncate.ensures ∙ ap₂ take c.len-place.ensures c.in_ok-push.ensures.ok ∙ take-append_seam _ _ in
    unchanged _ c.truncate.new.self _ _ _ _ _ _ _ lines c.in-Err.ensures.err.0 c.in-Err.ensures.err.1 refl
    (placed, c.self.invariant.1, c.self.invariant.2)
