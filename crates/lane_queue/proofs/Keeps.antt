-- Each step keeps the rule of the lane.
use Rattle.std.proofs.Common.{◌≡◌, ◌≢◌, ℕ, zero, suc, ◌+◌, ◌*◌, ◌^◌, ◌<◌, Bool, true, false, ◌&&◌, List}
use Rattle.std.proofs.Common.{[], ◌∷◌, ◌++◌, length, set, refl, sym, ap, ◌∙◌, subst, ⊎_elim, arith}
use Rattle.std.proofs.Common.{append_assoc}
use Rattle.std.proofs.lemmas.Nat.{pow-add}
use Rattle.std.proofs.lemmas.List.Sums.{sum_by-append}
use Rattle.std.specs.List.{sum_by}
use mathlib.Core.Option.{some, some-injective, some-ne-none}
use lib.ListN.{get_elem?}
use Rattle.atomic_table.proofs.Lists.{at_set}
use Rattle.crossbeam_queue.specs.Fifo.{Pushes, Pops, Forks, Merges, Learns}
use Rattle.view_sums.proofs.Sums.{sum_by-set, sum_alone, sum_scaled, sum_by-one}
use Rattle.view_sums.proofs.Each.{each_set, each_snoc}
use Rattle.lane_queue.specs.declared.order.Order.{Order}
use Rattle.lane_queue.specs.declared.view.View.{View}
use Rattle.lane_queue.specs.Rule.{weight, Fits, Balanced}
use Rattle.lane_queue.specs.Steps.{hand, putting, taking, deeper, both, Totals}
use Rattle.lane_queue.proofs.Subs.{sub_longer, sub_both, sub_whole, sub_alone}
use Rattle.lane_queue.proofs.Parts.{scale, whole_at, no_parts, deeper_sum, deeper_within, within_more}
use Rattle.lane_queue.proofs.Parts.{within_both, not_deeper}

-- one order more, at the end of both
pub puts : (n port : ℕ) (v : View) (x : Order) → 0 < length v.depths
    → Pushes Balanced n port v x (λ w. w ≡ putting v x)
puts n port v x has items views room h at =
    let w = putting v x in
    let old = h.each port v at in (
      w,
      record {
        sent = h.sent ++ x ∷ [];
        got = h.got;
        depth = h.depth;
        line = ap (λ l. l ++ x ∷ []) h.line ∙ append_assoc h.got items (x ∷ []);
        puts = λ f.
            let changed = sum_by-set (λ (u : View). sum_by f u.puts) views port v w at in
            omega (
              arith,
              h.puts f,
              changed,
              sum_by-append f v.puts (x ∷ []),
              sum_by-append f h.sent (x ∷ []),
            );
        takes = λ f. omega (arith, h.takes f, sum_by-set (λ (u : View). sum_by f u.takes) views port v w at);
        whole = omega (arith, h.whole, sum_by-set (weight h.depth) views port v w at);
        each = each_set (Fits (h.sent ++ x ∷ []) h.got h.depth) views port w
            (λ j u _ e.
            let was = h.each j u e in
            record {
              subs = λ o. (sub_longer u.puts h.sent x (was.subs o).0, (was.subs o).1);
              within =
                  was.within;
              spent = was.spent;
            })
            record {
              subs = λ o. (sub_both v.puts h.sent x (old.subs o).0, (old.subs o).1);
              within = old.within;
              spent = λ e. absurd (omega (arith, ap length e));
            };
      },
      refl,
    )

pub takes : (port : ℕ) (v : View) → 0 < length v.depths → Pops Balanced port v (λ x w. w ≡ taking v x)
takes port v has x items views h at =
    let w = taking v x in
    let old = h.each port v at in (
      w,
      record {
        sent = h.sent;
        got = h.got ++ x ∷ [];
        depth = h.depth;
        line = h.line ∙ sym (append_assoc h.got (x ∷ []) items);
        puts = λ f. omega (arith, h.puts f, sum_by-set (λ (u : View). sum_by f u.puts) views port v w at);
        takes = λ f.
            let changed = sum_by-set (λ (u : View). sum_by f u.takes) views port v w at in
            omega (
              arith,
              h.takes f,
              changed,
              sum_by-append f v.takes (x ∷ []),
              sum_by-append f h.got (x ∷ []),
            );
        whole = omega (arith, h.whole, sum_by-set (weight h.depth) views port v w at);
        each = each_set (Fits h.sent (h.got ++ x ∷ []) h.depth) views port w
            (λ j u _ e.
            let was = h.each j u e in
            record {
              subs = λ o. ((was.subs o).0, sub_longer u.takes h.got x (was.subs o).1);
              within =
                  was.within;
              spent = was.spent;
            })
            record {
              subs = λ o. ((old.subs o).0, sub_both v.takes h.got x (old.subs o).1);
              within = old.within;
              spent = λ e. absurd (omega (arith, ap length e));
            };
      },
      refl,
    )

-- where one view has every part, it has all that was sent and got
pub totals : (port : ℕ) (v : View) → Learns Balanced port v (Totals v)
totals port v items views h at w =
    let old = h.each port v at in
    let all : sum_by (weight h.depth) views ≡ weight h.depth v = h.whole
    ∙ sym (whole_at h.depth v.depths old.within w) in
    let sent : (f : Order → ℕ) → sum_by f h.sent ≡ sum_by f v.puts =
    λ f. sym (h.puts f) ∙ sum_alone (λ (u : View). sum_by f u.puts) (weight h.depth) views
    (λ j u e none. ap (sum_by f) ((h.each j u e).spent (no_parts h.depth u.depths none)).0) port v at all in
    let got : (f : Order → ℕ) → sum_by f h.got ≡ sum_by f v.takes =
    λ f. sym (h.takes f) ∙ sum_alone (λ (u : View). sum_by f u.takes) (weight h.depth) views
    (λ j u e none. ap (sum_by f) ((h.each j u e).spent (no_parts h.depth u.depths none)).1) port v at all in
    record {
      as_often = λ f. omega (arith, sent f, got f, ap (sum_by f) h.line, sum_by-append f h.got items);
      in_turn = λ o.
          let subs = old.subs o in
          let p = sub_whole v.puts h.sent subs.0
          (omega (arith, sent (λ x. 1), sum_by-one h.sent, sum_by-one v.puts)) in
          let t = sub_whole v.takes h.got subs.1
          (omega (arith, got (λ x. 1), sum_by-one h.got, sum_by-one v.takes)) in
          p ∙ h.line ∙ ap (λ l. l ++ items) (sym t);
    }

pub forks : (port : ℕ) (v : View)
    → Forks Balanced port v (hand v.puts v.takes (deeper v.depths) v.ordered)
    (hand [] [] (deeper v.depths) true)
forks port v items views h at =
    let left = hand v.puts v.takes (deeper v.depths) v.ordered in
    let right = hand [] [] (deeper v.depths) true in
    let old = h.each port v at in
    let more = h.depth + 1 in
    let twice = sum_scaled (weight more) (weight h.depth) (2 ^ 1) views
    (λ j u e. scale h.depth 1 u.depths (h.each j u e).within) in
    let mine = scale h.depth 1 v.depths old.within in
    let half = deeper_sum h.depth v.depths in
    let power : 2 ^ more ≡ 2 ^ h.depth * 2 = pow-add 2 h.depth 1 in
    let deep = deeper_within h.depth v.depths old.within in
    let forked : (s : View → ℕ) → s left ≡ s v → s right ≡ 0 →
    sum_by s (set views port left ++ right ∷ []) ≡ sum_by s views =
    λ s same none. omega (
      arith,
      same,
      none,
      sum_by-set s views port v left at,
      sum_by-append s (set views port left) (right ∷ []),
    ) in
    record {
      sent = h.sent;
      got = h.got;
      depth = more;
      line = h.line;
      puts = λ f. omega (arith, h.puts f, forked (λ (u : View). sum_by f u.puts) refl refl);
      takes = λ f. omega (arith, h.takes f, forked (λ (u : View). sum_by f u.takes) refl refl);
      whole = grind (arith, sum_by-set, sum_by-append);
      each = each_snoc (Fits h.sent h.got more) (set views port left) right
          (each_set (Fits h.sent h.got more) views port left
          (λ i y _ a.
          let o = h.each i y a in
          record { subs = o.subs; within = within_more h.depth y.depths o.within; spent = o.spent })
          record { subs = old.subs; within = deep; spent = λ n. old.spent (not_deeper v.depths n) })
          record { subs = λ _. (tt, tt); within = deep; spent = λ _. (refl, refl) };
    }

and_both : (a b : Bool) → a && b ≡ true → (a ≡ true) × (b ≡ true)
and_both true b e = (refl, e)
and_both false b e = absurd cc

none_both : {A : Type 0} (xs ys : List A) → xs ++ ys ≡ [] → (xs ≡ []) × (ys ≡ [])
none_both [] ys e = (refl, e)
none_both (x ∷ xs) ys e = absurd (cc e)

joined : (sent got : List Order) (depth : ℕ) (v w : View) → Fits sent got depth v → Fits sent got depth w
    → Fits sent got depth (both v w)
joined sent got depth v w a b = grind (arith, and_both, sub_alone, within_both, none_both)

pub merges : (port : ℕ) (v : View) (other : ℕ) (w : View)
    → Merges Balanced port v other w (both v w) (hand [] [] [] true)
merges port v other w items views h at apart there =
    let u = both v w in
    let spent = hand [] [] [] true in
    let views' = set views port u in
    let was : get_elem? views other ≡ some w = ⊎_elim
    (λ (t : (other ≡ port) × (u ≡ w)). absurd (apart t.0))
    (λ (t : (other ≢ port) × (get_elem? views other ≡ some w)). t.1)
    (at_set views port other u w there) in
    let merged : (s : View → ℕ) → s u ≡ s v + s w → s spent ≡ 0 →
    sum_by s (set views' other spent) ≡ sum_by s views =
    λ s both none. omega (
      arith,
      both,
      none,
      sum_by-set s views port v u at,
      sum_by-set s views' other w spent there,
    ) in
    record {
      sent = h.sent;
      got = h.got;
      depth = h.depth;
      line = h.line;
      puts = grind (arith, sum_by-append);
      takes = grind (arith, sum_by-append);
      whole = grind (arith, sum_by-append);
      each = each_set (Fits h.sent h.got h.depth) views' other spent
          (λ j x _ e. each_set (Fits h.sent h.got h.depth) views port u (λ i y _ a. h.each i y a)
          (joined h.sent h.got h.depth v w (h.each port v at) (h.each other w was)) j x e)
          record { subs = λ _. (tt, tt); within = tt; spent = λ _. (refl, refl) };
    }

pub begins : Balanced [] (hand [] [] (0 ∷ []) true ∷ [])
begins = record {
  sent = [];
  got = [];
  depth = 0;
  line = refl;
  puts = λ f. refl;
  takes = λ f. refl;
  whole = refl;
  each = one;
}
  where
    one : (id : ℕ) (v : View) → get_elem? (hand [] [] (0 ∷ []) true ∷ []) id ≡ some v → Fits [] [] 0 v
    one zero v e = subst (Fits [] [] 0) (some-injective (hand [] [] (0 ∷ []) true) v e)
        record { subs = λ _. (tt, tt); within = (omega arith, tt); spent = λ _. (refl, refl) }
    one (suc id) v e = absurd (some-ne-none v (sym e))
