-- Lists that are kept are the residual arcs by which a search goes on.
use Rattle.std.proofs.Common.{◌≡◌, ℕ, ◌<◌, ◌≤◌, Bool, true, false, cond, List, [], ◌∷◌, ◌++◌}
use Rattle.std.proofs.Common.{length, map, get_or, refl, sym, ap, ◌∙◌, subst, inl, inr, ◌⊎◌, arith}
use Rattle.std.proofs.Common.{length-append, Contains, replicate, Option, None}
use Rattle.std.specs.Cmp.{nat_eq_equiv}
use Rattle.std.proofs.lemmas.Bool.{cases_Bool, cases_lt, false≢true}
use Rattle.std.proofs.lemmas.List.{get_or_past, length-map}
use Rattle.std.proofs.lemmas.Bool.Decides.{Decides-eqb}
use Rattle.std.proofs.lemmas.List.Elements.{Contains-append_right, Contains-append_left, Contains-append_cases}
use Rattle.std.proofs.lemmas.Map.Made.{length-le_from_is_member, is_member-Decides}
use Rattle.flow_network.specs.declared.arcs.FlowArc.{FlowArc}
use Rattle.flow_network.specs.declared.arcs.ArcNo.{ArcNo}
use Rattle.flow_network.specs.declared.arcs.ArcNo.TheVariants.{Forward, Reverse}
use Rattle.flow_network.specs.Flows.{AreArcs, arc_at, arc_index, tail_of, leaving_of, IsResidual}
use Rattle.flow_network.proofs.Listed.{each_arc}
use Rattle.flow_network.proofs.Members.{Contains-nil, Contains-here, Contains-cons, Contains-map}
use Rattle.flow_network.proofs.Members.{Contains-from_map, replicated_at}
use Rattle.shortest_paths.proofs.Costs.{tail_in}
use Rattle.shortest_paths.specs.Lists.{ArcLists, AreResidualArcs, source_at, inner_at, matched_at}
use Rattle.shortest_paths.specs.Lists.{option_arcs, sink_arcs_at, stack_arcs}
use Rattle.shortest_paths.specs.Matched.{AreMatched}
use Rattle.shortest_paths.specs.Sorted.{LeadsToSource, AreSorted, back_numbers}

-- an arc back to a source has its number among those that lead back
back_held : (arcs : List FlowArc) (is_source : List Bool) (all : List ArcNo) (k : ℕ)
    → Contains all (Reverse k) → get_or is_source (arc_at arcs k).from false ≡ true
    → Contains (back_numbers arcs is_source all) k
back_held arcs is_source [] k i s = absurd (Contains-nil (Reverse k) i)
back_held arcs is_source (Forward j ∷ all) k i s = elim (Contains-cons (Forward j) all (Reverse k) i) [
  | inl e ↦ absurd (let q : Forward j ≡ Reverse k = e in cc)
  | inr rest ↦ back_held arcs is_source all k rest s
]
back_held arcs is_source (Reverse j ∷ all) k i s = elim (Contains-cons (Reverse j) all (Reverse k) i) [
  | inl e ↦ (let q : j ≡ k = cc in rw (q, s) (Contains-here (back_numbers arcs is_source all) k))
  | inr rest ↦ Contains-append_right (cond (get_or is_source (arc_at arcs j).from false) (j ∷ []) [])
      (back_numbers arcs is_source all) k (back_held arcs is_source all k rest s)
]

none_in : (xs : List ℕ) → ((k : ℕ) → Contains xs k → ⊥) → xs ≡ []
none_in [] n = refl
none_in (x ∷ xs) n = absurd (n x (0, omega arith, refl))

module _ (nodes : ℕ) (arcs : List FlowArc) (flows : List ℕ) (sink : ℕ) (g : ArcLists)
    (sorted : AreSorted nodes arcs sink g) (matched : AreMatched arcs flows g) where
  -- nothing is listed at a source
  none_at : (v : ℕ) → source_at g v ≡ true → sink_arcs_at g v ++ inner_at g v ≡ []
  none_at v on =
      let bare = sorted.listed.bare v on in
      ap (λ o. option_arcs o ++ inner_at g v) bare.0 ∙ bare.1

  none_matched_at : (v : ℕ) → source_at g v ≡ true → matched_at g v ≡ []
  none_matched_at v on = none_in (matched_at g v) (λ k c.
      (let o = (matched.just v k c).0 in
      false≢true (sym (sorted.no_entry k o.listed) ∙ ap (λ u. source_at g u) o.ends ∙ on)))

  -- an arc of a node stands among the sorted ones, or leads back to a matched source
  held_or_matched : (v : ℕ) (a : ArcNo) → Contains (sink_arcs_at g v ++ stack_arcs g v) a
      → Contains (sink_arcs_at g v ++ inner_at g v) a ⊎ Contains (map Reverse (matched_at g v)) a
  held_or_matched v a i = elim (Contains-append_cases (sink_arcs_at g v) (stack_arcs g v) a i) [
    | inl out ↦ inl (Contains-append_left (sink_arcs_at g v) (inner_at g v) a out)
    | inr more ↦ elim (Contains-append_cases (map Reverse (matched_at g v)) (inner_at g v) a more) [
      | inl matched_arc ↦ inr matched_arc
      | inr held ↦ inl (Contains-append_right (sink_arcs_at g v) (inner_at g v) a held)
    ]
  ]

  held : (v : ℕ) (a : ArcNo) → Contains (sink_arcs_at g v ++ inner_at g v) a →
      Contains (sink_arcs_at g v ++ stack_arcs g v) a
  held v a i = elim (Contains-append_cases (sink_arcs_at g v) (inner_at g v) a i) [
    | inl out ↦ Contains-append_left (sink_arcs_at g v) (stack_arcs g v) a out
    | inr own ↦ Contains-append_right (sink_arcs_at g v) (stack_arcs g v) a
        (Contains-append_right (map Reverse (matched_at g v)) (inner_at g v) a own)
  ]

  matched_arc : (v k : ℕ) → Contains (matched_at g v) k
      → Contains (sink_arcs_at g v ++ stack_arcs g v) (Reverse k)
  matched_arc v k c = Contains-append_right (sink_arcs_at g v) (stack_arcs g v) (Reverse k)
      (Contains-append_left (map Reverse (matched_at g v)) (inner_at g v) (Reverse k)
      (Contains-map Reverse (matched_at g v) k c))

  back : (a : ArcNo) → LeadsToSource arcs g.is_source a → IsResidual arcs flows a
      → Contains (sink_arcs_at g (tail_of arcs a) ++ stack_arcs g (tail_of arcs a)) a
  back (Forward k) leads r = absurd leads
  back (Reverse k) leads r = matched_arc (arc_at arcs k).to k (matched.each (arc_at arcs k).to k
      (record { listed = r.listed; from_source = leads; ends = refl }) r.room)

  -- the matched sources of a node are among those to which arcs lead back from it
  few_matched : (v : ℕ) →
      length (matched_at g v) ≤ length (back_numbers arcs g.is_source (leaving_of arcs v))
  few_matched v = length-le_from_is_member nat_eq_equiv (matched_at g v)
      (back_numbers arcs g.is_source (leaving_of arcs v)) (matched.distinct v)
      (λ q m. (is_member-Decides Decides-eqb (back_numbers arcs g.is_source (leaving_of arcs v)) q).1
      (let o = (matched.just v q ((is_member-Decides Decides-eqb (matched_at g v) q).0 m)).0 in
      back_held arcs g.is_source (leaving_of arcs v) q ((each_arc arcs v (Reverse q)).0 o.listed o.ends)
      o.from_source))

  pub kept_are_residual : AreResidualArcs arcs flows sink g
  kept_are_residual = record {
    no_entry = sorted.no_entry;
    own = λ v a i. elim (held_or_matched v a i) [
      | inl own ↦ elim (cases_Bool (source_at g v)) [
        | inr off ↦ (each_arc arcs v a).1 ((sorted.listed.sorted v off).own a own)
        | inl on ↦ absurd (Contains-nil a (subst (λ xs. Contains xs a) (none_at v on) own))
      ]
      | inr stands ↦ (let m = Contains-from_map Reverse (matched_at g v) a stands in
          let o = (matched.just v m.0 m.2).0 in
          subst (λ b. (arc_index b < length arcs) × (tail_of arcs b ≡ v)) m.1 (o.listed, o.ends))
    ];
    complete = λ a r no_source.
        (let u : ℕ = tail_of arcs a in
        elim ((sorted.listed.sorted u no_source).each a ((each_arc arcs u a).0 r.listed refl)) [
          | inl own ↦ held u a own
          | inr leads ↦ back a leads r
        ]);
    sink_arcs_lead = λ v a i. elim (cases_Bool (source_at g v)) [
      | inr off ↦ (sorted.listed.sorted v off).leads a i
      | inl on ↦ absurd (Contains-nil a (subst (λ xs. Contains xs a) (none_at v on)
          (Contains-append_left (sink_arcs_at g v) (inner_at g v) a i)))
    ];
    few = λ v.
        (let all = length-append (sink_arcs_at g v) (stack_arcs g v) in
        let parts = length-append (map Reverse (matched_at g v)) (inner_at g v) in
        let own = length-append (sink_arcs_at g v) (inner_at g v) in
        let same = length-map (matched_at g v) Reverse in
        elim (cases_Bool (source_at g v)) [
          | inr off ↦ (let most = (sorted.listed.sorted v off).few in let lists = few_matched v in
              omega arith)
          | inl on ↦ (let none = ap (λ (xs : List ArcNo). length xs) (none_at v on) in
              let none_matched = ap (λ (xs : List ℕ). length xs) (none_matched_at v on) in
              omega arith)
        ]);
  }

-- all residual arcs of each node in one list, and no source
module _ (nodes : ℕ) (arcs : List FlowArc) (g : ArcLists) (are : AreArcs nodes arcs)
    (sources : g.is_source ≡ replicate nodes false) (sink_arcs : g.sink_arcs ≡ replicate nodes None)
    (size : length g.inner ≡ nodes) (each : (v : ℕ) → v < nodes → inner_at g v ≡ leaving_of arcs v)
    (matched : g.matched ≡ replicate nodes []) where
  no_sink_arc : (v : ℕ) → sink_arcs_at g v ≡ []
  no_sink_arc v = ap (λ (xs : List (Option ℕ)). option_arcs (get_or xs v None)) sink_arcs
      ∙ ap option_arcs (replicated_at {X = Option ℕ} nodes v None)

  at_node : (v : ℕ) → sink_arcs_at g v ++ stack_arcs g v ≡ inner_at g v
  at_node v = ap (λ (xs : List ArcNo). xs ++ stack_arcs g v) (no_sink_arc v)
      ∙ ap (λ (ks : List ℕ). map Reverse ks ++ inner_at g v)
      (ap (λ (xs : List (List ℕ)). get_or xs v []) matched ∙ replicated_at nodes v [])

  pub all_residual : (flows : List ℕ) (sink : ℕ) → AreResidualArcs arcs flows sink g
  all_residual flows sink = record {
    no_entry = λ k l. ap (λ (xs : List Bool). get_or xs (arc_at arcs k).to false) sources
        ∙ replicated_at nodes (arc_at arcs k).to false;
    own = λ v a i. elim (cases_lt v nodes) [
      | inl l ↦ (each_arc arcs v a).1 (subst (λ (xs : List ArcNo). Contains xs a) (at_node v ∙ each v l) i)
      | inr past ↦ absurd (Contains-nil a (subst (λ (xs : List ArcNo). Contains xs a)
          (at_node v ∙ get_or_past g.inner v [] (omega arith)) i))
    ];
    complete = λ a r no_source. subst (λ (xs : List ArcNo). Contains xs a)
        (sym (at_node (tail_of arcs a) ∙ each (tail_of arcs a) (tail_in nodes arcs a are r.listed)))
        ((each_arc arcs (tail_of arcs a) a).0 r.listed refl);
    sink_arcs_lead = λ v a i. absurd (Contains-nil a (subst (λ (xs : List ArcNo). Contains xs a)
        (no_sink_arc v) i));
    few = λ v. (let all = ap (λ (xs : List ArcNo). length xs) (at_node v) in elim (cases_lt v nodes) [
      | inl l ↦ (let same = ap (λ (xs : List ArcNo). length xs) (each v l) in omega arith)
      | inr past ↦ (let none = ap (λ (xs : List ArcNo). length xs) (get_or_past g.inner v [] (omega arith)) in
          omega arith)
    ]);
  }
