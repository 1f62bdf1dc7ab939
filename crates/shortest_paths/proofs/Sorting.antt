-- The lists of each node's arcs, as they are made for a network without flow.
use Rattle.std.proofs.Common.{◌≡◌, ℕ, ◌+◌, ◌<◌, ◌≤◌, Bool, cond, true, false, List, [], ◌∷◌, ◌++◌, length, get_or, set}
use Rattle.std.proofs.Common.{Option, Some, None, refl, sym, ap, ◌∙◌, subst, inl, inr, arith, eqb, length-append}
use Rattle.std.proofs.Common.{replicate, get_or-set_same, get_or-set_other, Contains}
use Rattle.std.proofs.lemmas.Bool.{cases_eq, eq-eqb, ne_eqb, false≢true}
use Rattle.std.proofs.lemmas.List.{append-nil, append_assoc}
use Rattle.std.specs.Prelude.{is_some, not, nat_eq}
use Rattle.std.specs.List.{IsDistinct}
use Rattle.std.proofs.lemmas.List.Elements.{Contains-append_left, Contains-push, Contains-push_cases}
use Rattle.flow_network.specs.declared.arcs.FlowArc.{FlowArc}
use Rattle.flow_network.specs.declared.arcs.ArcNo.{ArcNo}
use Rattle.flow_network.specs.declared.arcs.ArcNo.TheVariants.{Forward, Reverse}
use Rattle.flow_network.specs.Flows.{arc_at, head_of, leaving_of, own_leaving}
use Rattle.flow_network.proofs.Listing.{leaving_from-push}
use Rattle.flow_network.proofs.Members.{Contains-here, Contains-there, Contains-cons, Contains-one, replicated_at}
use Rattle.shortest_paths.specs.Lists.{ArcLists, option_arcs}
use Rattle.shortest_paths.specs.Matched.{AreMatched}
use Rattle.shortest_paths.specs.Sorted.{LeadsToSource, AreSortedAt, AreListed, IsListed, back_numbers}

-- a test says that there is none in the place
pub none_read : (xs : List (Option ℕ)) (i : ℕ) (o : Option ℕ) (r : Bool) → i < length xs
    → o ≡ get_or xs i o → is_some o ≡ not r → r ≡ true → get_or xs i None ≡ None
none_read xs i o r l read test found = grind arith

module _ (arcs : List FlowArc) (is_source : List Bool) where
  -- how many arcs lead back, with one arc more
  back_more : (all : List ArcNo) (b : ArcNo) → length (back_numbers arcs is_source (all ++ b ∷ []))
      ≡ length (back_numbers arcs is_source all) + length (back_numbers arcs is_source (b ∷ []))
  back_more [] b = omega arith
  back_more (Forward k ∷ all) b = back_more all b
  back_more (Reverse k ∷ all) b =
      let more = back_more all b in
      let first : List ℕ = cond (get_or is_source (arc_at arcs k).from false) (k ∷ []) [] in
      let one = length-append first (back_numbers arcs is_source (all ++ b ∷ [])) in
      let two = length-append first (back_numbers arcs is_source all) in omega arith

  few_back : (b : ArcNo) → length (back_numbers arcs is_source (b ∷ [])) ≤ 1
  few_back (Forward k) = omega arith
  few_back (Reverse k) = at_most (get_or is_source (arc_at arcs k).from false)
    where
      at_most : (s : Bool) → length (cond s (k ∷ []) [] ++ []) ≤ 1
      at_most true = omega arith
      at_most false = omega arith

  -- an arc of a node that is no source
  pub none_back : (k : ℕ) → get_or is_source (arc_at arcs k).from false ≡ false
      → length (back_numbers arcs is_source (Reverse k ∷ [])) ≡ 0
  none_back k e = ap (λ (s : Bool). length (cond s (k ∷ []) [] ++ [])) e

module _ (arcs : List FlowArc) (is_source : List Bool) (sink : ℕ) (all : List ArcNo) where
  -- the first arc to the sink
  pub sorted_sink_arc : (k : ℕ) (sink_arc : Option ℕ) (inner : List ArcNo) → sink_arc ≡ None
      → AreSortedAt arcs is_source sink all sink_arc inner → (arc_at arcs k).to ≡ sink
      → AreSortedAt arcs is_source sink (all ++ Forward k ∷ []) (Some k) inner
  sorted_sink_arc k sink_arc inner none s e =
      let t : AreSortedAt arcs is_source sink all None inner =
      subst (λ (o : Option ℕ). AreSortedAt arcs is_source sink all o inner) none s in
      record {
        own = λ a i. elim (Contains-cons (Forward k) inner a i) [
          | inl same ↦ subst (Contains (all ++ Forward k ∷ [])) same (Contains-push all (Forward k))
          | inr old ↦ Contains-append_left all (Forward k ∷ []) a (t.own a old)
        ];
        each = λ a i. elim (Contains-push_cases all (Forward k) a i) [
          | inl old ↦ elim (t.each a old) [
            | inl h ↦ inl (Contains-there (Forward k) inner a h)
            | inr back ↦ inr back
          ]
          | inr same ↦ inl (subst (Contains (Forward k ∷ inner)) same (Contains-here inner (Forward k)))
        ];
        leads = λ a i. ap (head_of arcs) (sym (Contains-one (Forward k) a i)) ∙ e;
        few = (let old = t.few in let size = length-append all (Forward k ∷ []) in
            let more = back_more arcs is_source all (Forward k) in omega arith);
      }

  -- any other arc
  pub sorted_inner : (b : ArcNo) (sink_arc : Option ℕ) (inner : List ArcNo)
      → length (back_numbers arcs is_source (b ∷ [])) ≡ 0
      → AreSortedAt arcs is_source sink all sink_arc inner
      → AreSortedAt arcs is_source sink (all ++ b ∷ []) sink_arc (inner ++ b ∷ [])
  sorted_inner b sink_arc inner none t = record {
    own = λ a i. elim (Contains-push_cases held b a (rw whole at i)) [
      | inl old ↦ Contains-append_left all (b ∷ []) a (t.own a old)
      | inr same ↦ subst (Contains (all ++ b ∷ [])) same (Contains-push all b)
    ];
    each = λ a i. elim (Contains-push_cases all b a i) [
      | inl old ↦ elim (t.each a old) [
        | inl h ↦ inl (rw whole (Contains-append_left held (b ∷ []) a h))
        | inr back ↦ inr back
      ]
      | inr same ↦ inl (rw whole (subst (Contains (held ++ b ∷ [])) same (Contains-push held b)))
    ];
    leads = t.leads;
    few = (let old = t.few in let size = length-append all (b ∷ []) in
        let more = back_more arcs is_source all b in let longer = length-append held (b ∷ []) in
        rw whole (omega arith));
  }
    where
      held : List ArcNo
      held = option_arcs sink_arc ++ inner

      whole : option_arcs sink_arc ++ (inner ++ b ∷ []) ≡ held ++ b ∷ []
      whole = sym (append_assoc (option_arcs sink_arc) inner (b ∷ []))

  -- an arc back to a source is left out
  pub sorted_back : (b : ArcNo) (sink_arc : Option ℕ) (inner : List ArcNo)
      → AreSortedAt arcs is_source sink all sink_arc inner
      → LeadsToSource arcs is_source b → AreSortedAt arcs is_source sink (all ++ b ∷ []) sink_arc inner
  sorted_back b sink_arc inner t back = record {
    own = λ a i. Contains-append_left all (b ∷ []) a (t.own a i);
    each = λ a i. elim (Contains-push_cases all b a i) [
      | inl old ↦ t.each a old
      | inr same ↦ inr (subst (LeadsToSource arcs is_source) same back)
    ];
    leads = t.leads;
    few = (let old = t.few in let size = length-append all (b ∷ []) in
        let more = back_more arcs is_source all b in let most = few_back arcs is_source b in omega arith);
  }

-- an arc to the sink, and any other arc, that is listed at a node
pub sink_arc_listed : (arcs : List FlowArc) (sink v k : ℕ) (sink_arcs : List (Option ℕ))
    (inner : List (List ArcNo))
    → v < length sink_arcs → get_or sink_arcs v None ≡ None → (arc_at arcs k).to ≡ sink
    → IsListed arcs sink v (Forward k) sink_arcs inner (set sink_arcs v (Some k)) inner
sink_arc_listed arcs sink v k sink_arcs inner l none e = record {
  others = λ u d. (get_or-set_other sink_arcs v u (Some k) None d, refl);
  here = λ is_source all back w. rw (get_or-set_same sink_arcs v (Some k) None l)
      (sorted_sink_arc arcs is_source sink all k (get_or sink_arcs v None) (get_or inner v []) none w e);
}

pub inner_listed : (arcs : List FlowArc) (sink v : ℕ) (b : ArcNo) (sink_arcs : List (Option ℕ))
    (inner : List (List ArcNo)) → v < length inner
    → IsListed arcs sink v b sink_arcs inner sink_arcs (set inner v (get_or inner v [] ++ b ∷ []))
inner_listed arcs sink v b sink_arcs inner l = record {
  others = λ u d. (refl, get_or-set_other inner v u (get_or inner v [] ++ b ∷ []) [] d);
  here = λ is_source all back w. rw (get_or-set_same inner v (get_or inner v [] ++ b ∷ []) [] l)
      (sorted_inner arcs is_source sink all b (get_or sink_arcs v None) (get_or inner v []) back w);
}

-- what a node's lists are once an arc is listed at some node
grown : (arcs : List FlowArc) (is_source : List Bool) (sink v : ℕ) (b : ArcNo)
    (sink_arcs sink_arcs' : List (Option ℕ)) (inner inner' : List (List ArcNo)) (all : List ArcNo) (u : ℕ)
    → IsListed arcs sink v b sink_arcs inner sink_arcs' inner'
    → length (back_numbers arcs is_source (b ∷ [])) ≡ 0
    → AreSortedAt arcs is_source sink all (get_or sink_arcs u None) (get_or inner u [])
    → AreSortedAt arcs is_source sink (all ++ cond (eqb v u) (b ∷ []) []) (get_or sink_arcs' u None)
    (get_or inner' u [])
grown arcs is_source sink v b sink_arcs sink_arcs' inner inner' all u s none w = elim (cases_eq u v) [
  | inl e ↦ rw (e, eq-eqb v v refl) (s.here is_source all none
      (subst (λ i. AreSortedAt arcs is_source sink all (get_or sink_arcs i None) (get_or inner i [])) e w))
  | inr d ↦ rw (ne_eqb v u (λ q. d (sym q)), append-nil all, (s.others u d).0, (s.others u d).1) w
]

module _ (arcs some : List FlowArc) (is_source : List Bool) (sink n : ℕ) (sink_arcs : List (Option ℕ))
    (inner : List (List ArcNo)) (size : length some ≡ n)
    (no_entry : get_or is_source (arc_at arcs n).to false ≡ false)
    (t : AreListed arcs is_source sink some sink_arcs inner) where
  abbrev more : List FlowArc
  more = some ++ arc_at arcs n ∷ []

  leaving_more : (u : ℕ) → leaving_of more u
      ≡ leaving_of some u ++ (cond (eqb (arc_at arcs n).from u) (Forward n ∷ []) []
      ++ cond (eqb (arc_at arcs n).to u) (Reverse n ∷ []) [])
  leaving_more u =
      let e : 0 + length some ≡ n = omega arith in
      leaving_from-push 0 some (arc_at arcs n) u
      ∙ ap (λ m. leaving_of some u ++ own_leaving m (arc_at arcs n) u) e

  -- an arc of a source is listed nowhere
  pub source_more : get_or is_source (arc_at arcs n).from false ≡ true
      → AreListed arcs is_source sink more sink_arcs inner
  source_more from = record {
    sorted = λ u off.
        (let apart : (arc_at arcs n).from ≡ u → ⊥ =
        λ e. false≢true (sym off ∙ sym (ap (λ i. get_or is_source i false) e) ∙ from) in
        rw (leaving_more u, ne_eqb (arc_at arcs n).from u apart) (elim (cases_eq u (arc_at arcs n).to) [
          | inl e ↦ rw (e, eq-eqb (arc_at arcs n).to (arc_at arcs n).to refl)
              (sorted_back arcs is_source sink (leaving_of some (arc_at arcs n).to) (Reverse n)
              (get_or sink_arcs (arc_at arcs n).to None) (get_or inner (arc_at arcs n).to [])
              (t.sorted (arc_at arcs n).to no_entry) from)
          | inr d ↦ rw (ne_eqb (arc_at arcs n).to u (λ q. d (sym q)), append-nil (leaving_of some u))
              (t.sorted u off)
        ]));
    bare = t.bare;
  }

  -- another arc is listed at both ends
  pub listed_more : (exits₁ exits₂ : List (Option ℕ)) (inner₁ inner₂ : List (List ArcNo))
      → get_or is_source (arc_at arcs n).from false ≡ false
      → IsListed arcs sink (arc_at arcs n).from (Forward n) sink_arcs inner exits₁ inner₁
      → IsListed arcs sink (arc_at arcs n).to (Reverse n) exits₁ inner₁ exits₂ inner₂
      → AreListed arcs is_source sink more exits₂ inner₂
  listed_more exits₁ exits₂ inner₁ inner₂ from own back = record {
    sorted = λ u off. rw (
      leaving_more u,
      ← append_assoc (leaving_of some u)
          (cond (eqb (arc_at arcs n).from u) (Forward n ∷ []) [])
          (cond (eqb (arc_at arcs n).to u) (Reverse n ∷ []) []),
    )
        (grown arcs is_source sink (arc_at arcs n).to (Reverse n) exits₁ exits₂ inner₁ inner₂
        (leaving_of some u ++ cond (eqb (arc_at arcs n).from u) (Forward n ∷ []) []) u back
        (none_back arcs is_source n from)
        (grown arcs is_source sink (arc_at arcs n).from (Forward n) sink_arcs exits₁ inner inner₁
        (leaving_of some u) u own refl (t.sorted u off)));
    bare = λ u on.
        (let a : u ≡ (arc_at arcs n).from → ⊥ =
        λ e. false≢true (sym from ∙ sym (ap (λ i. get_or is_source i false) e) ∙ on) in
        let b : u ≡ (arc_at arcs n).to → ⊥ =
        λ e. false≢true (sym no_entry ∙ sym (ap (λ i. get_or is_source i false) e) ∙ on) in
        let old = t.bare u on in
        ((back.others u b).0 ∙ (own.others u a).0 ∙ old.0, (back.others u b).1 ∙ (own.others u a).1 ∙ old.1));
  }

sorted_none : (arcs : List FlowArc) (is_source : List Bool) (sink : ℕ)
    → AreSortedAt arcs is_source sink [] None []
sorted_none arcs is_source sink = grind arith

-- before the first arc nothing is listed
pub none_listed : (arcs : List FlowArc) (is_source : List Bool) (sink n : ℕ)
    → AreListed arcs is_source sink [] (replicate n None) (replicate n [])
none_listed arcs is_source sink n = grind (arith, replicated_at, sorted_none)

none_distinct : IsDistinct nat_eq []
unfolding IsDistinct
none_distinct = tt

-- without flow no source is matched
pub none_matched : (arcs : List FlowArc) (flows : List ℕ) (n : ℕ) (g : ArcLists)
    → ((k : ℕ) → get_or flows k 0 ≡ 0) → g.matched ≡ replicate n [] → AreMatched arcs flows g
none_matched arcs flows n g no_flow e = grind (arith, none_distinct, replicated_at)
