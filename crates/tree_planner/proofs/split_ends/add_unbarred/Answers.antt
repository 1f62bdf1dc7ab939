use Rattle.std.proofs.Common.{◌≡◌, ℕ, ◌<◌, ◌↔◌, ◌⊎◌, ◌∙◌, ap, sym, subst, arith}
use Rattle.std.proofs.lemmas.List.{get_or_read}
use Rattle.rack_tree.specs.Tree.{reach, Tree}
use Rattle.tree_planner.specs.Bars.{holder_at, top_of, HasEndFor, IsLevelEnd, IsTopEnd}
use Rattle.tree_planner.proofs.Tops.{below_none, join_below, of_levels, reach_is, still_met}
use Rattle.tree_planner.proofs.split_ends.add_unbarred.Goals as goal

-- two levels are added, one after the other
two : {N M O : Type 0} (P : ℕ → Type 0) → (M ↔ (O ⊎ P 0)) → (N ↔ (M ⊎ P 1))
    → N ↔ (O ⊎ ((level : ℕ) × (level < 2) × P level))
two P first second = join_below P 1 second (join_below P 0 first (below_none P))

pub add_unmet-requires-clause-before : goal.add_unmet-requires-clause-before
add_unmet-requires-clause-before c =
    let wave = c.args.problem.now in
    let s = c.args.split in
    let h = c.index-holders-k.result in
    let holders = c.args.holders.now in
    still_met wave s holders c.args.k c.add_single.new.groups.items c.add_single-2.new.groups.items
    (λ e. IsTopEnd wave s (top_of wave h 1) e)
    (still_met wave s holders c.args.k c.args.groups.now.items c.add_single.new.groups.items
    (λ e. IsTopEnd wave s (top_of wave h 0) e) c.requires.before c.in_ok-add_single.ensures)
    c.in_ok-add_single-2.ensures

pub add_unmet-requires-then-reach-gt4-clause-before : goal.add_unmet-requires-then-reach-gt4-clause-before
add_unmet-requires-then-reach-gt4-clause-before c =
    let wave = c.args.problem.now in
    let s = c.args.split in
    let h = c.index-holders-k.result in
    let holders = c.args.holders.now in
    still_met wave s holders c.args.k c.add_single-2.new.groups.items c.add_unmet.new.groups.items
    (λ e. IsTopEnd wave s (top_of wave (holder_at holders c.args.k) 2) e)
    (still_met wave s holders c.args.k c.add_single.new.groups.items c.add_single-2.new.groups.items
    (λ e. IsTopEnd wave s (top_of wave h 1) e)
    (still_met wave s holders c.args.k c.args.groups.now.items c.add_single.new.groups.items
    (λ e. IsTopEnd wave s (top_of wave h 0) e) c.requires.before c.in_ok-add_single.ensures)
    c.in_ok-add_single-2.ensures) c.in_ok-add_unmet.ensures

pub returns-else-reach-gt4 : goal.returns-else-reach-gt4
returns-else-reach-gt4 c = λ e.
    (let wave = c.args.problem.now in
    let s = c.args.split in
    let h = c.index-holders-k.result in
    let here : h ≡ holder_at c.args.holders.now c.args.k =
    get_or_read c.args.holders.now c.args.k h c.requires.holder c.index-holders-k.is 0 in
    let P = λ (level : ℕ). IsTopEnd wave s (top_of wave h level) e in
    let third = subst (λ h. HasEndFor wave s c.add_unmet.new.groups.items e
    ↔ (HasEndFor wave s c.add_single-2.new.groups.items e ⊎ IsTopEnd wave s (top_of wave h 2) e)) (sym here)
    (c.in_ok-add_unmet.ensures e) in
    subst (λ h. HasEndFor wave s c.add_unmet.new.groups.items e
    ↔ (HasEndFor wave s c.args.groups.now.items e ⊎ IsLevelEnd wave s h e)) here
    (of_levels wave s h 3 e
    (let is = reach_is wave.tree in let same = ap (λ (t : Tree). reach t) c.tree.ensures.tree in
    let most = c.if-reach-gt4.false in let at = c.reach.ensures.reach in omega arith)
    (sym c.is_live-lives.ensures ∙ c.if-not-lives.false)
    (join_below P 2 third (two P (c.in_ok-add_single.ensures e) (c.in_ok-add_single-2.ensures e)))))

pub returns-in_ok-add_unmet-2 : goal.returns-in_ok-add_unmet-2
returns-in_ok-add_unmet-2 c = λ e.
    (let wave = c.args.problem.now in
    let s = c.args.split in
    let h = c.index-holders-k.result in
    let here : h ≡ holder_at c.args.holders.now c.args.k =
    get_or_read c.args.holders.now c.args.k h c.requires.holder c.index-holders-k.is 0 in
    let P = λ (level : ℕ). IsTopEnd wave s (top_of wave h level) e in
    let third = subst (λ h. HasEndFor wave s c.add_unmet.new.groups.items e
    ↔ (HasEndFor wave s c.add_single-2.new.groups.items e ⊎ IsTopEnd wave s (top_of wave h 2) e)) (sym here)
    (c.in_ok-add_unmet.ensures e) in
    let fourth = subst (λ h. HasEndFor wave s c.add_unmet-then-reach-gt4.new.groups.items e
    ↔ (HasEndFor wave s c.add_unmet.new.groups.items e ⊎ IsTopEnd wave s (top_of wave h 3) e)) (sym here)
    (c.in_ok-add_unmet-2.ensures e) in
    subst (λ h. HasEndFor wave s c.add_unmet-then-reach-gt4.new.groups.items e
    ↔ (HasEndFor wave s c.args.groups.now.items e ⊎ IsLevelEnd wave s h e)) here
    (of_levels wave s h 4 e
    (let is = reach_is wave.tree in let same = ap (λ (t : Tree). reach t) c.tree.ensures.tree in
    let more = c.if-reach-gt4.true in let at = c.reach.ensures.reach in omega arith)
    (sym c.is_live-lives.ensures ∙ c.if-not-lives.false)
    (join_below P 3 fourth
    (join_below P 2 third (two P (c.in_ok-add_single.ensures e) (c.in_ok-add_single-2.ensures e))))))
