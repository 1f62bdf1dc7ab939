use Rattle.std.proofs.Common.{ℕ, ◌+◌, ◌∷◌, [], ◌↔◌, ◌∙◌, ap, length, sym, subst, arith, length-append}
use borrow.Author.Count.{below_more}
use Rattle.std.proofs.lemmas.List.{get_or_append_left, get_or_push}
use Rattle.tree_flow.specs.declared.nodes.End.{End}
use Rattle.tree_planner.specs.Ends.{ends_at, no_ends, HasEnd}
use Rattle.tree_flow.specs.Nodes.{IsEnd}
use Rattle.tree_planner.proofs.split_ends.all_ends.Goals as goal

pub loop-s-init : goal.loop-s-init
loop-s-init c = record {
  size = ap length c.in_ok-all.ensures;
  each = λ s l. absurd (omega arith);
}

pub loop-s-preserved : goal.loop-s-preserved
loop-s-preserved c =
    let wave = c.args.problem.now in
    let all = c.loop-s.all in
    let new = c.add_ends.new.all in
    let added = c.in_ok-add_ends.ensures in
    let size = c.loop-s.invariant.size in
    record {
      size = ap length added.items ∙ length-append all (added.ends ∷ []) ∙ ap (λ (n : ℕ). n + 1) size;
      each = below_more (λ (s : ℕ). (e : End) → HasEnd wave.tree (ends_at new s) e ↔ IsEnd wave s e) c.loop-s.s
          (λ s l e. subst (λ xs. HasEnd wave.tree xs e ↔ IsEnd wave s e)
          (sym (ap (λ xs. ends_at xs s) added.items ∙ get_or_append_left all (added.ends ∷ []) no_ends s (omega arith)))
          (c.loop-s.invariant.each s l e))
          (λ e. subst (λ xs. HasEnd wave.tree xs e ↔ IsEnd wave c.loop-s.s e)
          (sym (ap (λ xs. ends_at xs c.loop-s.s) added.items ∙ get_or_push all added.ends no_ends c.loop-s.s size))
          (subst (λ s. HasEnd wave.tree added.ends e ↔ IsEnd wave s e) c.new-split.ensures (added.same e)));
    }

pub returns : goal.returns
returns c = record {
  size = (let size = c.loop-s.invariant.size in omega arith);
  each = λ s e l. c.loop-s.invariant.each s (omega arith) e;
}
