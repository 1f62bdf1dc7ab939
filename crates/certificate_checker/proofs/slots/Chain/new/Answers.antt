use Rattle.std.proofs.Common.{◌≡◌, ℕ, List, ap, ◌∙◌, replicate, arith}
use Rattle.std.specs.Prelude.{slice_index}
use Rattle.std.proofs.lemmas.Grind.{common_steps}
use Rattle.std.proofs.lemmas.List.{get_or-replicate}
use Rattle.certificate_checker.proofs.Linked.{none_next}
use Rattle.certificate_checker.proofs.slots.Chain.new.Goals as goal

pub returns : goal.returns
returns c = λ above.
    let end = c.args.slots in
    let nodes : c.in_ok-vec.field-0.items ≡ replicate c.args.nodes end = grind (arith, common_steps) in
    let slots : c.in_ok-vec-2.field-0.items ≡ replicate end end = grind (arith, common_steps) in
    record {
      node_places = grind (arith, common_steps);
      slot_places = grind (arith, common_steps);
      first = λ v below. none_next above end v _
          (ap (λ (xs : List ℕ). slice_index xs v) nodes
          ∙ get_or-replicate {A = ℕ} c.args.nodes v end 0 below);
      next = λ j from before. absurd (omega arith);
    }
