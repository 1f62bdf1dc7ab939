use Rattle.std.proofs.Common.{◌^◌, ◌∙◌, length, ap, sym, subst, inl, inr, arith}
use Rattle.tree_planner.specs.declared.back.SearchBack.{SearchBack}
use Rattle.tree_planner.specs.declared.back.StepBack.TheVariants.{Start}
use Rattle.tree_planner.specs.Reaching.{IsAdded, IsRow}
use Rattle.tree_planner.specs.SearchingBack.{far_at, step_at, wave_of, LeadsTo}
use Rattle.tree_flow.specs.Nodes.{IsNode}
use Rattle.tree_flow.proofs.Moved.{same_or_not}
use Rattle.tree_planner.proofs.Added.{over_sized}
use Rattle.tree_planner.proofs.Rowed.{no_row, row_noted}
use Rattle.tree_planner.proofs.back.start.Goals as goal

pub note-requires : goal.note-requires
note-requires c = λ past.
    (let empty = ap length c.requires.unused.blank.row in
    let room = c.requires.unused.blank.tables.room in
    omega arith)

pub returns-clause-searching : goal.returns-clause-searching
returns-clause-searching c =
    let h = c.args.hollow.now in
    let old = c.args.search.now in
    let u = c.requires.unused in
    let b = u.blank in
    let far = c.set.new.self in
    let how = c.set-2.new.self in
    let row = c.note.new.row in
    let new : SearchBack = record old { far = far; how = how; reached = row } in
    let here = c.set.ensures.here (2 ^ 60) in
    let others = c.set.ensures.others (2 ^ 60) in
    record {
      tables = record {
        far = over_sized (wave_of h).tree old.far far b.tables.far c.set.ensures.size;
        how = over_sized (wave_of h).tree old.how how b.tables.how c.set-2.ensures.size;
        order = b.tables.order;
        room = (let room = b.tables.room in let same = c.note.ensures.room in omega arith);
      };
      reached = record {
        row = row_noted (wave_of h).tree (far_at old) (far_at new) old.hole (omega arith) others old.reached.items
            row.items
            (subst (IsRow (wave_of h).tree (far_at old)) (sym b.row) (no_row (wave_of h).tree (far_at old) (λ v.
            (let away = b.away v in omega arith))))
            (subst (IsNode (wave_of h).tree) (sym c.requires.hole) c.requires.hollow.known)
            (subst (λ f. IsAdded old.reached.items row.items old.hole f) (sym (b.away old.hole)) c.note.ensures.added);
        looked = λ v some. absurd (let none = b.none v in omega arith);
      };
      bound = (let same = u.bound in omega arith);
      most = λ v. elim (same_or_not v old.hole) [
        | inl e ↦ (let now = ap (far_at new) e in omega arith)
        | inr n ↦ (let same = others v n in let away = b.away v in omega arith)
      ];
      few = λ v. (let none = b.none v in omega arith);
      start = ap (far_at new) (sym c.requires.hole) ∙ here;
      steps = λ v less. elim (same_or_not v old.hole) [
        | inl e ↦ subst (λ st. LeadsTo h new v (far_at new v) st)
            (sym (ap (λ v. step_at new v) e ∙ c.set-2.ensures.here Start)) (e ∙ c.requires.hole)
        | inr n ↦ absurd (let same = others v n in let away = b.away v in omega arith)
      ];
      level = λ x v some none. absurd (let zero = b.none x in omega arith);
      goal = λ less. absurd (let same = u.bound in omega arith);
    }
