use Rattle.std.proofs.Common.{◌≢◌, ◌<◌, ◌≤◌, ap, sym, subst, length, All, AllPairs, arith}
use Rattle.std.proofs.lemmas.List.{length-set}
use Rattle.std.proofs.lemmas.List.Elements.{All-get_or, All-set}
use Rattle.wave_problem.specs.declared.TheConstants.{MAX_BYTES, MAX_HOLDERS}
use Rattle.wave_problem.specs.Wave.{Split, Wave}
use Rattle.wave_problem.proofs.problem.Problem.set_pending.Goals as goal

pub invariant_of-self : goal.invariant_of-self
invariant_of-self c =
    let i = c.self.invariant in
    let splits = c.self.inside.splits.items in
    let at = c.index.result in
    let known : at < length splits = (let is = c.index.ensures.value in let l = c.requires in
    let same = ap (λ (w : Wave). length w.splits) c.self.view_is in omega arith) in
    let new : Split = record {
      bytes = c.behind-self.inside.bytes;
      pending = c.args.pending;
      holders = c.behind-self.inside.holders.items;
    } in
    let old : Split = record {
      bytes = c.behind-self.inside.bytes;
      pending = c.behind-self.inside.pending;
      holders = c.behind-self.inside.holders.items;
    } in
    let was : (P : Split → Type 0) → All P splits → P old = λ P all.
    subst P (sym c.behind-self.view_is) (subst P (sym c.index_mut.ensures.value)
    (All-get_or P splits at c.index_mut.result.now known all)) in
    record {
      near = i.near;
      few_splits = (let few = i.few_splits in let same = length-set splits at new in omega arith);
      few_workers = i.few_workers;
      one_line_each = i.one_line_each;
      slots = i.slots;
      bytes = All-set (λ split. split.bytes ≤ MAX_BYTES) splits at new
          (was (λ split. split.bytes ≤ MAX_BYTES) i.bytes) i.bytes;
      holders = All-set (λ split. length split.holders ≤ MAX_HOLDERS) splits at new
          (was (λ split. length split.holders ≤ MAX_HOLDERS) i.holders) i.holders;
      known = All-set (λ split. All (λ h. h < length c.self.inside.workers.items) split.holders) splits at new
          (was (λ split. All (λ h. h < length c.self.inside.workers.items) split.holders) i.known) i.known;
      distinct = All-set (λ split. AllPairs (λ a b. a ≢ b) split.holders) splits at new
          (was (λ split. AllPairs (λ a b. a ≢ b) split.holders) i.distinct) i.distinct;
    }
