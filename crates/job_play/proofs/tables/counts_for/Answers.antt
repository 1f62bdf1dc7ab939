use Rattle.std.proofs.Common.{◌≡◌, ◌+◌, ◌-◌, ◌<◌, ◌++◌, ◌∷◌, [], ℕ, suc, List, length, replicate, take, sym}
use Rattle.std.proofs.Common.{ap, ◌∙◌, append_assoc, arith}
use Rattle.std.specs.Prelude.{min, slice_index_or, slice_set}
use Rattle.std.proofs.Math.Seq.{set-append_seam}
use Rattle.std.proofs.lemmas.List.{length-take-le, take_min, take_more}
use Rattle.job_play.specs.Reports.{counts_for}
use Rattle.job_play.proofs.tables.counts_for.Goals as goal

fitted : (workers i : ℕ) (counts : List ℕ) → i ≡ min (length counts) workers →
    take i counts ++ replicate (workers - i) 0 ≡ counts_for workers counts
fitted workers i counts is =
    let few : i ≡ min workers (length counts) = omega (arith, is) in
    let rest : workers - i ≡ workers - length counts = omega (arith, is) in
    let front : take i counts ≡ take workers counts = ap (λ n. take n counts) few ∙ take_min workers counts in
    λ k. front k ++ replicate (rest k) 0

pub loop-i-preserved : goal.loop-i-preserved
loop-i-preserved c =
    let i = c.loop-i.i in
    let workers = c.args.workers in
    let counts = c.args.counts.now in
    let inside : i < length counts = search arith in
    let within : i < workers = search arith in
    let count = slice_index_or counts i 0 in
    let front = take i counts in
    let rest : List ℕ = replicate (workers - (i + 1)) 0 in
    let one : workers - i ≡ suc (workers - (i + 1)) = omega (arith, within) in
    let long : length front ≡ i = length-take-le i counts (omega (arith, inside)) in
    ap (λ items. slice_set items i count) (c.loop-i.invariant ∙ ap (λ n. front ++ replicate n 0) one)
    ∙ ap (λ n. slice_set (front ++ 0 ∷ rest) n count) (sym long) ∙ set-append_seam front 0 rest count
    ∙ sym (ap (λ items. items ++ rest) (take_more counts i 0 inside) ∙ append_assoc front (count ∷ []) rest)

pub returns : goal.returns
returns c =
    let end : c.loop-i.i ≡ min (length c.args.counts.now) c.args.workers = search arith in
    c.loop-i.invariant ∙ fitted c.args.workers c.loop-i.i c.args.counts.now end
