use Rattle.std.proofs.Common.{ℕ, List, ◌≢◌}
use Rattle.line_shapes.proofs.Mapped.{AllPairs-map, AllPairs-unmap}
use Rattle.line_shapes.proofs.apart.are_apart.Goals as goal

pub returns : goal.returns
returns c = (
  λ t. AllPairs-map (λ (a b : List ℕ). a ≢ b) (λ n. n.now) c.args.names.now (c.are_different.ensures.0 t),
  λ h. c.are_different.ensures.1 (AllPairs-unmap (λ (a b : List ℕ). a ≢ b) (λ n. n.now) c.args.names.now h),
)
