use Rattle.std.proofs.Common.{◌≡◌, ◌-◌, length, sym, ap, ◌∙◌, arith}
use Rattle.std.specs.Prelude.{slice_get}
use Rattle.hand_ledger.proofs.Entering.{sizes_are}
use Rattle.hand_ledger.proofs.entries.Entries.last.Goals as goal

pub at-requires : goal.at-requires
at-requires c =
    let sizes = sizes_are _ _ _ _ c.self.view_is c.self.invariant.0 in
    omega (arith, c.if-count-eq0.false, c.len-count.ensures, sizes.places, c.self.inside.places.ok.0)

pub returns-clause-value : goal.returns-clause-value
returns-clause-value c =
    let items = c.args.self.now.items in
    let sizes = sizes_are _ _ _ _ c.self.view_is c.self.invariant.0 in
    let all : c.len-count.result ≡ length items =
    omega (arith, c.len-count.ensures, sizes.places, c.self.inside.places.ok.0) in
    sym c.at.ensures ∙ ap (λ n. slice_get items (n - 1)) all
