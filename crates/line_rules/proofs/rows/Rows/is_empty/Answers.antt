use Rattle.std.proofs.Common.{List, [], ◌∷◌, ◌≡◌, ◌∙◌, ap, refl, sym}
use Rattle.line_shapes.specs.Lines.{Statement}
use Rattle.line_rules.specs.Rows.{Kept, rows_in}
use Rattle.line_rules.proofs.rows.Rows.is_empty.Goals as goal

none_kept : (ks : List Kept) → rows_in ks ≡ [] → ks ≡ []
none_kept [] none = refl
none_kept (k ∷ ks) none = cc

pub returns : goal.returns
returns c = (
  λ t. sym c.self.view_is ∙ ap rows_in (c.is_empty.ensures.0 t),
  λ none. c.is_empty.ensures.1 (none_kept c.self.inside.lines (c.self.view_is ∙ none)),
)
