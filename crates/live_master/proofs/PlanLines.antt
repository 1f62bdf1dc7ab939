-- A line of a plan is a line `start` or a line `price`.
use Rattle.std.proofs.Common.{◌≡◌, ◌⊎◌, ◌∙◌, Some, ap, inl, inr, refl, subst, sym}
use Rattle.text_lines.specs.Texts.{Line}
use Rattle.text_lines.specs.declared.fault.Fault.TheVariants.{Misplaced}
use Rattle.line_shapes.specs.Lines.{Says, Statement}
use Rattle.line_shapes.specs.declared.keyword.Keyword.{Keyword}
use Rattle.line_shapes.specs.declared.keyword.Keyword.TheVariants.{End, Price, Start}
use Rattle.line_shapes.proofs.OneStatement.{says-unique}
use Rattle.line_rules.specs.Faults.{MayStand}
use Rattle.line_rules.specs.Known.{Known}
use Rattle.line_rules.specs.Reading.{IsFitLine}
use Rattle.line_rules.specs.Sections.{IsOfVersion, edition_of, in_check, in_script, section_of}
use Rattle.line_rules.specs.Texts.{LineHas}
use Rattle.line_rules.specs.declared.purpose.Purpose.{Purpose}
use Rattle.line_rules.specs.declared.purpose.Purpose.TheVariants.{Playing}
use Rattle.line_rules.specs.declared.section.Section.TheVariants.{Body}
use Rattle.plan_draft.specs.Drafts.{IsDraftLine}
use Rattle.plan_draft.proofs.DraftLines.{fit_lines_are_whole}
use Rattle.script_text.specs.declared.script.Names.{Names}
use Rattle.live_master.specs.Plans.{IsNoCommand, planning}
use Rattle.live_master.specs.Serving.{IsNamedBy, Live}

of_plan : (k : Keyword) → in_check k ≡ Some Body → (k ≡ End → ⊥) → (k ≡ Start) ⊎ (k ≡ Price)
of_plan Start is other = inl refl
of_plan Price is other = inr refl
of_plan End is other = absurd (other refl)
of_plan k is other = cc

-- `end` may stand among commands
end_may_stand : (k : Known) (s : Statement) → k.purpose ≡ Playing → k.section ≡ Body → s.keyword ≡ End
    → MayStand k s
end_may_stand k s playing body is = (
  ap (λ (p : Purpose). section_of p s.keyword) playing ∙ ap in_script is ∙ ap Some (sym body),
  subst (λ (word : Keyword). IsOfVersion (edition_of word) k.version) (sym is) tt,
)

refused : (k : Known) (line : Line) (s : Statement) → LineHas k line Misplaced → Says line s → MayStand k s → ⊥
refused k line s (legible, (t, said, (whole, none))) says may =
    none (subst (MayStand k) (says-unique line s t says said) may)

-- a line that may not stand among commands, and is a line of a plan, has all words of one
pub plan_line_whole : (live : Live) (line : Line) (s : Statement) → IsNamedBy live → IsNoCommand live.known line
    → IsFitLine (planning live.known) line s → IsDraftLine live.names s
plan_line_whole live line s named none fit =
    let k = live.known in
    subst (λ (names : Names). IsDraftLine names s) (sym named.told)
    (fit_lines_are_whole (planning k) line s fit
    (of_plan s.keyword (fit.fit.may_stand.0 ∙ ap Some named.body)
    (λ is. refused k line s none.applies fit.says (end_may_stand k s named.playing named.body is))))
