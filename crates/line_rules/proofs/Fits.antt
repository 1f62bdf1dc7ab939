-- A line that fits has no fault, and is entered for the first time.
use Rattle.std.proofs.Common.{◌≢◌, refl}
use Rattle.text_lines.specs.declared.fault.Fault.{Fault}
use Rattle.text_lines.specs.declared.fault.Fault.TheVariants.{Shape, Misnamed, Unknown, Repeated, OutOfRange}
use Rattle.text_lines.specs.declared.fault.Fault.TheVariants.{PassesLimit, Misplaced, RepeatedHolder}
use Rattle.text_lines.specs.declared.fault.Fault.TheVariants.{SecondEntry, NoPrice}
use Rattle.line_shapes.specs.Lines.{Statement}
use Rattle.line_shapes.specs.declared.keyword.Keyword.{Keyword}
use Rattle.line_shapes.specs.declared.keyword.Keyword.TheVariants.{Plan, Begin, End}
use Rattle.line_rules.specs.Entering.{entering_of}
use Rattle.line_rules.specs.Faults.{Fails, IsFirst, IsFirstOfBody, IsFirstOfHead, IsFit}
use Rattle.line_rules.specs.Known.{Known}
use Rattle.line_rules.specs.Sections.{section_after}
use Rattle.line_rules.specs.declared.entering.Entering.TheVariants.{Nothing}

pub fit_first : (k : Known) (s : Statement) → IsFit k s → entering_of s.keyword ≢ Nothing → IsFirst k.rows s
fit_first k s fit enters = by s.keyword fit.new.first fit.once enters
  where
    by : (word : Keyword) → IsFirstOfHead (section_after word) k.rows s
        → IsFirstOfBody (section_after word) k.rows s → entering_of word ≢ Nothing → IsFirst k.rows s
    by Plan head body enters = absurd (enters refl)
    by Begin head body enters = absurd (enters refl)
    by End head body enters = absurd (enters refl)
    by word head body enters = assumption (head, body)

pub fit_faultless : (k : Known) (s : Statement) → IsFit k s → (f : Fault) → Fails k s f → ⊥
fit_faultless k s fit Misplaced h = h.1 fit.may_stand
fit_faultless k s fit Shape h = h fit.whole
fit_faultless k s fit Misnamed h = h.2 fit.named
fit_faultless k s fit Unknown h = h.2 fit.known
fit_faultless k s fit Repeated h = h.2 fit.new
fit_faultless k s fit OutOfRange h = h.2 fit.in_range
fit_faultless k s fit PassesLimit h = h.2 fit.within_limit
fit_faultless k s fit RepeatedHolder h = h.2 fit.tail_apart
fit_faultless k s fit SecondEntry h = h.2 fit.once
fit_faultless k s fit NoPrice h = h.2 fit.priced
fit_faultless k s fit f h = h.2 tt
