-- One line more: what is known, and what the lines declare.
use Rattle.std.proofs.Common.{List, flat_map, [], ◌∷◌, ◌++◌, ◌≡◌, ◌∙◌, ap, inl, inr, refl}
use Rattle.std.proofs.lemmas.Grind.{flat_map-append}
use Rattle.std.proofs.lemmas.List.{append-nil}
use Rattle.text_lines.specs.Texts.{Line}
use Rattle.line_shapes.specs.Lines.{Says, Statement}
use Rattle.line_rules.specs.Entering.{command_of, entered_of}
use Rattle.line_rules.specs.Known.{entered, known_at, section_at, version_after, version_at}
use Rattle.line_rules.specs.Sections.{section_after}
use Rattle.line_rules.specs.Texts.{Declare}
use Rattle.line_rules.specs.declared.edition.Version.{Version}
use Rattle.line_rules.specs.declared.edition.Version.TheVariants.{One}
use Rattle.line_rules.specs.declared.purpose.Purpose.{Purpose}
use Rattle.line_rules.specs.declared.section.Section.{Section}
use Rattle.line_rules.specs.declared.section.Section.TheVariants.{First}

section_at-last : (section : Section) (ss : List Statement) (s : Statement)
    → section_at section (ss ++ s ∷ []) ≡ section_after s.keyword
section_at-last section [] s = refl
section_at-last section (t ∷ ss) s = section_at-last (section_after t.keyword) ss s

version_at-last : (version : Version) (ss : List Statement) (s : Statement)
    → version_at version (ss ++ s ∷ []) ≡ version_after (version_at version ss) s
version_at-last version [] s = refl
version_at-last version (t ∷ ss) s = version_at-last (version_after version t) ss s

one_more : (f : Statement → List Statement) (ss : List Statement) (s : Statement)
    → flat_map f (ss ++ s ∷ []) ≡ flat_map f ss ++ f s
one_more f ss s =
    flat_map-append f ss (s ∷ []) ∙ ap (λ last. flat_map f ss ++ last) (append-nil (f s))

pub known_at-step : (purpose : Purpose) (before : List Statement) (s : Statement)
    → known_at purpose (before ++ s ∷ []) ≡ entered (known_at purpose before) s
known_at-step purpose before s =
    let version = version_at-last One before s in
    let section = section_at-last First before s in
    let rows = one_more entered_of before s in
    let commands = one_more command_of before s in
    λ i. record {
      purpose = purpose;
      version = version i;
      section = section i;
      rows = rows i;
      commands = commands i;
    }

pub declare-step : (ls : List Line) (before : List Statement) (l : Line) (s : Statement)
    → Declare ls before → Says l s
    → Declare (ls ++ l ∷ []) (before ++ s ∷ [])
declare-step [] [] l s d says = inl (says, tt)
declare-step [] (t ∷ ts) l s d says = absurd d
declare-step (k ∷ ks) [] l s d says = inr (d.0, declare-step ks [] l s d.1 says)
declare-step (k ∷ ks) (t ∷ ts) l s (inl d) says = inl (d.0, declare-step ks ts l s d.1 says)
declare-step (k ∷ ks) (t ∷ ts) l s (inr d) says = inr (d.0, declare-step ks (t ∷ ts) l s d.1 says)
