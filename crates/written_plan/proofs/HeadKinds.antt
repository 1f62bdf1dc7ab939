-- What holds of the keywords of a head: a text to check has the same head as a text to plan from.
use Rattle.std.proofs.Common.{◌≡◌, ◌⊎◌, Some, inl, inr, refl, true}
use Rattle.line_shapes.specs.declared.keyword.Keyword.{Keyword}
use Rattle.line_shapes.specs.declared.keyword.Keyword.TheVariants.{Worker, Split, Start, Price, End}
use Rattle.line_rules.specs.Entering.{is_priced, most_of}
use Rattle.line_rules.specs.Sections.{in_check, in_plan, section_after}
use Rattle.line_rules.specs.declared.edition.Version.{Version}
use Rattle.line_rules.specs.declared.purpose.Purpose.TheVariants.{Checking, Planning}
use Rattle.line_rules.specs.declared.section.Section.{Section}
use Rattle.line_rules.specs.declared.section.Section.TheVariants.{Head}

-- a line of this keyword stands where it stands in a text to check, with the same limit, and a line of the
-- head follows it
pub record IsOfHead (k : Keyword) : Type 0 where
  pub same : in_check k ≡ in_plan k
  pub limit : (version : Version) → most_of version Planning k ≡ most_of version Checking k
  pub after : section_after k ≡ Head
  pub no_start : k ≡ Start → ⊥
  pub no_price : k ≡ Price → ⊥

-- a line of a text to plan from is the last, or of a head
pub head_or_end : (k : Keyword) (section : Section) → in_plan k ≡ Some section → IsOfHead k ⊎ (k ≡ End)
head_or_end End section is = inr refl
head_or_end k section is =
    inl (record {
      same = cc;
      limit = λ version. refl;
      after = cc;
      no_start = λ e. cc;
      no_price = λ e. cc;
    })

-- what has a price is a split or a worker
pub priced_kinds : (k : Keyword) → is_priced k ≡ true → (k ≡ Split) ⊎ (k ≡ Worker)
priced_kinds Worker is = inr refl
priced_kinds Split is = inl refl
priced_kinds k is = absurd cc
