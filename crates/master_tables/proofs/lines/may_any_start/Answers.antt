use Rattle.std.proofs.Common.{ℕ, ◌≡◌, ◌<◌, ◌↔◌, ◌∙◌, inl, inr, List, length, map, refl, sym, arith, subst}
use Rattle.std.specs.Prelude.{IsTrue, slice_index_or}
use Rattle.std.proofs.lemmas.Bool.{cases_lt, false≢true}
use Rattle.std.proofs.lemmas.List.{get_or_default}
use Rattle.wave_problem.specs.Wave.{IsAdmissible, Split, Wave}
use Rattle.master_state.specs.Steps.{worker_line}
use Rattle.master_state.proofs.Waves.{no_split}
use Rattle.master_tables.specs.Entries.{shown_as}
use Rattle.master_tables.specs.Lines.{is_open, split_lines, Takes}
use Rattle.master_tables.proofs.Startable.{admissible_is, below_first, free_where, none_free, IsOver}
use Rattle.master_tables.proofs.WaveLines.{seen_at, split_among}
use Rattle.master_tables.proofs.lines.may_any_start.Goals.{After-is_open}
use Rattle.master_tables.proofs.lines.may_any_start.Goals as goal
use Rattle.master_tables.proofs.lines.may_any_start.Goals.{else-is_open-via-then-is_open+else-any_takes}
use Rattle.master_tables.proofs.lines.may_any_start.Goals.{else-is_open-via-else-is_open}

-- what a wave says of the split that the loop is at, the table says of it
module _ (c : After-is_open) (wave : Wave) (lines : List Split)
    (many : length c.args.entries.now ≡ length lines)
    (workers : wave.workers ≡ map worker_line c.args.table.now.each)
    (barred : wave.barred ≡ c.args.table.now.barred.rows)
    (splits : wave.splits ≡ split_lines lines (map shown_as c.args.entries.now) c.args.holders.now) where
  over : IsOver c.args.table.now wave
  over = record { workers = workers; barred = barred }

  pub told : (w : ℕ) → IsAdmissible wave c.new-split.result w
      ↔ (IsTrue c.is_open.result × Takes c.args.table.now c.new-split.result w)
  told w =
      let line = slice_index_or lines c.loop-i.i no_split in
      let inside : c.loop-i.i < length lines = omega (arith, many, c.loop-i-test.true) in
      rw c.is_open.ensures (admissible_is c.args.table.now wave c.new-split.result w line
      (shown_as c.index-entries-i.result) c.holders.result.now over
      (seen_at wave lines c.args.entries.now c.args.holders.now c.loop-i.i c.new-split.result line _
      c.index-entries-i.result c.holders.result.now splits c.new-split.ensures inside many
      (c.requires.holders ∙ many) (get_or_default lines c.loop-i.i no_split line inside)
      c.index-entries-i.is c.holders.ensures.value refl))

pub returns-in_default : goal.returns-in_default
returns-in_default c wave lines many workers barred splits = (
  λ no. absurd (false≢true no),
  λ found. absurd (none_free c.args.table.now found.1 (sym c.in_default.ensures.found)
      (free_where c.args.table.now wave found.0 found.1 workers found.2)),
)

pub returns-then-any_takes : goal.returns-then-any_takes
returns-then-any_takes c wave lines many workers barred splits =
    let at = (goal.at.returns-then-any_takes c).After-is_open in
    let some = c.any_takes.ensures.0 c.if-any_takes.true in (
      λ _. (
        c.new-split.result,
        some.0,
        (told at wave lines many workers barred splits some.0).1
            (c.if-is_open.true, some.2),
      ),
      λ _. refl,
    )

pub loop-i-preserved : goal.loop-i-preserved
loop-i-preserved c wave lines split w many workers barred splits below admissible =
    elim (cases_lt split c.loop-i.i) [
      | inl before ↦ c.loop-i.invariant wave lines split w many workers barred splits before admissible
      | inr past ↦
          let at = (goal.at.loop-i-preserved c).After-is_open in
          let same : split ≡ c.new-split.result = omega (arith, past, below, c.new-split.ensures) in
          let found = (told at wave lines many workers barred splits w).0
          (subst (λ (k : ℕ). IsAdmissible wave k w) same admissible) in
          elim c.else-is_open.branch [
            | else-is_open-via-then-is_open+else-any_takes x ↦
                let first =
                below_first c.args.table.now c.in-Some.first w c.in-Some.ensures.lowest found.1.0 in
                false≢true (sym x.if-any_takes.false ∙ x.any_takes.ensures.1 (w, first, found.1))
            | else-is_open-via-else-is_open x ↦ false≢true (sym x.if-is_open.false ∙ found.0)
          ]
    ]

pub returns : goal.returns
returns c wave lines many workers barred splits = (
  λ no. absurd (false≢true no),
  λ found. absurd (c.loop-i.invariant wave lines found.0 found.1 many workers barred splits
      (omega (
        arith,
        c.loop-i-test.false,
        split_among wave lines c.args.entries.now c.args.holders.now found.0 found.1 splits many
            (c.requires.holders ∙ many) found.2,
      )) found.2),
)
