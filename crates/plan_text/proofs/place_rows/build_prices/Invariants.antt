use Rattle.std.proofs.Common.{◌≡◌, map, take}
use Rattle.text_lines.specs.Texts.{number_of}
use Rattle.plan_text.proofs.place_rows.build_prices.Given as goal

abbrev pub invariant-loop-word : goal.invariant-loop-word
invariant-loop-word l = l.prices.items ≡ map (λ w. number_of w.now) (take l.word-index l.words)
