use Rattle.std.proofs.Common.{inl, inr}
use Rattle.std.proofs.lemmas.Option.{same_Some}
use Rattle.command_line.proofs.ask_by_name.Goals as goal

pub unreachable-requires : goal.unreachable-requires
unreachable-requires c = elim c.requires [
  | inl check ↦ c.in_default.not-check (same_Some _ _ check)
  | inr (inl plan) ↦ c.in_default.not-plan (same_Some _ _ plan)
  | inr (inr (inl play)) ↦ c.in_default.not-play (same_Some _ _ play)
  | inr (inr (inr (inl serve))) ↦ c.in_default.not-serve (same_Some _ _ serve)
  | inr (inr (inr (inr (inl run)))) ↦ c.in_default.not-run (same_Some _ _ run)
  | inr (inr (inr (inr (inr (inl explain))))) ↦ c.in_default.not-explain (same_Some _ _ explain)
  | inr (inr (inr (inr (inr (inr none))))) ↦ none
]
