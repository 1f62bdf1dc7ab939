use Rattle.master_tests.proofs.turns.a_stale_plan_is_made_again.Given as goal

-- the ledger of the blank
abbrev pub ghosts-wave_in_turns-L-Ledger : goal.ghosts-wave_in_turns-L-Ledger
ghosts-wave_in_turns-L-Ledger g a = record { name = a.blank.name; parts = a.blank.parts }

-- the job of the master
abbrev pub ghosts-wave_in_turns-L-OfJob : goal.ghosts-wave_in_turns-L-OfJob
ghosts-wave_in_turns-L-OfJob g a = record { setup = a.master.setup }
