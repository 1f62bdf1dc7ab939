use Rattle.master_tests.proofs.runs.a_thousand_short_runs_settle.Given as goal

-- the ledger of the blank
abbrev pub ghosts-run-L-Ledger : goal.ghosts-run-L-Ledger
ghosts-run-L-Ledger g a = record { name = a.blank.name; parts = a.blank.parts }

-- the job of the master
abbrev pub ghosts-run-L-OfJob : goal.ghosts-run-L-OfJob
ghosts-run-L-OfJob g a = record { setup = a.master.setup }
