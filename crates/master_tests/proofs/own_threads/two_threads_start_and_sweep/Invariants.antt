use Rattle.master_tests.proofs.own_threads.two_threads_start_and_sweep.Given as goal

-- the ledger of the blank
abbrev pub ghosts-start_and_sweep-L-Ledger : goal.ghosts-start_and_sweep-L-Ledger
ghosts-start_and_sweep-L-Ledger g a = record { name = a.blank.name; parts = a.blank.parts }

-- the job of the master
abbrev pub ghosts-start_and_sweep-L-OfJob : goal.ghosts-start_and_sweep-L-OfJob
ghosts-start_and_sweep-L-OfJob g a = record { setup = a.master.setup }
