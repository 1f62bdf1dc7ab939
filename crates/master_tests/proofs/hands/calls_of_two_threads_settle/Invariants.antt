use Rattle.master_tests.proofs.hands.calls_of_two_threads_settle.Given as goal

-- the ledger of the blank
abbrev pub ghosts-settle_two_hands-L-Ledger : goal.ghosts-settle_two_hands-L-Ledger
ghosts-settle_two_hands-L-Ledger g a = record { name = a.blank.name; parts = a.blank.parts }

-- the job of the master
abbrev pub ghosts-settle_two_hands-L-OfJob : goal.ghosts-settle_two_hands-L-OfJob
ghosts-settle_two_hands-L-OfJob g a = record { setup = a.master.setup }
