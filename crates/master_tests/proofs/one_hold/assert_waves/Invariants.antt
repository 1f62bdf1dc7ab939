use Rattle.master_tests.proofs.one_hold.assert_waves.Given as goal

-- the ledger of the blank
abbrev pub ghosts-waves_of_a_hand-L-Ledger : goal.ghosts-waves_of_a_hand-L-Ledger
ghosts-waves_of_a_hand-L-Ledger g a = record { name = a.blank.name; parts = a.blank.parts }

-- the job of the master
abbrev pub ghosts-waves_of_a_hand-L-OfJob : goal.ghosts-waves_of_a_hand-L-OfJob
ghosts-waves_of_a_hand-L-OfJob g a = record { setup = a.master.setup }
