use Rattle.master_tests.proofs.shared_masters.share.Given as goal

-- the ledger of the blank
abbrev pub ghosts-share_as-L-Ledger : goal.ghosts-share_as-L-Ledger
ghosts-share_as-L-Ledger g a = record { name = a.blank.name; parts = a.blank.parts }

-- the job of the master
abbrev pub ghosts-share_as-L-OfJob : goal.ghosts-share_as-L-OfJob
ghosts-share_as-L-OfJob g a = record { setup = a.master.setup }
