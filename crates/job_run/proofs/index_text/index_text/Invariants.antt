use Rattle.std.proofs.Common.{ℕ, List, [], ◌==◌, if◌then◌else◌}
use Rattle.word_map.specs.Entries.{EntryView}
use Rattle.job_run.proofs.index_text.index_text.Given as goal

-- the four parts into which the entries are cut
abbrev pub ghosts-add_quarters : goal.ghosts-add_quarters
ghosts-add_quarters g a = record {
  documents = a.documents.now;
  part = λ k. if k == 0 then a.first.now else (if k == 1 then a.second.now else
      (if k == 2 then a.third.now else a.fourth.now));
}
