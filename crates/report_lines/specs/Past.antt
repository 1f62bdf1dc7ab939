-- What is told of a master's past, and how each event changes the live workers and the holders of splits.
use Rattle.std.specs.Prelude.{ℕ, ◌≡◌, ◌-◌, ◌<◌, false, true, List, [], ◌∷◌, All, length, filter, fold, take}
use Rattle.std.specs.Prelude.{slice_index_or}
use Rattle.std.specs.List.{range_with_len}
use Rattle.rack_tree.specs.Tree.{Tree}
use Rattle.worker_table.specs.Workers.{is_silent, opening_workers, swept, with_death, with_return}
use Rattle.block_map.specs.Holdings.{are_full, has_full_among, holders_of, is_holder, with_holder}
use Rattle.block_map.specs.Holdings.{with_holder_of_all, without_holder, without_worker}
use Rattle.block_map.specs.Copies.{all_copies, holdings}
use Rattle.block_map.specs.declared.CopyOrder.{CopyOrder}
use Rattle.block_map.specs.declared.HolderLimit.{HolderLimit}
use Rattle.master_state.specs.declared.events.Event.{Event}
use Rattle.master_state.specs.declared.events.Event.TheVariants as events
use Rattle.master_state.specs.States.{Setup, opening}
use Rattle.report_lines.specs.declared.tables.Story.{Story}
use Rattle.report_lines.specs.declared.tables.Tables.{Tables}

-- w is dead and holds nothing
abbrev pub without_dead : Tables → ℕ → Tables
without_dead t w = record {
  workers = with_death t.workers w;
  holders = without_worker t.holders w;
}

-- all have heard these counts, and each is dead that was silent too long
abbrev pub after_sweep : Tables → List ℕ → Tables
after_sweep t counts =
    let heard = swept t.workers counts in
    fold without_dead (record { workers = heard; holders = t.holders })
    (filter (is_silent heard) (range_with_len 0 (length heard.each)))

-- the tables after an event; the counts of all sweeps are given
abbrev pub replayed : List (List ℕ) → Tables → Event → Tables
replayed sweeps t (events.Die w) = without_dead t w
replayed sweeps t (events.Join w set) = record {
  workers = with_return t.workers w;
  holders = with_holder_of_all t.holders set w;
}
replayed sweeps t (events.Add split w) =
    record { workers = t.workers; holders = with_holder t.holders split w }
replayed sweeps t (events.Lose split w) =
    record { workers = t.workers; holders = without_holder t.holders split w }
replayed sweeps t (events.Sweep place) = after_sweep t (slice_index_or sweeps (place - 1) [])
replayed sweeps t event = t

-- the event may come next
abbrev pub MayCome : HolderLimit → Tables → Event → Type 0
MayCome limit t (events.Die w) = w < length t.workers.each
MayCome limit t (events.Join w set) =
    (w < length t.workers.each) × (has_full_among limit t.holders set ≡ false)
MayCome limit t (events.Add split w) =
    (split < length t.holders) × (is_holder t.holders split w ≡ false)
    × (are_full limit (holders_of t.holders split) ≡ false)
MayCome limit t (events.Lose split w) =
    (split < length t.holders) × (is_holder t.holders split w ≡ true)
MayCome limit t event = Unit {0}

-- each worker has its rack, and the holders of each split are workers
pub record IsSound (tree : Tree) (t : Tables) : Type 0 where
  pub racks : length tree.rack_of ≡ length t.workers.each
  pub held : All (All (λ h. h < length t.workers.each)) t.holders

-- the tables are sound, and so they are after each of the events, which may come one after another
abbrev pub MayAllCome : Tree → HolderLimit → List (List ℕ) → Tables → List Event → Type 0
MayAllCome tree limit sweeps t [] = IsSound tree t
MayAllCome tree limit sweeps t (event ∷ events) =
    IsSound tree t × MayCome limit t event × MayAllCome tree limit sweeps (replayed sweeps t event) events

-- The racks, to how many holders a split may grow, and how many it is to have. Who lived and held what at
-- first, the events, and the counts of all sweeps.
pub record PastView : Type 0 where
  pub tree : Tree
  pub limit : HolderLimit
  pub target : ℕ
  pub opening : Tables
  pub history : List Event
  pub sweeps : List (List ℕ)

abbrev pub past_from : Story → Tables → PastView
past_from story opening = record {
  tree = story.tree;
  limit = story.limit;
  target = story.target;
  opening = opening;
  history = story.history.items;
  sweeps = story.sweeps.items;
}

-- the tables after the first n events
abbrev pub tables_at : PastView → ℕ → Tables
tables_at past n = fold (replayed past.sweeps) past.opening (take n past.history)

abbrev pub copies_of : Tree → ℕ → Tables → List CopyOrder
copies_of tree target t = all_copies (holdings t.workers tree t.holders target)

-- the copies that were wanted after the first n events
abbrev pub copies_at : PastView → ℕ → List CopyOrder
copies_at past n = copies_of past.tree past.target (tables_at past n)

-- each event came when it might
abbrev pub IsPast : PastView → Type 0
IsPast past = MayAllCome past.tree past.limit past.sweeps past.opening past.history

-- the tables of a job of which nothing has happened, without its bars, on which no copy depends
abbrev pub opening_tables : Setup → Tables
opening_tables setup = record {
  workers = opening_workers setup.cluster.slots 0 setup.cluster.silence 0;
  holders = (opening setup).holders;
}

-- what is told of the past of a job, by its events and the counts of its sweeps
abbrev pub past_of : Setup → ℕ → List Event → List (List ℕ) → PastView
past_of setup target history sweeps = record {
  tree = setup.cluster.tree;
  limit = setup.cluster.holder_limit;
  target = target;
  opening = opening_tables setup;
  history = history;
  sweeps = sweeps;
}
