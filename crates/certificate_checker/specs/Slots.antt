-- The slots of the workers by rising price, and how those under one node of the tree follow each other.
use Rattle.std.specs.Prelude.{ℕ, ◌≡◌, ◌≢◌, ◌+◌, ◌<◌, ◌≤◌, List, length, slice_index, slice_index_or, All, Contains}
use Rattle.std.specs.List.Sorted.{IsNonDecreasingBy}
use Rattle.node_ids.specs.Sets.{HasPair}
use Rattle.rack_tree.specs.Tree.{Tree, centre_at}
use Rattle.rack_tree.specs.declared.TheConstants.{MAX_WORKERS}
use Rattle.wave_problem.specs.Wave.{IsUsable}
use Rattle.price_certificate.specs.Certificate.{Claim, worker_price}
use Rattle.certificate_checker.specs.declared.slots.Level.{Level}
use Rattle.certificate_checker.specs.declared.slots.Level.TheVariants.{Rack, Centre, Cluster}
use Rattle.certificate_checker.specs.declared.slots.Slot.{Slot}
use Rattle.certificate_checker.specs.declared.slots.Chain.{Chain}
use Rattle.certificate_checker.specs.declared.slots.Slots.{Slots}

-- how many nodes there are at a level; the cluster is one node
abbrev pub nodes_at : Tree → Level → ℕ
nodes_at tree Rack = length tree.centre_of
nodes_at tree Centre = tree.centres
nodes_at tree Cluster = 1

-- the number of the node above w at a level
abbrev pub node_at : Tree → Level → ℕ → ℕ
node_at tree Rack w = slice_index tree.rack_of w
node_at tree Centre w = centre_at tree w
node_at tree Cluster w = 0

-- each usable worker under the node that may take the split s costs at least so much
abbrev pub AreFrom : Claim → ℕ → Level → ℕ → ℕ → Type 0
AreFrom claim s level node least = (w : ℕ) → IsUsable claim.wave.workers w
    → node_at claim.wave.tree level w ≡ node → (HasPair claim.wave.barred s w → ⊥)
    → least ≤ worker_price claim.prices w

-- the slot at a place of a list
abbrev pub slot_at : List Slot → ℕ → Slot
slot_at slots k = slice_index_or slots k (record { worker = 0; price = 0 })

-- slots of workers by rising price, and among them that of each usable worker
pub record AreSlots (claim : Claim) (slots : List Slot) : Type 0 where
  pub few : length slots ≤ MAX_WORKERS
  pub known : All (λ slot. slot.worker < length claim.wave.workers) slots
  pub rising : IsNonDecreasingBy (λ slot. slot.price) slots
  pub each : (w : ℕ) → IsUsable claim.wave.workers w →
      Contains slots (record { worker = w; price = worker_price claim.prices w })

-- next is the first place from k on whose slot is under the node, or the end where there is none
pub record IsNext (above : ℕ → ℕ) (end node k next : ℕ) : Type 0 where
  pub on : k ≤ next
  pub within : next ≤ end
  pub under : next < end → above next ≡ node
  pub others : (j : ℕ) → k ≤ j → j < next → above j ≢ node

-- the chain of so many nodes links the places from k to the end: above tells the node above the slot at a
-- place
pub record AreLinked (above : ℕ → ℕ) (nodes end : ℕ) (chain : Chain) (k : ℕ) : Type 0 where
  pub node_places : length chain.first.items ≡ nodes
  pub slot_places : length chain.next.items ≡ end
  pub first : (v : ℕ) → v < nodes → IsNext above end v k (slice_index chain.first.items v)
  pub next : (j : ℕ) → k ≤ j → j < end → IsNext above end (above j) (j + 1) (slice_index chain.next.items j)

-- the chain at a level
abbrev pub chain_at : Slots → Level → Chain
chain_at slots Rack = slots.racks
chain_at slots Centre = slots.centres
chain_at slots Cluster = slots.cluster

-- the chain links the slots of a list at a level of the tree
abbrev pub Links : Claim → List Slot → Level → Chain → Type 0
Links claim slots level chain =
    AreLinked (λ k. node_at claim.wave.tree level (slot_at slots k).worker) (nodes_at claim.wave.tree level)
    (length slots) chain 0
