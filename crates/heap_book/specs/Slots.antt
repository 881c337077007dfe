-- What the fields of a book keep. No public contract cites this.
use Rattle.std.specs.Prelude.{◌≡◌, ℕ, ◌<◌, ◌≤◌, Bool, if◌then◌else◌, List, [], ◌∷◌, ⊤}
use Rattle.std.specs.Prelude.{Option, Some, None, IsSome, sum_by, IsPermutation}
use Rattle.line_map.specs.Maps.{slot_at}
use Rattle.line_map.specs.declared.tag.Slot.{Slot}
use Rattle.heap_book.specs.Spans.{Extent, IsPlaced, span_from, span_to, span_bytes}

-- the block of an entry
abbrev pub block_of : ℕ × Slot → Extent
block_of e = record { at = e.0; size = e.1.size }

-- the blocks of a map's entries, those that are live, and those that were freed
abbrev pub blocks_of : List (ℕ × Slot) → List Extent
blocks_of [] = []
blocks_of (e ∷ es) = block_of e ∷ blocks_of es

abbrev pub live_of : List (ℕ × Slot) → List Extent
live_of [] = []
live_of (e ∷ es) = if e.1.live then block_of e ∷ live_of es else live_of es

abbrev pub freed_of : List (ℕ × Slot) → List Extent
freed_of [] = []
freed_of (e ∷ es) = if e.1.live then freed_of es else block_of e ∷ freed_of es

-- the spans of a map's entries follow one another, from an address on
abbrev pub FollowFrom : ℕ → List (ℕ × Slot) → Type 0
FollowFrom start [] = ⊤
FollowFrom start (e ∷ es) =
    IsPlaced (block_of e) × (start ≤ span_from (block_of e))
    × FollowFrom (span_to (block_of e)) es

-- the last block of a map's entries that starts before an address
abbrev pub IsLastBefore : List (ℕ × Slot) → ℕ → Option Extent → Type 0
IsLastBefore entries end None = (p : ℕ) → p < end → slot_at entries p ≡ None
IsLastBefore entries end (Some b) =
    (b.at < end)
    × ((live : Bool) × (slot_at entries b.at ≡ Some (record { size = b.size; live = live })))
    × ((p : ℕ) → p < end → IsSome (slot_at entries p) → p ≤ b.at)

-- the map's spans never meet; the queue has the blocks that were freed, and the running total is
-- that of their spans
pub record IsKept (entries : List (ℕ × Slot)) (queue : List Extent) (queued : ℕ) : Type 0 where
  pub apart : FollowFrom 0 entries
  pub freed : IsPermutation (freed_of entries) queue
  pub total : queued ≡ sum_by span_bytes queue
