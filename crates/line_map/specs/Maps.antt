-- What a map is asked.
use Rattle.std.specs.Prelude.{◌≡◌, ℕ, ◌<◌, ◌≤◌, List, Option, Some, None, IsSome}
use Rattle.std.specs.Map.{lookup}
use Rattle.std.specs.BTreeMap.{is_at}
use Rattle.std.specs.Ordering.{nat_cmp}
use Rattle.line_map.specs.declared.tag.Slot.{Slot}

-- the slot that the entries have at an address
abbrev pub slot_at : List (ℕ × Slot) → ℕ → Option Slot
slot_at entries at = lookup (is_at (nat_cmp at)) entries

-- the last entry before an address
abbrev pub IsLastBefore : List (ℕ × Slot) → ℕ → Option (ℕ × Slot) → Type 0
IsLastBefore entries end None = (at : ℕ) → at < end → slot_at entries at ≡ None
IsLastBefore entries end (Some last) =
    (last.0 < end) × (slot_at entries last.0 ≡ Some last.1)
    × ((at : ℕ) → at < end → IsSome (slot_at entries at) → at ≤ last.0)
