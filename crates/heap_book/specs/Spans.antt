-- Blocks, the spans that they take with their redzones, and which freed blocks are held.
--
-- Redzones, and a quarantine that is a queue with a bound, are those of the paper of 2012. That the
-- quarantine counts the bytes of spans is this project's choice (profile).
use Rattle.std.specs.Prelude.{ℕ, ◌+◌, ◌-◌, ◌*◌, ◌%◌, ◌≤◌, List, [], ◌∷◌, sum_by}
use Rattle.std.specs.Prelude.{Bool, not, ◌&&◌, ◌==◌, nat_lt, nat_le, if◌then◌else◌}
use Rattle.std.specs.List.{list_any}
use Rattle.asan_units.specs.Units.{address_end, granule_size, IsGranuleStart, round_up, redzone}

-- what a contract sees of a block: its address and its size
pub record Extent : Type 0 where
  pub at : ℕ
  pub size : ℕ

-- the span of a block, from its first byte up to the first that is not in it: the block's bytes,
-- rounded up, and a redzone on each side
abbrev pub span_from : Extent → ℕ
span_from b = b.at - redzone

abbrev pub span_to : Extent → ℕ
span_to b = b.at + round_up b.size + redzone

-- a block starts at a granule, and has room for its redzones from 0 up to the end of the addresses
abbrev pub IsPlaced : Extent → Type 0
IsPlaced b = IsGranuleStart b.at × (redzone ≤ b.at) × (span_to b ≤ address_end)

-- how many bytes the span has
abbrev pub span_bytes : Extent → ℕ
span_bytes b = round_up b.size + 2 * redzone

-- whether the spans of two blocks share a byte
abbrev pub meets : Extent → Extent → Bool
meets b c = nat_lt (span_from b) (span_to c) && nat_lt (span_from c) (span_to b)

-- whether a block may be admitted beside the blocks whose spans are taken: it starts at a granule,
-- has room for its redzones below the end of the addresses, and its span meets none of theirs
abbrev pub may_be_admitted : List Extent → Extent → Bool
may_be_admitted taken b =
    b.at % granule_size == 0 && nat_le redzone b.at && nat_le (span_to b) address_end
    && not (list_any (meets b) taken)

-- of blocks in the order in which they were freed, those that are held: a block whose span, with
-- the spans of all blocks freed after it, has at most as many bytes as the bound
abbrev pub held_of : ℕ → List Extent → List Extent
held_of bound [] = []
held_of bound (b ∷ later) =
    if nat_le (sum_by span_bytes (b ∷ later)) bound then b ∷ held_of bound later
    else held_of bound later

-- whether a block starts at an address
abbrev pub starts_at : ℕ → Extent → Bool
starts_at at b = b.at == at
