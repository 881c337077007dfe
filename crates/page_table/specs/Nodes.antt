-- What the bytes of a node come to.
use Rattle.std.specs.Prelude.{◌≡◌, ◌≢◌, ℕ, ◌+◌, ◌-◌, ◌<◌, ◌≤◌, ◌^◌, ◌&&◌, nat_le, nat_lt}
use Rattle.std.specs.Prelude.{if◌then◌else◌, List, Option, Some, None}
use Rattle.page_table.specs.declared.run.Run.{Run}
use Rattle.page_table.specs.Runs.{length_of, byte_of_runs}

-- a width that a node may have
abbrev pub IsWidth : ℕ → Type 0
IsWidth width = (0 < width) × (width ≤ 2 ^ 47)

-- of the bytes at the indices below a width, those from one index up to another are this byte now,
-- and the others what they were
abbrev pub IsFilled : ℕ → (ℕ → ℕ) → (ℕ → ℕ) → ℕ → ℕ → ℕ → Type 0
IsFilled width old new from to byte =
    (index : ℕ) → index < width →
    new index ≡ (if nat_le from index && nat_lt index to then byte else old index)

-- the fill was broken off at an index whose byte had still to change: the bytes at the indices
-- below it are set, and nothing else has changed
abbrev pub IsFilledInPart : ℕ → (ℕ → ℕ) → (ℕ → ℕ) → ℕ → ℕ → ℕ → Type 0
IsFilledInPart width old new from to byte =
    (place : ℕ) × (from ≤ place) × (place < to) × IsFilled width old new from place byte
    × (old place ≢ byte)

-- the bytes from one index up to another have what the runs that start at the first of them say,
-- and the others what they had
abbrev pub HasRunsUpTo : ℕ → (ℕ → ℕ) → (ℕ → ℕ) → ℕ → ℕ → List Run → Type 0
HasRunsUpTo width old new from to runs =
    (index : ℕ) → index < width →
    new index
    ≡ (if nat_le from index && nat_lt index to then byte_of_runs runs (index - from) else old index)

-- the same, of all the indices that the runs have
abbrev pub HasRuns : ℕ → (ℕ → ℕ) → (ℕ → ℕ) → ℕ → List Run → Type 0
HasRuns width old new from runs = HasRunsUpTo width old new from (from + length_of runs) runs

-- the same, of those below a place whose byte had still to change
abbrev pub HasRunsBelow : ℕ → (ℕ → ℕ) → (ℕ → ℕ) → ℕ → List Run → Type 0
HasRunsBelow width old new from runs =
    (place : ℕ) × (from ≤ place) × (place < from + length_of runs)
    × HasRunsUpTo width old new from place runs × (old place ≢ byte_of_runs runs (place - from))

-- the answer is the first index from one on, below another, whose byte is not 0, if there is one
abbrev pub IsFirstNonzero : (ℕ → ℕ) → ℕ → ℕ → Option ℕ → Type 0
IsFirstNonzero bytes from to None = (index : ℕ) → from ≤ index → index < to → bytes index ≡ 0
IsFirstNonzero bytes from to (Some found) =
    (from ≤ found) × (found < to) × ((index : ℕ) → from ≤ index → index < found → bytes index ≡ 0)
    × (bytes found ≢ 0)
