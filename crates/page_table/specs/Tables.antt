-- The bytes of a table.
use Rattle.std.specs.Prelude.{◌≡◌, ◌≢◌, ℕ, ◌+◌, ◌-◌, ◌*◌, ◌/◌, ◌%◌, ◌<◌, ◌≤◌, ◌^◌, ◌&&◌, nat_le}
use Rattle.std.specs.Prelude.{nat_lt, if◌then◌else◌, List}
use Rattle.asan_units.specs.Units.{granule_count}
use Rattle.page_table.specs.declared.leaf.TheConstants.{LEAF}
use Rattle.page_table.specs.declared.branch.TheConstants.{NODES}
use Rattle.page_table.specs.declared.branch.Branch.{Branch}
use Rattle.page_table.specs.declared.leaf.Leaf.{Leaf}
use Rattle.page_table.specs.declared.table.PageTable.{PageTable}
use Rattle.page_table.specs.declared.run.Run.{Run}
use Rattle.page_table.specs.Runs.{length_of, byte_of_runs}
use Rattle.page_table.specs.Leaves.{leaf_byte}
use Rattle.page_table.specs.Branches.{branch_byte}

-- how many granules a branch has, by the number of levels of branches below it
abbrev pub width_over : ℕ → ℕ
width_over levels = NODES ^ levels * LEAF

-- the branches of the second level are the parts that a reader remembers
abbrev pub Part : Type 0 → Type 0
Part A = Branch (Branch (Leaf A) A) A

-- how many granules a part has
abbrev pub part_width : ℕ
part_width = width_over 2

-- those of the third level are the areas
abbrev pub Area : Type 0 → Type 0
Area A = Branch (Branch (Branch (Leaf A) A) A) A

-- how many granules an area has
abbrev pub area_width : ℕ
area_width = width_over 3

module _ {A : Type 0} where
  -- the byte at an index of the root, which has room for more granules than there are
  abbrev pub root_byte : PageTable A → ℕ → ℕ
  root_byte table granule =
      branch_byte (branch_byte (branch_byte (branch_byte (branch_byte leaf_byte
      (width_over 0)) (width_over 1)) (width_over 2)) (width_over 3))
      (width_over 4) table.root granule

  -- the byte of a granule, and 0 past the last one
  unfoldable pub byte_of : PageTable A → ℕ → ℕ
  byte_of table granule = if nat_lt granule granule_count then root_byte table granule else 0

  -- the byte at an index of a part
  abbrev pub part_byte : Part A → ℕ → ℕ
  part_byte part index =
      branch_byte (branch_byte leaf_byte (width_over 0)) (width_over 1) part index

  -- this part has the bytes of the granules that lie in the part of that number
  abbrev pub IsPart : PageTable A → ℕ → Part A → Type 0
  IsPart table number part =
      (granule : ℕ) → granule < granule_count → granule / part_width ≡ number →
      byte_of table granule ≡ part_byte part (granule % part_width)

  -- the byte at an index of an area
  abbrev pub area_byte : Area A → ℕ → ℕ
  area_byte area index =
      branch_byte (branch_byte (branch_byte leaf_byte (width_over 0)) (width_over 1))
      (width_over 2) area index

  -- this area has the bytes of the granules that lie in the area of that number
  abbrev pub IsArea : PageTable A → ℕ → Area A → Type 0
  IsArea table number area =
      (granule : ℕ) → granule < granule_count → granule / area_width ≡ number →
      byte_of table granule ≡ area_byte area (granule % area_width)

  -- the granules from one up to another have this byte now, and the others the one that they had
  abbrev pub Fills : PageTable A → PageTable A → ℕ → ℕ → ℕ → Type 0
  Fills old new from to byte =
      (granule : ℕ) → byte_of new granule
      ≡ (if nat_le from granule && nat_lt granule to then byte else byte_of old granule)

  -- the same, of the granules from one up to a place that comes before another and had still to
  -- change: its byte was not this byte already
  abbrev pub FillsBelow : PageTable A → PageTable A → ℕ → ℕ → ℕ → Type 0
  FillsBelow old new from to byte =
      (place : ℕ) × (from ≤ place) × (place < to) × Fills old new from place byte
      × (byte_of old place ≢ byte)

  -- the granules from one up to another have the bytes that the runs from the first of them on say,
  -- and the others those that they had
  abbrev pub FillsRunsUpTo : PageTable A → PageTable A → ℕ → ℕ → List Run → Type 0
  FillsRunsUpTo old new from to runs =
      (granule : ℕ) → byte_of new granule
      ≡ (if nat_le from granule && nat_lt granule to
      then byte_of_runs runs (granule - from) else byte_of old granule)

  -- the same, of all granules of the runs
  abbrev pub FillsRuns : PageTable A → PageTable A → ℕ → List Run → Type 0
  FillsRuns old new from runs = FillsRunsUpTo old new from (from + length_of runs) runs

  -- the same, of the granules from one up to a place that comes before the runs' end and had still
  -- to change: its byte was not what the runs say already
  abbrev pub FillsRunsBelow : PageTable A → PageTable A → ℕ → List Run → Type 0
  FillsRunsBelow old new from runs =
      (place : ℕ) × (from ≤ place) × (place < from + length_of runs)
      × FillsRunsUpTo old new from place runs
      × (byte_of old place ≢ byte_of_runs runs (place - from))
