-- Runs, one after another.
use Rattle.std.specs.Prelude.{ℕ, ◌-◌, nat_lt, if◌then◌else◌, List, [], ◌∷◌}
use Rattle.std.specs.List.{sum_by}
use Rattle.page_table.specs.declared.run.Run.{Run}

-- how many indices the runs have together
abbrev pub length_of : List Run → ℕ
length_of runs = sum_by (λ run. run.length) runs

-- the byte at an offset from where the first run starts: that of the run in which it lies, and 0
-- past the last one
abbrev pub byte_of_runs : List Run → ℕ → ℕ
byte_of_runs [] offset = 0
byte_of_runs (run ∷ runs) offset =
    if nat_lt offset run.length then run.byte else byte_of_runs runs (offset - run.length)
