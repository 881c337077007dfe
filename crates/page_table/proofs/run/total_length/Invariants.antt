use Rattle.std.proofs.Common.{◌≡◌, take}
use Rattle.page_table.specs.Runs.{length_of}
use Rattle.page_table.proofs.run.total_length.Given as goal

-- the runs before this one are counted
abbrev pub invariant-loop-run : goal.invariant-loop-run
invariant-loop-run l = l.total ≡ length_of (take l.run-index l.runs)
