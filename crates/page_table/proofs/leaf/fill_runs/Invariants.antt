use Rattle.std.proofs.Common.{◌≡◌, ◌+◌, take}
use Rattle.std.specs.Prelude.{slice_index}
use Rattle.page_table.specs.declared.leaf.TheConstants.{LEAF}
use Rattle.page_table.specs.Nodes.{HasRunsUpTo}
use Rattle.page_table.specs.Runs.{length_of}
use Rattle.page_table.proofs.leaf.fill_runs.Given as goal

-- the runs before this one are filled in
abbrev pub invariant-loop-run : goal.invariant-loop-run
invariant-loop-run l = record {
  reached : l.at ≡ l.from + length_of (take l.run-index l.runs);
  filled : HasRunsUpTo LEAF (λ index. slice_index l.initial.bytes index) (λ index. slice_index l.bytes index) l.from
      l.at l.runs;
}
