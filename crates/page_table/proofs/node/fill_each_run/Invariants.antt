use Rattle.std.proofs.Common.{◌≡◌, ◌+◌, take}
use Rattle.page_table.specs.Nodes.{HasRunsUpTo}
use Rattle.page_table.specs.Runs.{length_of}
use Rattle.page_table.proofs.node.fill_each_run.Given as goal

-- the runs before this one are filled in
abbrev pub invariant-loop-run : goal.invariant-loop-run
invariant-loop-run g l = record {
  reached : l.at ≡ l.from + length_of (take l.run-index l.runs);
  filled : HasRunsUpTo g.S.Node.width (g.S.Node.byte_at l.initial.node) (g.S.Node.byte_at l.node) l.from l.at l.runs;
}
