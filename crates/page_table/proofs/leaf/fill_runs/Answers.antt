use Rattle.std.proofs.Common.{arith}
use Rattle.std.specs.Prelude.{slice_index}
use Rattle.page_table.specs.declared.leaf.TheConstants.{LEAF}
use Rattle.page_table.proofs.Runs.{filled_on, length_on}
use Rattle.page_table.proofs.leaf.fill_runs.Goals as goal

pub loop-run-preserved : goal.loop-run-preserved
loop-run-preserved c =
    let runs = c.args.runs.now in
    let i = c.loop-run.run-index in
    let lt = c.loop-run-test.true in
    let reached = c.loop-run.invariant.reached in
    let more = length_on runs i lt in
    record {
      reached = omega arith;
      filled = filled_on LEAF (λ index. slice_index c.args.bytes.now index)
          (λ index. slice_index c.loop-run.bytes index) (λ index. slice_index c.fill_bytes.new.bytes index)
          c.args.from c.loop-run.at runs i lt reached
          _ (omega arith) (omega arith) c.loop-run.invariant.filled (λ index below. c.fill_bytes.ensures index);
    }
