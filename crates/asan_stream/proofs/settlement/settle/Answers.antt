use Rattle.std.proofs.Common.{◌∙◌}
use Rattle.trace_lane.specs.Lanes.{end_list}
use Rattle.asan_check.specs.Standing.{bound_of}
use Rattle.asan_stream.proofs.Checking.{stream_seen, few_seen}
use Rattle.asan_stream.proofs.settlement.settle.Goals as goal

pub returns-clause-settled : goal.returns-clause-settled
returns-clause-settled g c = rw c.in-Some.is (λ events is few.
    let first = c.args.bench.checker in
    let drained = c.drain-checker.result in
    let seen = stream_seen first drained.0 drained.1 (end_list c.in-Some.lane_end) events c.args.done.end
    c.drain-checker.ensures is few in
    c.outcome_of.ensures.results (bound_of first) events seen.1 (c.from.ensures ∙ seen.0))

pub returns-clause-few : goal.returns-clause-few
returns-clause-few g c =
    rw c.outcome_of.ensures.reports (few_seen c.args.bench.checker c.drain-checker.result.0
    c.drain-checker.result.1 (end_list c.in-Some.lane_end) c.drain-checker.ensures)
