use Rattle.std.proofs.Common.{take, length, ap, ◌∙◌, subst}
use Rattle.trace_lane.specs.Lanes.{out_lane, taken_list}
use Rattle.asan_check.specs.Standing.{bound_of, reports_of}
use Rattle.asan_stream.specs.Outboxes.{KeepsLane, lane_into}
use Rattle.asan_stream.proofs.bench.Bench.take_batch.Goals as goal

pub returns-clause-later : goal.returns-clause-later
returns-clause-later g c =
    let old = c.args.self.now in
    let took = c.take_items.ensures in
    let last = c.report.ensures in
    record {
      process = last.process ∙ took.process;
      lane = ap out_lane last.lane ∙ took.lane;
      bound = ap bound_of last.checker ∙ took.bound;
      report_lane = subst (λ o. KeepsLane (lane_into o.lane) (lane_into c.report.new.self.outbox.lane)) took.outbox
          last.report_lane;
      found = ap (take (length (reports_of old.checker))) (ap reports_of last.checker) ∙ took.found;
      more = take c.take_items.result c.take_items.new.items;
      taken = ap taken_list last.lane ∙ took.takes;
    }
