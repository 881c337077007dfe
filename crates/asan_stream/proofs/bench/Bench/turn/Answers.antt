use Rattle.std.proofs.Common.{◌++◌, ◌∷◌, [], rules, sym, ap, ◌∙◌, subst}
use Rattle.trace_lane.specs.Lanes.{out_lane, taken_list}
use Rattle.asan_check.specs.Standing.{bound_of, reports_of}
use Rattle.asan_stream.specs.Outboxes.{IsFront, KeepsLane, lane_into}
use Rattle.asan_stream.proofs.Draining.{taken_one}
use Rattle.asan_stream.proofs.Reporting.{front_same, keeps_trans}
use Rattle.asan_stream.proofs.bench.Bench.turn.Goals as goal

pub returns-clause-turns : goal.returns-clause-turns
returns-clause-turns g c =
    let first = c.report.ensures in
    let took = c.take_items.ensures in
    let last = c.report-2.ensures in
    let before = c.report.new.self in
    let after = c.report-2.new.self in
    let one = taken_one c.take_items.new.items c.take_items.result (search rules) took.most
    c.if-take_items-eq0.false in
    record {
      process = last.process ∙ took.process ∙ first.process;
      lane = ap out_lane last.lane ∙ took.lane ∙ ap out_lane first.lane;
      bound = ap bound_of last.checker ∙ took.bound ∙ ap bound_of first.checker;
      report_lane = keeps_trans _ _ _ first.report_lane
          (subst (λ o. KeepsLane (lane_into o.lane) (lane_into after.outbox.lane)) took.outbox last.report_lane);
      found = subst (λ rs. IsFront rs (reports_of after.checker)) (ap reports_of first.checker)
          (subst (λ rs. IsFront (reports_of before.checker) rs) (sym (ap reports_of last.checker)) took.found);
      taken = (
        one.0,
        ap taken_list last.lane ∙ took.takes ∙ ap (λ more. taken_list before.lane ++ more) one.1
            ∙ ap (λ items. items ++ one.0 ∷ []) (ap taken_list first.lane),
      );
    }

pub returns-then-not-report-clause-turns : goal.returns-then-not-report-clause-turns
returns-then-not-report-clause-turns g c =
    let first = c.report.ensures in
    let found = reports_of c.args.self.now.checker in
    record {
      process = first.process;
      lane = ap out_lane first.lane;
      bound = ap bound_of first.checker;
      report_lane = first.report_lane;
      found = subst (λ checker. IsFront found (reports_of checker)) (sym first.checker) (front_same found);
      taken = ap taken_list first.lane;
    }

pub returns-then-is_done-clause-turns : goal.returns-then-is_done-clause-turns
returns-then-is_done-clause-turns g c =
    let first = c.report.ensures in
    let found = reports_of c.args.self.now.checker in
    record {
      process = first.process;
      lane = ap out_lane first.lane;
      bound = ap bound_of first.checker;
      report_lane = first.report_lane;
      found = subst (λ checker. IsFront found (reports_of checker)) (sym first.checker) (front_same found);
      taken = ap taken_list first.lane;
    }
