use Rattle.std.proofs.Common.{◌∙◌, ◌++◌, ap, append_assoc}
use Rattle.asan_stream.proofs.Later.{later_reported, later_trans}
use Rattle.asan_stream.proofs.Reporting.{front_trans, keeps_trans}
use Rattle.asan_stream.proofs.bench.Bench.work.Goals as goal

pub returns-then-not-sent-clause-later : goal.returns-then-not-sent-clause-later
returns-then-not-sent-clause-later g c =
    let sent = c.report-sent.ensures in
    later_reported c.args.self.now c.report-sent.new.self sent.report_lane sent.process sent.lane sent.checker

pub returns-then-not-matches-clause-later : goal.returns-then-not-matches-clause-later
returns-then-not-matches-clause-later g c =
    let sent = c.report-sent.ensures in
    later_trans c.args.self.now c.report-sent.new.self c.take_batch-found.new.self
    (later_reported c.args.self.now c.report-sent.new.self sent.report_lane sent.process sent.lane sent.checker)
    c.take_batch-found.ensures.later

pub returns-then-not-self-clause-later : goal.returns-then-not-self-clause-later
returns-then-not-self-clause-later g c =
    let sent = c.report-sent.ensures in
    let l = later_trans c.args.self.now c.report-sent.new.self c.take_batch-found.new.self
    (later_reported c.args.self.now c.report-sent.new.self sent.report_lane sent.process sent.lane sent.checker)
    c.take_batch-found.ensures.later in
    record {
      process = l.process;
      lane = c.is_left-self.ensures.lane ∙ l.lane;
      bound = l.bound;
      report_lane = l.report_lane;
      found = l.found;
      more = l.more;
      taken = c.is_left-self.ensures.taken ∙ l.taken;
    }

pub returns-in-None-take_batch-clause-later : goal.returns-in-None-take_batch-clause-later
returns-in-None-take_batch-clause-later g c =
    let sent = c.report-sent.ensures in
    let first = later_trans c.args.self.now c.report-sent.new.self c.take_batch-found.new.self
    (later_reported c.args.self.now c.report-sent.new.self sent.report_lane sent.process sent.lane sent.checker)
    c.take_batch-found.ensures.later in
    let look = c.is_left-self.ensures in
    let second = c.take_batch.ensures.later in
    record {
      process = second.process ∙ first.process;
      lane = second.lane ∙ look.lane ∙ first.lane;
      bound = second.bound ∙ first.bound;
      report_lane = keeps_trans _ _ _ first.report_lane second.report_lane;
      found = front_trans _ _ _ first.found second.found;
      more = first.more ++ second.more;
      taken = second.taken ∙ (ap (λ r. r ++ second.more) (look.taken ∙ first.taken)
          ∙ append_assoc _ first.more second.more);
    }

pub returns-in_default-take_batch-clause-later : goal.returns-in_default-take_batch-clause-later
returns-in_default-take_batch-clause-later g c =
    let sent = c.report-sent.ensures in
    let first = later_trans c.args.self.now c.report-sent.new.self c.take_batch-found.new.self
    (later_reported c.args.self.now c.report-sent.new.self sent.report_lane sent.process sent.lane sent.checker)
    c.take_batch-found.ensures.later in
    let look = c.is_left-self.ensures in
    let second = c.take_batch.ensures.later in
    record {
      process = second.process ∙ first.process;
      lane = second.lane ∙ look.lane ∙ first.lane;
      bound = second.bound ∙ first.bound;
      report_lane = keeps_trans _ _ _ first.report_lane second.report_lane;
      found = front_trans _ _ _ first.found second.found;
      more = first.more ++ second.more;
      taken = second.taken ∙ (ap (λ r. r ++ second.more) (look.taken ∙ first.taken)
          ∙ append_assoc _ first.more second.more);
    }
