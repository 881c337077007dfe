use Rattle.std.proofs.Common.{◌++◌, ◌∷◌, [], drop}
use Rattle.asan_check.specs.Lines.{end_line}
use Rattle.asan_print.specs.Logs.{report_lines}
use Rattle.asan_print.specs.Ports.{taken_at}
use Rattle.asan_stream.specs.Outcomes.{reports_of, ending_of}
use Rattle.asan_senders.proofs.LastLines.{printed_whole, rest_whole}
use Rattle.asan_senders.proofs.closing.close.Goals as goal

pub returns-clause-lines : goal.returns-clause-lines
returns-clause-lines g c = λ start log printed lines.
    let process = c.args.process in
    let answer = c.settle_sender-outcome.result in
    let reports = reports_of answer.outcome in
    let before = report_lines process (taken_at c.args.port) in
    record {
      lines = (before ++ report_lines process (drop answer.printed reports))
          ++ end_line process (ending_of answer.outcome) ∷ [];
      adds = rw (
        c.ending.ensures,
        c.reports-reports.ensures,
        c.min-printed.ensures,
        c.reports-reports.ensures,
        rest_whole answer.printed reports,
      ) at (c.close.ensures.adds start log before printed lines);
      printed = printed_whole process answer.printed (taken_at c.args.port) answer.outcome
          c.settle_sender-outcome.ensures.printed;
    }
