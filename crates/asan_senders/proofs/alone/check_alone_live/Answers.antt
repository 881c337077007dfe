use Rattle.std.proofs.Common.{[]}
use Rattle.asan_print.specs.Logs.{report_lines}
use Rattle.asan_stream.specs.Outcomes.{reports_of}
use Rattle.asan_senders.proofs.Only.{more_shown, one_answer, one_read, printed_alone}
use Rattle.asan_senders.proofs.alone.check_alone_live.Goals as goal

pub returns-clause-answers : goal.returns-clause-answers
returns-clause-answers g c =
    let result = c.check_showing-outcome.result in
    one_answer g.F.Feed.seen c.args.options c.args.feed result c.args.room.items c.push_reserved.new.self.items
    c.requires.empty c.push_reserved.ensures.items c.check_showing-outcome.ensures.outcome

pub returns-clause-printed : goal.returns-clause-printed
returns-clause-printed g c =
    let start = g.W.Write.contents c.args.w.now in
    let result = c.check_showing-outcome.result in
    let shown = c.check_showing-outcome.ensures.shown start (c.new-printer.ensures start) in
    let closed = more_shown start _ _ _ c.close.new.self 0 _ _ [] shown (rw c.ending.ensures
    at (c.close.ensures.adds start shown.more (report_lines 0 (reports_of result)) shown.printed shown.own)) in
    printed_alone start _ _ c.close.new.self result c.args.room.items c.push_reserved.new.self.items
    c.finish-wrote.result c.requires.empty c.push_reserved.ensures.items closed c.finish-wrote.ensures.ok
    c.finish-wrote.ensures.fault c.finish-wrote.ensures.short

pub returns-clause-read : goal.returns-clause-read
returns-clause-read g c =
    let result = c.check_showing-outcome.result in
    one_read g.F.Feed.seen c.args.options c.args.feed result c.args.room.items c.push_reserved.new.self.items
    c.requires.empty c.push_reserved.ensures.items c.check_showing-outcome.ensures.outcome
