use Rattle.asan_senders.proofs.Only.{one_answer, one_read}
use Rattle.asan_senders.proofs.alone.check_alone.Goals as goal

pub returns-clause-answers : goal.returns-clause-answers
returns-clause-answers g c =
    let result = c.check_feed-outcome.result in
    one_answer g.F.Feed.seen c.args.options c.args.feed result c.args.room.items c.push_reserved.new.self.items
    c.requires.empty c.push_reserved.ensures.items c.check_feed-outcome.ensures.outcome

pub returns-clause-read : goal.returns-clause-read
returns-clause-read g c =
    let result = c.check_feed-outcome.result in
    one_read g.F.Feed.seen c.args.options c.args.feed result c.args.room.items c.push_reserved.new.self.items
    c.requires.empty c.push_reserved.ensures.items c.check_feed-outcome.ensures.outcome
