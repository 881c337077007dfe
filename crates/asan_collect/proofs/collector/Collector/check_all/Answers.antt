use Rattle.std.proofs.Common.{◌<◌, None, arith, false, length, rules, slice_index_or}
use Rattle.asan_senders.proofs.Causes.{causes, no_port}
use Rattle.asan_senders.specs.Senders.{Becomes}
use Rattle.asan_senders.proofs.Rights.{pairs_joined}
use Rattle.asan_senders.proofs.Dealing.{shares_back, shares_kept}
use Rattle.asan_senders.proofs.Senders.{becomes_keeps, pairs_back}
use Rattle.asan_senders.proofs.Collected.{answered}
use Rattle.asan_collect.proofs.collector.Collector.check_all.Goals as goal

pub returns-clause-answers : goal.returns-clause-answers
returns-clause-answers g c =
    answered g.F.Feed.seen c.args.self.now.options c.args.arrivals.items
    c.open_all-opened.result.senders.items c.run_all-back.result.senders.items
    c.place_all.new.senders.items c.settle_all.result.items
    c.open_all-opened.ensures.came c.run_all-back.ensures.senders c.place_all.ensures.rejoins
    c.settle_all.ensures.outcomes

pub returns-clause-causes : goal.returns-clause-causes
returns-clause-causes g c =
    let opened = c.open_all-opened.result in
    let back = c.run_all-back.result in
    let came = c.open_all-opened.ensures in
    let some : 0 < length opened.shares.items =
    (let first = c.requires.room.seats.some_shares in let same = came.same in search rules) in
    causes g.F.Feed.seen false c.args.self.now.options.limit (λ i. None) opened.senders.items back.senders.items
    c.place_all.new.senders.items c.settle_all.result.items opened.shares.items back.shares.items
    c.missing_among-missing.result some c.run_all-back.ensures.shares.same_length
    (λ i d below. no_port (slice_index_or opened.senders.items i d) (slice_index_or opened.ports.items i None)
    (came.live.each i d None below))
    came.seated c.run_all-back.ensures.senders c.run_all-back.ensures.worked c.place_all.ensures.takes
    c.place_all.ensures.back c.settle_all.ensures.far.same_length c.settle_all.ensures.far.each
    (rw c.deref.ensures.value at c.missing_among-missing.ensures)

pub missing_among-missing-requires : goal.missing_among-missing-requires
missing_among-missing-requires g c =
    let a = c.open_all-opened.ensures.came.same_length in
    let few = c.requires.few in
    let b = c.run_all-back.ensures.senders.same_length in
    let d = c.place_all.ensures.rejoins.same_length in
    rw c.deref.ensures.value (omega arith)

pub place_all-requires : goal.place_all-requires
place_all-requires g c =
    let seen = g.F.Feed.seen in
    let limit = c.args.self.now.options.limit in
    let opened = c.open_all-opened.result in
    let back = c.run_all-back.result in
    shares_kept (Becomes seen limit) (becomes_keeps seen limit) c.args.self.now.options.quarantine opened.senders.items
    back.senders.items back.shares.items c.run_all-back.ensures.senders
    (shares_back c.args.self.now.options.quarantine opened.senders.items opened.shares.items back.shares.items
    c.run_all-back.ensures.shares c.open_all-opened.ensures.shares)

pub settle_all-requires-clause-room : goal.settle_all-requires-clause-room
settle_all-requires-clause-room g c =
    let a = c.open_all-opened.ensures.came.same_length in
    let few = c.requires.few in
    let b = c.run_all-back.ensures.senders.same_length in
    let d = c.place_all.ensures.rejoins.same_length in
    let room = c.requires.room.for_outcomes in
    search rules

pub settle_all-requires-clause-joined : goal.settle_all-requires-clause-joined
settle_all-requires-clause-joined g c =
    let seen = g.F.Feed.seen in
    pairs_joined seen c.args.self.now.options c.args.arrivals.items c.place_all.new.senders.items
    (pairs_back seen c.args.self.now.options c.args.arrivals.items c.open_all-opened.result.senders.items
    c.run_all-back.result.senders.items c.place_all.new.senders.items
    c.open_all-opened.ensures.came c.run_all-back.ensures.senders c.place_all.ensures.rejoins)

pub open_all-opened-requires-clause-arrived : goal.open_all-opened-requires-clause-arrived
open_all-opened-requires-clause-arrived g c = c.requires.arrived

pub open_all-opened-requires-clause-few : goal.open_all-opened-requires-clause-few
open_all-opened-requires-clause-few g c = c.requires.few

pub open_all-opened-requires-clause-empty : goal.open_all-opened-requires-clause-empty
open_all-opened-requires-clause-empty g c = c.requires.room.seats

pub settle_all-requires-clause-empty : goal.settle_all-requires-clause-empty
settle_all-requires-clause-empty g c = c.requires.room.no_outcomes
