use Rattle.std.proofs.Common.{◌<◌, None, arith, length, rules, slice_index_or, true}
use Rattle.asan_senders.proofs.Causes.{causes, port_kept}
use Rattle.asan_senders.specs.Senders.{Becomes}
use Rattle.asan_senders.proofs.Rights.{pairs_joined}
use Rattle.asan_senders.proofs.Dealing.{shares_back, shares_kept}
use Rattle.asan_senders.specs.ReportLanes.{lanes_of}
use Rattle.asan_senders.proofs.LastLines.{follows_start}
use Rattle.asan_senders.proofs.ReportLanes.{fit_read, fit_same, have_back}
use Rattle.asan_senders.proofs.Senders.{becomes_keeps, pairs_back}
use Rattle.asan_senders.proofs.Collected.{answered}
use Rattle.asan_collect.proofs.collector.Collector.check_all_live.Goals as goal

pub returns-clause-answers : goal.returns-clause-answers
returns-clause-answers g c =
    answered g.F.Feed.seen c.args.self.now.options c.args.arrivals.items
    c.open_all-opened.result.senders.items c.run_printing-back.result.0.senders.items
    c.place_all.new.senders.items c.close_all.result.outcomes.items
    c.open_all-opened.ensures.came c.run_printing-back.ensures.senders c.place_all.ensures.rejoins
    c.close_all.ensures.outcomes

pub returns-clause-causes : goal.returns-clause-causes
returns-clause-causes g c =
    let opened = c.open_all-opened.result in
    let back = c.run_printing-back.result in
    let came = c.open_all-opened.ensures in
    let some : 0 < length opened.shares.items =
    (let first = c.requires.room.seats.some_shares in let same = came.same in search rules) in
    causes g.F.Feed.seen true c.args.self.now.options.limit (λ i. slice_index_or back.1.ports.items i None)
    opened.senders.items back.0.senders.items c.place_all.new.senders.items c.close_all.result.outcomes.items
    opened.shares.items back.0.shares.items c.missing_among-missing.result some
    c.run_printing-back.ensures.shares.same_length
    (λ i d below. port_kept true (slice_index_or opened.senders.items i d) (slice_index_or opened.ports.items i None)
    (slice_index_or back.1.ports.items i None)
    (c.run_printing-back.ensures.printed.lanes.each i None (let wide = came.ports in omega arith))
    (came.live.each i d None below))
    came.seated c.run_printing-back.ensures.senders c.run_printing-back.ensures.worked c.place_all.ensures.takes
    c.place_all.ensures.back c.close_all.ensures.outcomes.same_length c.close_all.ensures.far.each
    (rw c.deref.ensures.value at c.missing_among-missing.ensures)

pub missing_among-missing-requires : goal.missing_among-missing-requires
missing_among-missing-requires g c =
    let a = c.open_all-opened.ensures.came.same_length in
    let few = c.requires.few in
    let b = c.run_printing-back.ensures.senders.same_length in
    let d = c.place_all.ensures.rejoins.same_length in
    rw c.deref.ensures.value (omega arith)

pub close_all-requires-clause-few : goal.close_all-requires-clause-few
close_all-requires-clause-few g c =
    let a = c.open_all-opened.ensures.came.same_length in
    let few = c.requires.few in
    let b = c.run_printing-back.ensures.senders.same_length in
    let d = c.place_all.ensures.rejoins.same_length in
    omega arith

pub close_all-requires-clause-ports : goal.close_all-requires-clause-ports
close_all-requires-clause-ports g c =
    let a = c.open_all-opened.ensures.ports in
    let b = c.run_printing-back.ensures.senders.same_length in
    let d = c.place_all.ensures.rejoins.same_length in
    let e = c.run_printing-back.ensures.printed.lanes.same_length in
    omega arith

pub place_all-requires : goal.place_all-requires
place_all-requires g c =
    let seen = g.F.Feed.seen in
    let limit = c.args.self.now.options.limit in
    let opened = c.open_all-opened.result in
    let back = c.run_printing-back.result.0 in
    shares_kept (Becomes seen limit) (becomes_keeps seen limit) c.args.self.now.options.quarantine opened.senders.items
    back.senders.items back.shares.items c.run_printing-back.ensures.senders
    (shares_back c.args.self.now.options.quarantine opened.senders.items opened.shares.items back.shares.items
    c.run_printing-back.ensures.shares c.open_all-opened.ensures.shares)

pub close_all-requires-clause-room : goal.close_all-requires-clause-room
close_all-requires-clause-room g c =
    let a = c.open_all-opened.ensures.came.same_length in
    let few = c.requires.few in
    let b = c.run_printing-back.ensures.senders.same_length in
    let d = c.place_all.ensures.rejoins.same_length in
    let room = c.requires.room.for_outcomes in
    search rules

pub close_all-requires-clause-joined : goal.close_all-requires-clause-joined
close_all-requires-clause-joined g c =
    let seen = g.F.Feed.seen in
    pairs_joined seen c.args.self.now.options c.args.arrivals.items c.place_all.new.senders.items
    (pairs_back seen c.args.self.now.options c.args.arrivals.items c.open_all-opened.result.senders.items
    c.run_printing-back.result.0.senders.items c.place_all.new.senders.items
    c.open_all-opened.ensures.came c.run_printing-back.ensures.senders c.place_all.ensures.rejoins)

pub close_all-requires-clause-fits : goal.close_all-requires-clause-fits
close_all-requires-clause-fits g c =
    let seen = g.F.Feed.seen in
    let opened = c.open_all-opened.result in
    let back = c.run_printing-back.result in
    let lanes = lanes_of opened.ports.items in
    let a = c.open_all-opened.ensures.ports in
    let b = c.run_printing-back.ensures.senders.same_length in
    let d = c.place_all.ensures.rejoins.same_length in
    fit_same opened.ports.items back.1.ports.items c.place_all.new.senders.items (omega arith)
    c.run_printing-back.ensures.printed.lanes
    (c.place_all.ensures.fit lanes (fit_read seen c.args.self.now.options.limit lanes opened.senders.items
    back.0.senders.items c.run_printing-back.ensures.senders c.open_all-opened.ensures.fits)
    (have_back lanes opened.shares.items back.0.shares.items c.run_printing-back.ensures.shares
    c.open_all-opened.ensures.have))

pub returns-clause-printed : goal.returns-clause-printed
returns-clause-printed g c =
    let start = g.W.Write.contents c.args.w.now in
    c.close_all.ensures.printed start (c.run_printing-back.ensures.printed.lines start
    (follows_start start c.new-printer.result c.open_all-opened.result.ports.items (c.new-printer.ensures start)
    c.open_all-opened.ensures.untaken))

pub open_all-opened-requires-clause-arrived : goal.open_all-opened-requires-clause-arrived
open_all-opened-requires-clause-arrived g c = c.requires.arrived

pub open_all-opened-requires-clause-few : goal.open_all-opened-requires-clause-few
open_all-opened-requires-clause-few g c = c.requires.few

pub open_all-opened-requires-clause-empty : goal.open_all-opened-requires-clause-empty
open_all-opened-requires-clause-empty g c = c.requires.room.seats

pub close_all-requires-clause-empty : goal.close_all-requires-clause-empty
close_all-requires-clause-empty g c = c.requires.room.no_outcomes
