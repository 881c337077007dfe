use Rattle.std.proofs.Common.{Some}
use Rattle.trace_lane.specs.Lanes.{end_list}
use Rattle.asan_print.specs.Ports.{port_lane, taken_from}
use Rattle.asan_senders.specs.ReportLanes.{Fits}
use Rattle.asan_senders.specs.declared.sender.Sender.TheVariants as sender
use Rattle.asan_stream.specs.Benches.{found_of}
use Rattle.asan_stream.specs.Outboxes.{IsFront}
use Rattle.asan_senders.proofs.LastLines.{none_printed, were_printed}
use Rattle.asan_senders.proofs.Rights.{settled_at_port, settled_came, settled_without_port}
use Rattle.asan_senders.proofs.returns.settle_joined.Goals.{in-None-default+in-Some-1, in-None-default+in-None-1}
use Rattle.asan_senders.proofs.returns.settle_joined.Goals.{in-Some-Some}
use Rattle.asan_senders.proofs.returns.settle_joined.Goals as goal

pub returns-clause-outcome : goal.returns-clause-outcome
returns-clause-outcome g c = λ options a came.
    settled_came g.F.Feed.seen options a c.args.done c.args.bench c.args.reports c.settle.result
    c.settle.ensures.unsettled.1 c.settle.ensures.settled came

pub returns-clause-far : goal.returns-clause-far
returns-clause-far g c =
    let settled = c.settle.ensures in
    let lane_end = c.args.done.lane_end in
    elim c.match-port.branch [
      | in-None-default+in-Some-1 w ↦ rw w.in-None-default.is-0
          (settled_without_port lane_end c.args.reports c.settle.result settled.unsettled.1 settled.read)
      | in-None-default+in-None-1 w ↦ rw w.in-None-default.is-0
          (settled_without_port lane_end c.args.reports c.settle.result settled.unsettled.1 settled.read)
      | in-Some-Some w ↦ rw (w.in-Some-Some.is-0, w.in-Some-Some.is-1)
          (settled_at_port w.in-Some-Some.port lane_end w.in-Some-Some.end c.settle.result settled.unsettled.1
          settled.read)
    ]

pub returns-clause-printed : goal.returns-clause-printed
returns-clause-printed g c = elim c.match-port.branch [
  | in-None-default+in-Some-1 w ↦ rw (w.in-None-default.is-0, w.printed-is) (none_printed c.settle.result)
  | in-None-default+in-None-1 w ↦ rw (w.in-None-default.is-0, w.printed-is) (none_printed c.settle.result)
  | in-Some-Some w ↦
      let bench = c.args.bench in
      let taken = taken_from w.in-Some-Some.port in
      let put = end_list w.in-Some-Some.end in
      let count = w.settle-printed.ensures.count in
      let first : IsFront taken put = rw count at w.settle-printed.ensures.front in
      let fits : Fits (Some (port_lane w.in-Some-Some.port))
      (sender.Joined c.args.done bench (Some w.in-Some-Some.end)) =
      rw (w.in-Some-Some.is-0, w.in-Some-Some.is-1) at c.requires.port in
      rw (w.in-Some-Some.is-0, w.printed-is, count)
      (were_printed c.args.done.lane_end c.settle.result taken put (found_of bench) c.settle.ensures.unsettled.1
      c.settle.ensures.begins first fits.1)
]
