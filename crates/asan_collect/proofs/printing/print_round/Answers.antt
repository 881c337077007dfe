use Rattle.std.proofs.Common.{arith}
use Rattle.asan_print.specs.Ports.{SameLanes}
use Rattle.asan_senders.proofs.ReportLanes.{written_back}
use Rattle.asan_collect.proofs.printing.print_round.Goals as goal

pub returns : goal.returns
returns g c =
    let ports = c.args.printers.now.ports in
    let lanes : SameLanes ports.items c.round.new.ports = rw c.deref_mut.ensures.value at c.round.ensures.lanes in
    let lines = rw c.deref_mut.ensures.value at c.round.ensures.lines in
    let back = written_back ports.len ports.items c.round.new.ports lanes.same_length ports.ok.0 in
    record { lanes = rw back lanes; lines = λ start h. rw back (lines start h) }

pub round-requires : goal.round-requires
round-requires g c = let few = c.args.printers.now.few in rw c.deref_mut.ensures.value (omega arith)
