use Rattle.std.proofs.Common.{ℕ, List, Option}
use Rattle.asan_senders.specs.Closings.{HasPrinted}
use Rattle.asan_senders.specs.declared.printers.Printers.{Printers}
use Rattle.asan_senders.proofs.ReportLanes.{same_lanes, same_lanes_on}
use Rattle.asan_collect.proofs.printing.print_to_the_end.Goals as goal

printed_on : {A : Type 0} (a b d : Option (List ℕ)) (x y z : Printers A)
    → HasPrinted a b x y → HasPrinted b d y z → HasPrinted a d x z
printed_on a b d x y z first next = record {
  lanes = same_lanes_on _ _ _ first.lanes next.lanes;
  lines = λ start h. next.lines start (first.lines start h);
}

pub loop-init : goal.loop-init
loop-init g c = record { lanes = same_lanes c.args.printers.now.ports.items; lines = λ start h. h }

pub loop-preserved : goal.loop-preserved
loop-preserved g c = printed_on _ _ _ _ _ _ c.loop.invariant c.print_round.ensures

pub loop-preserved-then-print_round : goal.loop-preserved-then-print_round
loop-preserved-then-print_round g c = printed_on _ _ _ _ _ _ c.loop.invariant c.print_round.ensures

pub returns-then-is_last : goal.returns-then-is_last
returns-then-is_last g c = printed_on _ _ _ _ _ _ c.loop.invariant c.print_round.ensures
