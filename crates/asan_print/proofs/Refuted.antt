-- Printing that the contracts of a live printer refuse.
-- Each lemma is named for what would have gone wrong.
use Rattle.std.proofs.Common.{◌≡◌, ◌<◌, ℕ, List, [], ◌∷◌, length, Option, ap, arith}
use Rattle.std.specs.Prelude.{slice_index_or}
use Rattle.asan_print.specs.declared.counted.Counted.{Counted}
use Rattle.asan_print.specs.declared.fault.WriteFault.{WriteFault}
use Rattle.asan_print.specs.declared.live_printer.LivePrinter.TheVariants as live
use Rattle.asan_print.specs.declared.port.Port.{Port}
use Rattle.asan_print.specs.Logs.{HoldsNothing, StaysBroken}
use Rattle.asan_print.specs.Printing.{held_back}
use Rattle.asan_print.specs.Ports.{HasReport, taken_at}

module _ {A : Type 0} where
  -- a byte goes out after a line was lost
  writes_on_after_a_lost_line :
      (fault : WriteFault) →
      ¬ (StaysBroken {A = A} {W = List ℕ} [] (97 ∷ []) (live.Broken fault) (live.Broken fault))
  writes_on_after_a_lost_line fault broken =
      let one_is_none : ◌≡◌ {A = ℕ} 1 0 = ap length (broken tt).0 in
      absurd (omega arith)

  -- no line was lost, and some text waits for the next round
  text_waits_for_the_next_round :
      (printer : Counted A) → 0 < length (held_back printer.printer) →
      ¬ (HoldsNothing (live.Prints printer))
  text_waits_for_the_next_round printer some sent =
      let empty = ap length sent in
      absurd (omega arith)

  -- nothing is taken from the second port, where a report waits, since the first gave one
  busy_process_holds_up_the_next :
      (busy after port : Option (Port A)) → HasReport port →
      ¬ ((i : ℕ) (d : Option (Port A)) → i < length (busy ∷ port ∷ []) →
      HasReport (slice_index_or (busy ∷ port ∷ []) i d) →
      length (taken_at (slice_index_or (busy ∷ port ∷ []) i d)) <
      length (taken_at (slice_index_or (after ∷ port ∷ []) i d)))
  busy_process_holds_up_the_next busy after port has finds =
      let more : length (taken_at port) < length (taken_at port) = finds 1 port (omega arith) has in
      absurd (omega arith)
