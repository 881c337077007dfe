use Rattle.std.proofs.Common.{length, ◌-◌, ◌*◌, ◌≡◌, ◌<◌, ◌≤◌, ℕ, List, ◌++◌, take}
use Rattle.trace_record.specs.declared.event.Event.{Event}
use Rattle.trace_record.specs.Standing.{StandsAt}
use Rattle.trace_record.proofs.Rows.{ahead}
use Rattle.trace_record.proofs.decoder.Decoder.next_events.Given as goal

abbrev pub invariant-loop-count : goal.invariant-loop-count
invariant-loop-count l = record {
  within : l.used ≤ length l.piece;
  room : length l.out ≡ length l.fn.out;
  some : l.count ≤ l.room;
  short : l.used ≤ 18 * l.count;
  moved : 0 < l.count → 0 < l.used;
  answers : (text : List ℕ) (events : List Event) → StandsAt l.fn.self text events →
      StandsAt (ahead l.self-inside l.count l.used) (text ++ take l.used l.piece) (events ++ take l.count l.out);
}

abbrev pub decreases-loop-count : goal.decreases-loop-count
decreases-loop-count l = l.room - l.count
