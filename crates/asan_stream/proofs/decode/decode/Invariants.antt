use Rattle.std.proofs.Common.{◌≡◌, ◌<◌, ◌≤◌, ◌-◌, ◌++◌, ℕ, List, None, take, length}
use Rattle.trace_record.specs.declared.event.Event.{Event}
use Rattle.trace_record.specs.Standing.{StandsAt}
use Rattle.asan_stream.proofs.decode.decode.Given as goal

abbrev pub invariant-loop-count : goal.invariant-loop-count
invariant-loop-count l = record {
  running : l.decoder.stop ≡ None;
  within : l.used ≤ length l.piece;
  room : length l.events ≡ length l.fn.events;
  some : l.count ≤ length l.events;
  moved : 0 < l.count → 0 < l.used;
  limit : l.decoder.limit ≡ l.fn.decoder.limit;
  reads : (text : List ℕ) (before : List Event) → StandsAt l.fn.decoder text before →
      StandsAt l.decoder (text ++ take l.used l.piece) (before ++ take l.count l.events);
}

abbrev pub decreases-loop-count : goal.decreases-loop-count
decreases-loop-count l = length l.events - l.count
