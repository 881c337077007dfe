-- Reading ahead: what a decoder comes to with some more events and the bytes of their records.
use Rattle.std.proofs.Common.{◌≡◌, ℕ, ◌+◌, ◌<◌, ◌≤◌, List, [], ◌∷◌, ◌++◌, length, Ok, sym, ap, arith}
use Rattle.trace_record.specs.declared.event.Event.{Event}
use Rattle.trace_record.specs.declared.decoder.Decoder.TheInside.{Inside}
use Rattle.trace_record.specs.Standing.{Standing, StandsAt}
use Rattle.trace_record.specs.Reading.{Says}
use Rattle.trace_record.specs.Spelling.{spelling}
use Rattle.trace_record.proofs.Steps.{event_more}

-- the decoder with so many more events and bytes
abbrev pub ahead : Inside → ℕ → ℕ → Standing
ahead d count used = record {
  limit = d.limit;
  version = d.version;
  events = d.events + count;
  offset = d.offset + used;
  rest = d.partial;
  stop = d.stop;
}

pub one_more : (d : Inside) (count used : ℕ) (text part : List ℕ) (events : List Event) (e : Event)
    → d.partial ≡ [] → 8 ≤ d.offset → d.events + count < d.limit → Says d.version part (Ok e)
    → StandsAt (ahead d count used) text events
    → StandsAt (ahead d (count + 1) (used + length part)) (text ++ part) (events ++ e ∷ [])
one_more d count used text part events e none le room says at =
    let whole : Says d.version (d.partial ++ part) (Ok e) = rw none says in
    let more = event_more (ahead d count used) part text events at (omega arith) e whole room in
    let size : length (spelling d.version e) ≡ length part = sym (ap length says.1) in
    let counted : d.events + count + 1 ≡ d.events + (count + 1) = omega arith in
    let measured : d.offset + used + length (spelling d.version e) ≡ d.offset + (used + length part) = omega arith in
    rw none (rw (counted, measured) at more)

pub none_yet : (d : Inside) (text : List ℕ) (events : List Event)
    → StandsAt (record {
      limit = d.limit;
      version = d.version;
      events = d.events;
      offset = d.offset;
      rest = d.partial;
      stop = d.stop;
    }) text events
    → StandsAt (ahead d 0 0) text events
none_yet d text events at =
    let counted : d.events + 0 ≡ d.events = omega arith in
    let measured : d.offset + 0 ≡ d.offset = omega arith in
    rw (counted, measured) at
