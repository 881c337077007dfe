-- What a decoder has made of a text.
use Rattle.std.specs.Prelude.{◌≡◌, ℕ, List, Option, Some, None}
use Rattle.trace_record.specs.declared.event.Event.{Event}
use Rattle.trace_record.specs.declared.end.End.{End}
use Rattle.trace_record.specs.Stream.{Spells, IsDecidedFate, IsDecidedByLast}
use Rattle.trace_record.specs.Standing.{Standing, StandsAt}

-- the text is open, and these are its events; or it spells these events and this end, which its
-- last byte decided
abbrev pub HasDecoded : Standing → List ℕ → List Event → Option End → Type 0
HasDecoded d text events None = StandsAt d text events
HasDecoded d text events (Some end) =
    (d.stop ≡ Some end) × Spells d.limit text events end × IsDecidedFate end.fate
    × IsDecidedByLast d.limit text events
