-- Where a decoder stands in a text, and what its answers say.
use Rattle.std.specs.Prelude.{◌≡◌, ℕ, ◌+◌, ◌<◌, ◌≤◌, List, [], ◌∷◌, ◌++◌, length, take}
use Rattle.std.specs.Prelude.{Option, Some, None}
use Rattle.trace_record.specs.declared.event.Event.{Event}
use Rattle.trace_record.specs.declared.end.End.{End}
use Rattle.trace_record.specs.declared.end.Fate.{Fate}
use Rattle.trace_record.specs.declared.decoder.Out.{Out}
use Rattle.trace_record.specs.declared.decoder.Out.TheVariants as out
use Rattle.trace_record.specs.declared.decoder.Step.{Step}
use Rattle.trace_record.specs.declared.version.Version.{Version}
use Rattle.trace_record.specs.Stream.{IsOpenWith, IsDecidedFate, IsDecidedByLast, Spells}
use Rattle.trace_record.specs.Stream.{version_of, offset_of, close_length}
use Rattle.trace_record.specs.Reading.{HasNoRecord}

-- what a contract sees of a decoder: its event limit, the version of the text once its header is
-- whole, the counts of good events and of the bytes of header and good records, the unfinished rest
-- of the text, and the end that it has given, if one
pub record Standing : Type 0 where
  pub limit : ℕ
  pub version : Version
  pub events : ℕ
  pub offset : ℕ
  pub rest : List ℕ
  pub stop : Option End

-- the decoder has read this open text and has given these events
pub record StandsAt (d : Standing) (text : List ℕ) (events : List Event) : Type 0 where
  pub running : d.stop ≡ None
  pub reads : IsOpenWith d.limit text events d.rest
  pub count : d.events ≡ length events
  pub offset : d.offset ≡ offset_of text events
  pub version : 8 ≤ length text → version_of text ≡ Some d.version

-- the next byte is the first of a record
pub record IsBetweenRecords (d : Standing) : Type 0 where
  pub running : d.stop ≡ None
  pub in_records : 8 ≤ d.offset
  pub none_cut : d.rest ≡ []

-- no whole good record comes next, or the limit leaves no room for its event
abbrev pub HasNoneToRead : Standing → List ℕ → Type 0
HasNoneToRead d bytes = d.events < d.limit → HasNoRecord d.version bytes

-- the end with this fate at what the decoder has read
abbrev pub end_of : Standing → Fate → End
end_of d fate = record { fate = fate; events = d.events; offset = d.offset + close_length fate }

-- the end that an answer gives
abbrev pub stop_of : Out → Option End
stop_of (out.Got e) = None
stop_of out.Need = None
stop_of (out.Stop end) = Some end

-- what an answer says of the text that the decoder has read with it, where these were the events
-- before: one event more and nothing unfinished; no event more; or the text spells this end, which
-- its last byte decided
abbrev pub Answers : Standing → List ℕ → List Event → Out → Type 0
Answers d text events (out.Got e) = StandsAt d text (events ++ e ∷ []) × (d.rest ≡ [])
Answers d text events out.Need = StandsAt d text events
Answers d text events (out.Stop end) =
    Spells d.limit text events end × IsDecidedFate end.fate × IsDecidedByLast d.limit text events

-- what one step of a decoder takes of a piece: at most all of it, and a byte at least for an event
-- or an end; the limit stays, an end is kept, and the decoder then stands where its answer says
pub record Takes (old new : Standing) (piece : List ℕ) (step : Step) : Type 0 where
  pub used : step.used ≤ length piece
  pub got : (event : Event) → step.out ≡ out.Got event → 0 < step.used
  pub ended : (end : End) → old.stop ≡ None → step.out ≡ out.Stop end → 0 < step.used
  pub limit : new.limit ≡ old.limit
  pub stop : new.stop ≡ stop_of step.out
  pub answers : (text : List ℕ) (events : List Event) → StandsAt old text events →
      Answers new (text ++ take step.used piece) events step.out
