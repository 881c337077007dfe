-- What was read of a feed: the text that was decoded, and the events that it gave.
use Rattle.std.specs.Prelude.{◌≡◌, ℕ, ◌+◌, ◌-◌, ◌*◌, ◌<◌, ◌⊎◌, Bool, true, false, List, ◌++◌, length}
use Rattle.std.specs.Prelude.{Some}
use Rattle.std.specs.Io.KnownBytes.{Consumes, IsAtEnd}
use Rattle.trace_record.specs.declared.event.Event.{Event}
use Rattle.trace_record.specs.declared.end.End.{End}
use Rattle.trace_record.specs.Stream.{IsDecidedFate}
use Rattle.trace_record.specs.Standing.{Standing, StandsAt}
use Rattle.trace_feed.specs.Feeds.{FeedState}
use Rattle.asan_stream.specs.declared.source.Source.{Source}
use Rattle.asan_stream.specs.Pieces.{rest_of}
use Rattle.asan_stream.specs.Outcomes.{IsSpelled, IsDecidedSoon}

-- how many bytes a decoder has read
abbrev pub read_of : Standing → ℕ
read_of d = d.offset + length d.rest

-- how many bytes more decide its stream at the latest
abbrev pub left_of : Standing → ℕ
left_of d = (18 * d.limit + 9) - read_of d

-- The function says what is seen of a feed. The feed was `first` before it was read.
module _
    {F : Type 0} (seen : F → FeedState) (limit : ℕ) (first : F)
  where
    -- this text was read and decoded, it is open, and these are its events
    pub record HasRead (s : Source F) (text : List ℕ) (events : List Event) : Type 0 where
      pub taken : Consumes (seen first).to_come (seen s.feed).to_come (text ++ rest_of s.piece)
      pub decoder : StandsAt s.decoder text events
      pub limit_is : s.decoder.limit ≡ limit
      pub fresh : (seen s.feed).faults ≡ 0

    -- what was read spells these events, and the end that a byte of it decided
    pub record IsDecided (s : Source F) (events : List Event) : Type 0 where
      pub end : End
      pub stop : s.decoder.stop ≡ Some end
      pub decided : IsDecidedFate end.fate
      pub spelled : IsSpelled limit (seen first) (seen s.feed) events end
      pub soon : IsDecidedSoon limit (seen first) (seen s.feed) end

    -- what was read is an open text with these events, and then a read failed, or nothing more was
    -- to come
    pub record IsBroken (s : Source F) (events : List Event) : Type 0 where
      pub text : List ℕ
      pub taken : Consumes (seen first).to_come (seen s.feed).to_come text
      pub decoder : StandsAt s.decoder text events
      pub limit_is : s.decoder.limit ≡ limit
      pub why :
          ((seen s.feed).faults ≡ 1)
          ⊎ (((seen s.feed).faults ≡ 0) × IsAtEnd (seen s.feed).to_come)

    -- the feed was read to the end of its stream, and gave these events
    abbrev pub HasEnded : Source F → List Event → Type 0
    HasEnded s events = IsDecided s events ⊎ IsBroken s events

    -- after a read that gave bytes the text is as it was; after any other the stream has ended
    abbrev pub AfterRefill : Bool → Source F → List ℕ → List Event → Type 0
    AfterRefill true s text events = HasRead s text events
    AfterRefill false s text events = HasEnded s events

    -- after the last batch the stream has ended; after any other more of it was read and decoded
    abbrev pub AfterBatch : Bool → Source F → List ℕ → List Event → Type 0
    AfterBatch true s text events = HasEnded s events
    AfterBatch false s text events =
        (more : List ℕ) × (0 < length more) × HasRead s (text ++ more) events

    -- an end of the feed's stream, which these events came before
    pub record IsEndOf (feed : F) (events : List Event) (end : End) : Type 0 where
      pub spelled : IsSpelled limit (seen first) (seen feed) events end
      pub soon : IsDecidedFate end.fate → IsDecidedSoon limit (seen first) (seen feed) end
