-- What a whole text spells: its events, oldest first, and whether and how it has ended (profile).
--
-- Nothing here speaks of pieces or of a reader: each definition looks at the text from its first
-- byte. The first eight bytes say which version the text has, and all its events spell in that. An
-- event limit says how many events a text may have.
use Rattle.std.specs.Prelude.{◌≡◌, ◌≢◌, ℕ, ◌+◌, ◌<◌, ◌≤◌, ◌⊎◌, nat_eq, if◌then◌else◌}
use Rattle.std.specs.Prelude.{List, [], ◌∷◌, ◌++◌, length, take, Option, Some, None}
use Rattle.std.specs.List.{starts_with}
use Rattle.trace_record.specs.declared.event.Event.{Event}
use Rattle.trace_record.specs.declared.end.End.{End}
use Rattle.trace_record.specs.declared.end.Fate.{Fate}
use Rattle.trace_record.specs.declared.end.Fate.TheVariants as fate
use Rattle.trace_record.specs.declared.end.Flaw.{Flaw}
use Rattle.trace_record.specs.declared.end.Flaw.TheVariants as flaw
use Rattle.trace_record.specs.declared.fields.Fields.{Fields}
use Rattle.trace_record.specs.declared.version.Version.{Version}
use Rattle.trace_record.specs.declared.version.Version.TheVariants as version
use Rattle.trace_record.specs.Spelling.{header, close, bytes_of, Fit, spellings, flaw_of}
use Rattle.trace_record.specs.Spelling.{record_length, AllSpellIn}

-- the text begins with this front
abbrev pub BeginsWith : List ℕ → List ℕ → Type 0
BeginsWith front text = (more : List ℕ) × (text ≡ front ++ more)

-- the version that a text's first eight bytes stand for, if they are a header
abbrev pub version_of : List ℕ → Option Version
version_of text =
    if starts_with nat_eq text (header version.One) then Some version.One
    else (if starts_with nat_eq text (header version.Two) then Some version.Two
    else (if starts_with nat_eq text (header version.Three) then Some version.Three else None))

-- one byte that is no code: no record begins with it, and it is not the close
pub record IsUnknownCode (v : Version) (part : List ℕ) (byte : ℕ) : Type 0 where
  pub alone : part ≡ byte ∷ []
  pub no_record : record_length v byte ≡ 0
  pub no_close : byte ≢ close

-- one whole record whose numbers have this first flaw
pub record IsFlawedRecord (v : Version) (part : List ℕ) (f : Flaw) (x : Fields) : Type 0 where
  pub whole : part ≡ bytes_of x
  pub fit : Fit v x
  pub first : flaw_of v x.numbers ≡ Some f

-- a flawed record, with its first flaw: an unknown code, or a whole record with a flaw in its
-- numbers
abbrev pub IsFlawed : Version → List ℕ → Flaw → Type 0
IsFlawed v part f =
    ((f ≡ flaw.Code) × (byte : ℕ) × IsUnknownCode v part byte)
    ⊎ ((x : Fields) × IsFlawedRecord v part f x)

-- an unfinished record: it begins with a record's code and has fewer bytes than that record
abbrev pub IsUnfinished : Version → List ℕ → Type 0
IsUnfinished v [] = ⊥
IsUnfinished v (code ∷ more) = length (code ∷ more) < record_length v code

-- fewer bytes than a header has: no events yet, and all of the text is unfinished
pub record IsInHeader (text : List ℕ) (events : List Event) (rest : List ℕ) : Type 0 where
  pub short : length text < 8
  pub none : events ≡ []
  pub rest_is : rest ≡ text

-- what may follow this count of whole records: nothing, or an unfinished record where the limit
-- leaves room for it
abbrev pub MayFollow : Version → ℕ → ℕ → List ℕ → Type 0
MayFollow v limit count [] = count ≤ limit
MayFollow v limit count (code ∷ more) = (count < limit) × IsUnfinished v (code ∷ more)

-- the text is the header of a version and these events, which are spelled in it, and then this rest
pub record IsMadeOf (v : Version) (text : List ℕ) (events : List Event) (rest : List ℕ)
    : Type 0 where
  pub spelled : AllSpellIn v events
  pub split : text ≡ header v ++ spellings v events ++ rest

-- a header, these events, and at most an unfinished record
pub record IsInRecords (limit : ℕ) (text : List ℕ) (events : List Event) (rest : List ℕ)
    : Type 0 where
  pub version : Version
  pub made : IsMadeOf version text events rest
  pub follows : MayFollow version limit (length events) rest

-- the text is open: nothing has ended it; it holds these events, and after them this unfinished
-- rest
abbrev pub IsOpenWith : ℕ → List ℕ → List Event → List ℕ → Type 0
IsOpenWith limit text events rest = IsInHeader text events rest ⊎ IsInRecords limit text events rest

-- the text is open and holds these events
abbrev pub IsOpen : ℕ → List ℕ → List Event → Type 0
IsOpen limit text events = (rest : List ℕ) × IsOpenWith limit text events rest

-- the text's first eight bytes are no header
pub record HasBadHeader (text : List ℕ) (events : List Event) : Type 0 where
  pub long : 8 ≤ length text
  pub other : (v : Version) → take 8 text ≢ header v
  pub none : events ≡ []

-- the text begins with the header of a version and these events, which are spelled in it, and then
-- this part
abbrev pub HasAfter : Version → List ℕ → List Event → List ℕ → Type 0
HasAfter v text events part =
    AllSpellIn v events × BeginsWith (header v ++ spellings v events ++ part) text

-- after these events, fewer than the limit, the text has a flawed record
abbrev pub HasFlawedRecord : ℕ → List ℕ → List Event → Flaw → Type 0
HasFlawedRecord limit text events f =
    (length events < limit) × (v : Version) × (part : List ℕ) × IsFlawed v part f
    × HasAfter v text events part

-- the text is decided: these are its events and this is its fate, whatever follows
abbrev pub IsDecided : ℕ → List ℕ → List Event → Fate → Type 0
IsDecided limit text events fate.Closed =
    (length events ≤ limit) × (v : Version) × HasAfter v text events (close ∷ [])
IsDecided limit text events (fate.Malformed f) =
    ((f ≡ flaw.Header) × HasBadHeader text events) ⊎ HasFlawedRecord limit text events f
IsDecided limit text events fate.TooMany =
    (length events ≡ limit) × (byte : ℕ) × (byte ≢ close)
    × (v : Version) × HasAfter v text events (byte ∷ [])
IsDecided limit text events fate.Truncated = ⊥
IsDecided limit text events fate.NoClose = ⊥
IsDecided limit text events fate.ReadFailed = ⊥

-- the text is a header and these events, and nothing more
abbrev pub IsWhole : List ℕ → List Event → Type 0
IsWhole text events = (v : Version) × IsMadeOf v text events []

-- the fate that the text may have where no more of it comes: decided fates are decided by the text,
-- the others are for an open one. Truncated: the input ended inside the header or a record;
-- no-close: right after the header or a record; read-failed: a read failed
abbrev pub MayEnd : ℕ → List ℕ → List Event → Fate → Type 0
MayEnd limit text events fate.Truncated = IsOpen limit text events × (¬ IsWhole text events)
MayEnd limit text events fate.NoClose = IsWhole text events × (length events ≤ limit)
MayEnd limit text events fate.ReadFailed = IsOpen limit text events
MayEnd limit text events fate.Closed = IsDecided limit text events fate.Closed
MayEnd limit text events fate.TooMany = IsDecided limit text events fate.TooMany
MayEnd limit text events (fate.Malformed f) = IsDecided limit text events (fate.Malformed f)

-- the bytes of a header and of the whole good records after it, if there is a header
abbrev pub header_and_records : Option Version → List Event → ℕ
header_and_records None events = 0
header_and_records (Some v) events = 8 + length (spellings v events)

-- the bytes of the header and of the whole good records
abbrev pub offset_of : List ℕ → List Event → ℕ
offset_of text events = header_and_records (version_of text) events

-- the bytes of the close, where it was read
abbrev pub close_length : Fate → ℕ
close_length fate.Closed = 1
close_length _ = 0

-- the text spells these events and this end
pub record Spells (limit : ℕ) (text : List ℕ) (events : List Event) (end : End) : Type 0 where
  pub fate : MayEnd limit text events end.fate
  pub count : end.events ≡ length events
  pub offset : end.offset ≡ offset_of text events + close_length end.fate

-- a fate that a byte of the text decides
abbrev pub IsDecidedFate : Fate → Type 0
IsDecidedFate fate.Closed = Unit {0}
IsDecidedFate (fate.Malformed f) = Unit {0}
IsDecidedFate fate.TooMany = Unit {0}
IsDecidedFate _ = ⊥

-- the text was open up to its last byte, which is the one that decided it
abbrev pub IsDecidedByLast : ℕ → List ℕ → List Event → Type 0
IsDecidedByLast limit text events =
    (before : List ℕ) × (byte : ℕ) × (text ≡ before ++ byte ∷ []) × IsOpen limit before events
