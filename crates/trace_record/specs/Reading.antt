-- What can be read of bytes at all: the words of the laws of the format.
use Rattle.std.specs.Prelude.{◌≡◌, ℕ, ◌<◌, List, [], ◌∷◌, length, All}
use Rattle.std.specs.Prelude.{IsTrue, Option, Some, None, Result, Ok, Err}
use Rattle.trace_record.specs.declared.event.Event.{Event}
use Rattle.trace_record.specs.declared.end.Fate.{Fate}
use Rattle.trace_record.specs.declared.end.Flaw.{Flaw}
use Rattle.trace_record.specs.declared.fields.Fields.{Fields}
use Rattle.trace_record.specs.declared.version.Version.{Version}
use Rattle.trace_record.specs.Spelling.{record_length, spelling, spells_in}
use Rattle.trace_record.specs.Stream.{BeginsWith, IsFlawedRecord, IsOpen, IsDecided}

-- numbers that a byte can be
abbrev pub AreBytes : List ℕ → Type 0
AreBytes text = All (λ byte. byte < 256) text

-- a whole record of a version: it begins with a record's code and has as many bytes as that record
abbrev pub IsWholeRecord : Version → List ℕ → Type 0
IsWholeRecord v [] = ⊥
IsWholeRecord v (code ∷ more) =
    AreBytes (code ∷ more) × (length (code ∷ more) ≡ record_length v code)

-- what a whole record of a version says: the event that it spells, or its first flaw
abbrev pub Says : Version → List ℕ → Result Event Flaw → Type 0
Says v part (Ok event) = IsTrue (spells_in v event) × (part ≡ spelling v event)
Says v part (Err f) = (x : Fields) × IsFlawedRecord v part f x

-- the bytes begin with no whole good record of a version
abbrev pub HasNoRecord : Version → List ℕ → Type 0
HasNoRecord v bytes =
    (event : Event) → IsTrue (spells_in v event) → ¬ BeginsWith (spelling v event) bytes

-- a reading of a text: it is open and holds these events, or is decided with these events and this
-- fate
abbrev pub Reads : ℕ → List ℕ → List Event → Option Fate → Type 0
Reads limit text events None = IsOpen limit text events
Reads limit text events (Some fate) = IsDecided limit text events fate
