-- How events are spelled in bytes, and what a whole record says (the record layout is this
-- project's choice, profile). The versions differ in the header, in the record of a poison, which
-- has a kind from version 2 on, and in that of a history that begins anew, which version 3 alone
-- has.
use Rattle.std.specs.Prelude.{◌≡◌, ℕ, ◌^◌, ◌<◌, nat_le, ◌==◌, ◌||◌, ◌&&◌, if◌then◌else◌}
use Rattle.std.specs.Prelude.{Bool, true, false, IsTrue}
use Rattle.std.specs.Prelude.{List, [], ◌∷◌, ◌++◌, length, All, Option, None}
use Rattle.std.specs.List.{flat_map}
use Rattle.std.specs.Int.{w64, to_le_bytes}
use Rattle.trace_record.specs.declared.event.Event.{Event}
use Rattle.trace_record.specs.declared.event.Event.TheVariants as event
use Rattle.trace_record.specs.declared.end.Flaw.{Flaw}
use Rattle.trace_record.specs.declared.fields.Fields.{Fields}
use Rattle.trace_record.specs.declared.fields.Numbers.{Numbers}
use Rattle.trace_record.specs.declared.fields.Numbers.TheVariants as numbers
use Rattle.trace_record.specs.declared.shade.Kind.{Kind}
use Rattle.trace_record.specs.declared.shade.Kind.TheVariants as kind
use Rattle.trace_record.specs.declared.shade.Shade.{Shade}
use Rattle.trace_record.specs.declared.version.Version.{Version}
use Rattle.trace_record.specs.declared.version.Version.TheVariants as version
use Rattle.trace_record.specs.Flaws.{access_flaw, region_flaw, shade_flaw, place_flaw}
use Rattle.trace_record.specs.Kinds.{kind_number}
use Rattle.trace_record.specs.Ranges.{largest_region}
use Rattle.trace_record.specs.Shades.{shade_size, shade_kind}

-- the number of a version
abbrev pub version_number : Version → ℕ
version_number version.One = 1
version_number version.Two = 2
version_number version.Three = 3

-- the eight bytes that a stream of a version begins with: ASTR, and the version as a number of four
-- bytes
abbrev pub header : Version → List ℕ
header v = 0x41 ∷ 0x53 ∷ 0x54 ∷ 0x52 ∷ version_number v ∷ 0 ∷ 0 ∷ 0 ∷ []

-- the one byte that closes a stream
abbrev pub close : ℕ
close = 7

-- the bytes of a record: its code, and then its numbers, the lowest byte of each number first
abbrev pub record_bytes : ℕ → Numbers → List ℕ
record_bytes code (numbers.Access width at) = code ∷ width ∷ to_le_bytes w64 at
record_bytes code (numbers.Region at size) = code ∷ to_le_bytes w64 at ++ to_le_bytes w64 size
record_bytes code (numbers.Shade kind at size) =
    code ∷ kind ∷ to_le_bytes w64 at ++ to_le_bytes w64 size
record_bytes code (numbers.Place at) = code ∷ to_le_bytes w64 at
record_bytes code numbers.Absent = code ∷ []

-- each number fits in its bytes
abbrev pub FitBytes : Numbers → Type 0
FitBytes (numbers.Access width at) = (width < 2 ^ 8) × (at < 2 ^ 64)
FitBytes (numbers.Region at size) = (at < 2 ^ 64) × (size < 2 ^ 64)
FitBytes (numbers.Shade kind at size) = (kind < 2 ^ 8) × (at < 2 ^ 64) × (size < 2 ^ 64)
FitBytes (numbers.Place at) = at < 2 ^ 64
FitBytes numbers.Absent = Unit {0}

-- the first flaw that a record's numbers have in a version, if they have one
abbrev pub flaw_of : Version → Numbers → Option Flaw
flaw_of v (numbers.Access width at) = access_flaw at width
flaw_of v (numbers.Region at size) = region_flaw v at size
flaw_of v (numbers.Shade kind at size) = shade_flaw v at size kind
flaw_of v (numbers.Place at) = place_flaw at
flaw_of v numbers.Absent = None

-- how many bytes the record of a poison has
abbrev pub poison_length : Version → ℕ
poison_length version.One = 17
poison_length version.Two = 18
poison_length version.Three = 18

-- how many bytes the record of a history that begins anew has, or 0 in a version without it
abbrev pub anew_length : Version → ℕ
anew_length version.One = 0
anew_length version.Two = 0
anew_length version.Three = 1

-- how many bytes a record of a code has in all, or 0 where no record has this code
abbrev pub record_length : Version → ℕ → ℕ
record_length v code =
    if code == 1 || code == 2 then 10
    else (if code == 3 || code == 6 then 17
    else (if code == 4 then 9
    else (if code == 5 then poison_length v
    else (if code == 8 then anew_length v else 0))))

-- the numbers of a poison
abbrev pub poison_numbers : Version → Shade → Numbers
poison_numbers version.One s = numbers.Region s.at (shade_size s)
poison_numbers version.Two s = numbers.Shade (kind_number (shade_kind s)) s.at (shade_size s)
poison_numbers version.Three s = numbers.Shade (kind_number (shade_kind s)) s.at (shade_size s)

-- the code and the numbers of an event
abbrev pub fields_of : Version → Event → Fields
fields_of v (event.Load a) = record { code = 1; numbers = numbers.Access a.width a.at }
fields_of v (event.Store a) = record { code = 2; numbers = numbers.Access a.width a.at }
fields_of v (event.Malloc r) = record { code = 3; numbers = numbers.Region r.at r.size }
fields_of v (event.Free p) = record { code = 4; numbers = numbers.Place p.at }
fields_of v (event.Poison s) = record { code = 5; numbers = poison_numbers v s }
fields_of v (event.Unpoison r) = record { code = 6; numbers = numbers.Region r.at r.size }
fields_of v event.Anew = record { code = 8; numbers = numbers.Absent }

-- the bytes of a record with these fields
abbrev pub bytes_of : Fields → List ℕ
bytes_of x = record_bytes x.code x.numbers

-- these can be the fields of a record of a version: it has as many bytes as its code says, which
-- also says which numbers these are, and each number fits in its bytes
abbrev pub Fit : Version → Fields → Type 0
Fit v x = (length (bytes_of x) ≡ record_length v x.code) × FitBytes x.numbers

-- whether a version has poison of a kind: version 1 has none but a user's
abbrev pub has_kind : Version → Kind → Bool
has_kind version.One kind.User = true
has_kind version.One kind.Stack = false
has_kind version.One kind.Global = false
has_kind version.Two k = true
has_kind version.Three k = true

-- whether a version has the record of a history that begins anew
abbrev pub has_anew : Version → Bool
has_anew version.One = false
has_anew version.Two = false
has_anew version.Three = true

-- whether an event can be spelled in a version: the version has its record and its kind of poison,
-- and no region is too large for it
abbrev pub spells_in : Version → Event → Bool
spells_in v (event.Load a) = true
spells_in v (event.Store a) = true
spells_in v (event.Malloc r) = nat_le r.size (largest_region v)
spells_in v (event.Free p) = true
spells_in v (event.Poison s) =
    has_kind v (shade_kind s) && nat_le (shade_size s) (largest_region v)
spells_in v (event.Unpoison r) = nat_le r.size (largest_region v)
spells_in v event.Anew = has_anew v

-- all of these events can be spelled in a version
abbrev pub AllSpellIn : Version → List Event → Type 0
AllSpellIn v events = All (λ e. IsTrue (spells_in v e)) events

-- how an event is spelled in a version that it spells in
abbrev pub spelling : Version → Event → List ℕ
spelling v e = bytes_of (fields_of v e)

-- how events are spelled one after another
abbrev pub spellings : Version → List Event → List ℕ
spellings v es = flat_map (spelling v) es
