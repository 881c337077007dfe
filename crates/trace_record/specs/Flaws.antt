-- The first flaw of the numbers of a record, in the order width, kind, size, range (profile).
use Rattle.std.specs.Prelude.{ℕ, ◌+◌, nat_lt, nat_le, if◌then◌else◌, Option, Some, None}
use Rattle.trace_record.specs.declared.end.Flaw.{Flaw}
use Rattle.trace_record.specs.declared.end.Flaw.TheVariants as flaw
use Rattle.trace_record.specs.declared.version.Version.{Version}
use Rattle.trace_record.specs.Kinds.{largest_kind}
use Rattle.trace_record.specs.Ranges.{largest_region}
use Rattle.asan_units.specs.Units.{is_width, address_end}

-- of an access: its width is none that an access has, or it reaches past the last address
abbrev pub access_flaw : ℕ → ℕ → Option Flaw
access_flaw at width =
    if is_width width then (if nat_le (at + width) address_end then None else Some flaw.Range)
    else Some flaw.Width

-- of a region: it is too large for the version, or it reaches past the last address
abbrev pub region_flaw : Version → ℕ → ℕ → Option Flaw
region_flaw v at size =
    if nat_le size (largest_region v)
    then (if nat_le (at + size) address_end then None else Some flaw.Range)
    else Some flaw.Size

-- of a poison whose record has a kind: its number is that of no kind, or it has a region's flaw
abbrev pub shade_flaw : Version → ℕ → ℕ → ℕ → Option Flaw
shade_flaw v at size kind =
    if nat_le kind largest_kind then region_flaw v at size else Some flaw.Kind

-- of a place to be freed: it lies past the last address
abbrev pub place_flaw : ℕ → Option Flaw
place_flaw at = if nat_lt at address_end then None else Some flaw.Range
