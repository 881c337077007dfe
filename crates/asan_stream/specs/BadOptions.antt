-- Which option is out of its range.
use Rattle.std.specs.Prelude.{ℕ, Bool, true, ◌&&◌, not, nat_le, if◌then◌else◌, Option, Some, None}
use Rattle.asan_stream.specs.declared.options.BadOption.{BadOption}
use Rattle.asan_stream.specs.declared.options.BadOption.TheVariants as bad
use Rattle.asan_units.specs.Units.{largest_quarantine}
use Rattle.asan_stream.specs.Ranges.{most_ring, most_workers, most_events}
use Rattle.asan_stream.specs.Ranges.{least_memory, most_memory}

abbrev pub is_from_1_to : ℕ → ℕ → Bool
is_from_1_to most n = nat_le 1 n && nat_le n most

-- the first of the options that is out of its range
abbrev pub bad_option_of : ℕ → ℕ → ℕ → ℕ → Option BadOption
bad_option_of quarantine ring workers limit =
    if not (nat_le quarantine largest_quarantine) then Some bad.Quarantine
    else (if not (is_from_1_to most_ring ring) then Some bad.Ring
    else (if not (is_from_1_to most_workers workers) then Some bad.Workers
    else (if not (is_from_1_to most_events limit) then Some bad.Limit
    else None)))

-- whether the memory of a sender's checker may have this bound
abbrev pub is_memory_bound : ℕ → Bool
is_memory_bound bytes = nat_le least_memory bytes && nat_le bytes most_memory

-- whether there is no bound on it, or such a one
abbrev pub is_in_range : Option ℕ → Bool
is_in_range None = true
is_in_range (Some bytes) = is_memory_bound bytes
