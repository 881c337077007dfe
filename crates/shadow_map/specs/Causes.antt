-- The granule that says why an access is bad. That one granule does is this project's choice
-- (profile).
use Rattle.std.specs.Prelude.{ℕ, ◌+◌, Bool, not, if◌then◌else◌}
use Rattle.std.specs.List.{list_all}
use Rattle.asan_units.specs.Units.{granule_of, first_byte}
use Rattle.shadow_map.specs.States.{State, is_addressable, places}

-- whether a granule has no addressable byte
abbrev pub has_none_addressable : (ℕ → State) → ℕ → Bool
has_none_addressable states granule =
    list_all (λ place. not (is_addressable (states (first_byte granule + place)))) places

-- the granule that decides why an access is bad: that of its first byte if none of the granule's
-- bytes is addressable, else the next one
abbrev pub deciding_granule : (ℕ → State) → ℕ → ℕ
deciding_granule states at =
    let granule = granule_of at
    in if has_none_addressable states granule then granule else granule + 1
