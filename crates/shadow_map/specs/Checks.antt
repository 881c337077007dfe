-- The check of an access, as the paper of 2012 makes it.
use Rattle.std.specs.Prelude.{ℕ, ◌+◌, ◌%◌, Bool, not, ◌&&◌, ◌||◌, ◌==◌, nat_lt, nat_le}
use Rattle.asan_units.specs.Units.{granule_size}

-- whether a shadow byte, read as a signed number, is below zero
abbrev pub is_negative : ℕ → Bool
is_negative shadow = nat_le 0x80 shadow

-- whether the check reports an access, by the shadow byte of the granule of its first byte: an
-- access of 8 bytes where the shadow byte is not 0, a narrower one where it is not 0 and the access
-- reaches past the bytes that it counts
abbrev pub check_reports : ℕ → ℕ → ℕ → Bool
check_reports shadow at width =
    not (shadow == 0)
    && (width == 8 || is_negative shadow || nat_lt shadow (at % granule_size + width))
