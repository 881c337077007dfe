-- Addresses, granules, redzones, widths and the quarantine's limit: the numbers that every crate
-- shares.
--
-- Granules of 8 bytes and the widths of accesses are those of the paper of 2012. The end of the
-- addresses is that of a process on x86-64. The redzones' size and the quarantine's limit are this
-- project's choice (profile).
use Rattle.std.specs.Prelude.{ℕ, ◌+◌, ◌*◌, ◌/◌, ◌%◌, ◌^◌, ◌≡◌, Bool, ◌==◌, ◌||◌}

-- the first address past those that a process has
abbrev pub address_end : ℕ
address_end = 2 ^ 47

-- how many bytes a granule has
abbrev pub granule_size : ℕ
granule_size = 8

-- how many granules the addresses make up
abbrev pub granule_count : ℕ
granule_count = 2 ^ 44

-- the granule in which a byte lies; granules are counted from address 0
abbrev pub granule_of : ℕ → ℕ
granule_of byte = byte / granule_size

-- the address of a granule's first byte
abbrev pub first_byte : ℕ → ℕ
first_byte granule = granule_size * granule

-- whether an address is that of a granule's first byte
abbrev pub IsGranuleStart : ℕ → Type 0
IsGranuleStart at = at % granule_size ≡ 0

-- how many granules a size takes, where the last may be taken in part
abbrev pub granules_in : ℕ → ℕ
granules_in size = (size + 7) / granule_size

-- a size rounded up to whole granules
abbrev pub round_up : ℕ → ℕ
round_up size = granules_in size * granule_size

-- how many bytes a redzone has
abbrev pub redzone : ℕ
redzone = 32

-- the widths that an access has, in bytes
abbrev pub is_width : ℕ → Bool
is_width width = width == 1 || width == 2 || width == 4 || width == 8

-- the greatest bound of a quarantine: as many bytes of spans it may hold at most
abbrev pub largest_quarantine : ℕ
largest_quarantine = 2 ^ 40
