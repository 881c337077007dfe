-- What a block leaves in the shadow.
use Rattle.std.specs.Prelude.{ℕ, ◌+◌, Bool, ◌&&◌, if◌then◌else◌}
use Rattle.asan_units.specs.Units.{first_byte, round_up}
use Rattle.shadow_map.specs.States.{lies_in}
use Rattle.shadow_map.specs.Granules.{block_byte}

-- the code of freed memory
abbrev pub freed_code : ℕ
freed_code = 0xfd

-- the shadow byte of a granule after a malloc of a block, by its address and size; and if it is
-- held, after the free that followed, which makes the block's granules freed memory
abbrev pub left_byte : ℕ → ℕ → Bool → ℕ → ℕ → ℕ
left_byte at size is_held shadow granule =
    if is_held && lies_in at (at + round_up size) (first_byte granule) then freed_code
    else block_byte at size granule shadow
