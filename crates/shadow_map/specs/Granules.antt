-- What each call makes of one granule's shadow byte, in numbers. Two laws and the contracts of
-- private functions cite this.
use Rattle.std.specs.Prelude.{ℕ, ◌+◌, ◌-◌, ◌%◌, ◌==◌, ◌&&◌, nat_lt, nat_le, if◌then◌else◌}
use Rattle.std.specs.Prelude.{min}
use Rattle.asan_units.specs.Units.{granule_size, granule_of, first_byte, granules_in, redzone}
use Rattle.shadow_map.specs.States.{HeapRedzone, code_of}
use Rattle.shadow_map.specs.declared.granule.Change.{Change}
use Rattle.shadow_map.specs.declared.granule.Change.TheVariants.{Poisoned, Unpoisoned}

-- how many bytes of a granule a shadow byte shows as addressable
abbrev pub front_of : ℕ → ℕ
front_of shadow =
    if shadow == 0 then granule_size
    else (if nat_lt shadow granule_size then shadow else 0)

-- the shadow byte after the bytes from one place up to another are poisoned, by the poison's code
abbrev pub poisoned_byte : ℕ → ℕ → ℕ → ℕ → ℕ
poisoned_byte code shadow from to =
    if from == 0 && to == granule_size then code
    else (if nat_le (front_of shadow) to && nat_lt from (front_of shadow) && nat_lt from to
    then (if from == 0 then code else from) else shadow)

-- the shadow byte after the bytes from one place up to another are unpoisoned
abbrev pub unpoisoned_byte : ℕ → ℕ → ℕ → ℕ
unpoisoned_byte shadow from to =
    if nat_lt from to && nat_lt (front_of shadow) to
    then (if to == granule_size then 0 else to) else shadow

-- the shadow byte after such a change of a part
abbrev pub changed_byte : Change → ℕ → ℕ → ℕ → ℕ
changed_byte (Poisoned code) shadow from to = poisoned_byte code shadow from to
changed_byte Unpoisoned shadow from to = unpoisoned_byte shadow from to

-- where in a granule an address lies: 0 before it, and its size past it
abbrev pub place_in : ℕ → ℕ → ℕ
place_in granule address = min granule_size (address - first_byte granule)

-- the same of a region from one address up to another, by the granule's number
abbrev pub changed_in : Change → ℕ → ℕ → ℕ → ℕ → ℕ
changed_in change at end shadow granule =
    changed_byte change shadow (place_in granule at) (place_in granule end)

-- the shadow byte of a granule that lies wholly in the region of a change
abbrev pub inside_byte : Change → ℕ
inside_byte (Poisoned code) = code
inside_byte Unpoisoned = 0

-- the shadow byte of a granule after a block is marked, by its address and size
abbrev pub block_byte : ℕ → ℕ → ℕ → ℕ → ℕ
block_byte at size granule shadow =
    let first = granule_of at
    in let whole = first + granule_of size
    in let end = first + granules_in size
    in let left = granule_of redzone
    in if nat_le (first - left) granule && nat_lt granule (end + left)
    then (if nat_le first granule && nat_lt granule whole then 0
    else (if nat_le whole granule && nat_lt granule end
    then size % granule_size else code_of HeapRedzone))
    else shadow
