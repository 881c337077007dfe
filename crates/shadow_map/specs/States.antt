-- What each byte of memory is after a list of marks, the newest first, and what its shadow says.
--
-- The shadow byte of a granule is that of the paper of 2012. The code of a redzone, and what poison
-- and unpoison do to a granule that they cover in part, are this project's choice (profile). What
-- the other codes stand for is the choice of who gives them.
use Rattle.std.specs.Prelude.{ℕ, zero, suc, ◌+◌, ◌-◌, ◌%◌, ◌<◌, ◌≤◌, min, Bool, true}
use Rattle.std.specs.Prelude.{false, not, ◌&&◌, ◌||◌, ◌==◌, nat_lt, nat_le, if◌then◌else◌, List, []}
use Rattle.std.specs.Prelude.{◌∷◌, Option, Some, None, unwrap_or}
use Rattle.std.specs.List.{list_all}
use Rattle.asan_units.specs.Units.{address_end, granule_size, granule_of, first_byte}
use Rattle.asan_units.specs.Units.{IsGranuleStart, round_up, redzone}

-- what a byte is: addressable, or not, with a code that says why
pub data State : Type 0 where
  Addressable : State
  Coded : ℕ → State

abbrev pub is_addressable : State → Bool
is_addressable Addressable = true
is_addressable (Coded code) = false

-- a code: a byte that is negative as a signed number
abbrev pub IsCode : ℕ → Type 0
IsCode code = (0x80 ≤ code) × (code < 0x100)

-- the shadow byte of a granule all of whose bytes have this state
abbrev pub code_of : State → ℕ
code_of Addressable = 0
code_of (Coded code) = code

-- the redzones that a block is laid between
abbrev pub HeapRedzone : State
HeapRedzone = Coded 0xfa

-- what a call does to memory: it fills whole granules, from an address up to another, with a code;
-- it lays a block, by its address and size, between its redzones; it poisons a region, by its
-- address and size, with a code, or unpoisons it
pub data Mark : Type 0 where
  Fill : ℕ → ℕ → ℕ → Mark
  Block : ℕ → ℕ → Mark
  Poison : ℕ → ℕ → ℕ → Mark
  Unpoison : ℕ → ℕ → Mark

-- whether a byte lies from an address up to another, which is not in the range
abbrev pub lies_in : ℕ → ℕ → ℕ → Bool
lies_in from to byte = nat_le from byte && nat_lt byte to

-- the places of the bytes in their granule
abbrev pub places : List ℕ
places = 0 ∷ 1 ∷ 2 ∷ 3 ∷ 4 ∷ 5 ∷ 6 ∷ 7 ∷ []

-- whether the granule of a byte lies wholly in a range
abbrev pub granule_lies_in : ℕ → ℕ → ℕ → Bool
granule_lies_in from to byte =
    nat_le from (first_byte (granule_of byte))
    && nat_le (first_byte (granule_of byte) + granule_size) to

-- whether no byte of a granule, from an address on, is addressable
abbrev pub none_addressable_from : (ℕ → State) → ℕ → ℕ → Bool
none_addressable_from before from granule =
    list_all (λ place. nat_lt (first_byte granule + place) from
    || not (is_addressable (before (first_byte granule + place)))) places

-- the state that a mark gives to a byte, if it covers it, where the states before the mark were
-- these.
-- A fill covers its range. A block covers its span: the block's bytes are addressable, the others a
-- redzone.
-- Poison gives its code to a byte whose granule lies wholly in its region; to any other byte of
-- the region only where it is addressable and no byte of its granule at the region's end or past it
-- is.
-- Unpoison covers a byte where it or a later byte of its granule lies in the region.
abbrev pub state_given : (ℕ → State) → Mark → ℕ → Option State
state_given before (Fill from to code) byte =
    if lies_in from to byte then Some (Coded code) else None
state_given before (Block at size) byte =
    if lies_in (at - redzone) (at + round_up size + redzone) byte
    then Some (if lies_in at (at + size) byte then Addressable else HeapRedzone)
    else None
state_given before (Poison at size code) byte =
    if granule_lies_in at (at + size) byte then Some (Coded code)
    else (if lies_in at (at + size) byte && is_addressable (before byte)
    && none_addressable_from before (at + size) (granule_of byte)
    then Some (Coded code)
    else None)
state_given before (Unpoison at size) byte =
    if nat_lt 0 size && nat_lt byte (at + size)
    && nat_lt at (first_byte (granule_of byte) + granule_size)
    then Some Addressable else None

-- the state of a byte: what the last mark that covers it gives to it, and addressable if none does
abbrev pub state_of : List Mark → ℕ → State
state_of [] byte = Addressable
state_of (mark ∷ marks) byte =
    unwrap_or (state_given (state_of marks) mark byte) (state_of marks byte)

-- of a number of bytes from a byte on, how many are addressable before one is not
abbrev pub addressable_front : (ℕ → State) → ℕ → ℕ → ℕ
addressable_front states byte zero = 0
addressable_front states byte (suc count) =
    if is_addressable (states byte) then suc (addressable_front states (byte + 1) count) else 0

-- the shadow byte of a granule, by the number of its addressable first bytes and by the state of
-- its first byte
abbrev pub shadow_byte : ℕ → State → ℕ
shadow_byte front first =
    if front == granule_size then 0 else (if front == 0 then code_of first else front)

-- the shadow byte of a granule: 0 where all its bytes are addressable, the number of its
-- addressable bytes where its first ones are, and else the code of its first byte
abbrev pub lift : (ℕ → State) → ℕ → ℕ
lift states granule =
    shadow_byte (addressable_front states (first_byte granule) granule_size)
    (states (first_byte granule))

-- of a number of bytes from a byte on, the first that is not addressable
abbrev pub least_unaddressable : (ℕ → State) → ℕ → ℕ → Option ℕ
least_unaddressable states byte zero = None
least_unaddressable states byte (suc count) =
    if is_addressable (states byte) then least_unaddressable states (byte + 1) count else Some byte

-- the bad byte of an access: the least of its bytes in the granule of its first byte that is not
-- addressable
abbrev pub bad_byte_of : (ℕ → State) → ℕ → ℕ → Option ℕ
bad_byte_of states at width =
    least_unaddressable states at (min width (granule_size - at % granule_size))

-- a mark that a call may make: by a code where it has one, of whole granules where it says so, and
-- none past the last address
abbrev pub IsMark : Mark → Type 0
IsMark (Fill from to code) =
    IsCode code × IsGranuleStart from × IsGranuleStart to × (from ≤ to) × (to ≤ address_end)
IsMark (Block at size) =
    IsGranuleStart at × (redzone ≤ at) × (at + round_up size + redzone ≤ address_end)
IsMark (Poison at size code) = IsCode code × (at + size ≤ address_end)
IsMark (Unpoison at size) = at + size ≤ address_end

abbrev pub AreMarks : List Mark → Type 0
AreMarks [] = Unit {0}
AreMarks (mark ∷ marks) = IsMark mark × AreMarks marks
