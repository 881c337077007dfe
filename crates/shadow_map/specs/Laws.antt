-- What the definitions of states, shadow bytes and bad bytes come to, for every list of marks that
-- calls may make.
use Rattle.std.specs.Prelude.{◌≡◌, ℕ, ◌+◌, ◌<◌, ◌≤◌, ◌↔◌, is_some, IsTrue}
use Rattle.std.specs.Prelude.{MatchOption, List, ◌∷◌}
use Rattle.shadow_map.specs.States.{State, Addressable, IsCode, code_of, Mark, Poison, Unpoison}
use Rattle.shadow_map.specs.States.{AreMarks, state_of, lift, least_unaddressable, bad_byte_of}
use Rattle.shadow_map.specs.Granules.{place_in, poisoned_byte, unpoisoned_byte}
use Rattle.shadow_map.specs.Checks.{is_negative, check_reports}
use Rattle.asan_units.specs.Units.{address_end, granule_size, granule_of, first_byte, is_width}

-- an addressable byte has only addressable bytes before it in its granule
abbrev pub AddressableBytesLead : Type 0
AddressableBytesLead =
    (marks : List Mark) → AreMarks marks → (byte earlier : ℕ) → earlier ≤ byte →
    granule_of earlier ≡ granule_of byte →
    state_of marks byte ≡ Addressable → state_of marks earlier ≡ Addressable

-- the byte at a place of a granule is addressable
abbrev pub IsAddressableAt : (ℕ → State) → ℕ → ℕ → Type 0
IsAddressableAt states granule place = states (first_byte granule + place) ≡ Addressable

-- what the shadow byte of a granule says: 0, that all its bytes are addressable; a number from 1 to
-- 7, that this number of first ones are and no others; and a number that is negative as a signed
-- one, that none is, and the state of the first
pub record Says (states : ℕ → State) (granule : ℕ) : Type 0 where
  pub all : (lift states granule ≡ 0)
      ↔ ((place : ℕ) → place < granule_size → IsAddressableAt states granule place)
  pub some : (count : ℕ) → 0 < count → count < granule_size →
      (lift states granule ≡ count)
      ↔ ((place : ℕ) → place < granule_size →
      IsAddressableAt states granule place ↔ (place < count))
  pub none : IsTrue (is_negative (lift states granule))
      ↔ ((place : ℕ) → place < granule_size → ¬ IsAddressableAt states granule place)
  pub kind : IsTrue (is_negative (lift states granule)) →
      lift states granule ≡ code_of (states (first_byte granule))

abbrev pub ShadowByteOfAGranule : Type 0
ShadowByteOfAGranule =
    (marks : List Mark) → AreMarks marks → (granule : ℕ) → Says (state_of marks) granule

-- a byte is the first one from an address on that is not addressable
pub record IsFirstUnaddressable (states : ℕ → State) (at found : ℕ) : Type 0 where
  pub reached : at ≤ found
  pub unaddressable : ¬ (states found ≡ Addressable)
  pub addressable_before : (byte : ℕ) → at ≤ byte → byte < found → states byte ≡ Addressable

-- of a region, the first byte that is not addressable is the first one from its start on, if that
-- is in the region; there is none if all its bytes are addressable
abbrev pub FirstUnaddressableOfARegion : Type 0
FirstUnaddressableOfARegion =
    (states : ℕ → State) (at size : ℕ) →
    MatchOption (least_unaddressable states at size)
    ((byte : ℕ) → at ≤ byte → byte < at + size → states byte ≡ Addressable)
    (λ found. (found < at + size) × IsFirstUnaddressable states at found)

-- of an access, the bad byte is the first one from its start on that is not addressable, if that is
-- a byte of the access and in the granule of its first byte; there is none if all its bytes in that
-- granule are addressable
abbrev pub BadByteOfAnAccess : Type 0
BadByteOfAnAccess =
    (states : ℕ → State) (at width : ℕ) →
    MatchOption (bad_byte_of states at width)
    ((byte : ℕ) → at ≤ byte → byte < at + width → granule_of byte ≡ granule_of at →
    states byte ≡ Addressable)
    (λ bad. (bad < at + width) × (granule_of bad ≡ granule_of at)
    × IsFirstUnaddressable states at bad)

-- an access has a bad byte exactly where the check by its first byte's shadow byte reports it
abbrev pub ShadowCheckFindsTheBadByte : Type 0
ShadowCheckFindsTheBadByte =
    (marks : List Mark) → AreMarks marks → (at width : ℕ) → IsTrue (is_width width) →
    check_reports (lift (state_of marks) (granule_of at)) at width
    ≡ is_some (bad_byte_of (state_of marks) at width)

-- no mark reaches the end of the memory
abbrev pub AllPastTheEndIsAddressable : Type 0
AllPastTheEndIsAddressable =
    (marks : List Mark) → AreMarks marks → (byte : ℕ) → address_end ≤ byte →
    state_of marks byte ≡ Addressable

-- what a poison makes of a granule's shadow byte, by the poison's code, by the byte before and by
-- the part of the granule that it speaks of
abbrev pub PoisonOfAGranule : Type 0
PoisonOfAGranule =
    (marks : List Mark) → AreMarks marks → (at size code granule : ℕ) → IsCode code →
    at + size ≤ address_end →
    lift (state_of (Poison at size code ∷ marks)) granule
    ≡ poisoned_byte code (lift (state_of marks) granule)
    (place_in granule at) (place_in granule (at + size))

-- the same of an unpoison
abbrev pub UnpoisonOfAGranule : Type 0
UnpoisonOfAGranule =
    (marks : List Mark) → AreMarks marks → (at size granule : ℕ) → at + size ≤ address_end →
    lift (state_of (Unpoison at size ∷ marks)) granule
    ≡ unpoisoned_byte (lift (state_of marks) granule)
    (place_in granule at) (place_in granule (at + size))
