-- Shadow bytes in numbers: what a shading makes of one.
use Rattle.std.proofs.Common.{◌≡◌, ℕ, ◌<◌, true, false, arith}
use Rattle.std.proofs.lemmas.Bool.Decides.{nat_tests}
use Rattle.shadow_map.specs.Checks.{is_negative}
use Rattle.shadow_map.specs.Granules.{front_of, poisoned_byte, unpoisoned_byte}
use Rattle.asan_check.specs.Codes.{class_of_code, code_of_kind}
use Rattle.asan_plan.specs.Saying.{as_recorded, is_of_heap, kind_of_byte}

-- poison of the bytes past those that are to be addressable, where all were
pub poison_good : (code here : ℕ) → 0 < front_of here → poisoned_byte code 0 (front_of here) 8 ≡ here
poison_good code here some = grind (arith, nat_tests)

-- and where more were
pub poison_more : (code had here : ℕ) → 0 < front_of here → front_of here < front_of had
    → poisoned_byte code had (front_of here) 8 ≡ here
poison_more code had here some fewer = grind (arith, nat_tests)

-- an unpoison of them, where fewer were
pub unpoison_fewer : (had here : ℕ) → front_of had < front_of here → unpoisoned_byte had 0 (front_of here) ≡ here
unpoison_fewer had here more = grind (arith, nat_tests)

-- as many addressable bytes are the same byte
pub same_front : (had here : ℕ) → 0 < front_of here → front_of had ≡ front_of here → had ≡ here
same_front had here some same = grind (arith, nat_tests)

pub no_poison : (code shadow : ℕ) → poisoned_byte code shadow 0 0 ≡ shadow
no_poison code shadow = grind (arith, nat_tests)

pub no_unpoison : (shadow : ℕ) → unpoisoned_byte shadow 0 0 ≡ shadow
no_unpoison shadow = grind (arith, nat_tests)

-- a granule with addressable first bytes has no class
pub no_class : (next : ℕ) → 0 < front_of next → class_of_code 0 ≡ class_of_code next
no_class next some = grind (arith, nat_tests)

-- the code of the poison that states a byte
pub code_back : (shadow : ℕ) → as_recorded shadow ≡ shadow → is_of_heap shadow ≡ false → front_of shadow ≡ 0
    → code_of_kind (kind_of_byte shadow) ≡ shadow
code_back shadow recorded other none = grind (arith, nat_tests)

-- a granule without an addressable byte has a code
pub is_code : (shadow : ℕ) → as_recorded shadow ≡ shadow → front_of shadow ≡ 0 → is_negative shadow ≡ true
is_code shadow recorded none = grind (arith, nat_tests)

-- a block's byte is a code
pub heap_code : (shadow : ℕ) → is_of_heap shadow ≡ true → is_negative shadow ≡ true
heap_code shadow heap = grind (arith, nat_tests)
