-- Worked values, computed from the definitions.
use Rattle.std.proofs.Common.{◌≡◌, [], ◌∷◌, Some, None, true, false, refl}
use Rattle.shadow_map.specs.States.{Fill, Block, Poison, Unpoison, state_of, lift, least_unaddressable, bad_byte_of}
use Rattle.shadow_map.specs.Checks.{check_reports}

-- a block of 5 bytes at 1000, and its redzones
before_block : lift (state_of (Block 0x1000 5 ∷ [])) 0x1fb ≡ 0
before_block = refl

left_redzone_begins : lift (state_of (Block 0x1000 5 ∷ [])) 0x1fc ≡ 0xfa
left_redzone_begins = refl

left_redzone_ends : lift (state_of (Block 0x1000 5 ∷ [])) 0x1ff ≡ 0xfa
left_redzone_ends = refl

block_in_granule : lift (state_of (Block 0x1000 5 ∷ [])) 0x200 ≡ 5
block_in_granule = refl

right_redzone_begins : lift (state_of (Block 0x1000 5 ∷ [])) 0x201 ≡ 0xfa
right_redzone_begins = refl

right_redzone_ends : lift (state_of (Block 0x1000 5 ∷ [])) 0x204 ≡ 0xfa
right_redzone_ends = refl

past_block : lift (state_of (Block 0x1000 5 ∷ [])) 0x205 ≡ 0
past_block = refl

first_in_block : least_unaddressable (state_of (Block 0x1000 5 ∷ [])) 0x1000 8 ≡ Some 0x1005
first_in_block = refl

none_in_block : least_unaddressable (state_of (Block 0x1000 5 ∷ [])) 0x1000 5 ≡ None
none_in_block = refl

first_in_redzone : least_unaddressable (state_of (Block 0x1000 5 ∷ [])) 0xfd0 64 ≡ Some 0xfe0
first_in_redzone = refl

bad_byte_past_block : bad_byte_of (state_of (Block 0x1000 5 ∷ [])) 0x1006 1 ≡ Some 0x1006
bad_byte_past_block = refl

-- a store of 4 bytes and a load of 8 that begin in the block and end past it
store_past_the_end : bad_byte_of (state_of (Block 0x1000 5 ∷ [])) 0x1004 4 ≡ Some 0x1005
store_past_the_end = refl

wide_load_past_the_end : bad_byte_of (state_of (Block 0x1000 5 ∷ [])) 0x1004 8 ≡ Some 0x1005
wide_load_past_the_end = refl

store_is_reported : check_reports 5 0x1004 4 ≡ true
store_is_reported = refl

-- a store that is bad in the next granule alone is missed
unaligned_access_is_missed : bad_byte_of (state_of (Block 0x1000 8 ∷ [])) 0x1006 4 ≡ None
unaligned_access_is_missed = refl

unaligned_access_is_not_reported : check_reports (lift (state_of (Block 0x1000 8 ∷ [])) 0x200) 0x1006 4 ≡ false
unaligned_access_is_not_reported = refl

-- then one more byte of it unpoisoned, its granule poisoned, and then freed
then_unpoison : lift (state_of (Unpoison 0x1006 1 ∷ Block 0x1000 5 ∷ [])) 0x200 ≡ 7
then_unpoison = refl

then_poison : lift (state_of (Poison 0x1000 8 0xf7 ∷ Unpoison 0x1006 1 ∷ Block 0x1000 5 ∷ [])) 0x200 ≡ 0xf7
then_poison = refl

then_freed : lift (state_of (Fill 0x1000 0x1008 0xfd ∷ Poison 0x1000 8 0xf7 ∷ Unpoison 0x1006 1 ∷ Block 0x1000 5 ∷ []))
    0x200 ≡ 0xfd
then_freed = refl

-- of an addressable granule, poison of bytes 2 to 4 leaves it, then of bytes 2 to 7 gives 2, then unpoison of byte 4
-- gives 5
poison_in_the_middle : lift (state_of (Poison 0x1002 3 0xf7 ∷ [])) 0x200 ≡ 0
poison_in_the_middle = refl

poison_to_the_end : lift (state_of (Poison 0x1002 6 0xf7 ∷ Poison 0x1002 3 0xf7 ∷ [])) 0x200 ≡ 2
poison_to_the_end = refl

unpoison_one_byte : lift (state_of (Unpoison 0x1004 1 ∷ Poison 0x1002 6 0xf7 ∷ Poison 0x1002 3 0xf7 ∷ [])) 0x200 ≡ 5
unpoison_one_byte = refl

-- of a granule whose first 5 bytes are addressable, poison of bytes 0 to 4 gives f7, of 5 to 7 leaves it, of 3 to 5
-- gives 3
poison_all_that_is_left : lift (state_of (Poison 0x1000 5 0xf7 ∷ Block 0x1000 5 ∷ [])) 0x200 ≡ 0xf7
poison_all_that_is_left = refl

poison_past_the_block : lift (state_of (Poison 0x1005 3 0xf7 ∷ Block 0x1000 5 ∷ [])) 0x200 ≡ 5
poison_past_the_block = refl

poison_over_the_end : lift (state_of (Poison 0x1003 3 0xf7 ∷ Block 0x1000 5 ∷ [])) 0x200 ≡ 3
poison_over_the_end = refl

-- a granule with bytes of two states: its first byte decides
two_kinds_in_a_granule : bad_byte_of (state_of (Poison 0x1000 5 0xf7 ∷ Block 0x1000 5 ∷ [])) 0x1006 1 ≡ Some 0x1006
two_kinds_in_a_granule = refl

-- poison of each kind gives the granules that it covers whole its own code, and a later one recodes them
stack_poison : lift (state_of (Poison 0x1000 8 0xf2 ∷ Block 0x1000 8 ∷ [])) 0x200 ≡ 0xf2
stack_poison = refl

then_global_poison : lift (state_of (Poison 0x1000 8 0xf9 ∷ Poison 0x1000 8 0xf2 ∷ Block 0x1000 8 ∷ [])) 0x200 ≡ 0xf9
then_global_poison = refl

then_user_poison : lift (state_of (Poison 0x1000 8 0xf7 ∷ Poison 0x1000 8 0xf9 ∷ [])) 0x200 ≡ 0xf7
then_user_poison = refl

-- one of all that is addressable in a granule does so too, and one of a part that is not leaves its code
stack_poison_of_all_that_is_left : lift (state_of (Poison 0x1000 5 0xf2 ∷ Block 0x1000 5 ∷ [])) 0x200 ≡ 0xf2
stack_poison_of_all_that_is_left = refl

global_poison_of_a_redzone_in_part : lift (state_of (Poison 0x1000 7 0xf9 ∷ Poison 0x1000 8 0xf2 ∷ [])) 0x200 ≡ 0xf2
global_poison_of_a_redzone_in_part = refl

-- one to the end of a granule shows in its front alone
stack_poison_to_the_end : lift (state_of (Poison 0x1004 12 0xf2 ∷ [])) 0x200 ≡ 4
stack_poison_to_the_end = refl

-- the last granule that is marked
last_granule : lift (state_of (Poison 0x7ffffffffffc 4 0xf7 ∷ [])) 0xfffffffffff ≡ 4
last_granule = refl

bad_byte_in_last_granule : bad_byte_of (state_of (Poison 0x7ffffffffffc 4 0xf7 ∷ [])) 0x7ffffffffffe 1
    ≡ Some 0x7ffffffffffe
bad_byte_in_last_granule = refl
