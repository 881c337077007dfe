-- Bad bytes and shadow bytes that the definitions refuse.
-- Each lemma is named for what would have gone wrong.
use Rattle.std.proofs.Common.{◌≡◌, ℕ, List, [], ◌∷◌, Some, None, Option, ap, arith}
use Rattle.std.specs.Prelude.{◌≢◌}
use Rattle.shadow_map.specs.States.{Mark, Block, Poison, Unpoison, state_of, lift, least_unaddressable, bad_byte_of}

-- a block of 5 bytes at 1000, which leaves 3 bytes of its granule, and one of 8 bytes
abbrev five : List Mark
five = Block 0x1000 5 ∷ []

abbrev eight : List Mark
eight = Block 0x1000 8 ∷ []

-- ---- accesses

-- an access is bad wherever its granule's shadow byte is not 0
any_shadow_is_bad : bad_byte_of (state_of five) 0x1000 4 ≢ Some 0x1000
any_shadow_is_bad same = absurd cc

-- an access is checked in the granule after its first one too
checks_next_granule_too : bad_byte_of (state_of eight) 0x1006 4 ≢ Some 0x1008
checks_next_granule_too same = absurd cc

-- the last byte of an access is not checked
last_byte_of_access_is_missed : bad_byte_of (state_of five) 0x1002 4 ≢ None
last_byte_of_access_is_missed same = absurd cc

-- a search goes on at the same place of the next granule, and misses its front
search_skips_front_of_next_granule :
    least_unaddressable (state_of (Poison 0x1008 8 0xf7 ∷ [])) 0x1004 16 ≢ Some 0x100c
search_skips_front_of_next_granule same =
    let other : ◌≡◌ {A = ℕ} 0x1008 0x100c = ap (λ found. get_or_zero found) same
    in absurd (omega arith)
  where
    get_or_zero : Option ℕ → ℕ
    get_or_zero None = 0
    get_or_zero (Some at) = at

-- ---- poison

-- a poison of a granule's middle poisons the whole granule
poison_takes_whole_granule : lift (state_of (Poison 0x1002 3 0xf7 ∷ eight)) 0x200 ≢ 0xf7
poison_takes_whole_granule same = absurd (omega arith)

-- a region's end one byte into a granule leaves that granule as it was
edge_one_byte_into_a_granule_is_left :
    lift (state_of (Unpoison 0x1000 9 ∷ Poison 0x1000 16 0xf7 ∷ [])) 0x201 ≢ 0xf7
edge_one_byte_into_a_granule_is_left same = absurd (omega arith)

-- the last granule of a region stays as it was
last_granule_of_region_stays : lift (state_of (Poison 0x1000 16 0xf7 ∷ [])) 0x201 ≢ 0
last_granule_of_region_stays same = absurd (omega arith)

-- an unpoison makes a granule's front shorter
unpoison_shortens_a_granule : lift (state_of (Unpoison 0x1000 2 ∷ five)) 0x200 ≢ 2
unpoison_shortens_a_granule same = absurd (omega arith)

-- poison of a stack redzone is that of the user's
stack_redzone_as_user_poison : lift (state_of (Poison 0x1000 8 0xf2 ∷ [])) 0x200 ≢ 0xf7
stack_redzone_as_user_poison same = absurd (omega arith)

-- poison of another kind leaves a granule its code, though it covers it whole
poison_keeps_other_kinds :
    lift (state_of (Poison 0x1000 8 0xf7 ∷ Poison 0x1000 8 0xf2 ∷ [])) 0x200 ≢ 0xf2
poison_keeps_other_kinds same = absurd (omega arith)

-- poison of a part of a granule that has no addressable byte recodes it
poison_of_a_part_recodes :
    lift (state_of (Poison 0x1000 7 0xf7 ∷ Poison 0x1000 8 0xf2 ∷ [])) 0x200 ≢ 0xf7
poison_of_a_part_recodes same = absurd (omega arith)

-- ---- blocks

-- what a block leaves of its last granule is addressable
block_takes_whole_last_granule : lift (state_of five) 0x200 ≢ 0
block_takes_whole_last_granule same = absurd (omega arith)

-- memory that no mark speaks of is poisoned
unmarked_memory_is_poisoned : lift (state_of five) 0x300 ≢ 0xfa
unmarked_memory_is_poisoned same = absurd (omega arith)
