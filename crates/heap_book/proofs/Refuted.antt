-- Wrong answers and wrong books that the definitions refuse, computed at blocks with their numbers
-- written out.
use Rattle.std.proofs.Common.{◌≡◌, ℕ, ◌<◌, ◌≤◌, ap, sym, true, List, [], ◌∷◌, length, arith}
use Rattle.std.specs.Prelude.{◌≢◌}
use Rattle.std.specs.List.{list_any}
use Rattle.std.proofs.lemmas.Bool.{false≢true}
use Rattle.std.proofs.lemmas.List.Sorted.{length_permutation}
use Rattle.heap_book.specs.declared.answers.Admit.TheVariants as admit
use Rattle.heap_book.specs.declared.answers.Freed.TheVariants as freed
use Rattle.heap_book.specs.Spans.{Extent, held_of, starts_at}
use Rattle.heap_book.specs.Blocks.{Blocks, queued_bytes, SameBlocks, ReleasesOldest}
use Rattle.heap_book.specs.Admit.{IsAdmitAnswer, AfterAdmit}
use Rattle.heap_book.specs.Freed.{IsFreeAnswer, AfterFree}

abbrev block : ℕ → ℕ → Extent
block at size = record { at = at; size = size }

abbrev book : List Extent → List Extent → ℕ → Blocks
book live queue bound = record { live = live; queue = queue; bound = bound; room = 4 }

-- two blocks in quarantine, the first of which was freed first, and a bound that has room for one
abbrev two_held : Blocks
two_held = book [] (block 0x1000 8 ∷ block 0x2000 8 ∷ []) 72

-- one live block of 8 bytes
abbrev one_live : Blocks
one_live = book (block 0x1000 8 ∷ []) [] 72

-- the address of the first block of a list
abbrev first_at : List Extent → ℕ
first_at [] = 0
first_at (b ∷ blocks) = b.at

-- ---- mallocs

-- a block is admitted into the span of one in quarantine
admits_into_held_span : ¬ IsAdmitAnswer two_held (block 0x1000 8) (admit.Admitted (block 0x1000 8))
admits_into_held_span says = false≢true says.2

-- beside it, where only its redzone meets that span
admits_into_the_next_redzone :
    ¬ IsAdmitAnswer two_held (block 0x1040 8) (admit.Admitted (block 0x1040 8))
admits_into_the_next_redzone says = false≢true says.2

-- at an address that is no multiple of a granule
admits_anywhere_but_at_granules :
    ¬ IsAdmitAnswer two_held (block 0x3004 8) (admit.Admitted (block 0x3004 8))
admits_anywhere_but_at_granules says = false≢true says.2

-- where its first redzone has no room
admits_at_eight : ¬ IsAdmitAnswer two_held (block 8 8) (admit.Admitted (block 8 8))
admits_at_eight says = false≢true says.2

-- where its span ends past the last address
admits_at_the_end :
    ¬ IsAdmitAnswer two_held (block 0x7fff_ffff_ffc8 32)
    (admit.Admitted (block 0x7fff_ffff_ffc8 32))
admits_at_the_end says = false≢true says.2

-- a block is refused though nothing stands in its way: its span begins where another ends
refuses_spans_that_touch : ¬ IsAdmitAnswer two_held (block 0x1048 8) admit.Refused
refuses_spans_that_touch says = false≢true (sym says.1)

-- the book is left as it was by an admission
admitted_block_is_not_live : ¬ AfterAdmit one_live (admit.Admitted (block 0x2000 8)) one_live
admitted_block_is_not_live after =
    one_is_not_two (length_permutation (block 0x2000 8 ∷ one_live.live) one_live.live after.live)
  where
    one_is_not_two : ◌≡◌ {A = ℕ} 1 2 → ⊥
    one_is_not_two same = absurd cc

-- ---- frees

-- a block that is live is freed as one that is no block's
live_block_is_a_strangers : ¬ IsFreeAnswer one_live 0x1000 freed.Stranger
live_block_is_a_strangers says = false≢true (sym says.1)

-- a free inside a block in quarantine is a double free
free_inside_is_twice : ¬ IsFreeAnswer two_held 0x1008 freed.Twice
free_inside_is_twice says = false≢true says.2

-- the block that was freed last is the first in quarantine
freed_block_is_first_in_queue :
    ¬ AfterFree (book (block 0x3000 8 ∷ []) (block 0x1000 8 ∷ []) 144) (freed.Held (block 0x3000 8))
    (book [] (block 0x3000 8 ∷ block 0x1000 8 ∷ []) 144)
freed_block_is_first_in_queue after = first_differs (ap first_at after.queue)
  where
    first_differs : ◌≡◌ {A = ℕ} 0x3000 0x1000 → ⊥
    first_differs same = absurd (omega arith)

-- memory is said to be missing for a free that takes none
free_of_no_block_runs_out_of_memory :
    ¬ ((0 < 0x3000) × (list_any (starts_at 0x3000) one_live.live ≡ true))
free_of_no_block_runs_out_of_memory says = false≢true says.1

-- and for one whose block has room in quarantine
free_with_room_runs_out_of_memory : ¬ (one_live.room ≤ length one_live.queue)
free_with_room_runs_out_of_memory full = absurd (omega arith)

-- a free that was refused memory has moved its block
refused_free_moves_the_block : ¬ SameBlocks one_live (book [] (block 0x1000 8 ∷ []) 72)
refused_free_moves_the_block same = absurd (let e = same.live in cc)

-- ---- releases

-- the block that was freed last is released first
releases_newest_first : (rest : Blocks) → ¬ ReleasesOldest two_held (block 0x2000 8) rest
releases_newest_first rest released = first_differs (ap first_at released.queue)
  where
    first_differs : ◌≡◌ {A = ℕ} 0x1000 0x2000 → ⊥
    first_differs same = absurd (omega arith)

-- the oldest block leaves, and the others with it
releases_all_at_once : ¬ ReleasesOldest two_held (block 0x1000 8) (book [] [] 72)
releases_all_at_once released = absurd cc

-- no block is released, though the spans in quarantine have more bytes than the bound
keeps_a_block_past_the_bound : ¬ (queued_bytes two_held ≤ two_held.bound)
keeps_a_block_past_the_bound few = absurd (omega arith)

all_are_held_past_the_bound : held_of two_held.bound two_held.queue ≢ two_held.queue
all_are_held_past_the_bound all = first_differs (ap first_at all)
  where
    first_differs : ◌≡◌ {A = ℕ} 0x2000 0x1000 → ⊥
    first_differs same = absurd (omega arith)

-- a block is released though all have room
releases_at_the_bound : ¬ (144 < queued_bytes two_held)
releases_at_the_bound past = absurd (omega arith)
