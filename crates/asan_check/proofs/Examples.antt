-- Worked histories, each with the reports that it comes to, computed by the definitions.
use Rattle.std.proofs.Common.{◌≡◌, ℕ, ◌+◌, ◌*◌, ◌/◌, ◌%◌, true, false, [], ◌∷◌, ◌++◌, refl}
use Rattle.std.specs.Prelude.{◌&&◌, nat_le, nat_lt, IsTrue, List}
use Rattle.std.proofs.lemmas.Bool.{and_parts, leb-true, ltb-true}
use Rattle.trace_record.specs.Ranges.{largest_region}
use Rattle.asan_units.specs.Units.{is_width, address_end, largest_quarantine}
use Rattle.trace_record.specs.declared.event.Event.{Event}
use Rattle.trace_record.specs.declared.event.Event.TheVariants as event
use Rattle.trace_record.specs.declared.event.Access.{Access}
use Rattle.trace_record.specs.declared.event.Region.{Region}
use Rattle.trace_record.specs.declared.shade.Kind.{Kind}
use Rattle.trace_record.specs.declared.shade.Kind.TheVariants as kind
use Rattle.trace_record.specs.declared.shade.Shade.{Shade}
use Rattle.trace_record.specs.declared.version.Version.TheVariants as version
use Rattle.trace_record.specs.Kinds.{kind_number}
use Rattle.asan_check.specs.declared.report.Class.TheVariants as class
use Rattle.asan_check.specs.declared.report.Fault.{Fault}
use Rattle.asan_check.specs.declared.report.Fault.TheVariants as fault
use Rattle.asan_check.specs.declared.report.Report.{Report}
use Rattle.asan_check.specs.Verdicts.{verdicts}

-- ---- events, whose ranges compute at written-out numbers

abbrev pub access : (at width : ℕ) → IsTrue (is_width width && nat_le (at + width) address_end) → Access
access at width ok =
    let parts = and_parts (is_width width) (nat_le (at + width) address_end) ok in
    record { at = at; width = width; known_width = parts.0; in_range = leb-true (at + width) address_end parts.1 }

abbrev pub load : (at width : ℕ) → IsTrue (is_width width && nat_le (at + width) address_end) → Event
load at width ok = event.Load (access at width ok)

abbrev pub store : (at width : ℕ) → IsTrue (is_width width && nat_le (at + width) address_end) → Event
store at width ok = event.Store (access at width ok)

-- the most bytes of a region, in the later version
abbrev most : ℕ
most = largest_region version.Two

abbrev region : (at size : ℕ) → IsTrue (nat_le size most && nat_le (at + size) address_end) → Region
region at size ok =
    let parts = and_parts (nat_le size most) (nat_le (at + size) address_end) ok in
    record {
      at = at;
      size = size;
      small = leb-true size most parts.0;
      in_range = leb-true (at + size) address_end parts.1;
    }

abbrev pub malloc : (at size : ℕ) → IsTrue (nat_le size most && nat_le (at + size) address_end) → Event
malloc at size ok = event.Malloc (region at size ok)

abbrev pub unpoison : (at size : ℕ) → IsTrue (nat_le size most && nat_le (at + size) address_end) → Event
unpoison at size ok = event.Unpoison (region at size ok)

-- the number that keeps a size and a kind
abbrev pub packed : Kind → ℕ → ℕ
packed k size = size * 4 + kind_number k

abbrev IsShade : ℕ → ℕ → Type 0
IsShade at number = IsTrue (nat_lt (number % 4) 3 && nat_le (number / 4) most && nat_le (at + number / 4) address_end)

abbrev pub shade : (at number : ℕ) → IsShade at number → Shade
shade at number ok =
    let parts = and_parts (nat_lt (number % 4) 3 && nat_le (number / 4) most) (nat_le (at + number / 4) address_end)
    ok in
    let own = and_parts (nat_lt (number % 4) 3) (nat_le (number / 4) most) parts.0 in
    record {
      at = at;
      size_and_kind = number;
      known_kind = ltb-true (number % 4) 3 own.0;
      small = leb-true (number / 4) most own.1;
      in_range = leb-true (at + number / 4) address_end parts.1;
    }

abbrev pub poison_of : (k : Kind) (at size : ℕ) → IsShade at (packed k size) → Event
poison_of k at size ok = event.Poison (shade at (packed k size) ok)

abbrev pub poison : (at size : ℕ) → IsShade at (packed kind.User size) → Event
poison at size ok = poison_of kind.User at size ok

abbrev pub free : (at : ℕ) → IsTrue (nat_lt at address_end) → Event
free at ok = event.Free record { at = at; in_range = ltb-true at address_end ok }

abbrev pub report : ℕ → Fault → Report
report n f = record { number = n; fault = f }

-- the usual bound on the quarantine
abbrev pub usual : ℕ
usual = 0x1000_0000

-- ---- accesses

-- a store that reaches past the end of a block of 5 bytes
one_byte_past_the_end :
    verdicts usual ((malloc 0x1000 5 refl) ∷ (store 0x1004 4 refl) ∷ [])
    ≡ (report 2 (fault.Access true 4 0x1004 0x1005 class.HeapBufferOverflow 5)) ∷ []
one_byte_past_the_end = refl

-- only the granule of the first byte is looked at
unaligned_access_is_missed :
    verdicts usual ((malloc 0x1000 8 refl) ∷ (store 0x1006 4 refl) ∷ [])
    ≡ []
unaligned_access_is_missed = refl

-- a load of 8 bytes, out of line
wide_load_past_the_end :
    verdicts usual ((malloc 0x1000 5 refl) ∷ (load 0x1004 8 refl) ∷ [])
    ≡ (report 2 (fault.Access false 8 0x1004 0x1005 class.HeapBufferOverflow 5)) ∷ []
wide_load_past_the_end = refl

-- the redzone before a block
below_the_block :
    verdicts usual ((malloc 0x1000 8 refl) ∷ (load 0xfff 1 refl) ∷ (load 0xfdf 1 refl) ∷ [])
    ≡ (report 2 (fault.Access false 1 0xfff 0xfff class.HeapBufferOverflow 0xfa)) ∷ []
below_the_block = refl

-- ---- poison

-- poison of the middle of a granule whose end is addressable changes nothing
poison_in_the_middle :
    verdicts usual ((malloc 0x1000 8 refl) ∷ (poison 0x1002 3 refl) ∷ (load 0x1003 1 refl) ∷ [])
    ≡ []
poison_in_the_middle = refl

-- poison to the end of a granule leaves its front; the class comes from the next granule, a redzone
poison_to_the_end :
    verdicts usual ((malloc 0x1000 8 refl) ∷ (poison 0x1002 6 refl) ∷ (load 0x1003 1 refl) ∷ [])
    ≡ (report 3 (fault.Access false 1 0x1003 0x1003 class.HeapBufferOverflow 2)) ∷ []
poison_to_the_end = refl

-- an unpoison makes the front of a granule addressable
poison_then_unpoison :
    verdicts usual ((poison 0x2000 10 refl) ∷ (load 0x2008 1 refl) ∷ (load 0x2000 1 refl) ∷ (unpoison 0x2000 3 refl)
    ∷ (load 0x2002 1 refl) ∷ (load 0x2003 1 refl) ∷ [])
    ≡ (report 3 (fault.Access false 1 0x2000 0x2000 class.UseAfterPoison 0xf7))
    ∷ (report 6 (fault.Access false 1 0x2003 0x2003 class.UnknownCrash 3)) ∷ []
poison_then_unpoison = refl

-- the first byte of a granule decides its class
two_kinds_in_a_granule :
    verdicts usual ((malloc 0x1000 5 refl) ∷ (poison 0x1000 5 refl) ∷ (load 0x1006 1 refl) ∷ [])
    ≡ (report 3 (fault.Access false 1 0x1006 0x1006 class.UseAfterPoison 0xf7)) ∷ []
two_kinds_in_a_granule = refl

-- redzones of the stack and of globals have classes of their own
stack_and_global_poison :
    verdicts usual ((poison_of kind.Stack 0x2000 16 refl) ∷ (poison_of kind.Global 0x2010 16 refl)
    ∷ (load 0x2008 1 refl) ∷ (store 0x2010 4 refl) ∷ (unpoison 0x2000 32 refl) ∷ (load 0x2000 8 refl) ∷ [])
    ≡ (report 3 (fault.Access false 1 0x2008 0x2008 class.StackBufferOverflow 0xf2))
    ∷ (report 4 (fault.Access true 4 0x2010 0x2010 class.GlobalBufferOverflow 0xf9)) ∷ []
stack_and_global_poison = refl

-- the class of an access that starts before a redzone comes from the next granule
half_a_granule :
    verdicts usual ((poison_of kind.Stack 0x1004 12 refl) ∷ (load 0x1000 8 refl) ∷ [])
    ≡ (report 2 (fault.Access false 8 0x1000 0x1004 class.StackBufferOverflow 4)) ∷ []
half_a_granule = refl

-- a poison of a whole granule recodes it
block_recoded_by_each_kind :
    verdicts usual ((malloc 0x1000 8 refl) ∷ (poison_of kind.Stack 0x1000 8 refl) ∷ (load 0x1004 1 refl)
    ∷ (poison_of kind.Global 0x1000 8 refl) ∷ (store 0x1006 2 refl) ∷ (poison 0x1000 8 refl) ∷ (load 0x1000 8 refl)
    ∷ [])
    ≡ (report 3 (fault.Access false 1 0x1004 0x1004 class.StackBufferOverflow 0xf2))
    ∷ (report 5 (fault.Access true 2 0x1006 0x1006 class.GlobalBufferOverflow 0xf9))
    ∷ (report 7 (fault.Access false 8 0x1000 0x1000 class.UseAfterPoison 0xf7)) ∷ []
block_recoded_by_each_kind = refl

-- the first byte of a granule decides the kind too
first_byte_decides_the_kind :
    verdicts usual ((malloc 0x1000 5 refl) ∷ (poison_of kind.Stack 0x1000 5 refl) ∷ (load 0x1006 1 refl) ∷ [])
    ≡ (report 3 (fault.Access false 1 0x1006 0x1006 class.StackBufferOverflow 0xf2)) ∷ []
first_byte_decides_the_kind = refl

-- past the last granule all is addressable
last_granule :
    verdicts usual ((poison 0x7ffffffffffc 4 refl) ∷ (load 0x7ffffffffffe 1 refl) ∷ [])
    ≡ (report 2 (fault.Access false 1 0x7ffffffffffe 0x7ffffffffffe class.UnknownCrash 4)) ∷ []
last_granule = refl

-- ---- quarantine

-- of two spans of 72 bytes the bound leaves the later
quarantine_releases_the_oldest :
    verdicts 72 ((malloc 0x1000 8 refl) ∷ (malloc 0x2000 8 refl) ∷ (free 0x1000 refl) ∷ (free 0x2000 refl)
    ∷ (load 0x1000 1 refl) ∷ (load 0x2000 1 refl) ∷ [])
    ≡ (report 5 (fault.Access false 1 0x1000 0x1000 class.HeapBufferOverflow 0xfa))
    ∷ (report 6 (fault.Access false 1 0x2000 0x2000 class.HeapUseAfterFree 0xfd)) ∷ []
quarantine_releases_the_oldest = refl

-- a block whose own span is over the bound pushes out the older ones and is released itself
own_span_over_the_bound :
    verdicts 72 ((malloc 0x1000 8 refl) ∷ (malloc 0x2000 16 refl) ∷ (free 0x1000 refl) ∷ (free 0x2000 refl)
    ∷ (load 0x1000 1 refl) ∷ (load 0x2000 1 refl) ∷ [])
    ≡ (report 5 (fault.Access false 1 0x1000 0x1000 class.HeapBufferOverflow 0xfa))
    ∷ (report 6 (fault.Access false 1 0x2000 0x2000 class.HeapBufferOverflow 0xfa)) ∷ []
own_span_over_the_bound = refl

-- a block of 2^32 bytes, whose span is over the usual bound: its own free releases it
four_gigabyte_block_is_released :
    verdicts usual ((malloc 0x100000000 4294967296 refl) ∷ (load 0x1ffffffff 1 refl) ∷ (load 0x200000000 1 refl)
    ∷ (free 0x100000000 refl) ∷ (load 0x180000000 1 refl) ∷ [])
    ≡ (report 3 (fault.Access false 1 0x200000000 0x200000000 class.HeapBufferOverflow 0xfa))
    ∷ (report 5 (fault.Access false 1 0x180000000 0x180000000 class.HeapBufferOverflow 0xfa)) ∷ []
four_gigabyte_block_is_released = refl

-- the same block where the bound is the largest
four_gigabyte_block_is_held :
    verdicts largest_quarantine ((malloc 0x100000000 4294967296 refl) ∷ (load 0x1ffffffff 1 refl)
    ∷ (load 0x200000000 1 refl) ∷ (free 0x100000000 refl) ∷ (load 0x180000000 1 refl) ∷ [])
    ≡ (report 3 (fault.Access false 1 0x200000000 0x200000000 class.HeapBufferOverflow 0xfa))
    ∷ (report 5 (fault.Access false 1 0x180000000 0x180000000 class.HeapUseAfterFree 0xfd)) ∷ []
four_gigabyte_block_is_held = refl

-- a release repaints poison and unpoison that came into the span
release_repaints_the_span :
    verdicts 72 ((malloc 0x1000 8 refl) ∷ (malloc 0x2000 8 refl) ∷ (free 0x1000 refl) ∷ (unpoison 0x1000 8 refl)
    ∷ (load 0x1000 1 refl) ∷ (free 0x2000 refl) ∷ (load 0x1000 1 refl) ∷ [])
    ≡ (report 7 (fault.Access false 1 0x1000 0x1000 class.HeapBufferOverflow 0xfa)) ∷ []
release_repaints_the_span = refl

-- a held block of size 0 has no freed byte
empty_block_while_held :
    verdicts usual ((malloc 0x1000 0 refl) ∷ (free 0x1000 refl) ∷ (load 0x1000 1 refl) ∷ [])
    ≡ (report 3 (fault.Access false 1 0x1000 0x1000 class.HeapBufferOverflow 0xfa)) ∷ []
empty_block_while_held = refl

-- ---- mallocs and frees

-- the spans fe0 to 1028 and fe8 to 1030 meet
malloc_meets_a_held_span :
    verdicts usual ((malloc 0x1000 8 refl) ∷ (free 0x1000 refl) ∷ (malloc 0x1008 8 refl) ∷ [])
    ≡ (report 3 (fault.BadMalloc 0x1008 8)) ∷ []
malloc_meets_a_held_span = refl

-- a span that is not held may be handed out again
malloc_meets_a_released_span :
    verdicts 71 ((malloc 0x1000 8 refl) ∷ (free 0x1000 refl) ∷ (malloc 0x1008 8 refl) ∷ [])
    ≡ []
malloc_meets_a_released_span = refl

-- a span may begin where another ends
spans_may_touch :
    verdicts usual ((malloc 0x1000 8 refl) ∷ (malloc 0x1048 8 refl) ∷ (malloc 0x1090 8 refl) ∷ (malloc 0x10d0 8 refl)
    ∷ [])
    ≡ (report 4 (fault.BadMalloc 0x10d0 8)) ∷ []
spans_may_touch = refl

-- a free of a held block
double_free :
    verdicts usual ((malloc 0x1000 8 refl) ∷ (free 0x1000 refl) ∷ (free 0x1000 refl) ∷ [])
    ≡ (report 3 (fault.DoubleFree 0x1000)) ∷ []
double_free = refl

-- a free of a block that was released
free_after_release :
    verdicts 71 ((malloc 0x1000 8 refl) ∷ (free 0x1000 refl) ∷ (free 0x1000 refl) ∷ [])
    ≡ (report 3 (fault.BadFree 0x1000)) ∷ []
free_after_release = refl

-- a free inside a block is bad; one at address 0 is nothing
free_inside_and_of_null :
    verdicts usual ((malloc 0x1000 8 refl) ∷ (free 0x1004 refl) ∷ (free 0x0 refl) ∷ [])
    ≡ (report 2 (fault.BadFree 0x1004)) ∷ []
free_inside_and_of_null = refl

-- a block of size 0; a malloc at address 0; one without room below; one that is not aligned
empty_null_and_bad_mallocs :
    verdicts usual ((malloc 0x1000 0 refl) ∷ (load 0x1000 1 refl) ∷ (malloc 0x0 16 refl) ∷ (malloc 0x18 8 refl)
    ∷ (malloc 0x3004 8 refl) ∷ [])
    ≡ (report 2 (fault.Access false 1 0x1000 0x1000 class.HeapBufferOverflow 0xfa))
    ∷ (report 4 (fault.BadMalloc 0x18 8)) ∷ (report 5 (fault.BadMalloc 0x3004 8)) ∷ []
empty_null_and_bad_mallocs = refl

-- a block at 32 has its redzone from address 0 on
lowest_block :
    verdicts usual ((malloc 0x20 8 refl) ∷ (load 0x20 8 refl) ∷ (load 0x1f 1 refl) ∷ [])
    ≡ (report 3 (fault.Access false 1 0x1f 0x1f class.HeapBufferOverflow 0xfa)) ∷ []
lowest_block = refl

-- ---- ends of ranges

-- the last 8 bytes below 2^47
last_load :
    verdicts usual ((load 0x7ffffffffff8 8 refl) ∷ [])
    ≡ []
last_load = refl

-- the largest size of version 1, at an address that is not aligned
largest_malloc_unaligned :
    verdicts usual ((malloc 0x1004 268435456 refl) ∷ [])
    ≡ (report 1 (fault.BadMalloc 0x1004 268435456)) ∷ []
largest_malloc_unaligned = refl

-- the largest size of version 2, where no block has room
largest_malloc_past_the_end :
    verdicts usual ((malloc 0x7fff00000000 4294967296 refl) ∷ [])
    ≡ (report 1 (fault.BadMalloc 0x7fff00000000 4294967296)) ∷ []
largest_malloc_past_the_end = refl

-- the last place of a block of that size
last_place_of_the_largest_block :
    verdicts usual ((malloc 0x7ffeffffffe0 4294967296 refl) ∷ (load 0x7fffffffffdf 1 refl)
    ∷ (load 0x7fffffffffe0 1 refl) ∷ [])
    ≡ (report 3 (fault.Access false 1 0x7fffffffffe0 0x7fffffffffe0 class.HeapBufferOverflow 0xfa)) ∷ []
last_place_of_the_largest_block = refl

-- a poison of that size, up to the last address
poison_up_to_the_last_address :
    verdicts usual ((poison_of kind.Global 0x7fff00000000 4294967296 refl) ∷ (load 0x7fffffffffff 1 refl)
    ∷ (load 0x7ffefffffff8 8 refl) ∷ (unpoison 0x7fff00000000 4294967296 refl) ∷ (load 0x7fffffffffff 1 refl) ∷ [])
    ≡ (report 2 (fault.Access false 1 0x7fffffffffff 0x7fffffffffff class.GlobalBufferOverflow 0xf9)) ∷ []
poison_up_to_the_last_address = refl

-- a span that ends at 2^47
last_malloc :
    verdicts usual ((malloc 0x7fffffffffd8 8 refl) ∷ [])
    ≡ []
last_malloc = refl

-- a span that passes 2^47
malloc_past_the_end :
    verdicts usual ((malloc 0x7fffffffffe0 8 refl) ∷ [])
    ≡ (report 1 (fault.BadMalloc 0x7fffffffffe0 8)) ∷ []
malloc_past_the_end = refl

-- a region of size 0 may lie at 2^47, but no block
empty_malloc_at_the_end :
    verdicts usual ((malloc 0x800000000000 0 refl) ∷ (poison 0x800000000000 0 refl) ∷ (unpoison 0x800000000000 0 refl)
    ∷ [])
    ≡ (report 1 (fault.BadMalloc 0x800000000000 0)) ∷ []
empty_malloc_at_the_end = refl

-- ---- an access that is recorded twice

-- a bad store that is recorded once, and then a free of no block
bad_store_once :
    verdicts usual ((malloc 0x1000 5 refl) ∷ (store 0x1004 4 refl) ∷ (free 0x2000 refl) ∷ [])
    ≡ (report 2 (fault.Access true 4 0x1004 0x1005 class.HeapBufferOverflow 5))
    ∷ (report 3 (fault.BadFree 0x2000)) ∷ []
bad_store_once = refl

-- and twice: its fault stands twice, and the free's number is one more
bad_store_twice :
    verdicts usual ((malloc 0x1000 5 refl) ∷ (store 0x1004 4 refl) ∷ (store 0x1004 4 refl) ∷ (free 0x2000 refl)
    ∷ [])
    ≡ (report 2 (fault.Access true 4 0x1004 0x1005 class.HeapBufferOverflow 5))
    ∷ (report 3 (fault.Access true 4 0x1004 0x1005 class.HeapBufferOverflow 5))
    ∷ (report 4 (fault.BadFree 0x2000)) ∷ []
bad_store_twice = refl

-- a good one brings nothing the second time either
good_load_twice :
    verdicts usual ((malloc 0x1000 5 refl) ∷ (load 0x1000 4 refl) ∷ (load 0x1000 4 refl) ∷ [])
    ≡ []
good_load_twice = refl

-- ---- histories that stand the same

-- two blocks, of which the lower was freed first
abbrev lower_freed_first : List Event
lower_freed_first =
    (malloc 0x1000 8 refl) ∷ (malloc 0x2000 8 refl) ∷ (free 0x1000 refl) ∷ (free 0x2000 refl) ∷ []

-- and of which the upper was
abbrev upper_freed_first : List Event
upper_freed_first =
    (malloc 0x1000 8 refl) ∷ (malloc 0x2000 8 refl) ∷ (free 0x2000 refl) ∷ (free 0x1000 refl) ∷ []

-- a third one, whose free releases the oldest, and a load from the lower
abbrev third_block : List Event
third_block = (malloc 0x3000 8 refl) ∷ (free 0x3000 refl) ∷ (load 0x1000 1 refl) ∷ []

lower_is_released :
    verdicts 144 (lower_freed_first ++ third_block)
    ≡ (report 7 (fault.Access false 1 0x1000 0x1000 class.HeapBufferOverflow 0xfa)) ∷ []
lower_is_released = refl

-- the live blocks, the shadow and the held blocks are the same, but the order of the held ones is not, and so the
-- fault is another
upper_is_released :
    verdicts 144 (upper_freed_first ++ third_block)
    ≡ (report 7 (fault.Access false 1 0x1000 0x1000 class.HeapUseAfterFree 0xfd)) ∷ []
upper_is_released = refl

-- a malloc in the span of a held block is bad, so no held block may be left out
held_block_is_left_out :
    verdicts 144 (lower_freed_first ++ (malloc 0x1000 8 refl) ∷ []) ≡ (report 5 (fault.BadMalloc 0x1000 8)) ∷ []
held_block_is_left_out = refl

without_the_held_block : verdicts 144 ((malloc 0x1000 8 refl) ∷ []) ≡ []
without_the_held_block = refl
