-- What a history of events says of blocks and of bytes.
--
-- A history has its newest event first: `e ∷ past` is the event e after the events of past. So what
-- stands before an event is the rest of the list after it. Redzones, the marking of freed memory
-- and the quarantine are those of the paper of 2012; what a release leaves, and when a malloc is
-- admitted, are this project's choice (profile).
use Rattle.std.specs.Prelude.{ℕ, ◌+◌, Bool, false, not, ◌&&◌, ◌||◌, ◌==◌, nat_le, if◌then◌else◌}
use Rattle.std.specs.Prelude.{List, [], ◌∷◌, ◌++◌, length, filter, map}
use Rattle.std.specs.List.{list_any}
use Rattle.trace_record.specs.declared.event.Event.{Event}
use Rattle.trace_record.specs.declared.event.Event.TheVariants as event
use Rattle.trace_record.specs.declared.event.Region.{Region}
use Rattle.trace_record.specs.Shades.{shade_size, shade_kind}
use Rattle.shadow_map.specs.States.{HeapRedzone, code_of, Mark, Fill, Block, Poison, Unpoison}
use Rattle.heap_book.specs.Spans.{Extent, span_from, span_to, may_be_admitted, held_of}
use Rattle.asan_units.specs.Units.{round_up}
use Rattle.heap_book.specs.Spans.{starts_at}
use Rattle.asan_check.specs.Codes.{Freed, code_of_kind}

-- the block that a malloc asks for
abbrev pub block_of : Region → Extent
block_of r = record { at = r.at; size = r.size }

-- a block that was admitted, and the number of its malloc among the events, which count from 1
pub record Admitted : Type 0 where
  pub number : ℕ
  pub block : Extent

-- whether a free at an address stands in the history after the event of this number
abbrev pub is_freed_since : List Event → ℕ → ℕ → Bool
is_freed_since [] at number = false
is_freed_since (event.Free p ∷ past) at number =
    (p.at == at && nat_le number (length past)) || is_freed_since past at number
is_freed_since (e ∷ past) at number = is_freed_since past at number

-- whether no free of an admitted block stands in the history
abbrev pub is_unfreed : List Event → Admitted → Bool
is_unfreed past b = not (is_freed_since past b.block.at b.number)

-- of these admitted blocks, those that no free has followed
abbrev pub live_among : List Event → List Admitted → List Extent
live_among past blocks = map (λ b. b.block) (filter (is_unfreed past) blocks)

-- of these admitted blocks, those that a free has followed, in the order of the first such frees
abbrev pub freed_among : List Event → List Admitted → List Extent
freed_among [] blocks = []
freed_among (event.Free p ∷ past) blocks =
    freed_among past blocks
    ++ map (λ b. b.block) (filter (λ b. b.block.at == p.at && nat_le b.number (length past)
    && is_unfreed past b) blocks)
freed_among (e ∷ past) blocks = freed_among past blocks

-- whether a malloc after the history is admitted, where these blocks were admitted in it: its span
-- meets that of no live and of no held block
abbrev pub admits_among : ℕ → List Event → List Admitted → Extent → Bool
admits_among bound past blocks b =
    may_be_admitted (live_among past blocks ++ held_of bound (freed_among past blocks)) b

-- the blocks that the mallocs of the history were admitted with, oldest first
abbrev pub admitted_blocks : ℕ → List Event → List Admitted
admitted_blocks bound [] = []
admitted_blocks bound (event.Malloc r ∷ past) =
    if admits_among bound past (admitted_blocks bound past) (block_of r)
    then admitted_blocks bound past
    ++ (record { number = length past + 1; block = block_of r }) ∷ []
    else admitted_blocks bound past
admitted_blocks bound (e ∷ past) = admitted_blocks bound past

-- the live blocks: those of admitted mallocs that no free has followed
abbrev pub live : ℕ → List Event → List Extent
live bound past = live_among past (admitted_blocks bound past)

-- the freed blocks: those of admitted mallocs that a free has followed, in the order of the first
-- such frees
abbrev pub freed : ℕ → List Event → List Extent
freed bound past = freed_among past (admitted_blocks bound past)

-- the held blocks, which are in quarantine, oldest free first
abbrev pub held : ℕ → List Event → List Extent
held bound past = held_of bound (freed bound past)

-- whether a malloc of this block after the history is admitted
abbrev pub admits : ℕ → List Event → Extent → Bool
admits bound past b = admits_among bound past (admitted_blocks bound past) b

-- of the blocks of a list, those that are not in another: no block of that starts where they do
abbrev pub released_from : List Extent → List Extent → List Extent
released_from before now = filter (λ b. not (list_any (starts_at b.at) now)) before

-- the mark of a block's free: its bytes, rounded up, are freed memory
abbrev pub freed_mark : Extent → Mark
freed_mark b = Fill b.at (b.at + round_up b.size) (code_of Freed)

-- the mark of a block's release: its whole span is a redzone
abbrev pub released_mark : Extent → Mark
released_mark b = Fill (span_from b) (span_to b) (code_of HeapRedzone)

-- after these marks, a mark for each of the blocks in turn
abbrev pub with_marks : (Extent → Mark) → List Extent → List Mark → List Mark
with_marks mark [] marks = marks
with_marks mark (b ∷ blocks) marks = with_marks mark blocks (mark b ∷ marks)

-- the marks that an event is itself, whatever came before it: a poison and an unpoison are one each
abbrev pub own_marks : Event → List Mark
own_marks (event.Poison s) = Poison s.at (shade_size s) (code_of_kind (shade_kind s)) ∷ []
own_marks (event.Unpoison r) = Unpoison r.at r.size ∷ []
own_marks e = []

-- the marks of a history, the newest first. An admitted malloc lays its block. A free of a live
-- block marks its bytes as freed, and then releases each block that was held before, or that it
-- freed, and that is not held after it, oldest free first. Any other event adds the marks that it
-- is itself.
abbrev pub marks : ℕ → List Event → List Mark
marks bound [] = []
marks bound (event.Malloc r ∷ past) =
    if admits bound past (block_of r) then Block r.at r.size ∷ marks bound past
    else marks bound past
marks bound (event.Free p ∷ past) =
    let freed_now = filter (starts_at p.at) (live bound past)
    in with_marks released_mark
    (released_from (held bound past ++ freed_now) (held bound (event.Free p ∷ past)))
    (with_marks freed_mark freed_now (marks bound past))
marks bound (e ∷ past) = own_marks e ++ marks bound past
