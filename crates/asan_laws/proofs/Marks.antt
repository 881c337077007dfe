-- The marks of a history are marks that a call may make.
use Rattle.std.proofs.Common.{ℕ, List, [], ◌∷◌, ◌++◌, arith, inl, inr}
use Rattle.std.specs.Prelude.{filter, Contains}
use Rattle.std.proofs.lemmas.Bool.{cases_Bool}
use Rattle.std.proofs.lemmas.List.Elements.{Contains-append_cases}
use Rattle.trace_record.specs.declared.event.Event.{Event}
use Rattle.trace_record.specs.declared.event.Event.TheVariants as event
use Rattle.trace_record.specs.declared.shade.Kind.{Kind}
use Rattle.trace_record.specs.declared.shade.Kind.TheVariants as kind
use Rattle.trace_record.specs.Shades.{shade_kind}
use Rattle.shadow_map.specs.States.{Mark, IsCode, IsMark, AreMarks}
use Rattle.heap_book.specs.Spans.{Extent, IsPlaced, starts_at}
use Rattle.asan_check.specs.Codes.{code_of_kind}
use Rattle.asan_check.specs.History.{block_of, live, held, admits, marks, with_marks, freed_mark, released_mark}
use Rattle.asan_check.specs.History.{released_from}
use Rattle.asan_check.proofs.Members.{in_head, in_tail, from_filtered}
use Rattle.asan_check.proofs.Blocks.{admitted_placed, live_placed}
use Rattle.asan_laws.proofs.Blocks.{held_placed}

-- ---- single marks

pub freed_is_mark : (b : Extent) → IsPlaced b → IsMark (freed_mark b)
freed_is_mark b placed =
    let start = placed.0 in
    let end = placed.2 in
    ((omega arith, omega arith), start, omega arith, omega arith, omega arith)

pub released_is_mark : (b : Extent) → IsPlaced b → IsMark (released_mark b)
released_is_mark b placed =
    let start = placed.0 in
    let above = placed.1 in
    let end = placed.2 in
    ((omega arith, omega arith), omega arith, omega arith, omega arith, end)

pub kind_is_code : (k : Kind) → IsCode (code_of_kind k)
kind_is_code kind.User = (omega arith, omega arith)
kind_is_code kind.Stack = (omega arith, omega arith)
kind_is_code kind.Global = (omega arith, omega arith)

-- a mark for each of the blocks, all of which are placed
pub each_is_mark : (mark : Extent → Mark) (blocks : List Extent) (before : List Mark)
    → ((b : Extent) → IsPlaced b → IsMark (mark b)) → ((b : Extent) → Contains blocks b → IsPlaced b)
    → AreMarks before → AreMarks (with_marks mark blocks before)
each_is_mark mark [] before is placed are = are
each_is_mark mark (b ∷ blocks) before is placed are =
    each_is_mark mark blocks (mark b ∷ before) is (λ c has. placed c (in_tail c b blocks has))
    (is b (placed b (in_head b blocks)), are)

-- ---- those of a history

pub are_marks : (bound : ℕ) (past : List Event) → AreMarks (marks bound past)
are_marks bound [] = tt
are_marks bound (event.Poison s ∷ past) = ((kind_is_code (shade_kind s), s.in_range), are_marks bound past)
are_marks bound (event.Unpoison r ∷ past) = (r.in_range, are_marks bound past)
are_marks bound (event.Malloc r ∷ past) =
    let rest = are_marks bound past in
    elim (cases_Bool (admits bound past (block_of r))) [
      | inl ok ↦ rw ok (admitted_placed (live bound past ++ held bound past) (block_of r) ok, rest)
      | inr refused ↦ rw refused rest
    ]
are_marks bound (event.Free p ∷ past) =
    let freed_now = filter (starts_at p.at) (live bound past) in
    let queued = held bound past ++ freed_now in
    each_is_mark released_mark (released_from queued (held bound (event.Free p ∷ past))) _ released_is_mark
    (λ b has. queued_placed b (from_filtered _ queued b has).0)
    (each_is_mark freed_mark freed_now (marks bound past) freed_is_mark freed_placed (are_marks bound past))
  where
    freed_placed : (b : Extent) → Contains (filter (starts_at p.at) (live bound past)) b → IsPlaced b
    freed_placed b has = live_placed bound past b (from_filtered (starts_at p.at) (live bound past) b has).0

    queued_placed : (b : Extent) → Contains (held bound past ++ filter (starts_at p.at) (live bound past)) b
        → IsPlaced b
    queued_placed b has =
        elim (Contains-append_cases (held bound past) (filter (starts_at p.at) (live bound past)) b has) [
          | inl old ↦ held_placed bound past b old
          | inr now ↦ freed_placed b now
        ]
are_marks bound (e ∷ past) = are_marks bound past
