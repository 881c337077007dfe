use Rattle.std.proofs.Common.{◌≡◌, ◌≤◌, ◌+◌, ◌^◌, true, false, [], ◌∷◌, ◌++◌, Some, refl, sym, ◌∙◌, arith}
use Rattle.std.specs.Prelude.{sum_by}
use Rattle.std.specs.List.{list_any}
use Rattle.std.proofs.lemmas.Bool.{not-true, not-false}
use Rattle.std.proofs.lemmas.List.Sums.{sum_by_push}
use Rattle.std.proofs.lemmas.List.Sorted.{IsPermutation-sym, list_any-IsPermutation}
use Rattle.std.proofs.lemmas.Result.{err_from_is_err_and}
use Rattle.line_map.specs.declared.tag.Slot.{Slot}
use Rattle.heap_book.specs.Spans.{Extent, span_bytes, starts_at}
use Rattle.heap_book.specs.Slots.{freed_of, live_of}
use Rattle.line_map.specs.Maps.{slot_at}
use Rattle.heap_book.proofs.Following.{block_in, found, follow-set}
use Rattle.heap_book.proofs.Entries.{Contains-live, freed-starts, freed_of-push, freed_of-set, live-starts}
use Rattle.heap_book.proofs.Entries.{live-starts-none, live_of-others, live_of-set, none-starts, total-with-live}
use Rattle.heap_book.proofs.book.Book.free.Goals as goal

-- ---- nothing is found
pub returns-in_default-clause-answer : goal.returns-in_default-clause-answer
returns-in_default-clause-answer g c =
    let none = none-starts c.args.at c.self.inside.blocks c.self.inside.queue.items (sym c.in_default.ensures)
    c.self.invariant.freed in
    rw (← c.self.view_is) (omega arith, none.0, none.1)

-- ---- a freed block is found
pub returns-then-not-slot-clause-answer : goal.returns-then-not-slot-clause-answer
returns-then-not-slot-clause-answer g c =
    let s : Slot = c.in-Some.slot in
    let es = c.self.inside.blocks in
    let is : slot_at es c.args.at ≡ Some s = sym c.in-Some.ensures in
    let queued : list_any (starts_at c.args.at) c.self.inside.queue.items ≡ true =
    sym (list_any-IsPermutation (starts_at c.args.at) (freed_of es) c.self.inside.queue.items c.self.invariant.freed)
    ∙ freed-starts c.args.at s es is (not-true c.in-Some.slot.live c.if-not-slot.true) in
    rw (← c.self.view_is) (
      omega arith,
      live-starts-none c.args.at 0 s es is
          (not-true c.in-Some.slot.live c.if-not-slot.true) c.self.invariant.apart,
      queued,
    )

-- ---- a live block is found
pub from_parts-block-requires : goal.from_parts-block-requires
from_parts-block-requires g c =
    (found 0 c.args.at c.in-Some.slot c.self.inside.blocks (sym c.in-Some.ensures) c.self.invariant.apart).0

-- the queue doesn't grow
pub returns-in_err-push_back-clause-no_memory : goal.returns-in_err-push_back-clause-no_memory
returns-in_err-push_back-clause-no_memory g c =
    let error = err_from_is_err_and c.from_residual.result c.from_residual.ensures.1 in
    rw (error.1, ← c.self.view_is) (
      omega arith,
      live-starts c.args.at c.in-Some.slot c.self.inside.blocks (sym c.in-Some.ensures)
          (not-false c.in-Some.slot.live c.if-not-slot.false),
    )

-- the queue grows
pub set-requires : goal.set-requires
set-requires g c = rw (← c.in-Some.ensures) refl

pub overflow_add-self : goal.overflow_add-self
overflow_add-self g c =
    let s : Slot = c.in-Some.slot in
    let block : c.from_parts-block.result ≡ block_in c.args.at s = c.from_parts-block.ensures in
    let most : sum_by span_bytes c.self.inside.queue.items + span_bytes (block_in c.args.at s) ≤ 2 ^ 47 =
    total-with-live c.args.at s c.self.inside.blocks c.self.inside.queue.items (sym c.in-Some.ensures)
    (not-false c.in-Some.slot.live c.if-not-slot.false) c.self.invariant.apart c.self.invariant.freed in
    let to = rw block at c.to.ensures.to in
    let from = rw block at c.from.ensures.from in
    let total = c.self.invariant.total in
    omega arith

pub invariant_of-self-2 : goal.invariant_of-self-2
invariant_of-self-2 g c =
    let s : Slot = c.in-Some.slot in
    let t : Slot = record { size = s.size; live = false } in
    let b : Extent = block_in c.args.at s in
    let es = c.self.inside.blocks in
    let queue = c.self.inside.queue.items in
    let is : slot_at es c.args.at ≡ Some s = sym c.in-Some.ensures in
    let block : c.from_parts-block.result ≡ b = c.from_parts-block.ensures in
    let to = rw block at c.to.ensures.to in
    let from = rw block at c.from.ensures.from in
    let placed = rw block at c.from.ensures.placed in
    let total = c.self.invariant.total in
    let more : sum_by span_bytes (queue ++ b ∷ []) ≡ sum_by span_bytes queue + span_bytes b =
    sum_by_push span_bytes queue b in
    rw (c.set.ensures, c.in_ok-push_back.ensures.items, block) record {
      apart = follow-set 0 c.args.at s t es is refl c.self.invariant.apart;
      freed = freed_of-push b (freed_of es) _ queue c.self.invariant.freed
          (freed_of-set c.args.at s t es is (not-false c.in-Some.slot.live c.if-not-slot.false) refl refl);
      total = omega arith;
    }

pub returns-clause-answer : goal.returns-clause-answer
returns-clause-answer g c =
    rw (← c.self.view_is, c.from_parts-block.ensures) (
      omega arith,
      refl,
      Contains-live c.args.at c.in-Some.slot c.self.inside.blocks (sym c.in-Some.ensures)
          (not-false c.in-Some.slot.live c.if-not-slot.false),
    )

pub returns-clause-after : goal.returns-clause-after
returns-clause-after g c =
    let s : Slot = c.in-Some.slot in
    let t : Slot = record { size = s.size; live = false } in
    let es = c.self.inside.blocks in
    let is : slot_at es c.args.at ≡ Some s = sym c.in-Some.ensures in
    rw (← c.self.view_is, c.from_parts-block.ensures) record {
      others = rw c.set.ensures (live_of-others c.args.at 0 s t es is
          (not-false c.in-Some.slot.live c.if-not-slot.false) refl c.self.invariant.apart);
      live = rw c.set.ensures (IsPermutation-sym _ (live_of es)
          (live_of-set c.args.at s t es is (not-false c.in-Some.slot.live c.if-not-slot.false) refl));
      queue = rw (c.in_ok-push_back.ensures.items, c.from_parts-block.ensures) refl;
      bound = refl;
      room = c.in_ok-push_back.ensures.capacity;
    }
