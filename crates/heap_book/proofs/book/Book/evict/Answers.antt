use Rattle.std.proofs.Common.{◌≡◌, ◌+◌, false, List, ◌∷◌, refl, arith}
use Rattle.std.specs.Prelude.{sum_by}
use Rattle.std.specs.List.Sorted.{IsPermutation}
use Rattle.std.proofs.lemmas.List.Sums.{sum_by-cons}
use Rattle.heap_book.specs.Spans.{Extent, span_bytes}
use Rattle.heap_book.specs.Slots.{freed_of}
use Rattle.heap_book.proofs.Following.{follow-remove}
use Rattle.heap_book.proofs.Entries.{live_of-remove, freed_of-rest, oldest-found, taken-apart}
use Rattle.heap_book.proofs.Held.{held-within}
use Rattle.heap_book.proofs.book.Book.evict.Goals as goal

pub remove-requires : goal.remove-requires
remove-requires g c =
    let b : Extent = c.in_ok-block.block in
    let rest : List Extent = c.pop_front.new.self.items in
    let es = c.self.inside.blocks in
    let freed : IsPermutation (freed_of es) (b ∷ rest) = rw c.in_ok-block.ensures.items at c.self.invariant.freed in
    rw (c.at.ensures.at, oldest-found b rest es freed c.self.invariant.apart) refl

pub invariant_of-self-2 : goal.invariant_of-self-2
invariant_of-self-2 g c =
    let b : Extent = c.in_ok-block.block in
    let rest : List Extent = c.pop_front.new.self.items in
    let es = c.self.inside.blocks in
    let queue : c.self.inside.queue.items ≡ b ∷ rest = c.in_ok-block.ensures.items in
    let freed : IsPermutation (freed_of es) (b ∷ rest) = rw queue at c.self.invariant.freed in
    let bytes : sum_by span_bytes (b ∷ rest) ≡ span_bytes b + sum_by span_bytes rest = sum_by-cons span_bytes b rest in
    let total : c.self.inside.queued ≡ sum_by span_bytes (b ∷ rest) = rw queue at c.self.invariant.total in
    rw (c.remove.ensures, c.at.ensures.at) record {
      apart = follow-remove 0 b.at es c.self.invariant.apart;
      freed = freed_of-rest b rest es freed c.self.invariant.apart;
      total = (let to = c.to.ensures.to in let from = c.from.ensures.from in let placed = c.to.ensures.placed in
          omega arith);
    }

pub returns-clause-past : goal.returns-clause-past
returns-clause-past g c = rw (← c.self.view_is) (let total = c.self.invariant.total in omega arith)

pub returns-clause-released : goal.returns-clause-released
returns-clause-released g c =
    let b : Extent = c.in_ok-block.block in
    let rest : List Extent = c.pop_front.new.self.items in
    let es = c.self.inside.blocks in
    let queue : c.self.inside.queue.items ≡ b ∷ rest = c.in_ok-block.ensures.items in
    let freed : IsPermutation (freed_of es) (b ∷ rest) = rw queue at c.self.invariant.freed in
    rw (← c.self.view_is) record {
      queue = queue;
      live = rw (c.remove.ensures, c.at.ensures.at)
          (live_of-remove b.at (record { size = b.size; live = false }) es
          (oldest-found b rest es freed c.self.invariant.apart) refl);
      bound = refl;
      room = c.in_ok-block.ensures.capacity;
    }

pub returns-then-self-clause-apart : goal.returns-then-self-clause-apart
returns-then-self-clause-apart g c =
    rw (← c.self.view_is) (taken-apart c.self.inside.blocks c.self.inside.queue.items c.self.invariant.apart
    c.self.invariant.freed)

pub returns-clause-apart : goal.returns-clause-apart
returns-clause-apart g c =
    rw (← c.self.view_is) (taken-apart c.self.inside.blocks c.self.inside.queue.items c.self.invariant.apart
    c.self.invariant.freed)

pub returns-then-self-clause-within : goal.returns-then-self-clause-within
returns-then-self-clause-within g c = rw (← c.self.view_is) (let total = c.self.invariant.total in omega arith)

pub returns-then-self-clause-all_held : goal.returns-then-self-clause-all_held
returns-then-self-clause-all_held g c =
    rw (← c.self.view_is) (let total = c.self.invariant.total in
    held-within c.self.inside.bound c.self.inside.queue.items (omega arith))
