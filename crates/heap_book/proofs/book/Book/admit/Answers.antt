use Rattle.std.proofs.Common.{◌≡◌, true, false, not, ◌++◌, None, refl, sym, ◌∙◌, arith}
use Rattle.std.specs.List.{list_any}
use Rattle.std.proofs.lemmas.Bool.{not-true, not-false}
use Rattle.std.proofs.lemmas.Result.{err_from_is_err_and}
use Rattle.line_map.specs.declared.tag.Slot.{Slot}
use Rattle.heap_book.specs.Spans.{Extent, meets}
use Rattle.heap_book.specs.Slots.{blocks_of, live_of}
use Rattle.line_map.specs.Maps.{slot_at}
use Rattle.heap_book.proofs.Following.{absent, alone, follow-insert}
use Rattle.heap_book.proofs.Entries.{live_of-insert, freed_of-insert, meets-taken}
use Rattle.heap_book.proofs.NeverMeet.{may_be_admitted-true, may_be_admitted-met}
use Rattle.heap_book.proofs.book.Book.admit.Goals as goal

pub returns-then-not-is_free-clause-answer : goal.returns-then-not-is_free-clause-answer
returns-then-not-is_free-clause-answer g c =
    let b : Extent = record { at = c.args.at; size = c.args.size } in
    let es = c.self.inside.blocks in
    let queue = c.self.inside.queue.items in
    let free : c.is_free.result ≡ not (list_any (meets b) (blocks_of es)) =
    rw c.in-Some.ensures.block at c.is_free.ensures in
    let any : list_any (meets b) (blocks_of es) ≡ true = not-false _ (sym free ∙ c.if-not-is_free.true) in
    rw (← c.self.view_is) (
      omega arith,
      may_be_admitted-met (live_of es ++ queue) b
          (meets-taken b es queue c.self.invariant.freed ∙ any),
    )

pub insert-requires : goal.insert-requires
insert-requires g c =
    let b : Extent = record { at = c.args.at; size = c.args.size } in
    let es = c.self.inside.blocks in
    let free : c.is_free.result ≡ not (list_any (meets b) (blocks_of es)) =
    rw c.in-Some.ensures.block at c.is_free.ensures in
    let any : list_any (meets b) (blocks_of es) ≡ false = not-true _ (sym free ∙ c.if-not-is_free.false) in
    let placed = c.in-Some.ensures.some.0 refl in
    record { within = omega arith; alone = alone b 0 es placed c.self.invariant.apart any }

pub returns-in_err-insert-clause-no_memory : goal.returns-in_err-insert-clause-no_memory
returns-in_err-insert-clause-no_memory g c =
    let b : Extent = record { at = c.args.at; size = c.args.size } in
    let es = c.self.inside.blocks in
    let queue = c.self.inside.queue.items in
    let free : c.is_free.result ≡ not (list_any (meets b) (blocks_of es)) =
    rw c.in-Some.ensures.block at c.is_free.ensures in
    let any : list_any (meets b) (blocks_of es) ≡ false = not-true _ (sym free ∙ c.if-not-is_free.false) in
    let error = err_from_is_err_and c.from_residual.result c.from_residual.ensures.1 in
    rw (error.1, ← c.self.view_is) (may_be_admitted-true (live_of es ++ queue) b (c.in-Some.ensures.some.0 refl)
    (meets-taken b es queue c.self.invariant.freed ∙ any))

pub invariant_of-self-2 : goal.invariant_of-self-2
invariant_of-self-2 g c =
    let b : Extent = record { at = c.args.at; size = c.args.size } in
    let slot : Slot = record { size = c.args.size; live = true } in
    let es = c.self.inside.blocks in
    let free : c.is_free.result ≡ not (list_any (meets b) (blocks_of es)) =
    rw c.in-Some.ensures.block at c.is_free.ensures in
    let any : list_any (meets b) (blocks_of es) ≡ false = not-true _ (sym free ∙ c.if-not-is_free.false) in
    let none : slot_at es b.at ≡ None = absent b es any in
    rw c.in_ok-insert.ensures.ok record {
      apart = follow-insert 0 b slot es refl (c.in-Some.ensures.some.0 refl) (omega arith) any c.self.invariant.apart;
      freed = rw (freed_of-insert b.at slot es none refl) c.self.invariant.freed;
      total = c.self.invariant.total;
    }

pub returns-clause-answer : goal.returns-clause-answer
returns-clause-answer g c =
    let b : Extent = record { at = c.args.at; size = c.args.size } in
    let es = c.self.inside.blocks in
    let queue = c.self.inside.queue.items in
    let free : c.is_free.result ≡ not (list_any (meets b) (blocks_of es)) =
    rw c.in-Some.ensures.block at c.is_free.ensures in
    let any : list_any (meets b) (blocks_of es) ≡ false = not-true _ (sym free ∙ c.if-not-is_free.false) in
    rw (← c.self.view_is) (
      c.in-Some.ensures.block,
      omega arith,
      may_be_admitted-true (live_of es ++ queue) b (c.in-Some.ensures.some.0 refl)
          (meets-taken b es queue c.self.invariant.freed ∙ any),
    )

pub returns-clause-after : goal.returns-clause-after
returns-clause-after g c =
    let b : Extent = record { at = c.args.at; size = c.args.size } in
    let slot : Slot = record { size = c.args.size; live = true } in
    let es = c.self.inside.blocks in
    let free : c.is_free.result ≡ not (list_any (meets b) (blocks_of es)) =
    rw c.in-Some.ensures.block at c.is_free.ensures in
    let any : list_any (meets b) (blocks_of es) ≡ false = not-true _ (sym free ∙ c.if-not-is_free.false) in
    rw (← c.self.view_is) record {
      live = rw (c.in_ok-insert.ensures.ok, c.in-Some.ensures.block)
          (live_of-insert b.at slot es (absent b es any) refl);
      queue = refl;
      bound = refl;
      room = refl;
    }
