use Rattle.std.proofs.Common.{◌≡◌, ◌<◌, ◌+◌, true, false, leb, refl, arith, inl, inr}
use Rattle.std.specs.List.{list_any}
use Rattle.std.proofs.lemmas.Bool.{cases_lt}
use Rattle.std.proofs.lemmas.Bool.Decides.{nat_tests}
use Rattle.line_map.specs.declared.tag.Slot.{Slot}
use Rattle.heap_book.specs.Spans.{Extent, IsPlaced, span_from, span_to, meets}
use Rattle.heap_book.specs.Slots.{blocks_of}
use Rattle.heap_book.proofs.Following.{met, unmet-last, unmet-none}
use Rattle.heap_book.proofs.free_span.is_free.Goals as goal

-- two spans of which one begins before the other ends, and does not end before the other begins
meets-past : (b last : Extent) → IsPlaced b → IsPlaced last → last.at < span_to b + 32 → span_from b < span_to last
    → meets b last ≡ true
meets-past b last placed placed' before past = grind (arith, nat_tests)

pub returns-in-Some : goal.returns-in-Some
returns-in-Some g c =
    let b : Extent = c.args.block.now in
    let last : Extent = c.in-Some.last in
    let is = c.in-Some.ensures.1 in
    let slot : Slot = record { size = last.size; live = is.0 } in
    let before = c.in-Some.ensures.0 in
    let to : c.to-in-Some.result ≡ span_to last = c.to-in-Some.ensures.to in
    let from : c.from.result ≡ span_from b = c.from.ensures.from in
    let end : c.to.result ≡ span_to b = c.to.ensures.to in
    elim (cases_lt (span_from b) (span_to last)) [
      | inl lt ↦
          let meet : meets b last ≡ true = meets-past b last c.to.ensures.placed c.to-in-Some.ensures.placed
          (omega arith) lt in
          let any : list_any (meets b) (blocks_of c.args.blocks.now) ≡ true =
          met b last.at slot c.args.blocks.now is.1 meet in
          let test : leb c.to-in-Some.result c.from.result ≡ false = grind (arith, nat_tests) in
          rw (any, test) refl
      | inr le ↦
          let any : list_any (meets b) (blocks_of c.args.blocks.now) ≡ false =
          unmet-last b 0 last.at slot c.args.blocks.now is.1 (λ p lt some. c.in-Some.ensures.2 p (omega arith) some) le
          c.requires in
          let test : leb c.to-in-Some.result c.from.result ≡ true = grind (arith, nat_tests) in
          rw (any, test) refl
    ]

pub returns-in-None : goal.returns-in-None
returns-in-None g c =
    let b : Extent = c.args.block.now in
    let end : c.to.result ≡ span_to b = c.to.ensures.to in
    let any : list_any (meets b) (blocks_of c.args.blocks.now) ≡ false =
    unmet-none b 0 c.args.blocks.now (λ p lt. c.in-None.ensures p (omega arith)) c.requires in
    rw any refl
