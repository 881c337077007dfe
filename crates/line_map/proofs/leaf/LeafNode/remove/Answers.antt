use Rattle.std.proofs.Common.{◌≡◌, ℕ, ◌^◌, true, false, sym, ◌∙◌, arith}
use Rattle.std.specs.Prelude.{bit_xor}
use Rattle.std.specs.List.{remove}
use Rattle.std.specs.Int.{bit_at}
use Rattle.std.proofs.lemmas.List.Edits.{length-remove}
use Rattle.std.proofs.lemmas.Nat.Bits.{bit_at-zero}
use Rattle.line_map.specs.Leaves.{has_entry, entries_below}
use Rattle.line_map.proofs.Leaves.{has_one, has_none, place_lt, one_less, one_more_in_all, left_out, without}
use Rattle.line_map.proofs.Leaves.{still_none}
use Rattle.line_map.proofs.leaf.LeafNode.remove.Goals as goal

pub remove-requires : goal.remove-requires
remove-requires g c =
    let leaf = c.args.self.now in
    let has : has_entry leaf.lines c.args.line ≡ true = sym c.has.ensures ∙ c.if-has.true in
    let lt = place_lt leaf.lines c.args.line (has_one leaf.lines c.args.line has) in
    let counted = leaf.counted in
    let is = leaf.entries.ok.0 in
    let place = c.place_of-place.ensures in
    omega arith

pub invariant_of-self : goal.invariant_of-self
invariant_of-self g c =
    let leaf = c.args.self.now in
    let es = leaf.entries.items in
    let has : has_entry leaf.lines c.args.line ≡ true = sym c.has.ensures ∙ c.if-has.true in
    let less = one_less leaf.lines c.args.line has in
    let counted = leaf.counted in
    let lt = place_lt leaf.lines c.args.line (has_one leaf.lines c.args.line has) in
    let place = c.place_of-place.ensures in
    let shorter = length-remove es c.place_of-place.result (omega arith) in
    let all = one_more_in_all (bit_xor leaf.lines (2 ^ c.args.line)) leaf.lines c.args.line less in
    record { counted = rw (c.bit.ensures, c.remove.ensures.items) (omega arith) }

pub returns-then-self-eq0 : goal.returns-then-self-eq0
returns-then-self-eq0 g c index below =
    let leaf = c.args.self.now in
    let es = leaf.entries.items in
    let has : has_entry leaf.lines c.args.line ≡ true = sym c.has.ensures ∙ c.if-has.true in
    let few : ℕ = bit_xor leaf.lines (2 ^ c.args.line) in
    let zero : few ≡ 0 = rw c.bit.ensures at c.if-self-eq0.true in
    let none : bit_at few index ≡ 0 = rw zero (bit_at-zero index) in
    c.empty.ensures index ∙ sym (without few (remove es (entries_below leaf.lines c.args.line)) index none)
    ∙ left_out few leaf.lines c.args.line (one_less leaf.lines c.args.line has) es leaf.counted index

pub returns-else-self-eq0 : goal.returns-else-self-eq0
returns-else-self-eq0 g c index below =
    let leaf = c.args.self.now in
    let has : has_entry leaf.lines c.args.line ≡ true = sym c.has.ensures ∙ c.if-has.true in
    rw (c.bit.ensures, c.remove.ensures.items, c.place_of-place.ensures)
    (left_out (bit_xor leaf.lines (2 ^ c.args.line)) leaf.lines c.args.line (one_less leaf.lines c.args.line has)
    leaf.entries.items leaf.counted index)

pub returns-else-has : goal.returns-else-has
returns-else-has g c index below =
    let leaf = c.args.self.now in
    let free : has_entry leaf.lines c.args.line ≡ false = sym c.has.ensures ∙ c.if-has.false in
    still_none leaf.lines leaf.entries.items c.args.line (has_none leaf.lines c.args.line free) index
