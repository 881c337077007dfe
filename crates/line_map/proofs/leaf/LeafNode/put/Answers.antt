use Rattle.std.proofs.Common.{◌≡◌, true, false, sym, ◌∙◌, arith}
use Rattle.std.proofs.lemmas.List.Edits.{length-insert}
use Rattle.line_map.specs.Leaves.{has_entry}
use Rattle.line_map.proofs.Leaves.{has_one, place_lt, place_le, replaced, one_more, one_more_in_all, added}
use Rattle.line_map.proofs.leaf.LeafNode.put.Goals as goal

pub index_mut-requires : goal.index_mut-requires
index_mut-requires g c =
    let leaf = c.args.self.now in
    let has : has_entry leaf.lines c.args.line ≡ true = sym c.has.ensures ∙ c.if-has.true in
    let lt = place_lt leaf.lines c.args.line (has_one leaf.lines c.args.line has) in
    let counted = leaf.counted in
    let is = leaf.entries.ok.0 in
    let place = c.place_of-place.ensures in
    omega arith

pub insert-requires : goal.insert-requires
insert-requires g c =
    let leaf = c.args.self.now in
    let le = place_le leaf.lines c.args.line in
    let counted = leaf.counted in
    let is = leaf.entries.ok.0 in
    let place = c.place_of-place.ensures in
    omega arith

pub invariant_of-self-else-has : goal.invariant_of-self-else-has
invariant_of-self-else-has g c =
    let leaf = c.args.self.now in
    let es = leaf.entries.items in
    let free : has_entry leaf.lines c.args.line ≡ false = sym c.has.ensures ∙ c.if-has.false in
    let more = one_more leaf.lines c.args.line free in
    let counted = leaf.counted in
    let le = place_le leaf.lines c.args.line in
    let place = c.place_of-place.ensures in
    let longer = length-insert es c.place_of-place.result c.new-else-has.result (omega arith) in
    record {
      counted = rw (c.bit.ensures, c.in_ok-insert.ensures.items) (one_more_in_all leaf.lines _ c.args.line more
          ∙ omega arith);
    }

pub returns-then-has-clause-ok : goal.returns-then-has-clause-ok
returns-then-has-clause-ok g c index below =
    let leaf = c.args.self.now in
    let has : has_entry leaf.lines c.args.line ≡ true = sym c.has.ensures ∙ c.if-has.true in
    rw c.place_of-place.ensures
    (replaced leaf.lines leaf.entries.items c.args.line c.new.result c.args.tag c.new.ensures leaf.counted
    (has_one leaf.lines c.args.line has) index)

pub returns-in_ok-insert-clause-ok : goal.returns-in_ok-insert-clause-ok
returns-in_ok-insert-clause-ok g c index below =
    let leaf = c.args.self.now in
    let free : has_entry leaf.lines c.args.line ≡ false = sym c.has.ensures ∙ c.if-has.false in
    rw (c.bit.ensures, c.in_ok-insert.ensures.items, c.place_of-place.ensures)
    (added leaf.lines _ c.args.line (one_more leaf.lines c.args.line free) leaf.entries.items c.new-else-has.result
    c.args.tag c.new-else-has.ensures leaf.counted index)
