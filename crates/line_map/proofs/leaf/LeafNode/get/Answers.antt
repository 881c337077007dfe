use Rattle.std.proofs.Common.{◌≡◌, true, Some, ap, sym, ◌∙◌, arith}
use Rattle.line_map.specs.Tags.{tag_of}
use Rattle.line_map.specs.Leaves.{has_entry}
use Rattle.line_map.proofs.Leaves.{has_one, place_lt, tagged}
use Rattle.line_map.proofs.leaf.LeafNode.get.Goals as goal

pub index-requires : goal.index-requires
index-requires g c =
    let leaf = c.args.self.now in
    let has : has_entry leaf.lines c.args.line ≡ true = sym c.has.ensures ∙ c.if-has.true in
    let lt = place_lt leaf.lines c.args.line (has_one leaf.lines c.args.line has) in
    let counted = leaf.counted in
    let is = leaf.entries.ok.0 in
    let place = c.place_of.ensures in
    omega arith

pub returns-then-has : goal.returns-then-has
returns-then-has g c =
    let leaf = c.args.self.now in
    let has : has_entry leaf.lines c.args.line ≡ true = sym c.has.ensures ∙ c.if-has.true in
    let read = rw c.place_of.ensures at c.index.ensures in
    ap Some (ap tag_of read)
    ∙ sym (tagged leaf.lines leaf.entries.items c.args.line c.index.result.now leaf.counted
    (has_one leaf.lines c.args.line has))
