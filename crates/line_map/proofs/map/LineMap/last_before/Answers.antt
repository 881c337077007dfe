use Rattle.line_map.specs.Trees.{tree_tag}
use Rattle.line_map.proofs.Found.{place-none, place-some}
use Rattle.line_map.proofs.map.LineMap.last_before.Goals as goal

pub returns-in-Some : goal.returns-in-Some
returns-in-Some g c =
    let place = c.place_of-line in
    rw (c.from.ensures, ← c.self.view_is) (place-some (tree_tag c.self.inside.tree) c.self.invariant place.result.0
    place.result.1 c.args.end place.ensures.line place.ensures.offset place.ensures.place c.in-Some.line c.in-Some.tag
    c.in-Some.ensures)

pub returns-in-None : goal.returns-in-None
returns-in-None g c =
    let place = c.place_of-line in
    rw (← c.self.view_is) (place-none (tree_tag c.self.inside.tree) c.self.invariant place.result.0
    place.result.1 c.args.end place.ensures.line place.ensures.offset place.ensures.place c.in-None.ensures)
