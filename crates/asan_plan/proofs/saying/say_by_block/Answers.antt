use Rattle.std.proofs.Common.{◌≡◌, ◌∙◌, ap}
use Rattle.shadow_map.specs.Granules.{front_of}
use Rattle.asan_check.specs.History.{block_of}
use Rattle.asan_plan.specs.Saying.{left_by}
use Rattle.asan_plan.proofs.Stating.{block_next}
use Rattle.asan_plan.proofs.saying.say_by_block.Goals as goal

pub returns-clause-brings : goal.returns-clause-brings
returns-clause-brings c bound least fits =
    let block = c.block_with-block.ensures in
    let found = c.block_with-block.result in
    let left = rw (c.at.ensures, c.size.ensures) at c.left_byte-had.ensures in
    let had : c.front.result ≡ front_of (left_by (block_of found.region) found.is_held c.args.granule) = c.front.ensures
    ∙ ap front_of left in
    block_next bound found c.state.result c.fit.result c.args.granule c.args.here c.args.next
    block.placed (block.fits bound least fits) c.state.ensures block.left c.requires.some
    (rw (had, c.front-2.ensures) at c.fit.ensures)
