use Rattle.std.proofs.Common.{sym, ◌∙◌}
use Rattle.asan_plan.proofs.Stating.{block_here, poison_here}
use Rattle.asan_plan.proofs.saying.say_here.Goals as goal

pub returns-then-is_of_heap-clause-brings : goal.returns-then-is_of_heap-clause-brings
returns-then-is_of_heap-clause-brings c bound least fits next =
    let block = c.block_with.ensures in
    block_here bound c.block_with.result c.state.result c.args.granule c.args.here next block.placed
    (block.fits bound least fits) c.state.ensures block.left (sym c.is_of_heap.ensures ∙ c.if-is_of_heap.true)

pub returns-else-is_of_heap-clause-brings : goal.returns-else-is_of_heap-clause-brings
returns-else-is_of_heap-clause-brings c bound least fits next =
    poison_here bound c.poison.result c.args.granule c.args.here next c.poison.ensures.at c.poison.ensures.end
    c.poison.ensures.kind c.requires.recorded (sym c.is_of_heap.ensures ∙ c.if-is_of_heap.false) c.requires.none
