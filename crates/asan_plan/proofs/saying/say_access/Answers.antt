use Rattle.asan_plan.proofs.Stating.{access_same}
use Rattle.asan_plan.proofs.saying.say_access.Goals as goal

pub returns-then-front-eq0-clause-brings : goal.returns-then-front-eq0-clause-brings
returns-then-front-eq0-clause-brings c bound least fits =
    rw (← c.recorded-here.ensures, ← c.recorded-next.ensures)
    (c.say_here.ensures.brings bound least fits c.recorded-next.result)

pub returns-then-front-eq0-clause-access : goal.returns-then-front-eq0-clause-access
returns-then-front-eq0-clause-access c bound run is_store access least fits there seen =
    let is_seen = rw (← c.recorded-here.ensures, ← c.recorded-next.ensures) at seen in
    access_same bound _ _ _ _ run (c.say_here.ensures.brings bound least fits c.recorded-next.result) is_seen is_store
    access there

pub returns-then-is_of_heap-clause-access : goal.returns-then-is_of_heap-clause-access
returns-then-is_of_heap-clause-access c bound run is_store access least fits there seen =
    let is_seen = rw (← c.recorded-here.ensures, ← c.recorded-next.ensures) at seen in
    access_same bound _ _ _ _ run (c.say_by_block.ensures.brings bound least fits) is_seen is_store access there

pub returns-else-is_of_heap-clause-access : goal.returns-else-is_of_heap-clause-access
returns-else-is_of_heap-clause-access c bound run is_store access least fits there seen =
    let is_seen = rw (← c.recorded-here.ensures, ← c.recorded-next.ensures) at seen in
    access_same bound _ _ _ _ run (c.say_by_poison.ensures bound) is_seen is_store access there
