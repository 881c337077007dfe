use Rattle.heap_book.proofs.Following.{found}
use Rattle.heap_book.proofs.free_span.last_before.Goals as goal

pub from_parts-requires : goal.from_parts-requires
from_parts-requires g c = (found 0 _ _ _ c.in_ok-at.ensures.1 c.requires).0

pub returns : goal.returns
returns g c = let last = c.in_ok-at.ensures in rw c.from_parts.ensures (last.0, (c.in_ok-at.slot.live, last.1), last.2)
