use Rattle.std.proofs.Common.{◌≤◌, ◌*◌}
use Rattle.heap_book.proofs.book.Book.fetch.Given as goal

-- at most two addresses for each free
abbrev pub invariant-loop-place : goal.invariant-loop-place
invariant-loop-place g l = l.count ≤ 2 * l.place
