use Rattle.std.proofs.Common.{◌≡◌, ◌≤◌}
use Rattle.asan_check.proofs.checker.Checker.fetch.Given as goal

-- the checker is what it was
abbrev pub invariant-loop-event : goal.invariant-loop-event
invariant-loop-event g l = (l.self ≡ l.fn.self) × (l.count ≤ 16)
