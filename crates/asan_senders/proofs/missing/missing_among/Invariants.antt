use Rattle.std.proofs.Common.{◌+◌, ◌≤◌, take}
use Rattle.asan_senders.specs.Missing.{IsMissingOf}
use Rattle.asan_senders.proofs.missing.missing_among.Given as goal

abbrev pub invariant-loop-sender : goal.invariant-loop-sender
invariant-loop-sender g l = record {
  counted : IsMissingOf l.is_live (take l.sender-index l.senders) l.missing;
  few : l.missing.lanes + l.missing.workers + l.missing.readers ≤ l.sender-index;
  few_ends : l.missing.ends ≤ l.sender-index;
}
