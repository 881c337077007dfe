use Rattle.std.proofs.Common.{◌≡◌, ◌≤◌, vec_len}
use Rattle.std.specs.Vec.{vec_capacity}
use Rattle.asan_senders.specs.Shares.{AreEmpty}
use Rattle.asan_senders.proofs.lanes.no_shares.Given as goal

abbrev pub invariant-loop : goal.invariant-loop
invariant-loop g l = record {
  count : vec_len l.shares ≡ l.counter;
  room : l.workers ≤ vec_capacity l.shares;
  empty : AreEmpty l.workers l.shares.items;
}
