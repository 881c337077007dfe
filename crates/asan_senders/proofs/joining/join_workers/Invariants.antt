use Rattle.std.proofs.Common.{◌≡◌, ◌<◌, ◌≤◌, ℕ, vec_len, slice_index_or}
use Rattle.asan_senders.specs.Shares.{Returns}
use Rattle.asan_senders.proofs.joining.join_workers.Given as goal

abbrev pub invariant-loop-k : goal.invariant-loop-k
invariant-loop-k g l = record {
  same : vec_len l.shares ≡ vec_len l.initial.shares;
  all : vec_len l.workers ≡ vec_len l.initial.workers;
  rest : (i : ℕ) (d : _) → l.k ≤ i → slice_index_or l.workers.items i d ≡ slice_index_or l.initial.workers.items i d;
  done : (i : ℕ) (d e : _) → i < l.k → Returns (slice_index_or l.initial.workers.items i d)
      (slice_index_or l.shares.items i e);
}
