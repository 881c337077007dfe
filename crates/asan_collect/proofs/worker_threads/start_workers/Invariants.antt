use Rattle.std.proofs.Common.{◌≡◌, vec_len, vec_capacity, slice_index_or}
use Rattle.asan_senders.specs.Shares.{WillComeBack}
use Rattle.asan_senders.proofs.Going.{Going}
use Rattle.asan_collect.proofs.worker_threads.start_workers.Given as goal

abbrev pub invariant-loop-k : goal.invariant-loop-k
invariant-loop-k g l =
    (vec_len l.shares ≡ vec_len l.initial.shares)
    × Going WillComeBack (vec_len l.initial.shares) l.k (vec_len l.workers) (vec_capacity l.workers)
    (slice_index_or l.initial.shares.items) (slice_index_or l.shares.items) (slice_index_or l.workers.items)
