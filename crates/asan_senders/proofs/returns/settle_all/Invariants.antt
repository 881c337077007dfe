use Rattle.std.proofs.Common.{◌≡◌, None, vec_len, vec_capacity, slice_index_or}
use Rattle.asan_senders.specs.Senders.{Gets, SaysHowFar}
use Rattle.asan_senders.proofs.Going.{Going}
use Rattle.asan_senders.proofs.returns.settle_all.Given as goal

abbrev pub invariant-loop-i : goal.invariant-loop-i
invariant-loop-i g l =
    (vec_len l.senders ≡ vec_len l.initial.senders)
    × Going (λ s o. Gets g.F.Feed.seen s o × SaysHowFar None s o) (vec_len l.initial.senders) l.i (vec_len l.outcomes)
    (vec_capacity l.outcomes) (slice_index_or l.initial.senders.items) (slice_index_or l.senders.items)
    (slice_index_or l.outcomes.items)
