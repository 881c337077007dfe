use Rattle.std.proofs.Common.{◌≡◌, ◌<◌, ◌≤◌, ℕ, List, Option, None, vec_len, vec_capacity, slice_index_or}
use Rattle.asan_print.specs.declared.port.Port.{Port}
use Rattle.asan_print.specs.Ports.{Follows}
use Rattle.asan_senders.specs.Closings.{HasClosed}
use Rattle.asan_senders.specs.Senders.{Gets, SaysHowFar}
use Rattle.asan_senders.proofs.Going.{Going}
use Rattle.asan_collect.proofs.closing.close_all.Given as goal

abbrev pub invariant-loop-i : goal.invariant-loop-i
invariant-loop-i g l = record {
  same : vec_len l.senders ≡ vec_len l.initial.senders;
  wide : vec_len l.ports ≡ vec_len l.initial.ports;
  going : Going (Gets g.F.Feed.seen) (vec_len l.initial.senders) l.i (vec_len l.outcomes) (vec_capacity l.outcomes)
      (slice_index_or l.initial.senders.items) (slice_index_or l.senders.items) (slice_index_or l.outcomes.items);
  rest : (k : ℕ) (d : Option (Port g.row.A.Denot)) → l.i ≤ k
      → slice_index_or l.ports.items k d ≡ slice_index_or l.initial.ports.items k d;
  lines : (start : Option (List ℕ)) →
      Follows start (g.W.Write.contents l.initial.w) l.initial.printer l.initial.ports.items →
      HasClosed start (g.W.Write.contents l.w) l.printer l.initial.ports.items l.outcomes.items;
  far : (k : ℕ) (d e : _) → k < l.i → SaysHowFar (slice_index_or l.initial.ports.items k None)
      (slice_index_or l.initial.senders.items k d) (slice_index_or l.outcomes.items k e);
}
