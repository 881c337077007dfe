use Rattle.std.proofs.Common.{◌≡◌, vec_len}
use Rattle.std.specs.Prelude.{All, Some}
use Rattle.refusing_allocator.specs.Rules.{bound_of}
use Rattle.asan_session.proofs.memory.BoundedHeaps.new.Given as goal

abbrev pub invariant-loop : goal.invariant-loop
invariant-loop l = record {
  count : vec_len l.own ≡ l.counter;
  bound : All (λ heap. Some l.bound ≡ bound_of heap) l.own.items;
}
