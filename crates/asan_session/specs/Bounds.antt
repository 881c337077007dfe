-- Bounds on the memory of the checkers.
use Rattle.std.specs.Prelude.{◌≡◌, All, ℕ, Option}
use Rattle.refusing_allocator.specs.Rules.{bound_of}
use Rattle.asan_session.specs.declared.memory.BoundedHeaps.{BoundedHeaps}

-- the allocator of each checker has this bound
abbrev pub AreBounded : Option ℕ → BoundedHeaps → Type 0
AreBounded bound heaps = All (λ heap. bound ≡ bound_of heap) heaps.own.items
