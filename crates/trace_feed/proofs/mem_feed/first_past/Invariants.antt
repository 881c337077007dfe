use Rattle.std.proofs.Common.{◌≡◌, ◌<◌, ◌≤◌, ℕ, ◌⊎◌, Contains, slice_index_or}
use Rattle.trace_feed.proofs.mem_feed.first_past.Given as goal

-- `first` is the end or one of the places past `place`, and no place seen so far is one before it
abbrev pub invariant-loop-other : goal.invariant-loop-other
invariant-loop-other l = record {
  given : (l.first ≡ l.end) ⊎ ((l.place < l.first) × Contains l.places l.first);
  bounded : l.first ≤ l.end;
  none_before : (k : ℕ) (d : ℕ) → k < l.other-index → l.place < slice_index_or l.places k d
      → l.first ≤ slice_index_or l.places k d;
}
