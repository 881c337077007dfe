use Rattle.std.proofs.Common.{ℕ, List, ◌∷◌, length}
use Rattle.std.specs.Prelude.{IsPermutation}
use Rattle.trace_record.specs.declared.event.Event.{Event}
use Rattle.trace_record.specs.declared.event.Event.TheVariants as event
use Rattle.trace_record.specs.declared.event.Place.{Place}
use Rattle.shadow_map.specs.Shows.{Shows}
use Rattle.heap_book.specs.Spans.{Extent}
use Rattle.asan_check.specs.History.{live, marks, with_marks, freed_mark, released_mark}
use Rattle.asan_check.specs.Standing.{KeepsTally}
use Rattle.asan_check.specs.Freeing.{IsFreeing}
use Rattle.asan_check.proofs.Frees.{IsReleasing}
use Rattle.asan_check.proofs.checker.Checker.hold.Given as goal

abbrev pub invariant-loop-oldest : goal.invariant-loop-oldest
invariant-loop-oldest g l = record {
  tally : KeepsTally l.fn.self l.self;
  releasing : (bound : ℕ) (past : List Event) (p : Place) (f : IsFreeing bound l.fn.self past p l.block) →
      (evicted : List Extent) × IsReleasing bound past p l.block f.was_live f.here evicted l.self.book.queue
      × Shows l.self.shadow (with_marks released_mark evicted (freed_mark l.block ∷ marks bound past))
      × IsPermutation l.self.book.live (live bound (event.Free p ∷ past));
}

abbrev pub decreases-loop-oldest : goal.decreases-loop-oldest
decreases-loop-oldest g l = length l.self.book.queue
