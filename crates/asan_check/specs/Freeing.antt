-- What a checker shows amid a free.
use Rattle.std.specs.Prelude.{◌≡◌, ℕ, List, [], ◌∷◌, ◌++◌, IsPermutation, Contains}
use Rattle.trace_record.specs.declared.event.Event.{Event}
use Rattle.trace_record.specs.declared.event.Event.TheVariants as event
use Rattle.trace_record.specs.declared.event.Place.{Place}
use Rattle.shadow_map.specs.Shows.{Shows}
use Rattle.heap_book.specs.Spans.{Extent}
use Rattle.asan_check.specs.declared.checker.Checker.{Checker}
use Rattle.asan_check.specs.History.{live, held, marks}
use Rattle.asan_check.specs.Standing.{bound_of}

module _ {A : Type 0} where
  -- a block that was live after the history is freed at its address: the book has moved it into the
  -- quarantine, from which nothing was released yet, and the shadow is as it was
  pub record IsFreeing (bound : ℕ) (c : Checker A) (past : List Event) (p : Place)
      (b : Extent) : Type 0 where
    pub was_live : Contains (live bound past) b
    pub here : b.at ≡ p.at
    pub shadow : Shows c.shadow (marks bound past)
    pub live_blocks : IsPermutation c.book.live (live bound (event.Free p ∷ past))
    pub queue : c.book.queue ≡ held bound past ++ b ∷ []
    pub bound_is : bound_of c ≡ bound
