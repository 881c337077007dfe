-- Where a checker stands after items of a lane.
use Rattle.std.specs.Prelude.{◌≡◌, ℕ, List, length, take, reverse}
use Rattle.asan_check.specs.declared.checker.Checker.{Checker}
use Rattle.asan_check.specs.Standing.{StandsOrFailed, bound_of, reports_of}
use Rattle.asan_stream.specs.declared.item.Item.{Item}
use Rattle.asan_stream.specs.Items.{events_of}
use Rattle.asan_stream.specs.Ranges.{most_events}

module _ {A : Type 0} where
  -- the checker stands where the events among these items lead, or has failed among them
  abbrev pub StandsAfter : Checker A → List Item → Type 0
  StandsAfter c items = ∥ StandsOrFailed (bound_of c) c (reverse (events_of items)) ∥₁

  -- a checker was handed the events among these items, at most the first 2^24 of them, and `events`
  -- says how many. It had been handed some of them before, which left it at `first`: the reports
  -- that it had then begin those that it has now
  pub record HasChecked
      (first : Checker A) (events : ℕ) (c : Checker A) (items : List Item) : Type 0 where
    pub count : events ≡ length (take most_events (events_of items))
    pub stands :
        ∥ StandsOrFailed (bound_of first) c (reverse (take most_events (events_of items))) ∥₁
    pub begins : take (length (reports_of first)) (reports_of c) ≡ reports_of first
