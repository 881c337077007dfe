-- Where a bench and its checker stand.
use Rattle.std.specs.Prelude.{◌≡◌, ℕ, ◌<◌, Bool, ◌||◌, nat_le, List, [], ◌∷◌, ◌++◌, length}
use Rattle.std.specs.Prelude.{Option, IsTrue, ◌⊎◌}
use Rattle.std.specs.Prelude.{slice_index_or}
use Rattle.trace_lane.specs.Lanes.{Lane, out_lane, taken_list}
use Rattle.asan_check.specs.declared.checker.Checker.{Checker}
use Rattle.asan_check.specs.declared.report.Report.{Report}
use Rattle.asan_check.specs.Standing.{bound_of, reports_of}
use Rattle.asan_stream.specs.declared.item.Item.{Item}
use Rattle.asan_stream.specs.declared.bench.Bench.{Bench}
use Rattle.asan_stream.specs.declared.bench.Turn.{Turn}
use Rattle.asan_stream.specs.declared.bench.Turn.TheVariants as turn
use Rattle.asan_stream.specs.Items.{events_of, has_end}
use Rattle.asan_stream.specs.Outboxes.{IsFront, HasPut, KeepsLane, lane_into, put_into}
use Rattle.asan_stream.specs.Ranges.{most_events}

-- whether a bench that took these items takes no more
abbrev pub is_over : List Item → Bool
is_over items = has_end items || nat_le most_events (length (events_of items))

-- what a turn adds to the items that were taken: one where it says so, else none
abbrev pub Takes : Turn → List Item → List Item → Type 0
Takes turn.Took before after = (x : Item) × (after ≡ before ++ x ∷ [])
Takes turn.Empty before after = after ≡ before
Takes turn.Over before after = after ≡ before

module _ {A : Type 0} where
  -- what a contract sees of a bench: its process, its lane, the items that it has taken, its
  -- checker, the bound of that checker's quarantine, and the checker's reports
  abbrev pub process_of : Bench A → ℕ
  process_of b = b.process

  abbrev pub lane_of : Bench A → Lane A
  lane_of b = out_lane b.lane

  abbrev pub taken_of : Bench A → List Item
  taken_of b = taken_list b.lane

  abbrev pub checker_of : Bench A → Checker A
  checker_of b = b.checker

  abbrev pub bench_bound : Bench A → ℕ
  bench_bound b = bound_of b.checker

  abbrev pub found_of : Bench A → List Report
  found_of b = reports_of b.checker

  -- and whether its lane has run dry: it was seen to be left, and then it was found empty
  abbrev pub is_dry : Bench A → Bool
  is_dry b = b.dry

  -- and its report lane, if it has one, and the reports that it has put into it
  abbrev pub report_lane_of : Bench A → Option (Lane A)
  report_lane_of b = lane_into b.outbox.lane

  abbrev pub put_of : Bench A → List Report
  put_of b = put_into b.outbox.lane

  -- the bench has put all of these reports, or has no report lane
  abbrev pub HasReported : Bench A → List Report → Type 0
  HasReported b reports = HasPut b.outbox reports

  -- a bench takes no more: it is over, or its lane has run dry
  abbrev pub TakesNoMore : Bench A → Type 0
  TakesNoMore b = IsTrue (is_over (taken_of b)) ⊎ IsTrue (is_dry b)

  -- a turn of a bench leaves it the same process, lane and bound, and its report lane if that is
  -- still there; reports come only after those that it had
  pub record Turns (before : Bench A) (did : Turn) (after : Bench A) : Type 0 where
    pub process : process_of after ≡ process_of before
    pub lane : lane_of after ≡ lane_of before
    pub bound : bench_bound after ≡ bench_bound before
    pub report_lane : KeepsLane (report_lane_of before) (report_lane_of after)
    pub found : IsFront (found_of before) (found_of after)
    pub taken : Takes did (taken_of before) (taken_of after)

  -- a bench has the process, the lane and the bound that it had, and its report lane if that is
  -- still there; it has taken some more items, and found some more reports
  pub record Later (before after : Bench A) : Type 0 where
    pub process : process_of after ≡ process_of before
    pub lane : lane_of after ≡ lane_of before
    pub bound : bench_bound after ≡ bench_bound before
    pub report_lane : KeepsLane (report_lane_of before) (report_lane_of after)
    pub found : IsFront (found_of before) (found_of after)
    pub more : List Item
    pub taken : taken_of after ≡ taken_of before ++ more

  -- the same of each bench, in order
  pub record EachLater (before after : List (Bench A)) : Type 0 where
    pub same_length : length after ≡ length before
    pub each :
        (i : ℕ) (d : Bench A) → i < length before →
        Later (slice_index_or before i d) (slice_index_or after i d)

  -- each of these benches takes no more
  abbrev pub EachTakesNoMore : List (Bench A) → Type 0
  EachTakesNoMore benches =
      (i : ℕ) (d : Bench A) → i < length benches → TakesNoMore (slice_index_or benches i d)

  -- each of these benches has put all its checker's reports, or has no report lane
  abbrev pub EachReported : List (Bench A) → Type 0
  EachReported benches =
      (i : ℕ) (d : Bench A) → i < length benches →
      HasReported (slice_index_or benches i d) (found_of (slice_index_or benches i d))
