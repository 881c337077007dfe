-- What settling makes of a sender.
use Rattle.std.proofs.Common.{◌≡◌, ◌≤◌, List, [], Option, Some, None, refl, ap, arith, true, All, slice_index_or}
use Rattle.std.specs.Prelude.{IfSome, IsTrue, length, Bool, false}
use Rattle.std.proofs.lemmas.Bool.{false≢true}
use Rattle.trace_feed.specs.declared.door.Arrival.{Arrival}
use Rattle.trace_feed.specs.declared.door.Arrival.TheVariants as arrival
use Rattle.trace_feed.specs.Feeds.{FeedState}
use Rattle.trace_lane.specs.Lanes.{end_list}
use Rattle.asan_stream.specs.declared.options.Options.{Options}
use Rattle.trace_lane.specs.declared.lane_end.LaneEnd.{LaneEnd}
use Rattle.asan_stream.specs.declared.item.Item.{Item}
use Rattle.trace_record.specs.declared.event.Event.{Event}
use Rattle.trace_record.specs.declared.end.End.{End}
use Rattle.asan_stream.specs.declared.outcome.Outcome.{Outcome}
use Rattle.asan_stream.specs.declared.outcome.Outcome.TheVariants as outcome
use Rattle.asan_senders.specs.declared.sender.Sender.{Sender}
use Rattle.asan_senders.specs.declared.sender.Sender.TheVariants as sender
use Rattle.asan_stream.specs.declared.bench.Bench.{Bench}
use Rattle.asan_stream.specs.declared.reader.ReaderDone.{ReaderDone}
use Rattle.asan_stream.specs.Benches.{bench_bound}
use Rattle.asan_stream.specs.Items.{items_of}
use Rattle.asan_stream.specs.Outcomes.{IsSpelled, HasResults}
use Rattle.asan_stream.specs.Ranges.{most_events, most_reports}
use Rattle.asan_stream.specs.Readers.{IsPut}
use Rattle.asan_senders.specs.Senders.{AllJoined, Came, IsJoined, IsSettledBy}
use Rattle.asan_senders.specs.Arrivals.{Pairwise, IsAnswerTo, IsAnswerToFeed}
use Rattle.asan_stream.specs.Outcomes.{is_read, reports_of}
use Rattle.asan_check.specs.declared.report.Report.{Report}
use Rattle.asan_print.specs.declared.port.Port.{Port}
use Rattle.asan_stream.proofs.Consequences.{ended_within, few_reports}

module _ {F A : Type 0} where
  -- what `settle` made of a lane, where no end of a report lane is asked for, and where it is there
  pub settled_without_port : (lane_end : Option (LaneEnd Item A)) (reports : Option (LaneEnd Report A))
      (result : Outcome F A)
      → (lane_end ≡ None → result ≡ outcome.Unsettled) → IfSome lane_end (λ e. IsTrue (is_read result))
      → IsSettledBy None lane_end reports result
  settled_without_port None reports result none read = none refl
  settled_without_port (Some e) reports result none read = read

  pub settled_at_port : (port : Port A) (lane_end : Option (LaneEnd Item A)) (end : LaneEnd Report A)
      (result : Outcome F A)
      → (lane_end ≡ None → result ≡ outcome.Unsettled) → IfSome lane_end (λ e. IsTrue (is_read result))
      → IsSettledBy (Some port) lane_end (Some end) result
  settled_at_port port None end result none read = none refl
  settled_at_port port (Some e) end result none read = read

module _ {F A : Type 0} (seen : F → FeedState) where
  -- what has the verdicts on the events of a feed is its outcome
  right_of : (options : Options) (feed after : F) (end : End) (events : List Event) (result : Outcome F A)
      → IsSpelled options.limit (seen feed) (seen after) events end
      → HasResults options.quarantine events after end result → IsAnswerToFeed seen options feed result
  right_of options feed after end events (outcome.Settled f n rs) spelled results =
      (after, events, end, spelled, results)
  right_of options feed after end events (outcome.NoMemory f n k rs) spelled results =
      (after, events, end, spelled, results)
  right_of options feed after end events outcome.NotOpened spelled results = absurd results
  right_of options feed after end events outcome.NotStarted spelled results = absurd results
  right_of options feed after end events outcome.Unsettled spelled results = absurd results

  -- what came of a reader that is done, by the clause of `settle`
  settled_by : (options : Options) (feed after : F) (end : End) (lane_end : Option (LaneEnd Item A))
      (result : Outcome F A)
      → (lane_end ≡ None → result ≡ outcome.Unsettled)
      → IfSome lane_end (λ e. (events : List Event) → end_list e ≡ items_of events end → length events ≤ most_events
      → HasResults options.quarantine events after end result)
      → IfSome lane_end (λ e. IsPut seen options.limit feed after end [] (end_list e))
      → IsAnswerToFeed seen options feed result
  settled_by options feed after end None result none some came = rw (none refl) tt
  settled_by options feed after end (Some e) result none some came =
      let most = options.limit_in_range in
      let few : length came.events ≤ options.limit =
      ended_within options.limit came.spelled.text came.events end.fate came.spelled.spells.fate in
      right_of options feed after end came.events result came.spelled (some came.events came.list (omega arith))

  abbrev was_refused : Sender F A → Bool
  was_refused sender.NotOpened = true
  was_refused (sender.NotStarted missing) = false
  was_refused (sender.Ready feed lane) = false
  was_refused (sender.Running h) = false
  was_refused (sender.Read done) = false
  was_refused (sender.Joined done bench reports) = false

  pub settled_came : (options : Options) (a : Arrival F) (done : ReaderDone F A) (bench : Bench A)
      (reports : Option (LaneEnd Report A)) (result : Outcome F A)
      → (done.lane_end ≡ None → result ≡ outcome.Unsettled)
      → IfSome done.lane_end (λ e. (events : List Event) → end_list e ≡ items_of events done.end
      → length events ≤ most_events → HasResults (bench_bound bench) events done.feed done.end result)
      → Came seen options a (sender.Joined done bench reports) → IsAnswerTo seen options a result
  settled_came options arrival.Over done bench reports result none some came = absurd came
  settled_came options arrival.Refused done bench reports result none some came =
      absurd (false≢true (ap was_refused came))
  settled_came options (arrival.Came feed) done bench reports result none some came =
      settled_by options feed done.feed done.end done.lane_end result none (rw came.0 at some) came.2

  -- a bench that came back fits
  came_met : (options : Options) (a : Arrival F) (s : Sender F A) → Came seen options a s → IsJoined s
  came_met options a sender.NotOpened h = tt
  came_met options a (sender.NotStarted missing) h = tt
  came_met options a (sender.Ready feed lane) h = tt
  came_met options arrival.Over (sender.Running k) h = absurd h
  came_met options arrival.Refused (sender.Running k) h = absurd (false≢true (ap was_refused h))
  came_met options (arrival.Came feed) (sender.Running k) h = absurd h
  came_met options a (sender.Read done) h = tt
  came_met options arrival.Over (sender.Joined done bench reports) h = absurd h
  came_met options arrival.Refused (sender.Joined done bench reports) h = absurd (false≢true (ap was_refused h))
  came_met options (arrival.Came feed) (sender.Joined done bench reports) h = h.1

  pub pairs_joined : (options : Options) (arrivals : List (Arrival F)) (xs : List (Sender F A))
      → Pairwise (Came seen options) arrivals xs → AllJoined xs
  pairs_joined options arrivals xs h = record {
    each = λ i d below. came_met options (slice_index_or arrivals i arrival.Refused) (slice_index_or xs i d)
        (h.each i arrival.Refused d (let same = h.same_length in omega arith));
  }

  -- an outcome that fits has no more reports than the limit has events
  few_fit : (options : Options) (a : Arrival F) (result : Outcome F A) → IsAnswerTo seen options a result
      → length (reports_of result) ≤ options.limit
  few_fit options (arrival.Came feed) (outcome.Settled f n rs) fits =
      few_reports seen options feed (outcome.Settled f n rs) fits
  few_fit options (arrival.Came feed) (outcome.NoMemory f n k rs) fits =
      few_reports seen options feed (outcome.NoMemory f n k rs) fits
  few_fit options (arrival.Came feed) outcome.NotOpened fits = absurd fits
  few_fit options (arrival.Came feed) outcome.NotStarted fits = omega arith
  few_fit options (arrival.Came feed) outcome.Unsettled fits = omega arith
  few_fit options arrival.Refused result fits = rw fits (omega arith)
  few_fit options arrival.Over result fits = absurd fits

  pub all_few : (options : Options) (arrivals : List (Arrival F)) (outcomes : List (Outcome F A))
      → Pairwise (IsAnswerTo seen options) arrivals outcomes
      → All (λ result. length (reports_of result) ≤ most_reports) outcomes
  all_few options arrivals outcomes fit = λ k d within.
      let most = options.limit_in_range in
      let few = few_fit options (slice_index_or arrivals k arrival.Refused) (slice_index_or outcomes k d)
      (fit.each k arrival.Refused d (let same = fit.same_length in omega arith)) in
      omega arith
