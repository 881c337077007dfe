-- What follows for an outcome: it has few reports, and its feed was not read far past its end.
use Rattle.std.proofs.Common.{ℕ, ◌≤◌, List, [], ◌∷◌, length, take, inl, inr, ap, length-append, arith}
use Rattle.std.specs.Prelude.{Option, Some, None, option_to_list, reverse}
use Rattle.std.proofs.lemmas.List.{length-reverse, length-take-le}
use Rattle.trace_record.specs.declared.event.Event.{Event}
use Rattle.trace_record.specs.declared.end.End.{End}
use Rattle.trace_record.specs.declared.end.Fate.{Fate}
use Rattle.trace_record.specs.declared.end.Fate.TheVariants as fate
use Rattle.trace_record.specs.Stream.{MayEnd, IsDecidedFate}
use Rattle.trace_feed.specs.Feeds.{FeedState}
use Rattle.asan_check.specs.Traces.{verdict, verdicts_of, verdicts}
use Rattle.asan_stream.specs.declared.options.Options.{Options}
use Rattle.asan_stream.specs.declared.outcome.Outcome.{Outcome}
use Rattle.asan_stream.specs.declared.outcome.Outcome.TheVariants as outcome
use Rattle.asan_stream.specs.Outcomes.{IsOutcomeOf, IsDecidedSoon, StopsSoon, HasResults}
use Rattle.asan_stream.specs.Outcomes.{reports_of}
use Rattle.asan_stream.proofs.Stepping.{open_within}

at_most_one : {X : Type 0} (o : Option X) → length (option_to_list o) ≤ 1
at_most_one None = omega arith
at_most_one (Some x) = omega arith

pub few_of : (bound : ℕ) (past : List Event) → length (verdicts_of bound past) ≤ length past
few_of bound [] = omega arith
few_of bound (e ∷ past) =
    let one = at_most_one (verdict bound past e) in
    let rest = few_of bound past in
    omega (arith, length-append (verdicts_of bound past) (option_to_list (verdict bound past e)))

-- each event has one verdict at most
few_verdicts : (bound : ℕ) (events : List Event) → length (verdicts bound events) ≤ length events
few_verdicts bound events = let few = few_of bound (reverse events) in omega (arith, length-reverse events)

-- a text that has ended has no more events than the limit
pub ended_within : (limit : ℕ) (text : List ℕ) (events : List Event) (f : Fate) → MayEnd limit text events f
    → length events ≤ limit
ended_within limit text events fate.Closed ended = ended.0
ended_within limit text events (fate.Malformed f) (inl bad) = let none = ap length bad.1.none in omega arith
ended_within limit text events (fate.Malformed f) (inr bad) = let less = bad.0 in omega arith
ended_within limit text events fate.TooMany ended = let all = ended.0 in omega arith
ended_within limit text events fate.Truncated ended = open_within limit text events ended.0.0 ended.0.1
ended_within limit text events fate.NoClose ended = ended.1
ended_within limit text events fate.ReadFailed ended = open_within limit text events ended.0 ended.1

module _ {F A : Type 0} where
  few_in : (bound : ℕ) (events : List Event) (feed : F) (end : End) (result : Outcome F A)
      → HasResults bound events feed end result → length (reports_of result) ≤ length events
  few_in bound events feed end (outcome.Settled f n reports) results = rw results.2 (few_verdicts bound events)
  few_in bound events feed end (outcome.NoMemory f n checked reports) results =
      let few = few_verdicts bound (take checked events) in
      let some = results.2 in
      rw results.3 (omega (arith, length-take-le checked events (omega arith)))
  few_in bound events feed end outcome.NotOpened results = absurd results
  few_in bound events feed end outcome.NotStarted results = absurd results
  few_in bound events feed end outcome.Unsettled results = absurd results

  -- the outcome of a feed has no more reports than the limit has events
  pub few_reports : (seen : F → FeedState) (options : Options) (before : F) (result : Outcome F A)
      → IsOutcomeOf seen options before result → length (reports_of result) ≤ options.limit
  few_reports seen options before result o =
      let events = o.1 in
      let within = ended_within options.limit o.3.text events o.2.fate o.3.spells.fate in
      let few = few_in options.quarantine events o.0 o.2 result o.4 in
      omega arith

  -- an outcome stops soon where its feed and its end do
  pub stops_soon : (seen : F → FeedState) (options : Options) (before feed : F) (events : List Event) (end : End)
      (result : Outcome F A)
      → HasResults options.quarantine events feed end result
      → (IsDecidedFate end.fate → IsDecidedSoon options.limit (seen before) (seen feed) end)
      → StopsSoon seen options before result
  stops_soon seen options before feed events end (outcome.Settled f n reports) results soon =
      rw (results.0, results.1) soon
  stops_soon seen options before feed events end (outcome.NoMemory f n checked reports) results soon =
      rw (results.0, results.1) soon
  stops_soon seen options before feed events end outcome.NotOpened results soon = absurd results
  stops_soon seen options before feed events end outcome.NotStarted results soon = absurd results
  stops_soon seen options before feed events end outcome.Unsettled results soon = absurd results
