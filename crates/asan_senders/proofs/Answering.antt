-- What is answered for a feed, as an outcome of its bytes.
use Rattle.std.proofs.Common.{◌≡◌, ℕ, List, Some}
use Rattle.std.specs.Prelude.{IsTrue}
use Rattle.std.proofs.lemmas.Bool.{false≢true}
use Rattle.trace_feed.specs.declared.door.Arrival.TheVariants as arrival
use Rattle.trace_feed.specs.Feeds.{FeedState}
use Rattle.asan_stream.specs.declared.options.Options.{Options}
use Rattle.asan_stream.specs.declared.outcome.Outcome.{Outcome}
use Rattle.asan_stream.specs.declared.outcome.Outcome.TheVariants as outcome
use Rattle.asan_stream.specs.Agreement.{IsOutcomeOfBytes}
use Rattle.asan_senders.specs.Arrivals.{IsAnswerTo}
use Rattle.asan_stream.specs.Outcomes.{is_read}

module _ {F A : Type 0} where
  pub outcome_of_bytes : (seen : F → FeedState) (options : Options) (bytes : List ℕ) (feed : F) (result : Outcome F A)
      → (seen feed).to_come ≡ Some bytes → IsAnswerTo seen options (arrival.Came feed) result → IsTrue (is_read result)
      → IsOutcomeOfBytes options.limit options.quarantine bytes result
  outcome_of_bytes seen options bytes feed (outcome.Settled f end reports) known answer read =
      record {
        before = seen feed;
        after = seen answer.0;
        feed = answer.0;
        events = answer.1;
        end = answer.2;
        bytes_are = known;
        spelled = answer.3;
        results = answer.4;
      }
  outcome_of_bytes seen options bytes feed (outcome.NoMemory f end checked reports) known answer read =
      record {
        before = seen feed;
        after = seen answer.0;
        feed = answer.0;
        events = answer.1;
        end = answer.2;
        bytes_are = known;
        spelled = answer.3;
        results = answer.4;
      }
  outcome_of_bytes seen options bytes feed outcome.NotOpened known answer read = absurd (false≢true read)
  outcome_of_bytes seen options bytes feed outcome.NotStarted known answer read = absurd (false≢true read)
  outcome_of_bytes seen options bytes feed outcome.Unsettled known answer read = absurd (false≢true read)
