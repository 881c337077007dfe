-- What comes of asking, reading, checking, placing and settling.
use Rattle.std.proofs.Common.{◌≡◌, ◌+◌, ◌≤◌, ◌⊎◌, ◌∙◌, List, length, ap, arith, sym}
use Rattle.std.specs.Prelude.{All, IsTrue}
use Rattle.trace_feed.specs.declared.door.Arrival.{Arrival}
use Rattle.trace_feed.specs.Doors.{DoorState}
use Rattle.trace_feed.specs.Feeds.{FeedState}
use Rattle.asan_stream.specs.declared.options.Options.{Options}
use Rattle.asan_stream.specs.declared.outcome.Outcome.{Outcome}
use Rattle.asan_senders.specs.declared.sender.Sender.{Sender}
use Rattle.asan_senders.specs.Arrivals.{Arrived, IsAllThatCame, IsAnswerTo, IsArrived, Pairwise}
use Rattle.asan_senders.specs.Collected.{AreCollected}
use Rattle.asan_senders.specs.Counts.{refused_among}
use Rattle.asan_senders.specs.Ranges.{most_senders}
use Rattle.asan_senders.specs.Senders.{Becomes, Came, Each, Gets, Rejoins}
use Rattle.asan_senders.proofs.Counting.{all_counted}
use Rattle.asan_senders.proofs.Rights.{all_few}
use Rattle.asan_senders.proofs.Senders.{pairs_back, pairs_fit}

-- the answers to all that arrived are what is collected
pub collected_by_answers : {F A : Type 0} (seen : F → FeedState) (options : Options) (old new : DoorState F)
    (arrivals : List (Arrival F)) (outcomes : List (Outcome F A))
    → Arrived old.to_arrive new.to_arrive arrivals → IsTrue new.is_shut ⊎ (length arrivals ≡ most_senders)
    → new.refusals ≡ refused_among arrivals + old.refusals → IsAllThatCame old.left (length arrivals)
    → length arrivals ≤ most_senders
    → Pairwise (IsAnswerTo seen options) arrivals outcomes → All (IsArrived seen) arrivals
    → AreCollected seen options old new outcomes
collected_by_answers seen options old new arrivals outcomes arrived all refusals count few fit fresh =
    record {
      answers = (arrivals, arrived, all, fit, fresh);
      count = rw fit.same_length count;
      refused = refusals ∙ ap (λ n. n + old.refusals) (sym (all_counted seen options arrivals outcomes fit));
      few = (let same = fit.same_length in omega arith);
      few_reports = all_few seen options arrivals outcomes fit;
    }

-- senders that were read, checked, placed and settled have such answers
pub answered : {F A : Type 0} (seen : F → FeedState) (options : Options) (arrivals : List (Arrival F))
    (xs ys zs : List (Sender F A)) (outcomes : List (Outcome F A))
    → Pairwise (Came seen options) arrivals xs → Each (Becomes seen options.limit) xs ys
    → Each (Rejoins seen options.quarantine) ys zs → Pairwise (Gets seen) zs outcomes
    → Pairwise (IsAnswerTo seen options) arrivals outcomes
answered seen options arrivals xs ys zs outcomes came read back gets =
    pairs_fit seen options arrivals zs outcomes (pairs_back seen options arrivals xs ys zs came read back) gets
