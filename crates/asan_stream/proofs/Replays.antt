-- What one more batch does to where a replay stands.
use Rattle.std.proofs.Common.{ℕ, ◌<◌, Bool, true, false, List, ◌++◌, sym, ◌∙◌, IsTrue}
use Rattle.std.specs.Prelude.{reverse, not}
use Rattle.std.proofs.lemmas.Bool.{false≢true}
use Rattle.std.proofs.lemmas.List.{reverse-append}
use Rattle.trace_record.specs.declared.event.Event.{Event}
use Rattle.trace_feed.specs.Feeds.{FeedState}
use Rattle.asan_check.specs.declared.checker.Checker.{Checker}
use Rattle.asan_check.specs.Standing.{StandsOrFailed}
use Rattle.asan_stream.specs.declared.options.Options.{Options}
use Rattle.asan_stream.specs.declared.source.Source.{Source}
use Rattle.asan_stream.specs.Replays.{IsThen}
use Rattle.asan_stream.specs.Sources.{AfterBatch, HasRead, left_of}
use Rattle.asan_stream.proofs.Lengths.{fewer_left}

-- a batch that is not the last one leaves fewer bytes that decide the stream
pub less_after : {F : Type 0} (seen : F → FeedState) (limit : ℕ) (first : F) (old new : Source F) (text : List ℕ)
    (before all : List Event) (is_last : Bool) → IsTrue (not is_last)
    → HasRead seen limit first old text before → AfterBatch seen limit first is_last new text all
    → left_of new.decoder < left_of old.decoder
less_after seen limit first old new text before all true more read after = absurd (false≢true more)
less_after seen limit first old new text before all false more read after =
    fewer_left old.decoder new.decoder text after.0 before all (after.2.limit_is ∙ sym read.limit_is) after.1
    read.decoder after.2.decoder

module _ {F A : Type 0} (seen : F → FeedState) (options : Options) (first : F) where
  -- where a replay stands whose source gave one more batch, which its checker was handed
  pub then_after : (text : List ℕ) (before more : List Event) (is_last : Bool) (source : Source F) (checker : Checker A)
      (room : List Event)
      → AfterBatch seen options.limit first is_last source text (before ++ more)
      → StandsOrFailed options.quarantine checker (reverse more ++ reverse before)
      → IsThen seen options first (not is_last) (record { source = source; checker = checker; events = room })
  then_after text before more true source checker room after stands = record {
    events = before ++ more;
    ended = after;
    stands = rw (reverse-append before more) stands;
  }
  then_after text before more false source checker room after stands = record {
    text = text ++ after.0;
    events = before ++ more;
    read = after.2;
    stands = rw (reverse-append before more) stands;
  }
