-- What was read of a feed, batch by batch, and how its stream ended.
use Rattle.std.proofs.Common.{◌≡◌, ℕ, ◌<◌, ◌≤◌, ◌⊎◌, List, [], ◌++◌, length, take, drop, Option, Some, None, sym, ap}
use Rattle.std.proofs.Common.{subst, ◌∙◌, inl, inr, arith}
use Rattle.std.specs.Prelude.{IfSome, is_some}
use Rattle.std.specs.Io.KnownBytes.{Consumes, IsAtEnd}
use Rattle.std.proofs.KnownBytes.{Consumes-trans}
use Rattle.std.proofs.lemmas.List.{append-nil, length-drop, length-take-le, take_all}
use Rattle.std.proofs.lemmas.Bool.{cases_lt}
use Rattle.trace_record.specs.declared.event.Event.{Event}
use Rattle.trace_record.specs.declared.end.End.{End}
use Rattle.trace_record.specs.declared.end.Fate.TheVariants as fate
use Rattle.trace_record.specs.Stream.{Spells, IsDecidedFate}
use Rattle.trace_record.specs.Standing.{StandsAt}
use Rattle.trace_record.proofs.Ends.{end_stands}
use Rattle.trace_feed.specs.Feeds.{FeedState}
use Rattle.asan_stream.specs.declared.source.Source.{Source}
use Rattle.asan_stream.specs.declared.piece.Piece.{Piece}
use Rattle.asan_stream.specs.Decoding.{HasDecoded}
use Rattle.asan_stream.specs.Outcomes.{SaysNoMore, faults_of}
use Rattle.asan_stream.specs.Pieces.{rest_of}
use Rattle.asan_stream.specs.Ranges.{read_size}
use Rattle.asan_stream.specs.Sources.{HasRead, IsDecided, HasEnded, AfterBatch, IsEndOf}
use Rattle.asan_stream.proofs.Fates.{no_faults, decided_no_faults, decided_more_may_come, undecided, split_piece}

take_few : (n : ℕ) (xs : List ℕ) → length (take n xs) ≤ n
take_few n xs = elim (cases_lt (length xs) n) [
  | inl short ↦ omega (arith, ap length (take_all n xs (omega arith)))
  | inr long ↦ omega (arith, length-take-le n xs long)
]

-- a piece has no more bytes than one read asks for
piece_short : (p : Piece) → length (rest_of p) ≤ read_size
piece_short p =
    let low : p.filled ≤ read_size = p.filled_in_range in
    let few = take_few p.filled p.buffer in
    omega (arith, length-drop p.used (take p.filled p.buffer))

module _ {F : Type 0} (seen : F → FeedState) (limit : ℕ) (first : F) where
  -- more was read after a piece that was used up
  pub taken_on : (feed now : F) (text old new : List ℕ)
      → Consumes (seen first).to_come (seen feed).to_come (text ++ old) → old ≡ []
      → Consumes (seen feed).to_come (seen now).to_come new
      → Consumes (seen first).to_come (seen now).to_come (text ++ new)
  taken_on feed now text old new before none more =
      Consumes-trans (seen first).to_come (seen feed).to_come (seen now).to_come text new
      (rw (none, append-nil text) at before) more

  -- some of the piece was decoded: the text is open still, or one of these bytes decided the end
  pub batch_read : (s new : Source F) (text : List ℕ) (before events : List Event) (used : ℕ) (found : Option End)
      → HasRead seen limit first s text before
      → 0 < used → used ≤ length (rest_of s.piece)
      → new.feed ≡ s.feed → rest_of new.piece ≡ drop used (rest_of s.piece) → new.decoder.limit ≡ s.decoder.limit
      → HasDecoded new.decoder (text ++ take used (rest_of s.piece)) events found
      → AfterBatch seen limit first (is_some found) new text events
  batch_read s new text before events used None read moved fits feed rest same decoded =
      let piece = rest_of s.piece in (
        take used piece,
        omega (arith, length-take-le used piece fits),
        record {
          taken = rw (feed, rest, ← split_piece text piece used) read.taken;
          decoder = decoded;
          limit_is = same ∙ read.limit_is;
          fresh = rw feed read.fresh;
        },
      )
  batch_read s new text before events used (Some end) read moved fits feed rest same decoded =
      let piece = rest_of s.piece in
      let parts = split_piece text piece used in
      let limit_is = same ∙ read.limit_is in
      let spells : Spells limit (text ++ take used piece) events end = rw limit_is at decoded.1 in
      let is_decided = decoded.2 in
      inl (record {
        end = end;
        stop = decoded.0;
        decided = is_decided;
        spelled = record {
          text = text ++ piece;
          taken = rw feed read.taken;
          spells = rw parts (end_stands limit (text ++ take used piece) (drop used piece) events end spells is_decided);
          no_more = λ says. absurd (decided_more_may_come end.fate is_decided says);
          faults_are = ap (λ f. (seen f).faults) feed ∙ read.fresh ∙ sym (decided_no_faults end.fate is_decided);
        };
        soon = record {
          text = text ++ take used piece;
          events = events;
          rest = drop used piece;
          taken = rw (feed, ← parts) read.taken;
          spells = spells;
          by_last = rw limit_is at decoded.3;
          few = let short = piece_short s.piece in omega (arith, length-drop used piece);
        };
      })

  -- the end of a stream that a byte decided, which the decoder gives again
  decided_end : (s : Source F) (events : List Event) (end : End) → IsDecided seen limit first s events
      → IfSome s.decoder.stop (λ e. end ≡ e) → IsEndOf seen limit first s.feed events end
  decided_end s events end d stopped =
      let same : end ≡ d.end = rw d.stop at stopped in
      record { spelled = rw same d.spelled; soon = λ _. rw same d.soon }

  -- the end of a stream where a read failed
  pub end_at_fault : (s : Source F) (events : List Event) (end : End) → HasEnded seen limit first s events
      → IfSome s.decoder.stop (λ e. end ≡ e)
      → ((text : List ℕ) (es : List Event) → StandsAt s.decoder text es
      → Spells s.decoder.limit text es end × (end.fate ≡ fate.ReadFailed))
      → 0 < (seen s.feed).faults → IsEndOf seen limit first s.feed events end
  end_at_fault s events end (inl d) stopped ends some = decided_end s events end d stopped
  end_at_fault s events end (inr b) stopped ends some =
      let reading = ends b.text events b.decoder in
      let one : (seen s.feed).faults ≡ 1 = elim b.why [
        | inl one ↦ one
        | inr none ↦ absurd (let zero = none.0 in omega arith)
      ] in
      record {
        spelled = record {
          text = b.text;
          taken = b.taken;
          spells = rw b.limit_is at reading.0;
          no_more = λ says. absurd (subst SaysNoMore reading.1 says);
          faults_are = one ∙ sym (ap faults_of reading.1);
        };
        soon = λ decided. absurd (subst IsDecidedFate reading.1 decided);
      }

  -- the end of a stream where no read failed
  pub end_at_end : (s : Source F) (events : List Event) (end : End) → HasEnded seen limit first s events
      → IfSome s.decoder.stop (λ e. end ≡ e)
      → ((text : List ℕ) (es : List Event) → StandsAt s.decoder text es
      → Spells s.decoder.limit text es end × ((end.fate ≡ fate.Truncated) ⊎ (end.fate ≡ fate.NoClose)))
      → (seen s.feed).faults ≡ 0 → IsEndOf seen limit first s.feed events end
  end_at_end s events end (inl d) stopped ends none = decided_end s events end d stopped
  end_at_end s events end (inr b) stopped ends none =
      let reading = ends b.text events b.decoder in
      let at_end : IsAtEnd (seen s.feed).to_come = elim b.why [
        | inl one ↦ absurd (omega arith)
        | inr whole ↦ whole.1
      ] in
      record {
        spelled = record {
          text = b.text;
          taken = b.taken;
          spells = rw b.limit_is at reading.0;
          no_more = λ _. at_end;
          faults_are = none ∙ sym (no_faults end.fate reading.1);
        };
        soon = λ decided. absurd (undecided end.fate reading.1 decided);
      }
