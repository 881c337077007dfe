use Rattle.std.proofs.Common.{rules, refl, ◌<◌, ◌++◌, length, take}
use Rattle.asan_stream.specs.Pieces.{rest_of}
use Rattle.asan_stream.specs.Sources.{HasRead}
use Rattle.asan_stream.proofs.Reading.{batch_read}
use Rattle.asan_stream.proofs.source.Source.next_batch.Goals.{else-is_empty-via-then-is_empty+else-not-refill}
use Rattle.asan_stream.proofs.source.Source.next_batch.Goals.{else-is_empty-via-else-is_empty}
use Rattle.asan_stream.proofs.source.Source.next_batch.Goals as goal

pub returns-clause-read : goal.returns-clause-read
returns-clause-read g c limit first text before read =
    let seen = g.F.Feed.seen in
    let s = c.else-is_empty.self in
    let ready : HasRead seen limit first s text before × (0 < length (rest_of s.piece)) = elim c.else-is_empty.branch [
      | else-is_empty-via-then-is_empty+else-not-refill w ↦ rw w.self-is (
        rw w.if-not-refill.false at (w.refill.ensures.read limit first text before read),
        w.refill.ensures.some w.if-not-refill.false,
      )
      | else-is_empty-via-else-is_empty w ↦ rw w.self-is (read, search rules)
    ] in
    let piece = c.rest-2.ensures in
    let decoded = c.decode-decoded in
    let events = before ++ take decoded.result.count decoded.new.events in
    rw c.is_some.ensures (batch_read seen limit first s _ text before events decoded.result.used decoded.result.end
    ready.0 (decoded.ensures.moved (rw piece ready.1) c.requires.some_room) (rw piece at decoded.ensures.used)
    refl c.advance.ensures decoded.ensures.limit (rw piece at (decoded.ensures.decoded text before ready.0.decoder)))
