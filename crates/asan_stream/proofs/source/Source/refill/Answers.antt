use Rattle.std.proofs.Common.{rules, inr, ◌∙◌}
use Rattle.std.proofs.lemmas.List.{append-nil, nil_from_length}
use Rattle.asan_stream.specs.Pieces.{rest_of}
use Rattle.asan_stream.proofs.Reading.{taken_on}
use Rattle.asan_stream.proofs.source.Source.refill.Goals as goal

pub returns-in-Ok-eq0-clause-read : goal.returns-in-Ok-eq0-clause-read
returns-in-Ok-eq0-clause-read g c limit first text events read =
    let new = rest_of c.refill.new.self in
    let none = nil_from_length new (search rules) in
    inr (record {
      text = text;
      taken = rw (none, append-nil text) at (taken_on g.F.Feed.seen limit first c.args.self.now.feed c.refill.new.feed
          text (rest_of c.args.self.now.piece) new read.taken c.requires.used_up c.in-Ok-eq0.ensures.bytes);
      decoder = read.decoder;
      limit_is = read.limit_is;
      why = inr (c.in-Ok-eq0.ensures.faults ∙ read.fresh, c.in-Ok-eq0.ensures.at_end (search rules));
    })
