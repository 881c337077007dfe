use Rattle.std.proofs.Common.{ℕ, ◌+◌, ◌*◌, ◌<◌, List, Option, Some, None, length, arith}
use Rattle.trace_record.specs.declared.event.Event.{Event}
use Rattle.trace_record.specs.declared.end.Fate.{Fate}
use Rattle.trace_record.specs.Reading.{Reads}
use Rattle.trace_record.specs.Stream.{IsDecided}
use Rattle.trace_record.proofs.Existence.{reading}
use Rattle.trace_record.proofs.Lengths.{open_short, open_short_1}
use Rattle.trace_record.proofs.laws.open_texts_are_short.Goals as goal

pub returns-clause-short : goal.returns-clause-short
returns-clause-short c limit text events (rest, reads) = open_short limit text events rest reads

pub returns-clause-short_in_version_1 : goal.returns-clause-short_in_version_1
returns-clause-short_in_version_1 c limit text events one (rest, reads) = open_short_1 limit text events rest one reads

-- a text that is too long to be open is decided
long_decided : (limit : ℕ) (text : List ℕ) (events : List Event) (end : Option Fate) → 18 * limit + 8 < length text
    → Reads limit text events end
    → (events : List Event) × (decided : Fate) × IsDecided limit text events decided
long_decided limit text events None long (rest, reads) = let short = open_short limit text events rest reads in
    absurd (omega arith)
long_decided limit text events (Some fate) long reads = (events, fate, reads)

pub returns-clause-decided : goal.returns-clause-decided
returns-clause-decided c limit text bytes long = let r = reading limit text bytes in
    long_decided limit text r.events r.end long r.reads
