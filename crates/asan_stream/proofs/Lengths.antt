-- How long a text can become before something ends it, and how far a read goes past its end.
use Rattle.std.proofs.Common.{◌≡◌, ℕ, ◌+◌, ◌<◌, List, ◌++◌, length, ap, ◌∙◌, inl, inr, arith, length-append}
use Rattle.trace_record.specs.declared.event.Event.{Event}
use Rattle.trace_record.specs.Spelling.{header, spellings}
use Rattle.trace_record.specs.Standing.{Standing, StandsAt}
use Rattle.asan_stream.specs.Sources.{read_of, left_of}
use Rattle.trace_record.proofs.Lengths.{open_short}
use Rattle.trace_record.proofs.Steps.{in_header_offset, made_offset}

all_read : (d : Standing) (text : List ℕ) (events : List Event) → StandsAt d text events → read_of d ≡ length text
all_read d text events at =
    elim at.reads [
      | inl h ↦
          let start : d.offset ≡ 0 = at.offset ∙ in_header_offset text events h.short in
          let whole = ap length h.rest_is in
          omega arith
      | inr r ↦
          let place : d.offset ≡ 8 + length (spellings r.version events) = at.offset
          ∙ made_offset r.version text events d.rest r.made in
          let whole = ap length r.made.split in
          omega (
            arith,
            length-append (header r.version ++ spellings r.version events) d.rest,
            length-append (header r.version) (spellings r.version events),
          )
    ]

-- a read that gives a byte leaves fewer of them
pub fewer_left : (d new : Standing) (text piece : List ℕ) (events later : List Event) → new.limit ≡ d.limit
    → 0 < length piece
    → StandsAt d text events → StandsAt new (text ++ piece) later → left_of new < left_of d
fewer_left d new text piece events later limit some before after =
    let was = all_read d text events before in
    let is = all_read new (text ++ piece) later after in
    let room = open_short d.limit text events d.rest before.reads in
    omega (arith, length-append text piece)
