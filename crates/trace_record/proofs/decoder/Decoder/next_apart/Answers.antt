use Rattle.std.proofs.Common.{rules, ◌≡◌, ℕ, ◌+◌, ◌-◌, List, ◌++◌, take, drop, length, ap, ◌∙◌, append_assoc, subst}
use Rattle.std.proofs.Common.{arith}
use Rattle.std.proofs.lemmas.List.{take_rest, drop-take, take-append-drop, take-take}
use Rattle.trace_record.specs.declared.decoder.Out.{Out}
use Rattle.trace_record.specs.Standing.{Answers}
use Rattle.trace_record.proofs.decoder.Decoder.next_apart.Goals as goal

-- what comes before a place, and some of what comes after it
two_parts : (text piece : List ℕ) (m n : ℕ)
    → (text ++ take m piece) ++ take n (take (length piece - m) (drop m piece)) ≡ text ++ take (m + n) piece
two_parts text piece m n =
    let front : take m (take (m + n) piece) ≡ take m piece = take-take m (m + n) piece (omega arith) in
    let joined : take m piece ++ take n (drop m piece) ≡ take (m + n) piece =
    rw (← front, ← drop-take m n piece) (take-append-drop m (take (m + n) piece)) in
    rw (take_rest piece m) (append_assoc text (take m piece) (take n (drop m piece))
    ∙ ap (λ (p : List ℕ). text ++ p) joined)

pub returns-in-Need-clause-takes : goal.returns-in-Need-clause-takes
returns-in-Need-clause-takes c = record {
  used = search rules;
  got = search rules;
  ended = search rules;
  limit = search rules;
  stop = search rules;
  answers = λ text events h.
      let piece = c.args.piece.now in
      let m = c.take_header-header.result.used in
      let n = c.take_record-record.result.used in
      let first = subst (λ (o : Out). Answers c.take_header-header.new.self (text ++ take m piece) events o)
      c.in-Need.is (c.take_header-header.ensures.takes.answers text events h) in
      subst (λ (t : List ℕ). Answers c.take_record-record.new.self t events c.take_record-record.result.out)
      (two_parts text piece m n) (c.take_record-record.ensures.takes.answers (text ++ take m piece) events first);
}
