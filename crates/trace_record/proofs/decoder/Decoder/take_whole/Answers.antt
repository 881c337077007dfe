use Rattle.std.proofs.Common.{rules, ◌≡◌, ◌≢◌, ◌<◌, ◌≤◌, ◌++◌, ℕ, List, [], length, take, get_or, sym}
use Rattle.std.proofs.Common.{◌∙◌, arith, subst}
use Rattle.std.proofs.lemmas.List.{take_more, take_all}
use Rattle.trace_record.specs.Reading.{Says}
use Rattle.trace_record.specs.Standing.{Standing, StandsAt}
use Rattle.trace_record.specs.Stream.{IsUnfinished}
use Rattle.trace_record.proofs.Steps.{too_many, bad_code, part_more, unfinished_of}
use Rattle.trace_record.proofs.decoder.Decoder.take_whole.Goals as goal

pub returns-then-self-from-clause-takes : goal.returns-then-self-from-clause-takes
returns-then-self-from-clause-takes c = record {
  used = search rules;
  got = search rules;
  ended = search rules;
  limit = search rules;
  stop = search rules;
  answers = λ text events h.
      let one = take_more c.args.piece.now 0 0 c.requires.begun in
      let not : get_or c.args.piece.now 0 0 ≢ 7 = omega arith in
      let full = subst (λ (d : Standing). d.events ≡ d.limit) c.self.view_is (omega arith) in
      let ended = too_many _ _ text events h c.requires.in_records (get_or c.args.piece.now 0 0) c.requires.none_cut one
      not full in
      rw (c.stop.ensures.answer, c.stop.ensures.stops) (ended.0, tt, ended.1);
}

pub returns-then-size-eq0-clause-takes : goal.returns-then-size-eq0-clause-takes
returns-then-size-eq0-clause-takes c = record {
  used = search rules;
  got = search rules;
  ended = search rules;
  limit = search rules;
  stop = search rules;
  answers = λ text events h.
      let one = take_more c.args.piece.now 0 0 c.requires.begun in
      let not : get_or c.args.piece.now 0 0 ≢ 7 = omega arith in
      let room = subst (λ (d : Standing). d.events < d.limit) c.self.view_is (let counted = c.self.invariant.counted in
      omega arith) in
      let ended = bad_code _ _ text events h c.requires.in_records (get_or c.args.piece.now 0 0) c.requires.none_cut one
      not room (sym c.requires.size ∙ omega arith) in
      rw (c.stop-then-size-eq0.ensures.answer, c.stop-then-size-eq0.ensures.stops) (ended.0, tt, ended.1);
}

pub returns-then-piece-size-clause-takes : goal.returns-then-piece-size-clause-takes
returns-then-piece-size-clause-takes c = record {
  used = search rules;
  got = search rules;
  ended = search rules;
  limit = search rules;
  stop = search rules;
  answers = λ text events h.
      let piece = c.args.piece.now in
      let at = rw (← c.self.view_is) at h in
      let none : c.self.inside.partial ≡ [] = rw (← c.self.view_is) at c.requires.none_cut in
      let begun : 8 ≤ c.self.inside.offset = rw (← c.self.view_is) at c.requires.in_records in
      let room : c.self.inside.events < c.self.inside.limit = let counted = c.self.invariant.counted in omega arith in
      let size = rw (← c.self.view_is) at c.requires.size in
      let whole : take (length piece) piece ≡ piece = take_all (length piece) piece (omega arith) in
      let short : IsUnfinished c.self.inside.version piece =
      unfinished_of c.self.inside.version piece c.requires.begun (omega (arith, size, c.if-piece-size.true)) in
      let cut : IsUnfinished c.self.inside.version (c.self.inside.partial ++ piece) = rw none short in
      rw (c.append.ensures, whole) (part_more _ piece text events at begun cut room);
}

pub returns-clause-takes : goal.returns-clause-takes
returns-clause-takes c = record {
  used = search rules;
  got = search rules;
  ended = search rules;
  limit = search rules;
  stop = search rules;
  answers = λ text events h.
      let at = subst (λ (rest : List ℕ). StandsAt (record c.args.self.now { rest = rest }) text events)
      c.requires.none_cut h in
      let says = subst (λ (d : Standing). Says d.version (take c.args.size c.args.piece.now) c.read_record-said.result)
      c.self.view_is c.read_record-said.ensures in
      rw c.finish.ensures.used (c.finish.ensures.answers text events [] (take c.args.size c.args.piece.now) at says);
}
