use Rattle.std.proofs.Common.{rules, ◌≡◌, ◌<◌, ◌+◌, ◌-◌, ◌++◌, length, Some, None, take, length-take, sym, ap, ◌∙◌}
use Rattle.std.proofs.Common.{arith}
use Rattle.trace_record.specs.Stream.{version_of}
use Rattle.trace_record.proofs.Steps.{bad_header, header_whole}
use Rattle.trace_record.proofs.decoder.Decoder.take_header.Goals as goal

pub returns-in-Some-clause-takes : goal.returns-in-Some-clause-takes
returns-in-Some-clause-takes c = record {
  used = search rules;
  got = search rules;
  ended = search rules;
  limit = search rules;
  stop = search rules;
  answers = λ text events h.
      let at = rw (← c.self.view_is) at h in
      let lt : c.self.inside.offset < 8 = rw (← c.self.view_is) at c.requires.in_header in
      let part = take (8 - c.len-missing.result) c.args.piece.now in
      let eight : length c.self.inside.partial + length part ≡ 8 = let small = c.self.invariant.in_header lt in
      omega (arith, length-take (8 - c.len-missing.result) c.args.piece.now) in
      let is : version_of (c.self.inside.partial ++ part) ≡ Some c.in-Some.version =
      ap version_of (sym (c.as_slice.ensures ∙ c.append-2.ensures)) ∙ sym c.read_header-header.ensures
      ∙ c.in-Some.is in
      rw (c.clear.ensures) (header_whole _ part text events c.in-Some.version at lt eight is);
}

pub returns-in-None-clause-takes : goal.returns-in-None-clause-takes
returns-in-None-clause-takes c = record {
  used = search rules;
  got = search rules;
  ended = search rules;
  limit = search rules;
  stop = search rules;
  answers = λ text events h.
      let at = rw (← c.self.view_is) at h in
      let lt : c.self.inside.offset < 8 = rw (← c.self.view_is) at c.requires.in_header in
      let part = take (8 - c.len-missing.result) c.args.piece.now in
      let eight : length c.self.inside.partial + length part ≡ 8 = let small = c.self.invariant.in_header lt in
      omega (arith, length-take (8 - c.len-missing.result) c.args.piece.now) in
      let other : version_of (c.self.inside.partial ++ part) ≡ None =
      ap version_of (sym (c.as_slice.ensures ∙ c.append-2.ensures)) ∙ sym c.read_header-header.ensures
      ∙ c.in-None.is in
      let ended = bad_header _ part text events at lt eight other in
      rw (c.stop.ensures.answer, c.stop.ensures.stops) (ended.0, tt, ended.1);
}
