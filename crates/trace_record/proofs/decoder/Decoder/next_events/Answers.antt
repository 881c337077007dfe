use Rattle.std.proofs.Common.{◌≡◌, ◌≤◌, List, [], ◌∷◌, ◌++◌, length, take, drop, Ok, sym, ap, ◌∙◌, append_assoc}
use Rattle.std.proofs.Common.{append-nil, refl, arith}
use Rattle.std.proofs.lemmas.List.{take_rest, take_more_set, length-set, length-drop, length-take-le}
use Rattle.trace_record.specs.declared.event.Event.{Event}
use Rattle.trace_record.specs.Reading.{Says}
use Rattle.trace_record.specs.Spelling.{spelling}
use Rattle.trace_record.specs.Standing.{IsBetweenRecords}
use Rattle.trace_record.proofs.Rows.{one_more, none_yet}
use Rattle.trace_record.proofs.Lengths.{spelling_some, spelling_small}
use Rattle.trace_record.proofs.Steps.{joined}
use Rattle.trace_record.proofs.decoder.Decoder.next_events.Goals as goal

pub loop-count-init : goal.loop-count-init
loop-count-init c = record {
  within = omega arith;
  room = refl;
  some = omega arith;
  short = omega arith;
  moved = λ some. some;
  answers = λ text events at. rw (append-nil text, append-nil events)
      (none_yet c.self.inside text events (rw (← c.self.view_is) at at));
}

pub loop-count-preserved : goal.loop-count-preserved
loop-count-preserved c =
    let piece = c.args.piece.now in
    let out = c.loop-count.out in
    let was = c.loop-count.invariant in
    let front = c.in-Some.front in
    let rest = take_rest piece c.loop-count.used in
    let some = rw rest at c.in-Some.ensures.some in
    let fits : front.size ≤ length (drop c.loop-count.used piece) = some.0 in
    let part = take front.size (drop c.loop-count.used piece) in
    let says : Says c.self.inside.version part (Ok front.event) = some.1 in
    let long : length part ≡ front.size = length-take-le front.size (drop c.loop-count.used piece) fits in
    let size : front.size ≡ length (spelling c.self.inside.version front.event) = sym long ∙ ap length says.1 in
    let least = spelling_some c.self.inside.version front.event in
    let most = spelling_small c.self.inside.version front.event in
    let between : IsBetweenRecords c.args.self.now = c.if-is_between_records.ensures.0 refl in
    let le : 8 ≤ c.self.inside.offset = rw (← c.self.view_is) at between.in_records in
    let none : c.self.inside.partial ≡ [] = rw (← c.self.view_is) at between.none_cut in
    let left = c.loop-count-test.true in
    record {
      within = (let within = was.within in omega (arith, length-drop c.loop-count.used piece));
      room = (let room = was.room in omega (arith, length-set out c.loop-count.count front.event));
      some = omega arith;
      short = (let short = was.short in omega arith);
      moved = λ _. omega arith;
      answers = λ text events at.
          let stood = one_more c.self.inside c.loop-count.count c.loop-count.used
          (text ++ take c.loop-count.used piece) part
          (events ++ take c.loop-count.count out) front.event none le (omega arith) says (was.answers text events at) in
          let bytes = joined text piece c.loop-count.used front.size in
          let more = append_assoc events (take c.loop-count.count out) (front.event ∷ [])
          ∙ ap (λ (es : List Event). events ++ es)
          (sym (take_more_set out c.loop-count.count front.event (omega arith))) in
          rw (bytes, more) at (rw long at stood);
    }

pub overflow_add-self : goal.overflow_add-self
overflow_add-self c =
    let was = c.self.invariant in
    let limited = was.limited in
    let counted = was.counted in
    let some = c.loop-count.invariant.some in
    omega arith

pub overflow_add-self-then-is_between_records : goal.overflow_add-self-then-is_between_records
overflow_add-self-then-is_between_records c =
    let was = c.self.invariant in
    let limited = was.limited in
    let counted = was.counted in
    let measured = was.measured in
    let some = c.loop-count.invariant.some in
    let short = c.loop-count.invariant.short in
    omega arith

pub invariant_of-self : goal.invariant_of-self
invariant_of-self c =
    let was = c.self.invariant in
    let counted = was.counted in
    let measured = was.measured in
    let some = c.loop-count.invariant.some in
    let short = c.loop-count.invariant.short in
    let between : IsBetweenRecords c.args.self.now = c.if-is_between_records.ensures.0 refl in
    let le : 8 ≤ c.self.inside.offset = rw (← c.self.view_is) at between.in_records in
    let none : c.self.inside.partial ≡ [] = rw (← c.self.view_is) at between.none_cut in
    record {
      limited = was.limited;
      counted = omega arith;
      measured = omega arith;
      in_header = λ lt. absurd (omega arith);
      in_record = λ _ some. absurd (let empty = ap length none in omega arith);
    }

pub returns-after-loop-count-clause-used : goal.returns-after-loop-count-clause-used
returns-after-loop-count-clause-used c = c.loop-count.invariant.within

pub returns-after-loop-count-clause-count : goal.returns-after-loop-count-clause-count
returns-after-loop-count-clause-count c = let some = c.loop-count.invariant.some in omega arith

pub returns-after-loop-count-clause-moved : goal.returns-after-loop-count-clause-moved
returns-after-loop-count-clause-moved c = c.loop-count.invariant.moved

pub returns-after-loop-count-clause-answers : goal.returns-after-loop-count-clause-answers
returns-after-loop-count-clause-answers c = c.loop-count.invariant.answers
