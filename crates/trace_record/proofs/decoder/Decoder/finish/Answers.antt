use Rattle.std.proofs.Common.{◌≡◌, ◌<◌, ◌≤◌, [], ◌++◌, length, Result, Ok, Err, refl, subst}
use Rattle.trace_record.specs.declared.event.Event.{Event}
use Rattle.trace_record.specs.declared.end.Flaw.{Flaw}
use Rattle.trace_record.specs.Reading.{Says}
use Rattle.trace_record.specs.Spelling.{spelling}
use Rattle.trace_record.proofs.Steps.{bad_record, event_more}
use Rattle.trace_record.proofs.decoder.Decoder.finish.Goals as goal

pub returns-in-Ok-clause-answers : goal.returns-in-Ok-clause-answers
returns-in-Ok-clause-answers c text events rest part h is =
    let v = c.self.inside.version in
    let e = c.in-Ok.event in
    let at = rw (← c.self.view_is) at h in
    let le : 8 ≤ c.self.inside.offset = rw (← c.self.view_is) at c.requires.in_records in
    let room : c.self.inside.events < c.self.inside.limit = rw (← c.self.view_is) at c.requires.room in
    let none : c.self.inside.partial ≡ [] = rw (← c.self.view_is) at c.requires.none_cut in
    let says : Says v (rest ++ part) (Ok e) = rw (← c.self.view_is, c.in-Ok.is) at is in
    let size : c.args.size ≡ length (spelling v e) = rw (← c.self.view_is, c.in-Ok.is) at c.requires.size in
    rw (size, none) (event_more _ part text events at le e says room, refl)

pub returns-in-Err-clause-answers : goal.returns-in-Err-clause-answers
returns-in-Err-clause-answers c text events rest part h is =
    let v = c.args.self.now.version in
    let bad : Says v (rest ++ part) (Err c.in-Err.flaw) =
    subst (λ (said : Result Event Flaw). Says v (rest ++ part) said) c.in-Err.is is in
    let ended = bad_record _ part text events h c.requires.in_records bad.0 c.in-Err.flaw bad.1.whole bad.1.fit
    bad.1.first c.requires.room in
    rw (c.stop.ensures.answer, c.stop.ensures.stops) (ended.0, tt, ended.1)
