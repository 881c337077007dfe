use Rattle.std.proofs.Common.{◌≡◌, ◌<◌, ◌++◌, ◌∷◌, [], length, take, ◌+◌, sym, ap, ◌∙◌, arith}
use Rattle.std.proofs.lemmas.List.{length-set, take_more, take_more_set}
use Rattle.asan_stream.specs.declared.item.Item.TheVariants as item
use Rattle.asan_stream.specs.Items.{events_of, has_end}
use Rattle.asan_stream.proofs.Checking.{events_of-event, events_of-end, has_end-event, has_end-end}
use Rattle.asan_stream.proofs.room.pick_events.Goals.{in-Event, in-End}
use Rattle.asan_stream.proofs.room.pick_events.Goals as goal

pub loop-i-preserved : goal.loop-i-preserved
loop-i-preserved c =
    let was = c.loop-i.invariant in
    let items = c.args.items.now in
    let events = c.loop-i.events in
    let i = c.loop-i.i in
    let count = c.loop-i.count in
    let low : i < length items = c.loop-i-test.true in
    let before = take i items in
    let one = c.index-items-i.result in
    elim c.match-items-i.branch [
      | in-Event w ↦
          let event = w.in-Event.event in
          let more : take (i + 1) items ≡ before ++ item.Event event ∷ [] = take_more items i one low
          ∙ ap (λ x. before ++ x ∷ []) (sym c.index-items-i.is ∙ w.in-Event.is) in
          let fits : count < length events = (let few = was.few in let room = was.room in
          let enough = c.requires.room in omega arith) in
          rw (w.events-is, w.count-is, w.ended-is) (record {
            room = length-set events count event ∙ was.room;
            few = (let few = was.few in omega arith);
            events = take_more_set events count event fits ∙ ap (λ es. es ++ event ∷ []) was.events
                ∙ sym (ap events_of more ∙ events_of-event before event);
            ended = was.ended ∙ sym (ap has_end more ∙ has_end-event before event);
          })
      | in-End w ↦
          let end = w.in-End.field-0 in
          let more : take (i + 1) items ≡ before ++ item.End end ∷ [] = take_more items i one low
          ∙ ap (λ x. before ++ x ∷ []) (sym c.index-items-i.is ∙ w.in-End.is) in
          rw (w.events-is, w.count-is, w.ended-is) (record {
            room = was.room;
            few = (let few = was.few in omega arith);
            events = was.events ∙ sym (ap events_of more ∙ events_of-end before end);
            ended = sym (ap has_end more ∙ has_end-end before end);
          })
    ]
