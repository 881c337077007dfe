use Rattle.std.proofs.Common.{◌<◌, ◌∷◌, ◌++◌, [], length, take, sym, ap, ◌∙◌, arith}
use Rattle.std.proofs.lemmas.List.{length-set, take_more, take_more_set}
use Rattle.asan_stream.specs.declared.item.Item.TheVariants as item
use Rattle.asan_stream.specs.Items.{event_items}
use Rattle.asan_stream.proofs.Sending.{event_items-append}
use Rattle.asan_stream.proofs.reader.put_events.Goals as goal

pub loop-i-preserved : goal.loop-i-preserved
loop-i-preserved g c =
    let was = c.loop-i.invariant in
    let i = c.loop-i.i in
    let events = c.args.events.now in
    let event = c.index-events-i.result in
    let low : i < length events = c.loop-i-test.true in
    let fits : i < length c.loop-i.items = let room = was.room in let few = c.requires in omega arith in
    let more = take_more events i event low ∙ ap (λ e. take i events ++ e ∷ []) (sym c.index-events-i.is) in
    record {
      room = length-set c.loop-i.items i (item.Event event) ∙ was.room;
      filled = take_more_set c.loop-i.items i (item.Event event) fits
          ∙ ap (λ items. items ++ item.Event event ∷ []) was.filled
          ∙ sym (ap event_items more ∙ event_items-append (take i events) (event ∷ []));
    }
