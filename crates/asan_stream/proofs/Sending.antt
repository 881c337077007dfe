-- What a reader has put into its lane.
use Rattle.std.proofs.Common.{◌≡◌, ℕ, ◌+◌, List, [], ◌∷◌, ◌++◌, take, drop, refl, sym, ap, ◌∙◌, append_assoc}
use Rattle.std.proofs.Math.Seq.{take-add}
use Rattle.trace_record.specs.declared.event.Event.{Event}
use Rattle.trace_record.specs.declared.end.End.{End}
use Rattle.asan_stream.specs.declared.item.Item.{Item}
use Rattle.asan_stream.specs.declared.item.Item.TheVariants as item
use Rattle.asan_stream.specs.Items.{event_items, items_of}

pub event_items-append : (events more : List Event)
    → event_items (events ++ more) ≡ event_items events ++ event_items more
event_items-append [] more = refl
event_items-append (e ∷ events) more = ap (λ items. item.Event e ∷ items) (event_items-append events more)

-- a batch of events was put
pub batch_put : (start before now : List Item) (events more : List Event) → before ≡ start ++ event_items events
    → now ≡ before ++ event_items more
    → now ≡ start ++ event_items (events ++ more)
batch_put start before now events more was is =
    is ∙ (ap (λ items. items ++ event_items more) was
    ∙ (append_assoc start (event_items events) (event_items more)
    ∙ ap (λ items. start ++ items) (sym (event_items-append events more))))

-- the end was put
pub end_put : (start before now : List Item) (events : List Event) (end : End) → before ≡ start ++ event_items events
    → now ≡ before ++ item.End end ∷ []
    → now ≡ start ++ items_of events end
end_put start before now events end was is =
    is ∙ (ap (λ items. items ++ item.End end ∷ []) was ∙ append_assoc start (event_items events) (item.End end ∷ []))

-- some more of the items were put
pub put_further : (start now new items part : List Item) (done more : ℕ) → now ≡ start ++ take done items
    → part ≡ drop done items → new ≡ now ++ take more part
    → new ≡ start ++ take (done + more) items
put_further start now new items part done more before rest after =
    (after ∙ ap (λ p. now ++ take more p) rest)
    ∙ (ap (λ r. r ++ take more (drop done items)) before
    ∙ (append_assoc start (take done items) (take more (drop done items))
    ∙ ap (λ r. start ++ r) (sym (take-add done more items))))
