-- What a reader hands to a checker.
use Rattle.std.specs.Prelude.{Bool, true, false, List, [], ◌∷◌, ◌++◌, map}
use Rattle.std.specs.List.{flat_map, list_any}
use Rattle.trace_record.specs.declared.event.Event.{Event}
use Rattle.trace_record.specs.declared.end.End.{End}
use Rattle.asan_stream.specs.declared.item.Item.{Item}
use Rattle.asan_stream.specs.declared.item.Item.TheVariants as item

-- these events, each as an item
abbrev pub event_items : List Event → List Item
event_items events = map item.Event events

-- the items of a whole stream: its events, and then its end
abbrev pub items_of : List Event → End → List Item
items_of events end = event_items events ++ item.End end ∷ []

-- the event of an item, if it is one
abbrev pub event_of : Item → List Event
event_of (item.Event e) = e ∷ []
event_of (item.End end) = []

-- the events among the items
abbrev pub events_of : List Item → List Event
events_of items = flat_map event_of items

-- whether an item is the end of a stream
abbrev pub is_end : Item → Bool
is_end (item.Event e) = false
is_end (item.End end) = true

-- whether the end of a stream is among the items
abbrev pub has_end : List Item → Bool
has_end items = list_any is_end items
