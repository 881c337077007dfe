-- What a reader has done with a feed and a lane.
use Rattle.std.specs.Prelude.{◌≡◌, ℕ, List, ◌++◌, IfSome}
use Rattle.trace_record.specs.declared.event.Event.{Event}
use Rattle.trace_record.specs.declared.end.End.{End}
use Rattle.trace_feed.specs.Feeds.{FeedState}
use Rattle.trace_lane.specs.Lanes.{in_lane, end_lane, put_list, end_list}
use Rattle.trace_lane.specs.declared.lane_in.LaneIn.{LaneIn}
use Rattle.asan_stream.specs.declared.item.Item.{Item}
use Rattle.asan_stream.specs.declared.reader.ReaderDone.{ReaderDone}
use Rattle.asan_stream.specs.Items.{items_of}
use Rattle.asan_stream.specs.Outcomes.{IsSpelled}

module _ {F : Type 0} (seen : F → FeedState) where
  -- the bytes taken of a feed spell some events and this end, and their items were put after what
  -- had been put before
  pub record IsPut (limit : ℕ) (before after : F) (end : End) (put all : List Item) : Type 0 where
    pub events : List Event
    pub spelled : IsSpelled limit (seen before) (seen after) events end
    pub list : all ≡ put ++ items_of events end

  -- what the reader of this feed into this lane gives back: where the lane has an end, it is one of
  -- this lane, and all that the feed's bytes spell was put
  abbrev pub IsReaderOf : {A : Type 0} → ℕ → F → LaneIn Item A → ReaderDone F A → Type 0
  IsReaderOf limit feed lane done = IfSome done.lane_end
      (λ e. (end_lane e ≡ in_lane lane)
      × IsPut limit feed done.feed done.end (put_list lane) (end_list e))
