-- What a reader has put once it has finished its lane.
use Rattle.std.proofs.Common.{◌≡◌, ℕ, List, [], ◌∷◌, ◌++◌, Option, Some, None, ◌∙◌}
use Rattle.std.specs.Prelude.{IfSome}
use Rattle.trace_record.specs.declared.event.Event.{Event}
use Rattle.trace_record.specs.declared.end.End.{End}
use Rattle.trace_feed.specs.Feeds.{FeedState}
use Rattle.trace_lane.specs.Lanes.{in_lane, end_lane, put_list, end_list}
use Rattle.trace_lane.specs.declared.lane_end.LaneEnd.{LaneEnd}
use Rattle.trace_lane.specs.declared.lane_in.LaneIn.{LaneIn}
use Rattle.asan_stream.specs.declared.item.Item.{Item}
use Rattle.asan_stream.specs.declared.item.Item.TheVariants as item
use Rattle.asan_stream.specs.Items.{event_items}
use Rattle.asan_stream.specs.Outcomes.{IsSpelled}
use Rattle.asan_stream.specs.Readers.{IsPut}
use Rattle.asan_stream.proofs.Sending.{end_put}

pub if_some : {X : Type 0} (o : Option X) (P Q : X → Type 0) → IfSome o P → ((x : X) → P x → Q x) → IfSome o Q
if_some None P Q p f = p
if_some (Some x) P Q p f = f x p

module _ {F A : Type 0} (seen : F → FeedState) where
  pub reader_done : (limit : ℕ) (feed after : F) (lane now : LaneIn Item A) (lane_end : Option (LaneEnd Item A))
      (end : End) (events : List Event)
      → IfSome lane_end (λ e. (end_lane e ≡ in_lane now) × (end_list e ≡ put_list now ++ item.End end ∷ []))
      → in_lane now ≡ in_lane lane → put_list now ≡ put_list lane ++ event_items events
      → IsSpelled limit (seen feed) (seen after) events end
      → IfSome lane_end (λ e. (end_lane e ≡ in_lane lane)
      × IsPut seen limit feed after end (put_list lane) (end_list e))
  reader_done limit feed after lane now lane_end end events ended same put spelled =
      if_some lane_end _ _ ended (λ e is. (
        is.0 ∙ same,
        record {
          events = events;
          spelled = spelled;
          list = end_put (put_list lane) (put_list now) (end_list e) events end put is.1;
        },
      ))
