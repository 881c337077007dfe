-- The words in which contracts speak of a lane: of its two ends, and of what is left of the putting
-- end once the lane was finished.
--
-- Outside of this crate the words alone are seen: none of those over an end is unfolded there.
use Rattle.std.specs.Prelude.{ℕ, ◌-◌, ◌++◌, List, [], length, take, cond}
use denote.RawPtr.{Ptr}
use Rattle.rtrb.specs.Shared.{Names}
use Rattle.rtrb.specs.Ring.{sent, known_free, received, known_items, all_sent}
use Rattle.trace_lane.specs.Pieces.{piece}
use Rattle.trace_lane.specs.declared.lane_in.LaneIn.{LaneIn}
use Rattle.trace_lane.specs.declared.lane_out.LaneOut.{LaneOut}
use Rattle.trace_lane.specs.declared.lane_end.LaneEnd.{LaneEnd}

-- the most items that a ring holds
abbrev pub most_items : ℕ
most_items = 65536

-- which lane it is: the memory of its ring, and the allocator that this came from
abbrev pub Lane : Type 0 → Type 0
Lane A = Ptr × Ptr × Names × A

module _ {T A : Type 0} where
  -- the lane that an end belongs to
  unfoldable pub in_lane : LaneIn T A → Lane A
  in_lane l = (l.ring.end.words, l.ring.end.slots, l.ring.end.names, l.ring.end.heap)

  unfoldable pub out_lane : LaneOut T A → Lane A
  out_lane l = (l.ring.end.words, l.ring.end.slots, l.ring.end.names, l.ring.end.heap)

  unfoldable pub end_lane : LaneEnd T A → Lane A
  end_lane l = (l.ring.end.words, l.ring.end.slots, l.ring.end.names, l.ring.end.heap)

  -- every item that was put so far, oldest first
  unfoldable pub put_list : LaneIn T A → List T
  put_list l = sent l.ring

  -- how many items the putting end knows that the ring has room for. So many puts succeed; the
  -- taking end may make more room at any time
  unfoldable pub known_room : LaneIn T A → ℕ
  known_room l = known_free l.ring

  -- every item that was taken so far, oldest first: all that left the ring, but for those in the
  -- buffer
  unfoldable pub taken_list : LaneOut T A → List T
  taken_list l = take (length (received l.ring) - (l.to - l.from)) (received l.ring)

  -- the items that are known to wait, oldest first, which the next takes give: those in the buffer,
  -- and once the lane was settled those in the ring
  unfoldable pub waiting : LaneOut T A → List T
  waiting l = piece l.from l.to l.buffer.items ++ cond l.settled (known_items l.ring) []

  -- every item that was put before the lane was finished, oldest first
  unfoldable pub end_list : LaneEnd T A → List T
  end_list e = all_sent e.ring
