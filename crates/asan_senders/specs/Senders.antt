-- How far a sender may come.
use Rattle.std.specs.Prelude.{◌≡◌, ℕ, ◌<◌, ◌⊎◌, List, [], length, slice_index_or, IfSome, IsSome}
use Rattle.std.specs.Prelude.{IsTrue, Option, None, Some}
use Rattle.trace_feed.specs.declared.door.Arrival.{Arrival}
use Rattle.trace_feed.specs.declared.door.Arrival.TheVariants as arrival
use Rattle.trace_feed.specs.Feeds.{FeedState}
use Rattle.trace_lane.specs.Lanes.{Lane, in_lane, end_lane, known_room, put_list, end_list}
use Rattle.trace_lane.specs.declared.lane_end.LaneEnd.{LaneEnd}
use Rattle.asan_check.specs.declared.report.Report.{Report}
use Rattle.asan_print.specs.declared.port.Port.{Port}
use Rattle.asan_stream.specs.declared.options.Options.{Options}
use Rattle.asan_stream.specs.declared.outcome.Outcome.{Outcome}
use Rattle.asan_stream.specs.declared.outcome.Outcome.TheVariants as outcome
use Rattle.asan_stream.specs.declared.bench.Bench.{Bench}
use Rattle.asan_stream.specs.declared.item.Item.{Item}
use Rattle.asan_senders.specs.declared.missing.Part.TheVariants as part
use Rattle.asan_senders.specs.declared.sender.Sender.{Sender}
use Rattle.asan_senders.specs.declared.sender.Sender.TheVariants as sender
use Rattle.asan_stream.specs.declared.reader.ReaderDone.{ReaderDone}
use Rattle.asan_stream.specs.Benches.{lane_of, process_of, bench_bound, checker_of, taken_of}
use Rattle.asan_senders.specs.Arrivals.{IsAnswerTo}
use Rattle.asan_stream.specs.Outcomes.{is_read}
use Rattle.asan_stream.specs.Readers.{IsPut, IsReaderOf}

-- each element has become that of the other list
pub record Each {X : Type 0} (Becomes : X → X → Type 0) (xs ys : List X) : Type 0 where
  pub same_length : length ys ≡ length xs
  pub each :
      (i : ℕ) (d : X) → i < length xs → Becomes (slice_index_or xs i d) (slice_index_or ys i d)

module _ {F A : Type 0} where
  -- the sender waits for its reader
  abbrev pub IsReady : Sender F A → Type 0
  IsReady (sender.Ready feed lane) = Unit {0}
  IsReady _ = ⊥

  -- if it waits for its reader, its lane has room for this many items
  abbrev pub HasRing : ℕ → Sender F A → Type 0
  HasRing ring (sender.Ready feed lane) = known_room lane ≡ ring
  HasRing ring s = Unit {0}

  -- it has a reader, or was read
  abbrev pub IsStarted : Sender F A → Type 0
  IsStarted (sender.Running h) = Unit {0}
  IsStarted (sender.Read d) = Unit {0}
  IsStarted _ = ⊥

  -- it was read, and its bench is not back
  abbrev pub IsRead : Sender F A → Type 0
  IsRead (sender.Read d) = Unit {0}
  IsRead _ = ⊥

module _ {F A : Type 0} (seen : F → FeedState) where
  -- how far the sender that arrived so may have come
  abbrev pub Came : Options → Arrival F → Sender F A → Type 0
  Came options arrival.Refused s = s ≡ sender.NotOpened
  Came options arrival.Over s = ⊥
  Came options (arrival.Came feed) sender.NotOpened = ⊥
  Came options (arrival.Came feed) (sender.NotStarted missing) = Unit {0}
  Came options (arrival.Came feed) (sender.Ready f lane) = (f ≡ feed) × (put_list lane ≡ [])
  Came options (arrival.Came feed) (sender.Running h) = ⊥
  Came options (arrival.Came feed) (sender.Read d) =
      IfSome d.lane_end (λ e. IsPut seen options.limit feed d.feed d.end [] (end_list e))
  Came options (arrival.Came feed) (sender.Joined d b reports) =
      (bench_bound b ≡ options.quarantine) × IfSome d.lane_end (λ e. end_lane e ≡ lane_of b)
      × IfSome d.lane_end (λ e. IsPut seen options.limit feed d.feed d.end [] (end_list e))

  -- no read of a feed that waits for its reader has failed
  abbrev pub IsFresh : Sender F A → Type 0
  IsFresh (sender.Ready f lane) = (seen f).faults ≡ 0
  IsFresh sender.NotOpened = Unit {0}
  IsFresh (sender.NotStarted missing) = Unit {0}
  IsFresh (sender.Running h) = ⊥
  IsFresh (sender.Read d) = Unit {0}
  IsFresh (sender.Joined d b reports) = Unit {0}

  pub record AllFresh (senders : List (Sender F A)) : Type 0 where
    pub each : (i : ℕ) (d : Sender F A) → i < length senders → IsFresh (slice_index_or senders i d)

  -- what a reader may make of a sender: it is read, or a thread was missing
  abbrev pub Becomes : ℕ → Sender F A → Sender F A → Type 0
  Becomes limit (sender.Ready feed lane) (sender.Read d) =
      IsReaderOf seen limit feed lane d
  Becomes limit (sender.Ready feed lane) (sender.NotStarted missing) =
      (missing ≡ part.Worker) ⊎ (missing ≡ part.Reader)
  Becomes limit (sender.Ready feed lane) sender.NotOpened = ⊥
  Becomes limit (sender.Ready feed lane) (sender.Ready f l) = ⊥
  Becomes limit (sender.Ready feed lane) (sender.Running h) = ⊥
  Becomes limit (sender.Ready feed lane) (sender.Joined d b reports) = ⊥
  Becomes limit sender.NotOpened s = s ≡ sender.NotOpened
  Becomes limit (sender.NotStarted missing) s = s ≡ sender.NotStarted missing
  Becomes limit (sender.Running h) s = ⊥
  Becomes limit (sender.Read d) s = s ≡ sender.Read d
  Becomes limit (sender.Joined d b reports) s = s ≡ sender.Joined d b reports

  -- what a sender is while the readers run: only one that was ready has a reader, and what that
  -- promised is what may become of it
  abbrev pub WillBe : ℕ → Sender F A → Sender F A → Type 0
  WillBe limit s (sender.Running h) =
      IsReady s
      × ((d : ReaderDone F A) →
      IsReaderOf seen h.promise.limit h.promise.feed.value h.promise.lane.value d
      → Becomes limit s (sender.Read d))
  WillBe limit s sender.NotOpened = Becomes limit s sender.NotOpened
  WillBe limit s (sender.NotStarted missing) = Becomes limit s (sender.NotStarted missing)
  WillBe limit s (sender.Ready feed lane) = Becomes limit s (sender.Ready feed lane)
  WillBe limit s (sender.Read d) = Becomes limit s (sender.Read d)
  WillBe limit s (sender.Joined d b reports) = Becomes limit s (sender.Joined d b reports)

  -- a sender that was ready and is not started lacks its reader
  abbrev pub LacksReader : Sender F A → Sender F A → Type 0
  LacksReader (sender.Ready feed lane) (sender.NotStarted missing) = missing ≡ part.Reader
  LacksReader s t = Unit {0}

  -- what a sender is once a reader was to be started for it
  abbrev pub Starts : ℕ → Sender F A → Sender F A → Type 0
  Starts limit s t = WillBe limit s t × LacksReader s t

  -- the reader of a sender has ended, if it had one, and its promise was kept
  abbrev pub Ends : Sender F A → Sender F A → Type 0
  Ends s t = (limit : ℕ) (was : Sender F A) → WillBe limit was s → Becomes limit was t

-- Whose lane a bench has.
module _ {F A : Type 0} where
  -- the lane of a sender, where it still has one
  abbrev pub HasLane : Sender F A → Lane A → Type 0
  HasLane sender.NotOpened x = Unit {0}
  HasLane (sender.NotStarted missing) x = Unit {0}
  HasLane (sender.Ready feed lane) x = in_lane lane ≡ x
  HasLane (sender.Running h) x = Unit {0}
  HasLane (sender.Read d) x = IfSome d.lane_end (λ e. end_lane e ≡ x)
  HasLane (sender.Joined d b reports) x = Unit {0}

  abbrev pub Keeps : Sender F A → Sender F A → Type 0
  Keeps s t = (x : Lane A) → HasLane s x → HasLane t x

  -- the bench has the lane of its sender, and this bound
  pub record IsAt (bound : ℕ) (senders : List (Sender F A)) (b : Bench A) : Type 0 where
    pub low : process_of b < length senders
    pub bound_is : bench_bound b ≡ bound
    pub lane : (d : Sender F A) → HasLane (slice_index_or senders (process_of b) d) (lane_of b)

  -- at the start, before any reader runs, a sender that is to be read has a bench, and one that is
  -- not has none; of a feed that came only a lane may be missing
  abbrev pub IsSeated : Sender F A → Option (Bench A) → Type 0
  IsSeated sender.NotOpened bench = bench ≡ None
  IsSeated (sender.NotStarted missing) bench = (missing ≡ part.Lane) × (bench ≡ None)
  IsSeated (sender.Ready feed lane) bench = IsSome bench
  IsSeated (sender.Running h) bench = ⊥
  IsSeated (sender.Read d) bench = ⊥
  IsSeated (sender.Joined d b reports) bench = ⊥

  -- a sender that was read has its bench back
  abbrev pub HasBench : Sender F A → Type 0
  HasBench sender.NotOpened = Unit {0}
  HasBench (sender.NotStarted missing) = Unit {0}
  HasBench (sender.Ready feed lane) = Unit {0}
  HasBench (sender.Running h) = Unit {0}
  HasBench (sender.Read d) = ⊥
  HasBench (sender.Joined d b reports) = Unit {0}

  -- what becomes of a sender whose bench comes back: one that was read has it, as it was but for
  -- its report lane, and any other stays as it is
  abbrev pub TakesBack : Bench A → Sender F A → Sender F A → Type 0
  TakesBack b (sender.Read d) t =
      (left : Bench A) × (reports : Option (LaneEnd Report A))
      × (t ≡ sender.Joined d left reports) × (checker_of left ≡ checker_of b)
      × (taken_of left ≡ taken_of b) × (lane_of left ≡ lane_of b)
  TakesBack b s t = t ≡ s

  -- a sender stays as it is, or is joined with a bench if it was read
  abbrev pub StaysOrJoins : Sender F A → Sender F A → Type 0
  StaysOrJoins (sender.Read d) t =
      (t ≡ sender.Read d)
      ⊎ ((b : Bench A) × (reports : Option (LaneEnd Report A)) × (t ≡ sender.Joined d b reports))
  StaysOrJoins s t = t ≡ s

  -- the bench is back: its sender has it, if that was read
  abbrev pub IsBack : List (Sender F A) → Bench A → Type 0
  IsBack senders b = (d : Sender F A) → HasBench (slice_index_or senders (process_of b) d)

  pub record AreAt
      (bound : ℕ) (senders : List (Sender F A)) (benches : List (Bench A)) : Type 0 where
    pub each :
        (i : ℕ) (d : Bench A) → i < length benches → IsAt bound senders (slice_index_or benches i d)

module _ {F A : Type 0} where
  -- a bench that is back has the lane that its reader ended
  abbrev pub IsJoined : Sender F A → Type 0
  IsJoined sender.NotOpened = Unit {0}
  IsJoined (sender.NotStarted missing) = Unit {0}
  IsJoined (sender.Ready feed lane) = Unit {0}
  IsJoined (sender.Running h) = ⊥
  IsJoined (sender.Read d) = Unit {0}
  IsJoined (sender.Joined d b reports) = IfSome d.lane_end (λ e. end_lane e ≡ lane_of b)

  pub record AllJoined (senders : List (Sender F A)) : Type 0 where
    pub each : (i : ℕ) (d : Sender F A) → i < length senders → IsJoined (slice_index_or senders i d)

  -- the outcome of a sender whose bench is back, by the end of its lane, and by that of its report
  -- lane if its reports are taken at a port: unsettled if such an end is missing, and else what was
  -- read
  abbrev pub IsSettledBy :
      Option (Port A) → Option (LaneEnd Item A) → Option (LaneEnd Report A) → Outcome F A → Type 0
  IsSettledBy port None reports result = result ≡ outcome.Unsettled
  IsSettledBy None (Some end) reports result = IsTrue (is_read result)
  IsSettledBy (Some port) (Some end) None result = result ≡ outcome.Unsettled
  IsSettledBy (Some port) (Some end) (Some reports) result = IsTrue (is_read result)

  -- the outcome says how far the sender came: not opened where its feed was refused; not started
  -- where it had no reader; unsettled where its bench did not come back; and where the bench did,
  -- by the ends of its lanes
  abbrev pub SaysHowFar : Option (Port A) → Sender F A → Outcome F A → Type 0
  SaysHowFar port sender.NotOpened result = result ≡ outcome.NotOpened
  SaysHowFar port (sender.NotStarted missing) result = result ≡ outcome.NotStarted
  SaysHowFar port (sender.Ready feed lane) result = result ≡ outcome.NotStarted
  SaysHowFar port (sender.Running h) result = Unit {0}
  SaysHowFar port (sender.Read d) result = result ≡ outcome.Unsettled
  SaysHowFar port (sender.Joined d b reports) result =
      IsSettledBy port d.lane_end reports result

  -- each outcome says how far its sender came, whose reports are taken at this port
  pub record AllSayHowFar
      (ports : List (Option (Port A))) (senders : List (Sender F A)) (outcomes : List (Outcome F A))
      : Type 0 where
    pub each :
        (i : ℕ) (d : Sender F A) (e : Outcome F A) → i < length senders →
        SaysHowFar (slice_index_or ports i None)
        (slice_index_or senders i d) (slice_index_or outcomes i e)

module _ {F A : Type 0} (seen : F → FeedState) where
  -- a bench of this bound may have come to the sender, which keeps what was right of it, and its
  -- lane
  pub record Rejoins (bound : ℕ) (s t : Sender F A) : Type 0 where
    pub came :
        (options : Options) (a : Arrival F) → bound ≡ options.quarantine →
        Came seen options a s → Came seen options a t
    pub lane : Keeps s t

  -- the outcome is right where the sender was
  abbrev pub Gets : Sender F A → Outcome F A → Type 0
  Gets s result =
      (options : Options) (a : Arrival F) → Came seen options a s → IsAnswerTo seen options a result
