-- Whose report lane is whose: each process has one, or none.
use Rattle.std.specs.Prelude.{◌≡◌, ℕ, ◌<◌, ◌≤◌, Bool, List, [], length, Option, None, Some, IfSome}
use Rattle.std.specs.Prelude.{is_some, slice_index_or, vec_len, vec_capacity}
use Rattle.trace_lane.specs.Lanes.{Lane, end_lane, end_list}
use Rattle.asan_print.specs.declared.port.Port.{Port}
use Rattle.asan_print.specs.Ports.{lane_at, taken_at}
use Rattle.asan_stream.specs.declared.bench.Bench.{Bench}
use Rattle.asan_senders.specs.declared.lanes.Seats.{Seats}
use Rattle.asan_senders.specs.declared.sender.Sender.{Sender}
use Rattle.asan_senders.specs.declared.sender.Sender.TheVariants as sender
use Rattle.asan_stream.specs.Benches.{process_of, report_lane_of, found_of}
use Rattle.asan_stream.specs.Outboxes.{IsFront, KeepsLane}
use Rattle.asan_senders.specs.Ranges.{most_senders}
use Rattle.asan_senders.specs.Shares.{AreEmpty, Share}

module _ {A : Type 0} where
  -- the report lane of each process, where it has a port
  abbrev pub lanes_of : List (Option (Port A)) → ℕ → Option (Lane A)
  lanes_of ports process = lane_at (slice_index_or ports process None)

  -- nothing was taken at any port
  pub record NoneTaken (ports : List (Option (Port A))) : Type 0 where
    pub each :
        (i : ℕ) (d : Option (Port A)) → i < length ports →
        taken_at (slice_index_or ports i d) ≡ []

  -- a bench has the report lane of its process, or none any more
  abbrev pub HasLaneOf : (ℕ → Option (Lane A)) → Bench A → Type 0
  HasLaneOf lanes b = KeepsLane (lanes (process_of b)) (report_lane_of b)

  pub record AllHave (lanes : ℕ → Option (Lane A)) (benches : List (Bench A)) : Type 0 where
    pub each :
        (i : ℕ) (d : Bench A) → i < length benches → HasLaneOf lanes (slice_index_or benches i d)

  pub record SharesHave (lanes : ℕ → Option (Lane A)) (shares : List (Share A)) : Type 0 where
    pub each :
        (k : ℕ) (d : Share A) → k < length shares → AllHave lanes (slice_index_or shares k d).items

module _ {F A : Type 0} where
  -- this is the report lane of a sender: there is none where its feed could not be opened, and the
  -- end that came back with a bench is of it, and carries the first of the bench's reports
  abbrev pub Fits : Option (Lane A) → Sender F A → Type 0
  Fits lane sender.NotOpened = lane ≡ None
  Fits lane (sender.NotStarted missing) = Unit {0}
  Fits lane (sender.Ready feed into) = Unit {0}
  Fits lane (sender.Running h) = Unit {0}
  Fits lane (sender.Read d) = Unit {0}
  Fits lane (sender.Joined d b reports) =
      IfSome reports (λ e. (lane ≡ Some (end_lane e)) × IsFront (end_list e) (found_of b))

  -- each sender has the report lane of its process
  pub record AllFit (lanes : ℕ → Option (Lane A)) (senders : List (Sender F A)) : Type 0 where
    pub each :
        (i : ℕ) (d : Sender F A) → i < length senders → Fits (lanes i) (slice_index_or senders i d)

  -- at the start, before any reader runs, a sender that is to be read has a port exactly if the
  -- reports are printed as they come, and one that is not has none
  abbrev pub HasPort : Bool → Sender F A → Option (Port A) → Type 0
  HasPort is_live sender.NotOpened port = port ≡ None
  HasPort is_live (sender.NotStarted missing) port = port ≡ None
  HasPort is_live (sender.Ready feed into) port = is_some port ≡ is_live
  HasPort is_live (sender.Running h) port = ⊥
  HasPort is_live (sender.Read d) port = ⊥
  HasPort is_live (sender.Joined d b reports) port = ⊥

  -- there is no sender yet, and room for all
  pub record AreEmptySeats (seats : Seats F A) : Type 0 where
    pub no_senders : seats.senders.items ≡ []
    pub for_senders : most_senders ≤ vec_capacity seats.senders
    pub no_ports : seats.ports.items ≡ []
    pub for_ports : most_senders ≤ vec_capacity seats.ports
    pub some_shares : 0 < vec_len seats.shares
    pub no_benches : AreEmpty (vec_len seats.shares) seats.shares.items
