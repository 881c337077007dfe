use Rattle.std.proofs.Common.{◌≡◌, ◌≤◌, ◌<◌, ℕ, vec_len, slice_index_or}
use Rattle.std.specs.List.{All}
use Rattle.std.specs.Vec.{vec_capacity}
use Rattle.asan_senders.specs.Arrivals.{Pairwise}
use Rattle.asan_senders.specs.ReportLanes.{AllFit, HasPort, NoneTaken, SharesHave, lanes_of}
use Rattle.asan_senders.specs.Shares.{SharesAt, HasRoom, HaveSeats}
use Rattle.asan_senders.specs.Senders.{Came, AllFresh, HasRing}
use Rattle.asan_senders.proofs.lanes.open_all.Given as goal

pub record Going {S O : Type 0} (Gets : S → O → Type 0) (i m : ℕ) (was now : ℕ → S → S) (out : ℕ → O → O) : Type 0 where
  pub done : m ≡ i
  pub rest : (k : ℕ) (d : S) → i ≤ k → now k d ≡ was k d
  pub each : (k : ℕ) (d : S) (e : O) → k < i → Gets (was k d) (out k e)

abbrev pub invariant-loop-i : goal.invariant-loop-i
invariant-loop-i g l = record {
  same : vec_len l.arrivals ≡ vec_len l.initial.arrivals;
  going : Going (Came g.F.Feed.seen l.options) l.i (vec_len l.senders)
      (slice_index_or l.initial.arrivals.items) (slice_index_or l.arrivals.items) (slice_index_or l.senders.items);
  fresh : AllFresh g.F.Feed.seen l.senders.items;
  benches : SharesAt l.options.quarantine l.senders.items l.shares.items;
  sender_room : 256 ≤ vec_capacity l.senders;
  kept : vec_len l.shares ≡ vec_len l.initial.shares;
  room : HasRoom (vec_len l.shares) l.i l.shares.items;
  long : vec_len l.ports ≡ l.i;
  port_room : 256 ≤ vec_capacity l.ports;
  live : Pairwise (HasPort l.is_live) l.senders.items l.ports.items;
  untaken : NoneTaken l.ports.items;
  fits : AllFit (lanes_of l.ports.items) l.senders.items;
  have : SharesHave (lanes_of l.ports.items) l.shares.items;
  seated : HaveSeats l.senders.items l.shares.items;
  rings : All (HasRing l.options.ring) l.senders.items;
}
