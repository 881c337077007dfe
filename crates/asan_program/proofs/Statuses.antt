-- The status of a session is one of those of traces: at most that of a print that failed, and not that of a refused
-- command line.
use Rattle.std.proofs.Common.{arith, ◌≡◌, ◌≤◌, ℕ, Bool, true, false, List, Option, inl, inr}
use Rattle.std.specs.Prelude.{◌≢◌, ◌⊎◌, if◌then◌else◌, not}
use Rattle.std.specs.List.{list_all, list_any}
use Rattle.trace_feed.specs.Doors.{DoorState}
use Rattle.trace_feed.specs.Feeds.{FeedState}
use Rattle.asan_stream.specs.declared.outcome.Outcome.{Outcome}
use Rattle.asan_senders.specs.Statuses.{clean, has_report, is_closed, reported, status_of, unchecked, unwritten}
use Rattle.asan_session.specs.declared.session.Checking.{Checking}
use Rattle.asan_session.specs.Printed.{AreSendersPrinted, IsPrintedAs}
use Rattle.asan_request.specs.Refusals.{refused}

pub record IsOfTraces (status : ℕ) : Type 0 where
  pub known : status ≤ unwritten
  pub other : status ≢ refused

of_results : (closed report : Bool)
    → IsOfTraces (if not closed then unchecked else (if report then reported else clean))
of_results true true = record { known = omega arith; other = λ is. absurd (omega arith) }
of_results true false = record { known = omega arith; other = λ is. absurd (omega arith) }
of_results false report = record { known = omega arith; other = λ is. absurd (omega arith) }

module _ {F A : Type 0} where
  of_outcomes : (outcomes : List (Outcome F A)) (status : ℕ)
      → (status ≡ unwritten) ⊎ (status ≡ status_of outcomes true) → IsOfTraces status
  of_outcomes outcomes status (inl broken) =
      record { known = omega arith; other = λ is. absurd (omega arith) }
  of_outcomes outcomes status (inr own) =
      rw own (of_results (list_all is_closed outcomes) (list_any has_report outcomes))

  of_printed : (is_live : Bool) (before after : Option (List ℕ)) (outcomes : List (Outcome F A)) (status : ℕ)
      → IsPrintedAs is_live before after outcomes status → IsOfTraces status
  of_printed true before after outcomes status printed = of_outcomes outcomes status printed.2.status_is
  of_printed false before after outcomes status printed = of_outcomes outcomes status printed.status_is

-- that of the senders of a door
pub of_senders : {F : Type 0} (A : Type 0) (seen : F → FeedState) (checking : Checking)
    (old new : DoorState F) (before after : Option (List ℕ)) (status : ℕ)
    → AreSendersPrinted seen A checking old new before after status → IsOfTraces status
of_senders A seen checking old new before after status (outcomes, all) =
    of_printed checking.is_live before after outcomes status all.printed
