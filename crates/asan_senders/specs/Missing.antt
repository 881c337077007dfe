-- What was missing in a collection.
use Rattle.std.specs.Prelude.{◌≡◌, ℕ, ◌+◌, Bool, true, false, List, Option, None, Some, sum_by}
use Rattle.trace_lane.specs.declared.lane_end.LaneEnd.{LaneEnd}
use Rattle.asan_check.specs.declared.report.Report.{Report}
use Rattle.asan_stream.specs.declared.item.Item.{Item}
use Rattle.asan_stream.specs.declared.outcome.Outcome.{Outcome}
use Rattle.asan_stream.specs.declared.outcome.Outcome.TheVariants as outcome
use Rattle.asan_senders.specs.declared.missing.Missing.{Missing}
use Rattle.asan_senders.specs.declared.missing.Part.TheVariants as part
use Rattle.asan_senders.specs.declared.sender.Sender.{Sender}
use Rattle.asan_senders.specs.declared.sender.Sender.TheVariants as sender

module _ {A : Type 0} where
  -- whether an end is missing: that of the lane or, if reports are printed as they come, that of
  -- the report lane
  abbrev pub no_end : Bool → Option (LaneEnd Item A) → Option (LaneEnd Report A) → ℕ
  no_end is_live None reports = 1
  no_end true (Some end) None = 1
  no_end true (Some end) (Some reports) = 0
  no_end false (Some end) reports = 0

module _ {F A : Type 0} where
  -- how many lanes the sender lacked: one if it was not started for want of it
  abbrev pub lane_missing : Sender F A → ℕ
  lane_missing (sender.NotStarted part.Lane) = 1
  lane_missing _ = 0

  -- the same of workers
  abbrev pub worker_missing : Sender F A → ℕ
  worker_missing (sender.NotStarted part.Worker) = 1
  worker_missing _ = 0

  -- and of readers
  abbrev pub reader_missing : Sender F A → ℕ
  reader_missing (sender.NotStarted part.Reader) = 1
  reader_missing _ = 0

  -- how many of its lanes have no end: one if the sender was read, its bench is back, and it can't
  -- be settled for want of it
  abbrev pub end_missing : Bool → Sender F A → ℕ
  end_missing is_live (sender.Joined d b reports) = no_end is_live d.lane_end reports
  end_missing is_live _ = 0

  -- what was missing of these senders
  pub record IsMissingOf
      (is_live : Bool) (senders : List (Sender F A)) (missing : Missing) : Type 0 where
    pub lanes : missing.lanes ≡ sum_by lane_missing senders
    pub workers : missing.workers ≡ sum_by worker_missing senders
    pub readers : missing.readers ≡ sum_by reader_missing senders
    pub ends : missing.ends ≡ sum_by (end_missing is_live) senders

  -- whether the outcome is that of a sender that was not started
  abbrev pub not_started : Outcome F A → ℕ
  not_started outcome.NotStarted = 1
  not_started _ = 0

  -- whether it is that of one that was read and could not be settled
  abbrev pub unsettled : Outcome F A → ℕ
  unsettled outcome.Unsettled = 1
  unsettled _ = 0

  -- no outcome is without its cause: one is not-started for each lane, worker or reader that was
  -- missing, and one is unsettled for each lane that had no end
  pub record HaveCauses (outcomes : List (Outcome F A)) (missing : Missing) : Type 0 where
    pub not_started_are :
        sum_by not_started outcomes ≡ missing.lanes + missing.workers + missing.readers
    pub unsettled_are : sum_by unsettled outcomes ≡ missing.ends
