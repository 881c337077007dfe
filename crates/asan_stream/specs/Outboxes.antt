-- What was put of a checker's reports.
use Rattle.std.specs.Prelude.{◌≡◌, ◌≤◌, List, [], length, take, Option, None, Some, IfSome}
use Rattle.trace_lane.specs.Lanes.{Lane, in_lane, put_list}
use Rattle.trace_lane.specs.declared.lane_in.LaneIn.{LaneIn}
use Rattle.asan_check.specs.declared.report.Report.{Report}
use Rattle.asan_stream.specs.declared.outbox.Outbox.{Outbox}

-- the second list begins with the whole of the first
abbrev pub IsFront : List Report → List Report → Type 0
IsFront first all = take (length first) all ≡ first

module _ {A : Type 0} where
  -- which report lane it is, if there is one
  abbrev pub lane_into : Option (LaneIn Report A) → Option (Lane A)
  lane_into None = None
  lane_into (Some lane) = Some (in_lane lane)

  -- what was put into a report lane, if there is one
  abbrev pub put_into : Option (LaneIn Report A) → List Report
  put_into None = []
  put_into (Some lane) = put_list lane

  -- a report lane that is still there is the one that was
  abbrev pub KeepsLane : Option (Lane A) → Option (Lane A) → Type 0
  KeepsLane before None = Unit {0}
  KeepsLane before (Some lane) = before ≡ Some lane

  -- the first of these reports were put, as many as the outbox counts
  pub record Holds (o : Outbox A) (reports : List Report) : Type 0 where
    pub few : o.put ≤ length reports
    pub first : put_into o.lane ≡ take o.put reports

  -- all of these reports were put, or there is no report lane any more
  abbrev pub HasPut : Outbox A → List Report → Type 0
  HasPut o reports = IfSome o.lane (λ lane. IsFront reports (put_list lane))
