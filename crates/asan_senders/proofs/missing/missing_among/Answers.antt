use Rattle.std.proofs.Common.{◌≡◌, ◌+◌, ◌<◌, ◌≤◌, ◌∙◌, ℕ, List, Option, Some, None, Bool, true, false}
use Rattle.std.proofs.Common.{ap, arith, length, slice_index_or, sym, take}
use Rattle.std.specs.Prelude.{sum_by}
use Rattle.std.proofs.lemmas.List.{take_all}
use Rattle.std.proofs.lemmas.List.Sums.{sum_by_more}
use Rattle.trace_lane.specs.declared.lane_end.LaneEnd.{LaneEnd}
use Rattle.asan_check.specs.declared.report.Report.{Report}
use Rattle.asan_stream.specs.declared.item.Item.{Item}
use Rattle.asan_senders.specs.declared.missing.Part.TheVariants as part
use Rattle.asan_senders.specs.declared.sender.Sender.{Sender}
use Rattle.asan_senders.specs.declared.sender.Sender.TheVariants as sender
use Rattle.asan_senders.specs.Missing.{end_missing, lane_missing, no_end, reader_missing, worker_missing}
use Rattle.asan_senders.proofs.missing.missing_among.Goals as goal

module _ {A : Type 0} where
  one_end : (is_live : Bool) (lane_end : Option (LaneEnd Item A)) (reports : Option (LaneEnd Report A))
      → no_end is_live lane_end reports ≤ 1
  one_end is_live None reports = omega arith
  one_end true (Some end) None = omega arith
  one_end true (Some end) (Some reports) = omega arith
  one_end false (Some end) reports = omega arith

module _ {F A : Type 0} where
  -- no sender lacks more than one part
  one_part : (s : Sender F A) → lane_missing s + worker_missing s + reader_missing s ≤ 1
  one_part sender.NotOpened = omega arith
  one_part (sender.NotStarted part.Lane) = omega arith
  one_part (sender.NotStarted part.Worker) = omega arith
  one_part (sender.NotStarted part.Reader) = omega arith
  one_part (sender.Ready feed lane) = omega arith
  one_part (sender.Running h) = omega arith
  one_part (sender.Read d) = omega arith
  one_part (sender.Joined d b reports) = omega arith

  one_missing : (is_live : Bool) (s : Sender F A) → end_missing is_live s ≤ 1
  one_missing is_live sender.NotOpened = omega arith
  one_missing is_live (sender.NotStarted missing) = omega arith
  one_missing is_live (sender.Ready feed lane) = omega arith
  one_missing is_live (sender.Running h) = omega arith
  one_missing is_live (sender.Read d) = omega arith
  one_missing is_live (sender.Joined d b reports) = one_end is_live d.lane_end reports

  -- one more sender is counted
  counted_more : (f : Sender F A → ℕ) (senders : List (Sender F A)) (i : ℕ) (s : Sender F A) (was now : ℕ)
      → i < length senders → s ≡ slice_index_or senders i s → was ≡ sum_by f (take i senders) → now ≡ was + f s
      → now ≡ sum_by f (take (i + 1) senders)
  counted_more f senders i s was now low is before more =
      more ∙ ap (λ n. n + f s) before
      ∙ sym (sum_by_more f senders i s low ∙ ap (λ x. sum_by f (take i senders) + f x) (sym is))

pub count-requires-clause-lanes : goal.count-requires-clause-lanes
count-requires-clause-lanes g c = let few = c.loop-sender.invariant.few in let all = c.requires in omega arith

pub count-requires-clause-workers : goal.count-requires-clause-workers
count-requires-clause-workers g c = let few = c.loop-sender.invariant.few in let all = c.requires in omega arith

pub count-requires-clause-readers : goal.count-requires-clause-readers
count-requires-clause-readers g c = let few = c.loop-sender.invariant.few in let all = c.requires in omega arith

pub count-requires-clause-ends : goal.count-requires-clause-ends
count-requires-clause-ends g c = let few = c.loop-sender.invariant.few_ends in let all = c.requires in omega arith

pub loop-sender-preserved : goal.loop-sender-preserved
loop-sender-preserved g c =
    let inv = c.loop-sender.invariant in
    let xs = c.args.senders.now in
    let i = c.loop-sender.sender-index in
    let s = c.sender-item.result in
    let live = c.args.is_live in
    let low = c.loop-sender-test.true in
    let is = c.sender-item.is in
    let counts = c.count.ensures in
    let part = one_part s in
    let ends = one_missing live s in
    record {
      counted = record {
        lanes = counted_more lane_missing xs i s _ _ low is inv.counted.lanes counts.lanes;
        workers = counted_more worker_missing xs i s _ _ low is inv.counted.workers counts.workers;
        readers = counted_more reader_missing xs i s _ _ low is inv.counted.readers counts.readers;
        ends = counted_more (end_missing live) xs i s _ _ low is inv.counted.ends counts.ends;
      };
      few = omega (arith, counts.lanes, counts.workers, counts.readers, inv.few);
      few_ends = omega (arith, counts.ends, inv.few_ends);
    }

pub returns : goal.returns
returns g c =
    let xs = c.args.senders.now in
    let i = c.loop-sender.sender-index in
    let all : length xs ≤ i = c.loop-sender-test.false in
    rw (take_all i xs all) at c.loop-sender.invariant.counted
