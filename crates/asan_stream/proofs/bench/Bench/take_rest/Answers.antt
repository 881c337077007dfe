use Rattle.std.proofs.Common.{◌≡◌, ◌<◌, ◌≤◌, [], length, length-append, take, refl, ap, ◌∙◌, inl, inr, arith, rules}
use Rattle.std.proofs.lemmas.Grind.{common_steps}
use Rattle.std.proofs.lemmas.List.{length-take-le, nil_from_length}
use Rattle.trace_lane.specs.Lanes.{taken_list, waiting, end_list}
use Rattle.asan_stream.specs.Ranges.{most_events}
use Rattle.asan_stream.proofs.Draining.{taken_some, checked_first}
use Rattle.asan_stream.proofs.Reporting.{front_same, front_trans}
use Rattle.asan_stream.proofs.bench.Bench.take_rest.Goals as goal

pub loop-left-init : goal.loop-left-init
loop-left-init g c = record {
  whole = c.settle-left.ensures.all;
  left = c.settle-left.ensures.count;
  bound = refl;
  found = front_same _;
}

pub loop-left-preserved : goal.loop-left-preserved
loop-left-preserved g c =
    let was = c.loop-left.invariant in
    let old = c.loop-left.self.lane in
    let took = c.take_items-left.ensures in
    let new = c.take_items-left.new.self.lane in
    let more = take c.take_items-left.result c.take_items-left.new.items in
    let some : 0 < length (waiting old) = omega arith in
    let waits = took.waits some in
    record {
      whole = taken_some (taken_list old) (waiting old) (taken_list new) (waiting new) more (end_list c.args.end)
          was.whole waits took.takes;
      left = omega (
        arith,
        ap length waits,
        length-append more (waiting new),
        length-take-le c.take_items-left.result c.take_items-left.new.items took.most,
      );
      bound = took.bound ∙ was.bound;
      found = front_trans _ _ _ was.found took.found;
    }

pub returns-after-loop-left : goal.returns-after-loop-left
returns-after-loop-left g c =
    let inv = c.loop-left.invariant in
    let b = c.loop-left.self in
    let none : waiting b.lane ≡ [] = nil_from_length (waiting b.lane) (omega arith) in
    checked_first c.args.self.now.checker b.checker b.events (taken_list b.lane) (waiting b.lane) (end_list c.args.end)
    inv.whole (inl none) b.stands b.counted b.few inv.bound inv.found

pub returns-else-self-lt-MAX_EVENTS : goal.returns-else-self-lt-MAX_EVENTS
returns-else-self-lt-MAX_EVENTS g c =
    let inv = c.loop-left.invariant in
    let b = c.loop-left.self in
    let all : most_events ≤ b.events = search rules in
    checked_first c.args.self.now.checker b.checker b.events (taken_list b.lane) (waiting b.lane) (end_list c.args.end)
    inv.whole (inr all) b.stands b.counted b.few inv.bound inv.found

pub overflow_sub-left : goal.overflow_sub-left
overflow_sub-left g c = grind (arith, common_steps)
