use Rattle.std.proofs.Common.{◌≡◌, ◌≤◌, ◌<◌, ◌+◌, ◌-◌, ℕ, List, ◌++◌, ◌∷◌, [], length, take, drop, ◌∙◌, refl, sym, ap}
use Rattle.std.proofs.Common.{arith, append_assoc}
use Rattle.std.proofs.lemmas.List.{take_rest, take_at, drop_at, take-append-le, length-take-le, length-drop, length-set}
use Rattle.std.proofs.lemmas.List.{take_more_set}
use borrow.Rule.Slice.PartMut.{mid_of, put_mid, post_of, same_len_mid}
use lib.Seq.{take-add}
use Rattle.trace_record.specs.declared.event.Event.{Event}
use Rattle.trace_record.specs.Standing.{Standing, StandsAt}
use Rattle.trace_record.proofs.Steps.{joined}
use Rattle.asan_stream.proofs.Stepping.{said}
use Rattle.asan_stream.proofs.decode.decode.Goals as goal

-- the first of the events that were put after others
put_after : (events new : List Event) (i k n : ℕ) → i ≤ length events → n ≤ length new
    → take (i + n) (put_mid i k events new) ≡ take i events ++ take n new
put_after events new i k n within few =
    let front = take i events in
    let after = new ++ post_of i k events in
    let len = length-take-le i events within in
    take-add i n (front ++ after) ∙ (rw (
      take_at front after i len,
      drop_at front after i len,
      take-append-le n new (post_of i k events) few,
    ) refl)

-- where a decoder stands that has read ahead
ahead_of : (d now : Standing) (text piece : List ℕ) (used size : ℕ) (before events new : List Event) (i k n : ℕ)
    → i ≤ length events
    → n ≤ length (mid_of i k events) → length new ≡ length (mid_of i k events)
    → ((t : List ℕ) (es : List Event) → StandsAt d t es
    → StandsAt now (t ++ take size (take (length piece - used) (drop used piece))) (es ++ take n new))
    → StandsAt d (text ++ take used piece) (before ++ take i events)
    → StandsAt now (text ++ take (used + size) piece) (before ++ take (i + n) (put_mid i k events new))
ahead_of d now text piece used size before events new i k n within few room answers at =
    let more = ap (λ es. before ++ es) (put_after events new i k n within (omega arith))
    ∙ sym (append_assoc before (take i events) (take n new)) in
    rw (← joined text piece used size, more) (rw (take_rest piece used) at answers (text ++ take used piece)
    (before ++ take i events) at)

pub loop-count-preserved : goal.loop-count-preserved
loop-count-preserved c =
    let was = c.loop-count.invariant in
    let piece = c.args.piece.now in
    let events = c.loop-count.events in
    let i = c.loop-count.count in
    let ahead = c.next_events-ahead.ensures in
    let used = c.loop-count.used + c.next_events-ahead.result.used in
    let count = i + c.next_events-ahead.result.count in
    let put = put_mid i (length events - i) events c.next_events-ahead.new.out in
    let event = c.in-Got.event in
    let same : length put ≡ length events = same_len_mid i (length events - i) events c.next_events-ahead.new.out
    ahead.room in
    let few : c.next_events-ahead.result.count ≤ length events - i =
    rw (take_rest events i, length-drop i events) at ahead.count in
    let low : count < length put = omega arith in
    record {
      running = rw c.in-Got.is at c.next-step.ensures.stop;
      within =
          let first = rw (take_rest piece c.loop-count.used) at ahead.used in
          let then = rw (take_rest piece used) at c.next-step.ensures.used in
          let within = was.within in
          omega (arith, length-drop c.loop-count.used piece, length-drop used piece);
      room = (let room = was.room in omega (arith, length-set put count event));
      some = omega (arith, length-set put count event);
      moved = λ _. let some = c.next-step.ensures.got event c.in-Got.is in omega arith;
      limit = c.next-step.ensures.limit ∙ ahead.limit ∙ was.limit;
      reads = λ text before at.
          let at_first = ahead_of _ _ text piece _ _ before events _ i _ _ was.some ahead.count ahead.room ahead.answers
          (was.reads text before at) in
          let stands = rw c.in-Got.is at (said _ _ text piece used _ _ _
          (rw (take_rest piece used) at c.next-step.ensures.answers) at_first) in
          let more = ap (λ es. before ++ es) (take_more_set put count event low)
          ∙ sym (append_assoc before (take count put) (event ∷ [])) in
          rw more stands.0;
    }

pub returns-then-count-events-clause-decoded : goal.returns-then-count-events-clause-decoded
returns-then-count-events-clause-decoded c text before at =
    let was = c.loop-count.invariant in
    let ahead = c.next_events-ahead.ensures in
    ahead_of _ _ text c.args.piece.now _ _ before c.loop-count.events _ c.loop-count.count _ _ was.some ahead.count
    ahead.room ahead.answers (was.reads text before at)

pub returns-in-Stop-clause-decoded : goal.returns-in-Stop-clause-decoded
returns-in-Stop-clause-decoded c text before at =
    let was = c.loop-count.invariant in
    let piece = c.args.piece.now in
    let ahead = c.next_events-ahead.ensures in
    let used = c.loop-count.used + c.next_events-ahead.result.used in
    let at_first = ahead_of _ _ text piece _ _ before c.loop-count.events _ c.loop-count.count _ _ was.some ahead.count
    ahead.room ahead.answers (was.reads text before at) in
    let stands = rw c.in-Stop.is at (said _ _ text piece used _ _ _
    (rw (take_rest piece used) at c.next-step.ensures.answers) at_first) in
    (rw c.in-Stop.is at c.next-step.ensures.stop, stands.0, stands.1, stands.2)

pub returns-in-Need-clause-decoded : goal.returns-in-Need-clause-decoded
returns-in-Need-clause-decoded c text before at =
    let was = c.loop-count.invariant in
    let piece = c.args.piece.now in
    let ahead = c.next_events-ahead.ensures in
    let used = c.loop-count.used + c.next_events-ahead.result.used in
    let at_first = ahead_of _ _ text piece _ _ before c.loop-count.events _ c.loop-count.count _ _ was.some ahead.count
    ahead.room ahead.answers (was.reads text before at) in
    rw c.in-Need.is at (said _ _ text piece used _ _ _ (rw (take_rest piece used) at c.next-step.ensures.answers)
    at_first)
