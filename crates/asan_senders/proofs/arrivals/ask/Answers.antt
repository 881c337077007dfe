use Rattle.std.proofs.Common.{rules, ◌∙◌, ◌≡◌, ◌≤◌, ◌+◌, [], ◌∷◌, ◌++◌, length, arith, inl, inr, refl}
use Rattle.std.proofs.lemmas.List.{length_push}
use Rattle.std.proofs.lemmas.List.Elements.{All-push}
use Rattle.asan_senders.specs.Counts.{refused}
use Rattle.asan_senders.proofs.Counting.{refused-after, refused-push}
use Rattle.asan_senders.specs.Arrivals.{Arrived, IsArrived}
use Rattle.asan_senders.proofs.Arriving.{arrived_none, arrived_over, arrived_came, arrived_refused, refusals_rise}
use Rattle.asan_senders.proofs.Arriving.{IsLeft, left_at_first, left_came, left_refused, left_over, left_full}
use Rattle.asan_senders.proofs.arrivals.ask.Goals.{in-Came, in-Refused}
use Rattle.asan_senders.proofs.arrivals.ask.Goals as goal

pub loop-init : goal.loop-init
loop-init g c = record {
  count = search rules;
  room = search rules;
  refusals = search rules;
  refused = (let none = c.requires.empty in rw none (omega arith));
  arrived = (let none = c.requires.empty in rw none (arrived_none _));
  left = (let none = c.requires.empty in rw none (left_at_first _));
  fresh = (let none = c.requires.empty in λ k d within. absurd (let no = rw none at within in omega arith));
}

pub next-requires : goal.next-requires
next-requires g c = let few = c.loop.invariant.refusals in let turns = c.loop-test.true in omega arith

pub push_reserved-requires : goal.push_reserved-requires
push_reserved-requires g c =
    let count = c.loop.invariant.count in
    let room = c.loop.invariant.room in
    let turns = c.loop-test.true in
    omega arith

pub loop-preserved : goal.loop-preserved
loop-preserved g c =
    let a = c.match-next.arrival in
    let xs = c.loop.arrivals.items in
    let before = (g.D.Door.seen c.args.door.now).to_arrive in
    let after = (g.D.Door.seen c.next.new.self).to_arrive in
    let arrived : Arrived before after (xs ++ a ∷ []) =
    elim c.match-next.branch [
      | in-Came w ↦ rw w.arrival-is (arrived_came _ _ _ xs _ c.loop.invariant.arrived
          (rw w.in-Came.is at c.next.ensures.order))
      | in-Refused w ↦ rw w.arrival-is (arrived_refused _ _ _ xs c.loop.invariant.arrived
          (rw w.in-Refused.is at c.next.ensures.order))
    ] in
    let fresh : IsArrived g.D.Feed.Feed.seen a =
    elim c.match-next.branch [
      | in-Came w ↦ rw w.arrival-is (rw w.in-Came.is at c.next.ensures.fresh)
      | in-Refused w ↦ rw w.arrival-is tt
    ] in
    let same : refused c.next.result ≡ refused a =
    elim c.match-next.branch [
      | in-Came w ↦ rw (w.arrival-is, w.in-Came.is) refl
      | in-Refused w ↦ rw (w.arrival-is, w.in-Refused.is) refl
    ] in
    let left : IsLeft (g.D.Door.seen c.args.door.now).left (g.D.Door.seen c.next.new.self).left (length xs + 1) =
    elim c.match-next.branch [
      | in-Came w ↦ left_came _ _ _ _ _ c.loop.invariant.left (rw w.in-Came.is at c.next.ensures.turn)
      | in-Refused w ↦ left_refused _ _ _ _ _ c.loop.invariant.left (rw w.in-Refused.is at c.next.ensures.turn)
    ] in
    let pushed = c.push_reserved.ensures.items in
    record {
      count = omega (arith, c.push_reserved.ensures.len);
      room = omega (arith, c.push_reserved.ensures.capacity);
      refusals =
          let most = c.loop.invariant.refusals in
          let now = c.next.ensures.count in
          let rise = refusals_rise c.next.result (g.D.Door.seen c.loop.door).refusals in
          omega arith;
      refused = rw pushed (
          let was = c.loop.invariant.refused in
          let now = c.next.ensures.count in
          let one = refused-after c.next.result (g.D.Door.seen c.loop.door).refusals in
          let more = refused-push xs a in
          omega arith);
      arrived = rw pushed arrived;
      left = rw (pushed, length_push xs a) left;
      fresh = rw pushed (All-push (IsArrived g.D.Feed.Feed.seen) xs a c.loop.invariant.fresh fresh);
    }

pub returns-in-Over-clause-arrived : goal.returns-in-Over-clause-arrived
returns-in-Over-clause-arrived g c = arrived_over _ _ _ _ c.loop.invariant.arrived
    (rw c.in-Over.is at c.next.ensures.order)

pub returns-in-Over-clause-refused : goal.returns-in-Over-clause-refused
returns-in-Over-clause-refused g c = (rw c.in-Over.is at c.next.ensures.count) ∙ c.loop.invariant.refused

pub returns-in-Over-clause-all : goal.returns-in-Over-clause-all
returns-in-Over-clause-all g c = inl (c.next.ensures.over (rw c.in-Over.is refl))

pub returns-in-Over-clause-count : goal.returns-in-Over-clause-count
returns-in-Over-clause-count g c =
    let few : length c.loop.arrivals.items ≤ 256 =
    (let count = c.loop.invariant.count in let turns = c.loop-test.true in omega arith) in
    left_over _ _ _ _ _ few c.loop.invariant.left (rw c.in-Over.is at c.next.ensures.turn)

pub returns-after-loop-clause-count : goal.returns-after-loop-clause-count
returns-after-loop-clause-count g c = left_full _ _ _ (search rules) c.loop.invariant.left

pub returns-after-loop-clause-all : goal.returns-after-loop-clause-all
returns-after-loop-clause-all g c = inr (search rules)
