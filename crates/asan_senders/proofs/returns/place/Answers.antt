use Rattle.std.proofs.Common.{◌≡◌, ◌<◌, ◌∙◌, ◌∷◌, [], sym, subst, length, append-nil, arith}
use Rattle.std.proofs.Common.{slice_index_or, slice_set}
use Rattle.std.proofs.lemmas.List.{get_or_default, nil_from_length}
use Rattle.asan_stream.specs.Benches.{lane_of}
use Rattle.asan_stream.specs.Benches.{report_lane_of}
use Rattle.asan_stream.specs.Outboxes.{KeepsLane}
use Rattle.asan_senders.specs.ReportLanes.{Fits}
use Rattle.asan_senders.specs.Senders.{HasLane, IsAt, IsBack, Rejoins, StaysOrJoins}
use Rattle.asan_senders.proofs.Back.{all_cons, back_at, back_on, joins_of, joins_on, joins_same, moved}
use Rattle.asan_senders.proofs.ReportLanes.{fit_set, have_front, have_last}
use Rattle.asan_senders.proofs.Senders.{each_refl, each_set, rejoins_on, rejoins_same, at_front, at_last}
use Rattle.asan_senders.proofs.returns.place.Goals as goal

pub rejoin_at-requires : goal.rejoin_at-requires
rejoin_at-requires g c =
    let bench = c.in-Some.bench in
    let xs = c.args.senders.now.items in
    let ys = c.loop-bench.senders.items in
    let at = c.process-at.result in
    let here : IsAt c.args.bound xs bench = at_last c.args.bound xs c.pop.new.self.items bench
    (rw c.in-Some.ensures.items at c.loop-bench.invariant.1) in
    let same : length ys ≡ length xs = c.loop-bench.invariant.0.same_length in
    let first : at < length xs = let h = here.low in let e = c.process-at.ensures in omega arith in
    let low : at < length ys = omega arith in
    let d = c.index_mut.result.now in
    let is : d ≡ slice_index_or ys at d = c.index_mut.ensures.value
    ∙ get_or_default ys at c.index_mut.result.now d low in
    let was : HasLane (slice_index_or xs at d) (lane_of bench) =
    subst (λ k. HasLane (slice_index_or xs k d) (lane_of bench)) (sym c.process-at.ensures) (here.lane d) in
    subst (λ s. HasLane s (lane_of bench)) (sym is)
    ((c.loop-bench.invariant.0.each at d first).lane (lane_of bench) was)

pub loop-bench-preserved : goal.loop-bench-preserved
loop-bench-preserved g c =
    let bound = c.args.bound in
    let rejoins = Rejoins g.F.Feed.seen bound in
    let bench = c.in-Some.bench in
    let xs = c.args.senders.now.items in
    let ys = c.loop-bench.senders.items in
    let at = c.process-at.result in
    let here : IsAt bound xs bench = at_last bound xs c.pop.new.self.items bench
    (rw c.in-Some.ensures.items at c.loop-bench.invariant.1) in
    let same : length ys ≡ length xs = c.loop-bench.invariant.0.same_length in
    let first : at < length xs = let h = here.low in let e = c.process-at.ensures in omega arith in
    let low : at < length ys = omega arith in (
      (each_set rejoins (rejoins_on g.F.Feed.seen bound) at xs ys c.rejoin_at.new.sender first
          (λ d. rw (c.index_mut.ensures.value ∙ get_or_default ys at c.index_mut.result.now d low, here.bound_is)
          at c.rejoin_at.ensures.rejoins) c.loop-bench.invariant.0),
      at_front bound xs c.pop.new.self.items bench (rw c.in-Some.ensures.items at c.loop-bench.invariant.1),
      λ lanes fit have.
          let was = c.loop-bench.invariant.2 lanes fit have in
          let held = rw c.in-Some.ensures.items at was.1 in
          let d = c.index_mut.result.now in
          let is : d ≡ slice_index_or ys at d = c.index_mut.ensures.value
          ∙ get_or_default ys at c.index_mut.result.now d low in
          let old : Fits (lanes at) d = subst (Fits (lanes at)) (sym is) (was.0.each at d low) in
          let keeps : KeepsLane (lanes at) (report_lane_of bench) =
          subst (λ k. KeepsLane (lanes k) (report_lane_of bench)) (sym c.process-at.ensures)
          (have_last lanes c.pop.new.self.items bench held) in (
            fit_set lanes at ys c.rejoin_at.new.sender was.0 (c.rejoin_at.ensures.fits (lanes at) old keeps),
            have_front lanes c.pop.new.self.items bench held,
          ),
      (
        bench ∷ c.loop-bench.invariant.3.0,
        moved c.args.benches.items c.loop-bench.benches.items c.pop.new.self.items c.loop-bench.invariant.3.0
            bench c.loop-bench.invariant.3.1 c.in-Some.ensures.items,
        all_cons (IsBack (slice_set ys at c.rejoin_at.new.sender)) bench c.loop-bench.invariant.3.0
            (back_at ys at c.rejoin_at.new.sender bench low (sym c.process-at.ensures) c.rejoin_at.ensures.back)
            (λ k b below. back_on ys at c.rejoin_at.new.sender (slice_index_or c.loop-bench.invariant.3.0 k b) low
            c.rejoin_at.ensures.back (c.loop-bench.invariant.3.2 k b below)),
      ),
      λ b back. back_on ys at c.rejoin_at.new.sender b low c.rejoin_at.ensures.back (c.loop-bench.invariant.4 b back),
      each_set StaysOrJoins joins_on at xs ys c.rejoin_at.new.sender first
          (λ d. rw (c.index_mut.ensures.value ∙ get_or_default ys at c.index_mut.result.now d low)
          at (joins_of bench c.index_mut.result.now c.rejoin_at.new.sender c.rejoin_at.ensures.takes))
          c.loop-bench.invariant.5,
    )

pub index_mut-requires : goal.index_mut-requires
index_mut-requires g c =
    let xs = c.args.senders.now.items in
    let ys = c.loop-bench.senders.items in
    let here : IsAt c.args.bound xs c.in-Some.bench =
    at_last c.args.bound xs c.pop.new.self.items c.in-Some.bench
    (rw c.in-Some.ensures.items at c.loop-bench.invariant.1) in
    let same : length ys ≡ length xs = c.loop-bench.invariant.0.same_length in
    let low = here.low in
    let at = c.process-at.ensures in
    let whole = c.loop-bench.senders.ok in
    omega (arith, whole.0)

pub loop-bench-init : goal.loop-bench-init
loop-bench-init g c = (
  each_refl (Rejoins g.F.Feed.seen c.args.bound) (rejoins_same g.F.Feed.seen c.args.bound)
      c.args.senders.now.items,
  c.requires,
  λ lanes fit have. (fit, have),
  ([], sym (append-nil c.args.benches.items), λ k d below. absurd (omega arith)),
  λ b back. back,
  each_refl StaysOrJoins joins_same c.args.senders.now.items,
)

pub returns-clause-fit : goal.returns-clause-fit
returns-clause-fit g c = λ lanes fit have. (c.loop-bench.invariant.2 lanes fit have).0

pub returns-clause-takes : goal.returns-clause-takes
returns-clause-takes g c = c.loop-bench.invariant.5

pub returns-clause-back : goal.returns-clause-back
returns-clause-back g c =
    let benches = c.loop-bench.benches in
    let zero : length benches.items ≡ 0 =
    (let whole = benches.ok.0 in let none = c.in_default.ensures.cases.0 in omega arith) in
    rw (rw (nil_from_length benches.items zero) at c.loop-bench.invariant.3.1) c.loop-bench.invariant.3.2

pub returns-clause-rejoins : goal.returns-clause-rejoins
returns-clause-rejoins g c = c.loop-bench.invariant.0

pub returns-clause-stays : goal.returns-clause-stays
returns-clause-stays g c = c.loop-bench.invariant.4
