-- No sender is left without its cause.
use Rattle.std.proofs.Common.{◌≡◌, ◌<◌, ◌+◌, ◌++◌, ◌∷◌, ◌%◌, ◌∙◌, ℕ, List, [], Option, Some, None, Bool, false}
use Rattle.std.proofs.Common.{length, length-append, refl, sym, ap, arith, slice_index_or, slice_set, inl, inr}
use Rattle.std.specs.Prelude.{◌≢◌, ◌⊎◌, All, is_some, sum_by, IsTrue}
use Rattle.std.proofs.Math.Nat.{mod-lt}
use Rattle.std.proofs.lemmas.Bool.{cases_eq, false≢true}
use Rattle.std.proofs.lemmas.List.{get_or-set_same, get_or-set_other, get_or_append_left, get_or_at, get_or_default}
use Rattle.std.proofs.lemmas.List.{length-set}
use Rattle.std.proofs.lemmas.List.Sums.{sum_by-cons}
use Rattle.trace_feed.specs.Feeds.{FeedState}
use Rattle.trace_lane.specs.declared.lane_end.LaneEnd.{LaneEnd}
use Rattle.asan_check.specs.declared.report.Report.{Report}
use Rattle.asan_print.specs.declared.port.Port.{Port}
use Rattle.asan_print.specs.Ports.{lane_at}
use Rattle.asan_stream.specs.declared.bench.Bench.{Bench}
use Rattle.asan_stream.specs.declared.item.Item.{Item}
use Rattle.asan_stream.specs.declared.outcome.Outcome.{Outcome}
use Rattle.asan_stream.specs.declared.outcome.Outcome.TheVariants as outcome
use Rattle.asan_stream.specs.declared.reader.ReaderDone.{ReaderDone}
use Rattle.asan_stream.specs.Benches.{EachLater, process_of}
use Rattle.asan_stream.specs.Outcomes.{is_read}
use Rattle.asan_senders.specs.declared.missing.Missing.{Missing}
use Rattle.asan_senders.specs.declared.missing.Part.TheVariants as part
use Rattle.asan_senders.specs.declared.sender.Sender.{Sender}
use Rattle.asan_senders.specs.declared.sender.Sender.TheVariants as sender
use Rattle.asan_senders.specs.declared.worker_thread.WorkerThread.{WorkerThread}
use Rattle.asan_senders.specs.declared.worker_thread.WorkerThread.TheVariants as running
use Rattle.asan_senders.specs.Arrivals.{Pairwise}
use Rattle.asan_senders.specs.Collected.{IsReadIfAlone}
use Rattle.asan_senders.specs.Missing.{HaveCauses, IsMissingOf, end_missing, lane_missing, no_end, not_started}
use Rattle.asan_senders.specs.Missing.{reader_missing, unsettled, worker_missing}
use Rattle.asan_senders.specs.ReportLanes.{HasPort}
use Rattle.asan_senders.specs.Senders.{Becomes, Each, Ends, HasBench, IsBack, IsRead, IsReady, IsSeated}
use Rattle.asan_senders.specs.Senders.{IsSettledBy, IsStarted}
use Rattle.asan_senders.specs.Senders.{SaysHowFar, StaysOrJoins, WillBe}
use Rattle.asan_senders.specs.Shares.{AreBack, AreKept, Deals, EachGivesUp, GivesUpWith, HasBenchOf}
use Rattle.asan_senders.specs.Shares.{HaveSeats, HaveWorked, HaveWorkedForRead, IsKept, Returns, Share, WillComeBack}
use Rattle.asan_senders.proofs.Counting.{pairs_first, pairs_rest}

-- ---- seats

module _ {A : Type 0} where
  bench_more : (i : ℕ) (xs ys : List (Bench A)) → HasBenchOf i xs → HasBenchOf i (xs ++ ys)
  bench_more i xs ys (k, low, is) = (
    k,
    omega (arith, length-append xs ys),
    λ d. rw (get_or_append_left xs ys d k low) (is d),
  )

  bench_last : (i : ℕ) (xs : List (Bench A)) (b : Bench A) → process_of b ≡ i → HasBenchOf i (xs ++ b ∷ [])
  bench_last i xs b is = (
    length xs,
    omega (arith, length-append xs (b ∷ [])),
    λ d. rw (get_or_at xs b [] d (length xs) refl) is,
  )

  bench_later : (i : ℕ) (xs ys : List (Bench A)) → EachLater xs ys → HasBenchOf i xs → HasBenchOf i ys
  bench_later i xs ys later (k, low, is) = (
    k,
    (let same = later.same_length in omega arith),
    λ d. (later.each k d low).process ∙ is d,
  )

  -- a bench that was dealt out does not displace another
  bench_dealt : (i at k : ℕ) (b : Bench A) (before after : List (Share A)) (e : Share A) → at < length before
      → k < length before → Deals at b before after → HasBenchOf i (slice_index_or before k e).items
      → HasBenchOf i (slice_index_or after k e).items
  bench_dealt i at k b before after e low below deals has = elim (cases_eq k at) [
    | inl same ↦ rw (deals.set, same, get_or-set_same before at deals.share e low, deals.items)
        (bench_more i (slice_index_or before at deals.share).items (b ∷ [])
        (rw (same, get_or_default before at e deals.share low) at has))
    | inr other ↦ rw (deals.set, get_or-set_other before at k deals.share e other) has
  ]

  bench_here : (i at : ℕ) (b : Bench A) (before after : List (Share A)) (e : Share A) → at < length before
      → Deals at b before after → process_of b ≡ i → HasBenchOf i (slice_index_or after at e).items
  bench_here i at b before after e low deals is =
      rw (deals.set, get_or-set_same before at deals.share e low, deals.items)
      (bench_last i (slice_index_or before at deals.share).items b is)

module _ {F A : Type 0} where
  pub seats_none : (senders : List (Sender F A)) (shares : List (Share A)) → senders ≡ [] → HaveSeats senders shares
  seats_none senders shares none =
      record { each = λ i d e below ready. absurd (let no = rw none at below in omega arith) }

  not_ready : (s : Sender F A) → IsSeated s None → ¬ IsReady s
  not_ready sender.NotOpened seated ready = ready
  not_ready (sender.NotStarted missing) seated ready = ready
  not_ready (sender.Ready feed lane) seated ready = false≢true seated
  not_ready (sender.Running h) seated ready = ready
  not_ready (sender.Read d) seated ready = ready
  not_ready (sender.Joined d b reports) seated ready = ready

  pub no_seat : (s : Sender F A) (bench : Option (Bench A)) → IsSeated s bench → ((b : Bench A) → bench ≢ Some b)
      → IsSeated s None
  no_seat s None seated none = seated
  no_seat s (Some b) seated none = absurd (none b refl)

  -- one more sender, which is not to be read
  pub seats_more : (senders : List (Sender F A)) (s : Sender F A) (shares : List (Share A)) → IsSeated s None
      → HaveSeats senders shares → HaveSeats (senders ++ s ∷ []) shares
  seats_more senders s shares seated h = record {
    each = λ i d e below ready. elim (cases_eq i (length senders)) [
      | inl is ↦ absurd (not_ready s seated (rw (get_or_at senders s [] d i (sym is)) at ready))
      | inr n ↦ let low : i < length senders = omega (arith, length-append senders (s ∷ [])) in
          h.each i d e low (rw (get_or_append_left senders (s ∷ []) d i low) at ready)
    ];
  }

  -- and one more whose bench is dealt out
  pub seats_dealt : (senders : List (Sender F A)) (s : Sender F A) (b : Bench A) (before after : List (Share A))
      → 0 < length before → length after ≡ length before → process_of b ≡ length senders
      → Deals (length senders % length before) b before after
      → HaveSeats senders before → HaveSeats (senders ++ s ∷ []) after
  seats_dealt senders s b before after some same is deals h = record {
    each = λ i d e below ready. rw same (elim (cases_eq i (length senders)) [
      | inl last ↦ rw last (bench_here (length senders) (length senders % length before) b before after e
          (mod-lt (length senders) some) deals is)
      | inr n ↦ let low : i < length senders = omega (arith, length-append senders (s ∷ [])) in
          bench_dealt i (length senders % length before) (i % length before) b before after e
          (mod-lt (length senders) some) (mod-lt i some) deals
          (h.each i d e low (rw (get_or_append_left senders (s ∷ []) d i low) at ready))
    ]);
  }

-- ---- workers

module _ {F A : Type 0} (seen : F → FeedState) (limit : ℕ) where
  gone : (z : Sender F A) → WillBe seen limit (sender.NotStarted part.Worker) z → ¬ IsStarted z
  gone sender.NotOpened will started = started
  gone (sender.NotStarted missing) will started = started
  gone (sender.Ready feed lane) will started = started
  gone (sender.Running h) will started = will.0
  gone (sender.Read d) will started = absurd cc
  gone (sender.Joined d b reports) will started = started

  -- the worker of a sender that was ready and is started was not lost
  kept_of : (c : WorkerThread A) (x y z : Sender F A) → GivesUpWith c x y → WillBe seen limit y z → IsReady x
      → IsStarted z → IsKept c
  kept_of (running.Idle benches) x y z gives will ready started = tt
  kept_of (running.Running h) x y z gives will ready started = tt
  kept_of running.Lost sender.NotOpened y z gives will ready started = ready
  kept_of running.Lost (sender.NotStarted missing) y z gives will ready started = ready
  kept_of running.Lost (sender.Ready feed lane) y z gives will ready started =
      gone z (rw gives at will) started
  kept_of running.Lost (sender.Running h) y z gives will ready started = ready
  kept_of running.Lost (sender.Read d) y z gives will ready started = ready
  kept_of running.Lost (sender.Joined d b reports) y z gives will ready started = ready

  pub all_kept : (workers : List (WorkerThread A)) (xs ys zs : List (Sender F A)) → EachGivesUp workers xs ys
      → Each (WillBe seen limit) ys zs → AreKept workers xs zs
  all_kept workers xs ys zs gives will = record {
    each = λ i d c below ready started.
        kept_of (slice_index_or workers (i % length workers) c) (slice_index_or xs i d) (slice_index_or ys i d)
        (slice_index_or zs i d) (gives.each i d c below)
        (will.each i d (let same = gives.same_length in omega arith)) ready started;
  }

  -- a sender that was ready, and was read, had a reader
  started_of : (x s t : Sender F A) → IsReady x → WillBe seen limit x s → Ends seen s t → IsRead t → IsStarted s
  started_of sender.NotOpened s t ready will ends read = absurd ready
  started_of (sender.NotStarted missing) s t ready will ends read = absurd ready
  started_of (sender.Running h) s t ready will ends read = absurd ready
  started_of (sender.Read d) s t ready will ends read = absurd ready
  started_of (sender.Joined d b reports) s t ready will ends read = absurd ready
  started_of (sender.Ready feed lane) sender.NotOpened t ready will ends read = absurd will
  started_of (sender.Ready feed lane) (sender.Ready f l) t ready will ends read = absurd will
  started_of (sender.Ready feed lane) (sender.Running h) t ready will ends read = tt
  started_of (sender.Ready feed lane) (sender.Read d) t ready will ends read = tt
  started_of (sender.Ready feed lane) (sender.Joined d b reports) t ready will ends read = absurd will
  started_of (sender.Ready feed lane) (sender.NotStarted missing) t ready will ends read =
      absurd (rw (ends limit (sender.NotStarted missing) refl) at read)

-- the benches of a worker that was not lost come back
pub worked_by : {A : Type 0} (c : WorkerThread A) (before after : Share A) → IsKept c → WillComeBack before c
    → Returns c after → HaveWorked before.items after.items
worked_by (running.Idle benches) before after kept will returns = returns before will
worked_by (running.Running h) before after kept will returns = returns before will
worked_by running.Lost before after kept will returns = absurd kept

module _ {F A : Type 0} (seen : F → FeedState) (limit : ℕ) where
  -- all workers were started and have ended, and so have the readers
  pub have_worked : (xs ys zs : List (Sender F A)) (before after : List (Share A)) (workers : List (WorkerThread A))
      → 0 < length before → Each (WillBe seen limit) xs ys → Each (Ends seen) ys zs → AreKept workers xs ys
      → Pairwise WillComeBack before workers → Pairwise Returns workers after → HaveWorkedForRead xs zs before after
  have_worked xs ys zs before after workers some will ends kept begun back = record {
    each = λ i d e below ready read.
        let many = begun.same_length in
        let low : i % length before < length before = mod-lt i some in
        let started : IsStarted (slice_index_or ys i d) = started_of seen limit (slice_index_or xs i d)
        (slice_index_or ys i d) (slice_index_or zs i d) ready (will.each i d below)
        (ends.each i d (let same = will.same_length in omega arith)) read in
        let its : IsKept (slice_index_or workers (i % length before) running.Lost) =
        rw many at (kept.each i d running.Lost below ready started) in
        worked_by (slice_index_or workers (i % length before) running.Lost)
        (slice_index_or before (i % length before) e) (slice_index_or after (i % length before) e) its
        (begun.each (i % length before) e running.Lost low)
        (back.each (i % length before) running.Lost e (omega arith));
  }

module _ {F A : Type 0} where
  -- the first worker ran here, and its share was empty meanwhile
  pub first_worked : (xs zs : List (Sender F A)) (before after : List (Share A)) (empty benches : Share A)
      → 0 < length before
      → ((d : Share A) → HaveWorked (slice_index_or before 0 d).items
      (slice_index_or (slice_set after 0 benches) 0 d).items)
      → HaveWorkedForRead xs zs (slice_set before 0 empty) after
      → HaveWorkedForRead xs zs before (slice_set after 0 benches)
  first_worked xs zs before after empty benches some first rest = record {
    each = λ i d e below ready read. elim (cases_eq (i % length before) 0) [
      | inl is ↦ rw is (first e)
      | inr n ↦
          let was = rw (length-set before 0 empty) at (rest.each i d e below ready read) in
          rw (get_or-set_other after 0 (i % length before) benches e n)
          (rw (get_or-set_other before 0 (i % length before) empty e n) at was)
    ];
  }

-- ---- what is left of each sender

module _ {F A : Type 0} (seen : F → FeedState) where
  -- a sender whose threads have ended and whose bench is back, by what it was at the start: it was
  -- not opened, or a part was missing, or it is joined
  abbrev pub IsLeft : Bool → Sender F A → Option (Port A) → Type 0
  IsLeft is_live sender.NotOpened port = Unit {0}
  IsLeft is_live (sender.NotStarted missing) port = Unit {0}
  IsLeft is_live (sender.Ready feed lane) port = ⊥
  IsLeft is_live (sender.Running h) port = ⊥
  IsLeft is_live (sender.Read d) port = ⊥
  IsLeft is_live (sender.Joined d b reports) port = is_some port ≡ is_live

  left_of_read : (is_live : Bool) (port : Option (Port A)) (d : ReaderDone F A) (z : Sender F A)
      → is_some port ≡ is_live → StaysOrJoins (sender.Read d) z → HasBench z → IsLeft is_live z port
  left_of_read is_live port d z live (inl same) has = absurd (rw same at has)
  left_of_read is_live port d z live (inr (b, reports, is)) has = rw is live

  left_of_ready : (is_live : Bool) (port : Option (Port A)) (limit : ℕ) (x y z : Sender F A)
      → IsReady x → is_some port ≡ is_live → Becomes seen limit x y → StaysOrJoins y z
      → (IsRead y → HasBench z) → IsLeft is_live z port
  left_of_ready is_live port limit (sender.Ready feed lane) (sender.Read d) z ready live becomes joins back =
      left_of_read is_live port d z live joins (back tt)
  left_of_ready is_live port limit (sender.Ready feed lane) (sender.NotStarted missing) z ready live becomes joins
      back = rw joins tt
  left_of_ready is_live port limit (sender.Ready feed lane) sender.NotOpened z ready live becomes joins back =
      absurd becomes
  left_of_ready is_live port limit (sender.Ready feed lane) (sender.Ready f l) z ready live becomes joins back =
      absurd becomes
  left_of_ready is_live port limit (sender.Ready feed lane) (sender.Running h) z ready live becomes joins back =
      absurd becomes
  left_of_ready is_live port limit (sender.Ready feed lane) (sender.Joined d b r) z ready live becomes joins back =
      absurd becomes
  left_of_ready is_live port limit sender.NotOpened y z ready live becomes joins back = absurd ready
  left_of_ready is_live port limit (sender.NotStarted missing) y z ready live becomes joins back = absurd ready
  left_of_ready is_live port limit (sender.Running h) y z ready live becomes joins back = absurd ready
  left_of_ready is_live port limit (sender.Read d) y z ready live becomes joins back = absurd ready
  left_of_ready is_live port limit (sender.Joined d b reports) y z ready live becomes joins back = absurd ready

  left_of : (is_live : Bool) (port : Option (Port A)) (limit : ℕ) (x y z : Sender F A) → HasPort is_live x port
      → Becomes seen limit x y → StaysOrJoins y z → (IsReady x → IsRead y → HasBench z) → IsLeft is_live z port
  left_of is_live port limit sender.NotOpened y z live becomes joins back = rw (rw becomes at joins) tt
  left_of is_live port limit (sender.NotStarted missing) y z live becomes joins back = rw (rw becomes at joins) tt
  left_of is_live port limit (sender.Ready feed lane) y z live becomes joins back =
      left_of_ready is_live port limit (sender.Ready feed lane) y z tt live becomes joins (back tt)
  left_of is_live port limit (sender.Running h) y z live becomes joins back = absurd live
  left_of is_live port limit (sender.Read d) y z live becomes joins back = absurd live
  left_of is_live port limit (sender.Joined d b reports) y z live becomes joins back = absurd live

  one_back : (zs : List (Sender F A)) (benches : List (Bench A)) (i : ℕ) (d : Sender F A)
      → All (IsBack zs) benches → HasBenchOf i benches → HasBench (slice_index_or zs i d)
  one_back zs [] i d back (k, low, is) = absurd (omega arith)
  one_back zs (b ∷ benches) i d back (k, low, is) = rw (is b) at (back k b low d)

  -- the bench of a sender that was read is back
  bench_back : (xs ys zs : List (Sender F A)) (before after : List (Share A)) (i : ℕ) (d : Sender F A)
      → i < length xs → 0 < length before → length after ≡ length before
      → HaveSeats xs before → HaveWorkedForRead xs ys before after → AreBack zs after
      → IsReady (slice_index_or xs i d) → IsRead (slice_index_or ys i d) → HasBench (slice_index_or zs i d)
  bench_back xs ys zs [] after i d below some same seats worked back ready read = absurd (omega arith)
  bench_back xs ys zs (e ∷ rest) after i d below some same seats worked back ready read =
      let before = e ∷ rest in
      let k = i % length before in
      let low : k < length after = rw same (mod-lt i some) in
      one_back zs (slice_index_or after k e).items i d (back k e low)
      (bench_later i (slice_index_or before k e).items (slice_index_or after k e).items
      (worked.each i d e below ready read).0 (seats.each i d e below ready))

-- ---- ports

module _ {A : Type 0} where
  no_lane : (port : Option (Port A)) → lane_at port ≡ None → port ≡ None
  no_lane None none = refl
  no_lane (Some port) none = absurd cc

  some_lane : (port : Option (Port A)) → is_some (lane_at port) ≡ is_some port
  some_lane None = refl
  some_lane (Some port) = refl

module _ {F A : Type 0} where
  -- a sender whose reports are not printed as they come has no port
  pub no_port : (s : Sender F A) (port : Option (Port A)) → HasPort false s port → HasPort false s None
  no_port sender.NotOpened port has = refl
  no_port (sender.NotStarted missing) port has = refl
  no_port (sender.Ready feed lane) port has = refl
  no_port (sender.Running h) port has = has
  no_port (sender.Read d) port has = has
  no_port (sender.Joined d b reports) port has = has

  -- a sender keeps its port, by its lane
  pub port_kept : (is_live : Bool) (s : Sender F A) (before after : Option (Port A))
      → lane_at after ≡ lane_at before → HasPort is_live s before → HasPort is_live s after
  port_kept is_live sender.NotOpened before after same has = no_lane after (same ∙ ap lane_at has)
  port_kept is_live (sender.NotStarted missing) before after same has = no_lane after (same ∙ ap lane_at has)
  port_kept is_live (sender.Ready feed lane) before after same has =
      sym (some_lane after) ∙ ap is_some same ∙ some_lane before ∙ has
  port_kept is_live (sender.Running h) before after same has = has
  port_kept is_live (sender.Read d) before after same has = has
  port_kept is_live (sender.Joined d b reports) before after same has = has

-- ---- counts

module _ {F A : Type 0} where
  -- a sender counts as its outcome does
  pub record CountsAlike (is_live : Bool) (s : Sender F A) (result : Outcome F A) : Type 0 where
    pub started : not_started result ≡ lane_missing s + worker_missing s + reader_missing s
    pub settled : unsettled result ≡ end_missing is_live s

  read_is_none : (result : Outcome F A) → IsTrue (is_read result) → (not_started result ≡ 0) × (unsettled result ≡ 0)
  read_is_none (outcome.Settled feed end reports) read = (refl, refl)
  read_is_none (outcome.NoMemory feed end checked reports) read = (refl, refl)
  read_is_none outcome.NotOpened read = absurd (false≢true read)
  read_is_none outcome.NotStarted read = absurd (false≢true read)
  read_is_none outcome.Unsettled read = absurd (false≢true read)

  settled_alike : (is_live : Bool) (port : Option (Port A)) (lane_end : Option (LaneEnd Item A))
      (reports : Option (LaneEnd Report A)) (result : Outcome F A)
      → is_some port ≡ is_live → IsSettledBy port lane_end reports result
      → (not_started result ≡ 0) × (unsettled result ≡ no_end is_live lane_end reports)
  settled_alike is_live port None reports result live far = rw far (refl, refl)
  settled_alike is_live None (Some end) reports result live far =
      rw (sym live) (read_is_none result far)
  settled_alike is_live (Some port) (Some end) None result live far = rw (far, sym live) (refl, refl)
  settled_alike is_live (Some port) (Some end) (Some reports) result live far =
      rw (sym live) (read_is_none result far)

  alike : (seen : F → FeedState) (is_live : Bool) (port : Option (Port A)) (s : Sender F A) (result : Outcome F A)
      → IsLeft seen is_live s port → SaysHowFar port s result → CountsAlike is_live s result
  alike seen is_live port sender.NotOpened result left far = rw far (record { started = refl; settled = refl })
  alike seen is_live port (sender.NotStarted part.Lane) result left far =
      rw far (record { started = refl; settled = refl })
  alike seen is_live port (sender.NotStarted part.Worker) result left far =
      rw far (record { started = refl; settled = refl })
  alike seen is_live port (sender.NotStarted part.Reader) result left far =
      rw far (record { started = refl; settled = refl })
  alike seen is_live port (sender.Ready feed lane) result left far = absurd left
  alike seen is_live port (sender.Running h) result left far = absurd left
  alike seen is_live port (sender.Read d) result left far = absurd left
  alike seen is_live port (sender.Joined d b reports) result left far =
      let both = settled_alike is_live port d.lane_end reports result left far in
      record { started = both.0; settled = both.1 }

  sums : (is_live : Bool) (senders : List (Sender F A)) (outcomes : List (Outcome F A))
      → Pairwise (CountsAlike is_live) senders outcomes
      → (sum_by not_started outcomes
      ≡ sum_by lane_missing senders + sum_by worker_missing senders + sum_by reader_missing senders)
      × (sum_by unsettled outcomes ≡ sum_by (end_missing is_live) senders)
  sums is_live [] [] p = (refl, refl)
  sums is_live [] (o ∷ os) p = absurd (let same = p.same_length in omega arith)
  sums is_live (s ∷ ss) [] p = absurd (let same = p.same_length in omega arith)
  sums is_live (s ∷ ss) (o ∷ os) p =
      let rest = sums is_live ss os (pairs_rest (CountsAlike is_live) s ss o os p) in
      let here = pairs_first (CountsAlike is_live) s ss o os p in
      let started = here.started in
      let settled = here.settled in
      let more = rest.0 in
      let ended = rest.1 in (
        rw (
          sum_by-cons not_started o os,
          sum_by-cons lane_missing s ss,
          sum_by-cons worker_missing s ss,
          sum_by-cons reader_missing s ss,
        ) (omega arith),
        rw (sum_by-cons unsettled o os, sum_by-cons (end_missing is_live) s ss) (omega arith),
      )

  read_or_refused : (result : Outcome F A) → (result ≡ outcome.NotOpened) ⊎ IsTrue (is_read result)
      → (not_started result ≡ 0) × (unsettled result ≡ 0)
  read_or_refused result (inl refused) = rw refused (refl, refl)
  read_or_refused result (inr read) = read_is_none result read

  -- a sender that came alone lacked nothing
  pub causes_alone : (outcomes : List (Outcome F A)) (missing : Missing) → length outcomes ≡ 1
      → IsReadIfAlone outcomes → missing.lanes ≡ 0 → missing.workers ≡ 0 → missing.readers ≡ 0 → missing.ends ≡ 0
      → HaveCauses outcomes missing
  causes_alone [] missing one alone lanes workers readers ends = absurd (omega arith)
  causes_alone (o ∷ p ∷ os) missing one alone lanes workers readers ends = absurd (omega arith)
  causes_alone (o ∷ []) missing one alone lanes workers readers ends =
      let none = read_or_refused o alone in
      record {
        not_started_are = rw (lanes, workers, readers, sum_by-cons not_started o [], none.0) refl;
        unsettled_are = rw (ends, sum_by-cons unsettled o [], none.1) refl;
      }

  pub causes : (seen : F → FeedState) (is_live : Bool) (limit : ℕ) (ports : ℕ → Option (Port A))
      (xs ys zs : List (Sender F A)) (outcomes : List (Outcome F A)) (before after : List (Share A)) (missing : Missing)
      → 0 < length before → length after ≡ length before
      → ((i : ℕ) (d : Sender F A) → i < length xs → HasPort is_live (slice_index_or xs i d) (ports i))
      → HaveSeats xs before → Each (Becomes seen limit) xs ys → HaveWorkedForRead xs ys before after
      → Each StaysOrJoins ys zs → AreBack zs after → length outcomes ≡ length zs
      → ((i : ℕ) (d : Sender F A) (e : Outcome F A) → i < length zs
      → SaysHowFar (ports i) (slice_index_or zs i d) (slice_index_or outcomes i e))
      → IsMissingOf is_live zs missing → HaveCauses outcomes missing
  causes seen is_live limit ports xs ys zs outcomes before after missing some same live seats becomes worked joins back
      many far counted =
      let first = becomes.same_length in
      let second = joins.same_length in
      let both = sums is_live zs outcomes (record {
        same_length = many;
        each = λ i d e below. alike seen is_live (ports i) (slice_index_or zs i d) (slice_index_or outcomes i e)
            (left_of seen is_live (ports i) limit (slice_index_or xs i d) (slice_index_or ys i d)
            (slice_index_or zs i d)
            (live i d (omega arith)) (becomes.each i d (omega arith)) (joins.each i d (omega arith))
            (λ ready read. bench_back seen xs ys zs before after i d (omega arith) some same seats worked back ready
            read))
            (far i d e below);
      }) in
      record {
        not_started_are = rw (counted.lanes, counted.workers, counted.readers) both.0;
        unsettled_are = rw counted.ends both.1;
      }
