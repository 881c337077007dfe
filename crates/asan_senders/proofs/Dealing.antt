-- The benches of each worker, as they go on.
use Rattle.std.proofs.Common.{ℕ, suc, ◌≡◌, ◌<◌, ◌≤◌, ◌+◌, ◌*◌, ◌%◌, ◌/◌, ◌++◌, ◌∷◌, [], List, length, length-append}
use Rattle.std.proofs.Common.{refl, ◌∙◌, sym, ap, arith, slice_index_or, slice_set, ◌⊎◌, inl, inr, ◌≢◌}
use Rattle.std.specs.Vec.{vec_capacity}
use Rattle.std.proofs.Math.Nat.{div-add-mod, mod-lt, mul-le-mul_left, lt_of_mul-lt-mul_left, mul-suc}
use Rattle.std.proofs.lemmas.Bool.{cases_eq}
use Rattle.std.proofs.lemmas.List.{length-set, get_or-set_same, get_or-set_other, get_or_append_left, get_or_at}
use Rattle.std.proofs.lemmas.List.{get_or_default}
use Rattle.trace_feed.specs.Feeds.{FeedState}
use Rattle.asan_stream.specs.declared.bench.Bench.{Bench}
use Rattle.asan_senders.specs.declared.sender.Sender.{Sender}
use Rattle.asan_senders.specs.declared.sender.Sender.TheVariants as sender
use Rattle.asan_senders.specs.declared.worker_thread.WorkerThread.{WorkerThread}
use Rattle.asan_senders.specs.declared.worker_thread.WorkerThread.TheVariants as running
use Rattle.asan_senders.specs.Arrivals.{Pairwise}
use Rattle.asan_senders.specs.Shares.{Share, ComesBack, GivesUp, Returns, SharesAt, AreEmpty, HasRoom, Deals}
use Rattle.asan_senders.specs.Shares.{WillComeBack, GivesUpWith, EachGivesUp}
use Rattle.asan_senders.specs.Ranges.{most_senders}
use Rattle.asan_senders.specs.Senders.{Each, Becomes, Ends, Keeps, IsAt, AreAt, IsFresh, AllFresh, IsReady, WillBe}
use Rattle.asan_senders.proofs.Senders.{at_kept, at_later, at_more, at_push, each_after}

-- a worker has fewer benches than it has senders up to this one
few_dealt : (w i n : ℕ) → w * n + i % w < i + w → w * n ≤ w * (i / w)
few_dealt w i n few =
    let whole = div-add-mod i w in
    let next = mul-suc w (i / w) in
    let less : w * n < w * suc (i / w) = rw next (omega arith) in
    mul-le-mul_left w (let q = lt_of_mul-lt-mul_left w less in omega arith)

module _ {A : Type 0} where
  pub room_here : (w i : ℕ) (shares : List (Share A)) (d : Share A) → i < most_senders → HasRoom w i shares
      → length (slice_index_or shares (i % w) d).items < vec_capacity (slice_index_or shares (i % w) d)
  room_here w i shares d low h =
      let at : i % w < length shares = rw h.all (mod-lt i h.some) in
      let few = few_dealt w i (length (slice_index_or shares (i % w) d).items) (h.few (i % w) d at) in
      let room = h.room (i % w) d at in
      let whole = div-add-mod i w in
      lt_of_mul-lt-mul_left w (omega arith)

  pub room_on : (w i : ℕ) (shares : List (Share A)) → HasRoom w i shares → HasRoom w (i + 1) shares
  room_on w i shares h = record {
    some = h.some;
    all = h.all;
    few = λ k d below. let was = h.few k d below in omega arith;
    room = h.room;
  }

  pub dealt_length : (at : ℕ) (b : Bench A) (shares after : List (Share A)) → Deals at b shares after
      → length after ≡ length shares
  dealt_length at b shares after s = rw s.set (length-set shares at s.share)

  pub room_dealt : (w i : ℕ) (b : Bench A) (shares after : List (Share A)) → HasRoom w i shares
      → Deals (i % w) b shares after → HasRoom w (i + 1) after
  room_dealt w i b shares after h s =
      let at : i % w < length shares = rw h.all (mod-lt i h.some) in
      let n = length (slice_index_or shares (i % w) s.share).items in
      let few = few_dealt w i n (h.few (i % w) s.share at) in
      let whole = div-add-mod i w in
      let more : length s.share.items ≡ suc n = let l = ap length s.items in
      let e = length-append (slice_index_or shares (i % w) s.share).items (b ∷ []) in omega arith in
      let next = mul-suc w n in
      record {
        some = h.some;
        all = dealt_length (i % w) b shares after s ∙ h.all;
        few = λ k d below. elim (cases_eq k (i % w)) [
          | inl e ↦ rw (s.set, e, get_or-set_same shares (i % w) s.share d at, more, next) (omega arith)
          | inr other ↦ rw (s.set, get_or-set_other shares (i % w) k s.share d other) (
              let was = h.few k d (let same = dealt_length (i % w) b shares after s in omega arith) in omega arith)
        ];
        room = λ k d below. elim (cases_eq k (i % w)) [
          | inl e ↦ rw (s.set, e, get_or-set_same shares (i % w) s.share d at) (let was = h.room (i % w) s.share at in
              let more = mul-le-mul_left w s.capacity in omega arith)
          | inr other ↦ rw (s.set, get_or-set_other shares (i % w) k s.share d other)
              (h.room k d (let same = dealt_length (i % w) b shares after s in omega arith))
        ];
      }

  pub empty_push : (w : ℕ) (shares : List (Share A)) (share : Share A) → AreEmpty w shares → share.items ≡ []
      → most_senders ≤ w * vec_capacity share → AreEmpty w (shares ++ share ∷ [])
  empty_push w shares share h none room = record {
    none = λ k d below. elim (cases_eq k (length shares)) [
      | inl e ↦ rw (get_or_at shares share [] d k (sym e)) none
      | inr n ↦ let low : k < length shares = omega (arith, length-append shares (share ∷ [])) in
          rw (get_or_append_left shares (share ∷ []) d k low) (h.none k d low)
    ];
    room = λ k d below. elim (cases_eq k (length shares)) [
      | inl e ↦ rw (get_or_at shares share [] d k (sym e)) room
      | inr n ↦ let low : k < length shares = omega (arith, length-append shares (share ∷ [])) in
          rw (get_or_append_left shares (share ∷ []) d k low) (h.room k d low)
    ];
  }

  pub room_first : (w : ℕ) (shares : List (Share A)) → 0 < w → length shares ≡ w → AreEmpty w shares
      → HasRoom w 0 shares
  room_first w shares some all h = record {
    some = some;
    all = all;
    few = λ k d below. rw (h.none k d below) (omega arith);
    room = h.room;
  }

  -- the worker whose number is that of a sender mod their number, by whatever default it was found
  pub checker_at : (workers : List (WorkerThread A)) (i n : ℕ) (c d : WorkerThread A) → n ≡ length workers
      → 0 < length workers → c ≡ slice_index_or workers (i % n) c
      → slice_index_or workers (i % length workers) d ≡ c
  checker_at workers i n c d same some is =
      let some_here : 0 < n = omega arith in
      let low : i % n < length workers = rw (sym same) (mod-lt i some_here) in
      rw (sym same) (sym (is ∙ get_or_default workers (i % n) c d low))

module _ {F A : Type 0} where
  -- a sender whose worker may have been lost
  abbrev pub StaysOrGivesUp : Sender F A → Sender F A → Type 0
  StaysOrGivesUp x y = (y ≡ x) ⊎ GivesUp x y

  stays_or_gives_up : (c : WorkerThread A) (x y : Sender F A) → GivesUpWith c x y → StaysOrGivesUp x y
  stays_or_gives_up running.Lost x y p = inr p
  stays_or_gives_up (running.Idle benches) x y p = inl p
  stays_or_gives_up (running.Running h) x y p = inl p

  pub each_stays_or_gives_up : (workers : List (WorkerThread A)) (xs ys : List (Sender F A))
      → EachGivesUp workers xs ys → Each StaysOrGivesUp xs ys
  each_stays_or_gives_up workers xs ys p = record {
    same_length = p.same_length;
    each = λ i d below. stays_or_gives_up (slice_index_or workers (i % length workers) running.Lost)
        (slice_index_or xs i d) (slice_index_or ys i d) (p.each i d running.Lost below);
  }

  pub stays_with : (c : WorkerThread A) (s : Sender F A) → c ≢ running.Lost → GivesUpWith c s s
  stays_with running.Lost s n = absurd (n refl)
  stays_with (running.Idle benches) s n = refl
  stays_with (running.Running h) s n = refl

  -- below a place each sender has given up with its worker, and from it on nothing changed
  pub record GivenUpTo (workers : List (WorkerThread A)) (to : ℕ) (xs ys : List (Sender F A)) : Type 0 where
    pub same_length : length ys ≡ length xs
    pub done :
        (i : ℕ) (d : Sender F A) (c : WorkerThread A) → i < to → i < length xs →
        GivesUpWith (slice_index_or workers (i % length workers) c) (slice_index_or xs i d) (slice_index_or ys i d)
    pub rest : (i : ℕ) (d : Sender F A) → to ≤ i → slice_index_or ys i d ≡ slice_index_or xs i d

  pub given_up_none : (workers : List (WorkerThread A)) (xs : List (Sender F A)) → GivenUpTo workers 0 xs xs
  given_up_none workers xs = record {
    same_length = refl;
    done = λ i d c low below. absurd (omega arith);
    rest = λ i d above. refl;
  }

  -- the next sender stays as it is
  pub given_up_same : (workers : List (WorkerThread A)) (at : ℕ) (xs ys : List (Sender F A))
      → ((c : WorkerThread A) (s : Sender F A) → GivesUpWith (slice_index_or workers (at % length workers) c) s s)
      → GivenUpTo workers at xs ys → GivenUpTo workers (at + 1) xs ys
  given_up_same workers at xs ys stays r = record {
    same_length = r.same_length;
    done = λ i d c before below. elim (cases_eq i at) [
      | inl e ↦ rw (e, r.rest at d (omega arith)) (stays c (slice_index_or xs at d))
      | inr n ↦ r.done i d c (omega arith) below
    ];
    rest = λ i d above. r.rest i d (omega arith);
  }

  -- the next sender has become this one
  pub given_up_set : (workers : List (WorkerThread A)) (at : ℕ) (xs ys : List (Sender F A)) (z : Sender F A)
      → at < length ys
      → ((d : Sender F A) (c : WorkerThread A) →
      GivesUpWith (slice_index_or workers (at % length workers) c) (slice_index_or ys at d) z)
      → GivenUpTo workers at xs ys → GivenUpTo workers (at + 1) xs (slice_set ys at z)
  given_up_set workers at xs ys z low will r =
      let len : length ys ≡ length xs = r.same_length in record {
        same_length = length-set ys at z ∙ len;
        done = λ i d c before below. elim (cases_eq i at) [
          | inl e ↦ rw (e, get_or-set_same ys at z d low) (rw (r.rest at d (omega arith)) at (will d c))
          | inr n ↦ rw (get_or-set_other ys at i z d n) (r.done i d c (omega arith) below)
        ];
        rest = λ i d above. get_or-set_other ys at i z d (λ e. omega arith) ∙ r.rest i d (omega arith);
      }

  pub given_up_all : (workers : List (WorkerThread A)) (to : ℕ) (xs ys : List (Sender F A)) → length xs ≤ to
      → GivenUpTo workers to xs ys → EachGivesUp workers xs ys
  given_up_all workers to xs ys all r = record {
    same_length = r.same_length;
    each = λ i d c below. r.done i d c (omega arith) below;
  }

  pub shares_put : (bound : ℕ) (senders : List (Sender F A)) (shares : List (Share A)) (k : ℕ) (v : Share A)
      → k < length shares
      → SharesAt bound senders shares → AreAt bound senders v.items → SharesAt bound senders (slice_set shares k v)
  shares_put bound senders shares k v low h here = record {
    each = λ i d below. elim (cases_eq i k) [
      | inl e ↦ rw (e, get_or-set_same shares k v d low) here
      | inr n ↦ rw (get_or-set_other shares k i v d n) (h.each i d (omega (arith, length-set shares k v)))
    ];
  }

  -- one more sender
  pub shares_more : (bound : ℕ) (senders : List (Sender F A)) (s : Sender F A) (shares : List (Share A))
      → SharesAt bound senders shares → SharesAt bound (senders ++ s ∷ []) shares
  shares_more bound senders s shares h = record {
    each =
        λ k d below. at_more bound senders s (slice_index_or shares k d).items (h.each k d below);
  }

  -- one more bench
  pub shares_dealt : (bound at : ℕ) (senders : List (Sender F A)) (b : Bench A) (shares after : List (Share A))
      → at < length shares
      → SharesAt bound senders shares → IsAt bound senders b → Deals at b shares after → SharesAt bound senders after
  shares_dealt bound at senders b shares after low h here s =
      rw s.set (shares_put bound senders shares at s.share low h
      (rw s.items (at_push bound senders (slice_index_or shares at s.share).items b (h.each at s.share low) here)))

  pub shares_none : (bound w : ℕ) (senders : List (Sender F A)) (shares : List (Share A)) → AreEmpty w shares
      → SharesAt bound senders shares
  shares_none bound w senders shares h = record {
    each =
        λ k d below. rw (h.none k d below) (record { each = λ i b low. absurd (omega arith) });
  }

  pub shares_front : (bound : ℕ) (senders : List (Sender F A)) (shares : List (Share A)) (v : Share A)
      → SharesAt bound senders (shares ++ v ∷ []) → SharesAt bound senders shares
  shares_front bound senders shares v h = record {
    each =
        λ k d below. rw (get_or_append_left shares (v ∷ []) d k below)
        at (h.each k d (omega (arith, length-append shares (v ∷ []))));
  }

  pub shares_last : (bound : ℕ) (senders : List (Sender F A)) (shares : List (Share A)) (v : Share A)
      → SharesAt bound senders (shares ++ v ∷ []) → AreAt bound senders v.items
  shares_last bound senders shares v h = rw (get_or_at shares v [] v (length shares) refl)
      at (h.each (length shares) v (omega (arith, length-append shares (v ∷ []))))

  pub shares_kept : (R : Sender F A → Sender F A → Type 0) → ((s t : Sender F A) → R s t → Keeps s t)
      → (bound : ℕ) (xs ys : List (Sender F A)) (shares : List (Share A)) → Each R xs ys → SharesAt bound xs shares
      → SharesAt bound ys shares
  shares_kept R keeps bound xs ys shares r h =
      record { each = λ k d below. at_kept R keeps bound xs ys (slice_index_or shares k d).items r (h.each k d below) }

  pub shares_back : (bound : ℕ) (senders : List (Sender F A)) (xs ys : List (Share A)) → Each ComesBack xs ys
      → SharesAt bound senders xs → SharesAt bound senders ys
  shares_back bound senders xs ys r h = record {
    each = λ k d below.
        let few : k < length xs = let e = r.same_length in omega arith in
        elim (r.each k d few) [
          | inl on ↦ at_later bound senders (slice_index_or xs k d).items (slice_index_or ys k d).items on.0
              (h.each k d few)
          | inr none ↦ rw none (record { each = λ i b low. absurd (omega arith) })
        ];
  }

module _ {F A : Type 0} (seen : F → FeedState) where
  -- what gets no reader, or is left alone and then read
  becomes_after : (limit : ℕ) (x y z : Sender F A) → StaysOrGivesUp x y → Becomes seen limit y z
      → Becomes seen limit x z
  becomes_after limit x y z (inl same) q = rw same at q
  becomes_after limit sender.NotOpened y z (inr p) q = rw p at q
  becomes_after limit (sender.NotStarted missing) y z (inr p) q = rw p at q
  becomes_after limit (sender.Ready feed lane) y z (inr p) q = rw (rw p at q) (inl refl)
  becomes_after limit (sender.Running h) y z (inr p) q = rw p at q
  becomes_after limit (sender.Read d) y z (inr p) q = rw p at q
  becomes_after limit (sender.Joined d b reports) y z (inr p) q = rw p at q

  gives_up_fresh : (x y : Sender F A) → StaysOrGivesUp x y → IsFresh seen x → IsFresh seen y
  gives_up_fresh x y (inl same) h = rw same h
  gives_up_fresh sender.NotOpened y (inr p) h = rw p tt
  gives_up_fresh (sender.NotStarted missing) y (inr p) h = rw p tt
  gives_up_fresh (sender.Ready feed lane) y (inr p) h = rw p tt
  gives_up_fresh (sender.Running k) y (inr p) h = elim h [ ]
  gives_up_fresh (sender.Read d) y (inr p) h = rw p tt
  gives_up_fresh (sender.Joined d b reports) y (inr p) h = rw p tt

  pub fresh_left : (xs ys : List (Sender F A)) → Each StaysOrGivesUp xs ys → AllFresh seen xs → AllFresh seen ys
  fresh_left xs ys r h = record {
    each = λ i d below.
        let low : i < length xs = let e = r.same_length in omega arith in
        gives_up_fresh (slice_index_or xs i d) (slice_index_or ys i d) (r.each i d low) (h.each i d low);
  }

  ready_after : (x y : Sender F A) → StaysOrGivesUp x y → IsReady y → IsReady x
  ready_after x y (inl same) h = rw same at h
  ready_after sender.NotOpened y (inr p) h = rw p at h
  ready_after (sender.NotStarted missing) y (inr p) h = rw p at h
  ready_after (sender.Ready feed lane) y (inr p) h = tt
  ready_after (sender.Running k) y (inr p) h = rw p at h
  ready_after (sender.Read d) y (inr p) h = rw p at h
  ready_after (sender.Joined d b reports) y (inr p) h = rw p at h

  -- and while the readers run
  pub will_after : (limit : ℕ) (x y z : Sender F A) → StaysOrGivesUp x y → WillBe seen limit y z → WillBe seen limit x z
  will_after limit x y sender.NotOpened p q = becomes_after limit x y sender.NotOpened p q
  will_after limit x y (sender.NotStarted missing) p q = becomes_after limit x y (sender.NotStarted missing) p q
  will_after limit x y (sender.Ready feed lane) p q = becomes_after limit x y (sender.Ready feed lane) p q
  will_after limit x y (sender.Running h) p q =
      (ready_after x y p q.0, λ d kept. becomes_after limit x y (sender.Read d) p (q.1 d kept))
  will_after limit x y (sender.Read d) p q = becomes_after limit x y (sender.Read d) p q
  will_after limit x y (sender.Joined d b reports) p q = becomes_after limit x y (sender.Joined d b reports) p q

  -- all readers were started and have ended
  pub read_all : (limit : ℕ) (xs ys zs : List (Sender F A)) → Each (WillBe seen limit) xs ys → Each (Ends seen) ys zs
      → Each (Becomes seen limit) xs zs
  read_all limit xs ys zs = each_after (WillBe seen limit) (Ends seen) (Becomes seen limit) (λ x y z p q. q limit x p)
      xs ys zs

module _ {A : Type 0} where
  comes_back : (c : WorkerThread A) (before after : Share A) → WillComeBack before c → Returns c after
      → ComesBack before after
  comes_back (running.Idle benches) before after will returns = inl (returns before will)
  comes_back (running.Running h) before after will returns = inl (returns before will)
  comes_back running.Lost before after will returns = inr returns

  -- all workers were started and have ended
  pub checked_all : (xs zs : List (Share A)) (workers : List (WorkerThread A)) → Pairwise WillComeBack xs workers
      → Pairwise Returns workers zs → Each ComesBack xs zs
  checked_all xs zs workers p q = record {
    same_length = q.same_length ∙ p.same_length;
    each = λ i d below. comes_back (slice_index_or workers i running.Lost) (slice_index_or xs i d)
        (slice_index_or zs i d) (p.each i d running.Lost below)
        (q.each i running.Lost d (let e = p.same_length in omega arith));
  }
