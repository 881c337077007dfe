-- Report lanes, as senders and benches go on.
use Rattle.std.proofs.Common.{ℕ, ◌≡◌, ◌<◌, ◌++◌, ◌∷◌, [], List, length, length-append, take, drop, refl, ◌∙◌, sym, ap}
use Rattle.std.proofs.Common.{arith, slice_index_or, slice_set, Option, None, inl, inr}
use Rattle.std.proofs.Math.Seq.{take-append_seam}
use Rattle.std.proofs.lemmas.Bool.{cases_eq}
use Rattle.std.proofs.lemmas.List.{length-set, get_or-set_same, get_or-set_other, get_or_append_left, get_or_at}
use Rattle.trace_feed.specs.Feeds.{FeedState}
use Rattle.trace_lane.specs.Lanes.{Lane}
use Rattle.asan_print.specs.declared.port.Port.{Port}
use Rattle.asan_print.specs.Ports.{SameLanes, lane_at, taken_at}
use Rattle.asan_stream.specs.declared.bench.Bench.{Bench}
use Rattle.asan_senders.specs.declared.sender.Sender.{Sender}
use Rattle.asan_senders.specs.declared.sender.Sender.TheVariants as sender
use Rattle.asan_stream.specs.Benches.{process_of, report_lane_of, EachLater}
use Rattle.asan_stream.specs.Outboxes.{KeepsLane}
use Rattle.asan_senders.specs.Arrivals.{Pairwise}
use Rattle.asan_senders.specs.ReportLanes.{lanes_of, NoneTaken, HasLaneOf, AllHave, SharesHave, Fits, AllFit}
use Rattle.asan_senders.specs.Senders.{Each, Becomes}
use Rattle.asan_senders.specs.Shares.{Share, ComesBack, SharesAt, AreEmpty, Deals}
use Rattle.asan_stream.proofs.Reporting.{keeps_trans}

-- a slice of a whole Vec is written back
pub written_back : {X : Type 0} (n : ℕ) (xs ys : List X) → length ys ≡ length xs → n ≡ length xs
    → take n (ys ++ drop (length ys) xs) ≡ ys
written_back n xs ys same all = ap (λ k. take k (ys ++ drop (length ys) xs)) (all ∙ sym same)
    ∙ take-append_seam ys (drop (length ys) xs)

-- each of the lists has one more element
pub pairs_push : {X Y : Type 0} {R : X → Y → Type 0} (xs : List X) (ys : List Y) (x : X) (y : Y) → Pairwise R xs ys
    → R x y → Pairwise R (xs ++ x ∷ []) (ys ++ y ∷ [])
pairs_push xs ys x y h here = record {
  same_length = let e = h.same_length in omega (arith, length-append xs (x ∷ []), length-append ys (y ∷ []));
  each = λ i d e below. elim (cases_eq i (length xs)) [
    | inl is ↦ rw (get_or_at xs x [] d i (sym is), get_or_at ys y [] e i (h.same_length ∙ sym is)) here
    | inr n ↦ let low : i < length xs = omega (arith, length-append xs (x ∷ [])) in
        let few : i < length ys = let e = h.same_length in omega arith in
        rw (get_or_append_left xs (x ∷ []) d i low, get_or_append_left ys (y ∷ []) e i few) (h.each i d e low)
  ];
}

module _ {A : Type 0} where
  lanes_before : (ports : List (Option (Port A))) (p : Option (Port A)) (k : ℕ) → k < length ports
      → lanes_of (ports ++ p ∷ []) k ≡ lanes_of ports k
  lanes_before ports p k low = ap lane_at (get_or_append_left ports (p ∷ []) None k low)

  lanes_last : (ports : List (Option (Port A))) (p : Option (Port A)) (k : ℕ) → k ≡ length ports
      → lanes_of (ports ++ p ∷ []) k ≡ lane_at p
  lanes_last ports p k is = ap lane_at (get_or_at ports p [] None k (sym is))

  pub untaken_push : (ports : List (Option (Port A))) (p : Option (Port A)) → NoneTaken ports → taken_at p ≡ []
      → NoneTaken (ports ++ p ∷ [])
  untaken_push ports p h here = record {
    each = λ i d below. elim (cases_eq i (length ports)) [
      | inl e ↦ rw (get_or_at ports p [] d i (sym e)) here
      | inr n ↦ let low : i < length ports = omega (arith, length-append ports (p ∷ [])) in
          rw (get_or_append_left ports (p ∷ []) d i low) (h.each i d low)
    ];
  }

  pub same_lanes : (xs : List (Option (Port A))) → SameLanes xs xs
  same_lanes xs = record { same_length = refl; each = λ i d below. refl }

  pub same_lanes_on : (xs ys zs : List (Option (Port A))) → SameLanes xs ys → SameLanes ys zs → SameLanes xs zs
  same_lanes_on xs ys zs p q = record {
    same_length = q.same_length ∙ p.same_length;
    each = λ i d below. q.each i d (let e = p.same_length in omega arith) ∙ p.each i d below;
  }

  -- the benches of a worker, where one came and where one went
  have_push : (lanes : ℕ → Option (Lane A)) (xs : List (Bench A)) (b : Bench A) → AllHave lanes xs → HasLaneOf lanes b
      → AllHave lanes (xs ++ b ∷ [])
  have_push lanes xs b h here = record {
    each = λ i d below. elim (cases_eq i (length xs)) [
      | inl e ↦ rw (get_or_at xs b [] d i (sym e)) here
      | inr n ↦ let low : i < length xs = omega (arith, length-append xs (b ∷ [])) in
          rw (get_or_append_left xs (b ∷ []) d i low) (h.each i d low)
    ];
  }

  pub have_front : (lanes : ℕ → Option (Lane A)) (xs : List (Bench A)) (b : Bench A) → AllHave lanes (xs ++ b ∷ [])
      → AllHave lanes xs
  have_front lanes xs b h = record {
    each = λ i d below. rw (get_or_append_left xs (b ∷ []) d i below)
        at (h.each i d (omega (arith, length-append xs (b ∷ []))));
  }

  pub have_last : (lanes : ℕ → Option (Lane A)) (xs : List (Bench A)) (b : Bench A) → AllHave lanes (xs ++ b ∷ [])
      → HasLaneOf lanes b
  have_last lanes xs b h = rw (get_or_at xs b [] b (length xs) refl)
      at (h.each (length xs) b (omega (arith, length-append xs (b ∷ []))))

  have_later : (lanes : ℕ → Option (Lane A)) (xs ys : List (Bench A)) → EachLater xs ys → AllHave lanes xs
      → AllHave lanes ys
  have_later lanes xs ys l h = record {
    each = λ i d below.
        let few : i < length xs = let e = l.same_length in omega arith in
        let on = l.each i d few in
        keeps_trans _ _ _ (rw on.process (h.each i d few)) on.report_lane;
  }

  pub shares_have_front : (lanes : ℕ → Option (Lane A)) (shares : List (Share A)) (v : Share A)
      → SharesHave lanes (shares ++ v ∷ []) → SharesHave lanes shares
  shares_have_front lanes shares v h = record {
    each =
        λ k d below. rw (get_or_append_left shares (v ∷ []) d k below)
        at (h.each k d (omega (arith, length-append shares (v ∷ []))));
  }

  pub shares_have_last : (lanes : ℕ → Option (Lane A)) (shares : List (Share A)) (v : Share A)
      → SharesHave lanes (shares ++ v ∷ []) → AllHave lanes v.items
  shares_have_last lanes shares v h = rw (get_or_at shares v [] v (length shares) refl)
      at (h.each (length shares) v (omega (arith, length-append shares (v ∷ []))))

  pub have_none : (lanes : ℕ → Option (Lane A)) (w : ℕ) (shares : List (Share A)) → AreEmpty w shares
      → SharesHave lanes shares
  have_none lanes w shares h = record {
    each =
        λ k d below. rw (h.none k d below) (record { each = λ i b low. absurd (omega arith) });
  }

  -- the worker at this place got one bench more
  pub have_dealt : (lanes : ℕ → Option (Lane A)) (at : ℕ) (b : Bench A) (shares after : List (Share A))
      → at < length shares → SharesHave lanes shares → HasLaneOf lanes b → Deals at b shares after
      → SharesHave lanes after
  have_dealt lanes at b shares after low h here s = rw s.set (record {
    each = λ k d below. elim (cases_eq k at) [
      | inl e ↦ rw (e, get_or-set_same shares at s.share d low, s.items)
          (have_push lanes (slice_index_or shares at s.share).items b (h.each at s.share low) here)
      | inr n ↦ rw (get_or-set_other shares at k s.share d n) (h.each k d (omega (arith, length-set shares at s.share)))
    ];
  })

  -- the lanes of a new bench
  pub have_new : (ports : List (Option (Port A))) (p : Option (Port A)) (b : Bench A) → process_of b ≡ length ports
      → KeepsLane (lane_at p) (report_lane_of b) → HasLaneOf (lanes_of (ports ++ p ∷ [])) b
  have_new ports p b is keeps = rw (lanes_last ports p (process_of b) is) keeps

  -- the workers have worked
  pub have_back : (lanes : ℕ → Option (Lane A)) (xs ys : List (Share A)) → Each ComesBack xs ys → SharesHave lanes xs
      → SharesHave lanes ys
  have_back lanes xs ys r h = record {
    each = λ k d below.
        let few : k < length xs = let e = r.same_length in omega arith in
        elim (r.each k d few) [
          | inl on ↦ have_later lanes (slice_index_or xs k d).items (slice_index_or ys k d).items on.0 (h.each k d few)
          | inr none ↦ rw none (record { each = λ i b low. absurd (omega arith) })
        ];
  }

module _ {F A : Type 0} where
  -- one more port
  pub have_more : (bound : ℕ) (senders : List (Sender F A)) (ports : List (Option (Port A))) (p : Option (Port A))
      (shares : List (Share A)) → length ports ≡ length senders
      → SharesAt bound senders shares → SharesHave (lanes_of ports) shares
      → SharesHave (lanes_of (ports ++ p ∷ [])) shares
  have_more bound senders ports p shares same at h = record {
    each = λ k d below. record {
      each = λ i b low.
          let here = ((at.each k d below).each i b low).low in
          rw (lanes_before ports p (process_of (slice_index_or (slice_index_or shares k d).items i b)) (omega arith))
          ((h.each k d below).each i b low);
    };
  }

  pub fit_push : (senders : List (Sender F A)) (s : Sender F A) (ports : List (Option (Port A))) (p : Option (Port A))
      → length ports ≡ length senders
      → AllFit (lanes_of ports) senders → Fits (lane_at p) s → AllFit (lanes_of (ports ++ p ∷ [])) (senders ++ s ∷ [])
  fit_push senders s ports p same h here = record {
    each = λ i d below. elim (cases_eq i (length senders)) [
      | inl e ↦ rw (lanes_last ports p i (e ∙ sym same), get_or_at senders s [] d i (sym e)) here
      | inr n ↦ let low : i < length senders = omega (arith, length-append senders (s ∷ [])) in
          rw (lanes_before ports p i (omega arith), get_or_append_left senders (s ∷ []) d i low) (h.each i d low)
    ];
  }

  -- one bench is back
  pub fit_set : (lanes : ℕ → Option (Lane A)) (at : ℕ) (xs : List (Sender F A)) (s : Sender F A) → AllFit lanes xs
      → Fits (lanes at) s → AllFit lanes (slice_set xs at s)
  fit_set lanes at xs s h here = record {
    each = λ i d below. elim (cases_eq i at) [
      | inl e ↦ let low : at < length xs = omega (arith, length-set xs at s) in
          rw (e, get_or-set_same xs at s d low) here
      | inr n ↦ rw (get_or-set_other xs at i s d n) (h.each i d (omega (arith, length-set xs at s)))
    ];
  }

  -- the same lanes after some rounds of the printer
  pub fit_same : (before after : List (Option (Port A))) (senders : List (Sender F A)) → length before ≡ length senders
      → SameLanes before after → AllFit (lanes_of before) senders → AllFit (lanes_of after) senders
  fit_same before after senders same lanes h = record {
    each = λ i d below. rw (lanes.each i None (omega arith)) (h.each i d below);
  }

module _ {F A : Type 0} (seen : F → FeedState) where
  becomes_fit : (limit : ℕ) (lane : Option (Lane A)) (s t : Sender F A) → Becomes seen limit s t → Fits lane s
      → Fits lane t
  becomes_fit limit lane sender.NotOpened t h f = rw h f
  becomes_fit limit lane (sender.NotStarted missing) t h f = rw h tt
  becomes_fit limit lane (sender.Ready feed into) sender.NotOpened h f = elim h [ ]
  becomes_fit limit lane (sender.Ready feed into) (sender.NotStarted missing) h f = tt
  becomes_fit limit lane (sender.Ready feed into) (sender.Ready g other) h f = elim h [ ]
  becomes_fit limit lane (sender.Ready feed into) (sender.Read d) h f = tt
  becomes_fit limit lane (sender.Ready feed into) (sender.Running k) h f = elim h [ ]
  becomes_fit limit lane (sender.Ready feed into) (sender.Joined d b reports) h f = elim h [ ]
  becomes_fit limit lane (sender.Running k) t h f = elim h [ ]
  becomes_fit limit lane (sender.Read d) t h f = rw h tt
  becomes_fit limit lane (sender.Joined d b reports) t h f = rw h f

  -- the readers are done
  pub fit_read : (limit : ℕ) (lanes : ℕ → Option (Lane A)) (xs ys : List (Sender F A)) → Each (Becomes seen limit) xs ys
      → AllFit lanes xs → AllFit lanes ys
  fit_read limit lanes xs ys r h = record {
    each = λ i d below.
        let low : i < length xs = let e = r.same_length in omega arith in
        becomes_fit limit (lanes i) (slice_index_or xs i d) (slice_index_or ys i d) (r.each i d low) (h.each i d low);
  }
