-- Senders and benches, as they go on.
use Rattle.std.proofs.Common.{ℕ, ◌≡◌, ◌<◌, ◌≤◌, ◌+◌, ◌++◌, ◌∷◌, [], List, length, length-append, refl, ◌∙◌, sym, arith}
use Rattle.std.proofs.Common.{slice_index_or, slice_set, inl, inr}
use Rattle.std.proofs.lemmas.Bool.{cases_eq}
use Rattle.std.proofs.lemmas.List.{length-set, get_or-set_same, get_or-set_other, get_or_append_left, get_or_at}
use Rattle.trace_feed.specs.declared.door.Arrival.{Arrival}
use Rattle.trace_feed.specs.declared.door.Arrival.TheVariants as arrival
use Rattle.trace_feed.specs.Feeds.{FeedState}
use Rattle.asan_stream.specs.declared.options.Options.{Options}
use Rattle.asan_stream.specs.declared.bench.Bench.{Bench}
use Rattle.asan_stream.specs.declared.outcome.Outcome.{Outcome}
use Rattle.asan_senders.specs.declared.sender.Sender.{Sender}
use Rattle.asan_senders.specs.declared.sender.Sender.TheVariants as sender
use Rattle.asan_stream.specs.Benches.{lane_of, process_of, bench_bound}
use Rattle.asan_stream.specs.Benches.{EachLater}
use Rattle.asan_senders.specs.Senders.{Each, Came, IsFresh, AllFresh, Becomes, HasLane, Keeps, IsAt, AreAt, Rejoins}
use Rattle.asan_senders.specs.Senders.{Gets}
use Rattle.asan_senders.specs.Arrivals.{Pairwise, IsAnswerTo}
use Rattle.asan_stream.proofs.Readers.{if_some}

-- an element was set aside, all others went on, and then the element was written
pub each_put : {X : Type 0} (R : X → X → Type 0) (at : ℕ) (xs ys : List X) (x z : X) → at < length xs
    → ((d : X) → R (slice_index_or xs at d) z)
    → Each R (slice_set xs at x) ys → Each R xs (slice_set ys at z)
each_put R at xs ys x z low will r =
    let len : length ys ≡ length xs = r.same_length ∙ length-set xs at x in record {
      same_length = length-set ys at z ∙ len;
      each = λ i d below. elim (cases_eq i at) [
        | inl e ↦ rw (e, get_or-set_same ys at z d (omega arith)) (will d)
        | inr n ↦ rw (get_or-set_other ys at i z d n)
            (rw (get_or-set_other xs at i x d n) at (r.each i d (omega (arith, length-set xs at x))))
      ];
    }

-- one element goes on
pub each_set : {X : Type 0} (R : X → X → Type 0) → ((x y z : X) → R x y → R y z → R x z)
    → (at : ℕ) (xs ys : List X) (z : X) → at < length xs
    → ((d : X) → R (slice_index_or ys at d) z)
    → Each R xs ys → Each R xs (slice_set ys at z)
each_set R trans at xs ys z low will r =
    let len : length ys ≡ length xs = r.same_length in record {
      same_length = length-set ys at z ∙ len;
      each = λ i d below. elim (cases_eq i at) [
        | inl e ↦ rw (e, get_or-set_same ys at z d (omega arith))
            (trans (slice_index_or xs at d) (slice_index_or ys at d) z (r.each at d low) (will d))
        | inr n ↦ rw (get_or-set_other ys at i z d n) (r.each i d below)
      ];
    }

pub each_refl : {X : Type 0} (R : X → X → Type 0) → ((x : X) → R x x) → (xs : List X) → Each R xs xs
each_refl R same xs = record {
  same_length = refl;
  each = λ i d below. same (slice_index_or xs i d);
}

pub each_after : {X : Type 0} (P Q R : X → X → Type 0) → ((x y z : X) → P x y → Q y z → R x z)
    → (xs ys zs : List X) → Each P xs ys → Each Q ys zs → Each R xs zs
each_after P Q R both xs ys zs p q =
    let len : length ys ≡ length xs = p.same_length in record {
      same_length = q.same_length ∙ len;
      each = λ i d below. both (slice_index_or xs i d) (slice_index_or ys i d) (slice_index_or zs i d)
          (p.each i d below) (q.each i d (omega arith));
    }

-- below a place each element has become that of the other list, and from it on nothing changed
pub record Upto {X : Type 0} (R : X → X → Type 0) (to : ℕ) (xs ys : List X) : Type 0 where
  pub same_length : length ys ≡ length xs
  pub done : (i : ℕ) (d : X) → i < to → i < length xs → R (slice_index_or xs i d) (slice_index_or ys i d)
  pub rest : (i : ℕ) (d : X) → to ≤ i → slice_index_or ys i d ≡ slice_index_or xs i d

pub upto_none : {X : Type 0} (R : X → X → Type 0) (xs : List X) → Upto R 0 xs xs
upto_none R xs = record {
  same_length = refl;
  done = λ i d low below. absurd (omega arith);
  rest = λ i d above. refl;
}

-- one element more
pub upto_set : {X : Type 0} (R : X → X → Type 0) (at : ℕ) (xs ys : List X) (z : X) → at < length ys
    → ((d : X) → R (slice_index_or ys at d) z) → Upto R at xs ys → Upto R (at + 1) xs (slice_set ys at z)
upto_set R at xs ys z low will r =
    let len : length ys ≡ length xs = r.same_length in record {
      same_length = length-set ys at z ∙ len;
      done = λ i d before below. elim (cases_eq i at) [
        | inl e ↦ rw (e, get_or-set_same ys at z d low) (rw (r.rest at d (omega arith)) at (will d))
        | inr n ↦ rw (get_or-set_other ys at i z d n) (r.done i d (omega arith) below)
      ];
      rest = λ i d above. get_or-set_other ys at i z d (λ e. omega arith) ∙ r.rest i d (omega arith);
    }

-- all of them
pub upto_all : {X : Type 0} (R : X → X → Type 0) (to : ℕ) (xs ys : List X) → length xs ≤ to → Upto R to xs ys
    → Each R xs ys
upto_all R to xs ys all r = record {
  same_length = r.same_length;
  each = λ i d below. r.done i d (omega arith) below;
}

module _ {F A : Type 0} where
  pub at_more : (bound : ℕ) (senders : List (Sender F A)) (s : Sender F A) (xs : List (Bench A))
      → AreAt bound senders xs → AreAt bound (senders ++ s ∷ []) xs
  at_more bound senders s xs h = record {
    each = λ i d below. let was = h.each i d below in record {
      low = let e = was.low in omega (arith, length-append senders (s ∷ []));
      bound_is = was.bound_is;
      lane = λ e. rw (get_or_append_left senders (s ∷ []) e (process_of (slice_index_or xs i d)) was.low) (was.lane e);
    };
  }

  pub at_push : (bound : ℕ) (senders : List (Sender F A)) (xs : List (Bench A)) (b : Bench A) → AreAt bound senders xs
      → IsAt bound senders b → AreAt bound senders (xs ++ b ∷ [])
  at_push bound senders xs b h here = record {
    each = λ i d below. elim (cases_eq i (length xs)) [
      | inl e ↦ rw (get_or_at xs b [] d i (sym e)) here
      | inr n ↦ let low : i < length xs = omega (arith, length-append xs (b ∷ [])) in
          rw (get_or_append_left xs (b ∷ []) d i low) (h.each i d low)
    ];
  }

  pub at_new : (bound : ℕ) (senders : List (Sender F A)) (s : Sender F A) (b : Bench A) → process_of b ≡ length senders
      → bench_bound b ≡ bound → HasLane s (lane_of b) → IsAt bound (senders ++ s ∷ []) b
  at_new bound senders s b e same h = record {
    low = omega (arith, length-append senders (s ∷ []));
    bound_is = same;
    lane = λ d. rw (get_or_at senders s [] d (process_of b) (sym e)) h;
  }

  pub at_front : (bound : ℕ) (senders : List (Sender F A)) (xs : List (Bench A)) (b : Bench A)
      → AreAt bound senders (xs ++ b ∷ []) → AreAt bound senders xs
  at_front bound senders xs b h = record {
    each =
        λ i d below. rw (get_or_append_left xs (b ∷ []) d i below)
        at (h.each i d (omega (arith, length-append xs (b ∷ []))));
  }

  pub at_last : (bound : ℕ) (senders : List (Sender F A)) (xs : List (Bench A)) (b : Bench A)
      → AreAt bound senders (xs ++ b ∷ []) → IsAt bound senders b
  at_last bound senders xs b h = rw (get_or_at xs b [] b (length xs) refl)
      at (h.each (length xs) b (omega (arith, length-append xs (b ∷ []))))

  pub at_later : (bound : ℕ) (senders : List (Sender F A)) (xs ys : List (Bench A)) → EachLater xs ys
      → AreAt bound senders xs → AreAt bound senders ys
  at_later bound senders xs ys l h = record {
    each = λ i d below.
        let few : i < length xs = let e = l.same_length in omega arith in
        let was = h.each i d few in let on = l.each i d few in record {
          low = rw on.process was.low;
          bound_is = on.bound ∙ was.bound_is;
          lane = λ e. rw (on.process, on.lane) (was.lane e);
        };
  }

  pub at_kept : (R : Sender F A → Sender F A → Type 0) → ((s t : Sender F A) → R s t → Keeps s t)
      → (bound : ℕ) (xs ys : List (Sender F A)) (bs : List (Bench A)) → Each R xs ys → AreAt bound xs bs
      → AreAt bound ys bs
  at_kept R keeps bound xs ys bs r h = record {
    each = λ i d below. let was = h.each i d below in record {
      low = let e = r.same_length in let f = was.low in omega arith;
      bound_is = was.bound_is;
      lane = λ e. keeps (slice_index_or xs (process_of (slice_index_or bs i d)) e)
          (slice_index_or ys (process_of (slice_index_or bs i d)) e)
          (r.each (process_of (slice_index_or bs i d)) e was.low) (lane_of (slice_index_or bs i d)) (was.lane e);
    };
  }

module _ {F A : Type 0} (seen : F → FeedState) where
  pub fresh_push : (xs : List (Sender F A)) (s : Sender F A) → AllFresh seen xs → IsFresh seen s
      → AllFresh seen (xs ++ s ∷ [])
  fresh_push xs s h here = record {
    each = λ i d below. elim (cases_eq i (length xs)) [
      | inl e ↦ rw (get_or_at xs s [] d i (sym e)) here
      | inr n ↦ let low : i < length xs = omega (arith, length-append xs (s ∷ [])) in
          rw (get_or_append_left xs (s ∷ []) d i low) (h.each i d low)
    ];
  }

  pub rejoins_same : (bound : ℕ) (x : Sender F A) → Rejoins seen bound x x
  rejoins_same bound x = record {
    came = λ options a is h. h;
    lane = λ l h. h;
  }

  pub rejoins_on : (bound : ℕ) (x y z : Sender F A) → Rejoins seen bound x y → Rejoins seen bound y z
      → Rejoins seen bound x z
  rejoins_on bound x y z p q = record {
    came = λ options a is h. q.came options a is (p.came options a is h);
    lane = λ l h. q.lane l (p.lane l h);
  }

  pub becomes_keeps : (limit : ℕ) (s t : Sender F A) → Becomes seen limit s t → Keeps s t
  becomes_keeps limit sender.NotOpened t h x l = rw h tt
  becomes_keeps limit (sender.NotStarted missing) t h x l = rw h tt
  becomes_keeps limit (sender.Ready f lane) (sender.NotStarted missing) h x l = tt
  becomes_keeps limit (sender.Ready f lane) sender.NotOpened h x l = elim h [ ]
  becomes_keeps limit (sender.Ready f lane) (sender.Ready g other) h x l = elim h [ ]
  becomes_keeps limit (sender.Ready f lane) (sender.Running k) h x l = elim h [ ]
  becomes_keeps limit (sender.Ready f lane) (sender.Joined d bench reports) h x l = elim h [ ]
  becomes_keeps limit (sender.Ready f lane) (sender.Read d) h x l = if_some d.lane_end _ _ h (λ e k. k.0 ∙ l)
  becomes_keeps limit (sender.Running k) t h x l = elim h [ ]
  becomes_keeps limit (sender.Read d) t h x l = rw h l
  becomes_keeps limit (sender.Joined d bench reports) t h x l = rw h tt

  pub came_on : (options : Options) (a : Arrival F) (s t : Sender F A) → Came seen options a s
      → Becomes seen options.limit s t → Came seen options a t
  came_on options arrival.Over s t h b = absurd h
  came_on options arrival.Refused s t h b = rw (rw h at b) refl
  came_on options (arrival.Came feed) sender.NotOpened t h b = elim h [ ]
  came_on options (arrival.Came feed) (sender.NotStarted missing) t h b = rw b tt
  came_on options (arrival.Came feed) (sender.Ready f lane) sender.NotOpened h b = elim b [ ]
  came_on options (arrival.Came feed) (sender.Ready f lane) (sender.Ready g other) h b = elim b [ ]
  came_on options (arrival.Came feed) (sender.Ready f lane) (sender.Running k) h b = elim b [ ]
  came_on options (arrival.Came feed) (sender.Ready f lane) (sender.Joined d bench reports) h b = elim b [ ]
  came_on options (arrival.Came feed) (sender.Ready f lane) (sender.NotStarted missing) h b = tt
  came_on options (arrival.Came feed) (sender.Ready f lane) (sender.Read d) h b =
      if_some d.lane_end _ _ b (λ e k. rw (h.0, h.1) at k.1)
  came_on options (arrival.Came feed) (sender.Running k) t h b = elim h [ ]
  came_on options (arrival.Came feed) (sender.Read d) t h b = rw b h
  came_on options (arrival.Came feed) (sender.Joined d bench reports) t h b = rw b h

  pub pairs_on : (options : Options) (R : Sender F A → Sender F A → Type 0)
      → ((a : Arrival F) (s t : Sender F A) → Came seen options a s → R s t → Came seen options a t)
      → (arrivals : List (Arrival F)) (xs ys : List (Sender F A)) → Pairwise (Came seen options) arrivals xs
      → Each R xs ys → Pairwise (Came seen options) arrivals ys
  pairs_on options R on arrivals xs ys h r = record {
    same_length = r.same_length ∙ h.same_length;
    each = λ i d e below. on (slice_index_or arrivals i d) (slice_index_or xs i e) (slice_index_or ys i e)
        (h.each i d e below) (r.each i e (let l = h.same_length in omega arith));
  }

  pub pairs_fit : (options : Options) (arrivals : List (Arrival F)) (xs : List (Sender F A)) (os : List (Outcome F A))
      → Pairwise (Came seen options) arrivals xs → Pairwise (Gets seen) xs os
      → Pairwise (IsAnswerTo seen options) arrivals os
  pairs_fit options arrivals xs os h r = record {
    same_length = r.same_length ∙ h.same_length;
    each = λ i d e below. r.each i sender.NotOpened e (let l = h.same_length in
        omega arith) options (slice_index_or arrivals i d) (h.each i d sender.NotOpened below);
  }

  -- senders that were read, and whose benches came back
  pub pairs_back : (options : Options) (arrivals : List (Arrival F)) (xs ys zs : List (Sender F A))
      → Pairwise (Came seen options) arrivals xs
      → Each (Becomes seen options.limit) xs ys → Each (Rejoins seen options.quarantine) ys zs
      → Pairwise (Came seen options) arrivals zs
  pairs_back options arrivals xs ys zs h read placed =
      pairs_on options (Rejoins seen options.quarantine) (λ a s t c r. r.came options a refl c) arrivals ys zs
      (pairs_on options (Becomes seen options.limit) (came_on options) arrivals xs ys h read) placed
