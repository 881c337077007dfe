-- The benches of each worker.
use Rattle.std.specs.Prelude.{◌≡◌, ℕ, ◌<◌, ◌≤◌, ◌+◌, ◌*◌, ◌%◌, ◌⊎◌, ◌++◌, ◌∷◌, List, [], Vec, length}
use Rattle.std.specs.Prelude.{All, slice_index_or, slice_set, vec_capacity}
use Rattle.asan_stream.specs.declared.bench.Bench.{Bench}
use Rattle.asan_senders.specs.declared.worker_thread.WorkerThread.{WorkerThread}
use Rattle.asan_senders.specs.declared.worker_thread.WorkerThread.TheVariants as running
use Rattle.asan_senders.specs.declared.missing.Part.TheVariants as part
use Rattle.asan_senders.specs.declared.sender.Sender.{Sender}
use Rattle.asan_senders.specs.declared.sender.Sender.TheVariants as sender
use Rattle.asan_senders.specs.Ranges.{most_senders}
use Rattle.asan_stream.specs.Benches.{EachLater, EachTakesNoMore, process_of}
use Rattle.asan_senders.specs.Senders.{AreAt, IsBack, IsRead, IsReady, IsStarted}

-- the benches of one worker
abbrev pub Share : Type 0 → Type 0
Share A = Vec (Bench A) A

module _ {A : Type 0} where
  -- one of these benches is that of this process
  abbrev pub HasBenchOf : ℕ → List (Bench A) → Type 0
  HasBenchOf process benches =
      (k : ℕ) × (k < length benches)
      × ((d : Bench A) → process_of (slice_index_or benches k d) ≡ process)

  -- benches have worked to the end
  abbrev pub HaveWorked : List (Bench A) → List (Bench A) → Type 0
  HaveWorked before after = EachLater before after × EachTakesNoMore after

  -- the benches came back and have worked to the end, or were lost
  abbrev pub ComesBack : Share A → Share A → Type 0
  ComesBack before after = HaveWorked before.items after.items ⊎ (after.items ≡ [])

  -- what becomes of the benches that a worker was to be started with: unless the worker was lost,
  -- they come back and have worked to the end
  abbrev pub WillComeBack : Share A → WorkerThread A → Type 0
  WillComeBack share (running.Idle benches) = HaveWorked share.items benches.items
  WillComeBack share (running.Running h) =
      (benches : Share A) → HaveWorked h.promise.benches.value.items benches.items →
      HaveWorked share.items benches.items
  WillComeBack share running.Lost = Unit {0}

  -- a worker has ended, if one was started, and its promise was kept; of one that was lost no bench
  -- comes back
  abbrev pub Returns : WorkerThread A → Share A → Type 0
  Returns (running.Idle benches) after =
      (before : Share A) → WillComeBack before (running.Idle benches) →
      HaveWorked before.items after.items
  Returns (running.Running h) after =
      (before : Share A) → WillComeBack before (running.Running h) →
      HaveWorked before.items after.items
  Returns running.Lost after = after.items ≡ []

  -- a worker was not lost
  abbrev pub IsKept : WorkerThread A → Type 0
  IsKept (running.Idle benches) = Unit {0}
  IsKept (running.Running h) = Unit {0}
  IsKept running.Lost = ⊥

  -- each worker has no bench yet, and together they have room for one for each sender
  pub record AreEmpty (workers : ℕ) (shares : List (Share A)) : Type 0 where
    pub none : (k : ℕ) (d : Share A) → k < length shares → (slice_index_or shares k d).items ≡ []
    pub room :
        (k : ℕ) (d : Share A) → k < length shares →
        most_senders ≤ workers * vec_capacity (slice_index_or shares k d)

  -- the benches of the first `dealt` senders were dealt out in turn, and each worker has room for
  -- the rest of its benches
  pub record HasRoom (workers dealt : ℕ) (shares : List (Share A)) : Type 0 where
    pub some : 0 < workers
    pub all : length shares ≡ workers
    pub few :
        (k : ℕ) (d : Share A) → k < length shares →
        workers * length (slice_index_or shares k d).items + k < dealt + workers
    pub room :
        (k : ℕ) (d : Share A) → k < length shares →
        most_senders ≤ workers * vec_capacity (slice_index_or shares k d)

  -- the worker at this place got one bench more
  pub record Deals (at : ℕ) (b : Bench A) (before after : List (Share A)) : Type 0 where
    pub share : Share A
    pub set : after ≡ slice_set before at share
    pub items : share.items ≡ (slice_index_or before at share).items ++ b ∷ []
    pub capacity : vec_capacity (slice_index_or before at share) ≤ vec_capacity share

module _ {F A : Type 0} where
  -- a sender that is ready gets no reader, since its worker is missing, and any other stays as it
  -- is
  abbrev pub GivesUp : Sender F A → Sender F A → Type 0
  GivesUp sender.NotOpened s = s ≡ sender.NotOpened
  GivesUp (sender.NotStarted missing) s = s ≡ sender.NotStarted missing
  GivesUp (sender.Ready feed lane) s = s ≡ sender.NotStarted part.Worker
  GivesUp (sender.Running h) s = s ≡ sender.Running h
  GivesUp (sender.Read d) s = s ≡ sender.Read d
  GivesUp (sender.Joined d b reports) s = s ≡ sender.Joined d b reports

  -- a sender of this worker gives up if the worker was lost, and else stays as it is
  abbrev pub GivesUpWith : WorkerThread A → Sender F A → Sender F A → Type 0
  GivesUpWith running.Lost s t = GivesUp s t
  GivesUpWith (running.Idle benches) s t = t ≡ s
  GivesUpWith (running.Running h) s t = t ≡ s

  -- each sender gives up with its worker: that of sender i is the worker i mod their number
  pub record EachGivesUp
      (workers : List (WorkerThread A)) (before after : List (Sender F A)) : Type 0 where
    pub same_length : length after ≡ length before
    pub each :
        (i : ℕ) (d : Sender F A) (c : WorkerThread A) → i < length before →
        GivesUpWith (slice_index_or workers (i % length workers) c)
        (slice_index_or before i d) (slice_index_or after i d)

  -- the worker of each sender that was ready, and has a reader or was read, is kept
  pub record AreKept
      (workers : List (WorkerThread A)) (before after : List (Sender F A)) : Type 0 where
    pub each :
        (i : ℕ) (d : Sender F A) (c : WorkerThread A) → i < length before →
        IsReady (slice_index_or before i d) → IsStarted (slice_index_or after i d) →
        IsKept (slice_index_or workers (i % length workers) c)

  -- each sender that waits for its reader has a bench in the share of its worker
  pub record HaveSeats (senders : List (Sender F A)) (shares : List (Share A)) : Type 0 where
    pub each :
        (i : ℕ) (d : Sender F A) (e : Share A) → i < length senders →
        IsReady (slice_index_or senders i d) →
        HasBenchOf i (slice_index_or shares (i % length shares) e).items

  -- the benches of the worker of each sender that was ready, and was read, came back and have
  -- worked to the end
  pub record HaveWorkedForRead
      (xs ys : List (Sender F A)) (before after : List (Share A)) : Type 0 where
    pub each :
        (i : ℕ) (d : Sender F A) (e : Share A) → i < length xs →
        IsReady (slice_index_or xs i d) → IsRead (slice_index_or ys i d) →
        HaveWorked (slice_index_or before (i % length before) e).items
        (slice_index_or after (i % length before) e).items

  -- each bench of each worker has the lane of its sender, and this bound
  pub record SharesAt
      (bound : ℕ) (senders : List (Sender F A)) (shares : List (Share A)) : Type 0 where
    pub each :
        (k : ℕ) (d : Share A) → k < length shares →
        AreAt bound senders (slice_index_or shares k d).items

  -- each bench of each worker is back
  abbrev pub AreBack : List (Sender F A) → List (Share A) → Type 0
  AreBack senders shares = All (λ share. All (IsBack senders) share.items) shares
