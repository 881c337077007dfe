-- When a process counts as complete: the page of asancol-run says it to users, under "A process is
-- complete", and run/README.md what each fact is.
use Rattle.std.specs.Prelude.{◌≡◌, ◌≢◌, ◌⊎◌, Bool, true, false}
use Rattle.asan_judgement.specs.declared.facts.Fate.{Fate}
use Rattle.asan_judgement.specs.declared.facts.Fate.TheVariants as fate
use Rattle.asan_judgement.specs.declared.facts.Ending.{Ending}
use Rattle.asan_judgement.specs.declared.facts.Ending.TheVariants as ending
use Rattle.asan_judgement.specs.declared.facts.Facts.{Facts}
use Rattle.asan_judgement.specs.declared.verdict.Answer.{Answer}
use Rattle.asan_judgement.specs.declared.verdict.Answer.TheVariants as answer

-- the answer is that the process was complete, abruptly ended or not
abbrev pub is_complete : Answer → Bool
is_complete answer.Complete = true
is_complete answer.UpToThere = true
is_complete _ = false

-- the trace breaks off
abbrev pub is_cut_off : Fate → Bool
is_cut_off fate.NoClose = true
is_cut_off fate.Truncated = true
is_cut_off fate.Unwritten = true
is_cut_off _ = false

-- the recorder did not say that the process was about to end by itself
abbrev pub is_ended_from_outside : Ending → Bool
is_ended_from_outside ending.Unheard = true
is_ended_from_outside ending.Signal = true
is_ended_from_outside ending.Lost = true
is_ended_from_outside ending.Segment = true
is_ended_from_outside _ = false

-- main was reached, or another process has ended this one before, as a parent a child that it needs
-- no more
abbrev pub ReachedMain : Facts → Type 0
ReachedMain facts = (facts.main ≡ true) ⊎ (facts.by_others ≡ true)

-- seen up to an abrupt end: the trace breaks off, nothing says how the process ended, it is gone,
-- and by its own word nothing bad is missing
pub record WasSeenUpToThere (f : Fate) (e : Ending) (facts : Facts) : Type 0 where
  pub cut_off : is_cut_off f ≡ true
  pub unheard : e ≡ ending.Unheard
  pub gone : facts.gone ≡ true
  pub none_missing : facts.none_missing ≡ true
  pub main : (facts.main ≡ true) ⊎ ((facts.by_others ≡ true) × (facts.replaced ≡ false))

-- seen to its end: all came up to an end that its recorder saw, and what the recorder finds by
-- itself stands beside the trace; or it was seen up to an abrupt end
abbrev pub WasSeen : Fate → Ending → Facts → Type 0
WasSeen f e facts =
    ((facts.all_came ≡ true) × (facts.beside ≡ true)) ⊎ WasSeenUpToThere f e facts

-- nothing was lost on the way
pub record LacksNothing (facts : Facts) : Type 0 where
  pub limit : facts.limit ≡ false
  pub own_call : facts.own_call ≡ false
  pub findings : facts.findings_lost ≡ false
  pub leaks : facts.leaks_missed ≡ false
  pub inside : facts.inside ≡ false
  pub contradiction : facts.contradiction ≡ false

-- its checker came to an end of the trace that is none of the checker's own
pub record WasChecked (f : Fate) : Type 0 where
  pub line : f ≢ fate.NotChecked
  pub memory : f ≢ fate.NoMemory
  pub limit : f ≢ fate.TooMany

-- it was over when asancol-run stopped waiting, and --timeout has not cut it off
pub record IsInTime (f : Fate) (e : Ending) (facts : Facts) : Type 0 where
  pub wait : facts.by_wait ≡ true → facts.all_came ≡ true
  pub timeout : facts.by_timeout ≡ true → (f ≡ fate.Closed) ⊎ (is_ended_from_outside e ≡ false)

-- a signal that its recorder saw came after main, or from another process
abbrev pub HasBegun : Ending → Facts → Type 0
HasBegun e facts = e ≡ ending.Signal → ReachedMain facts

-- all of it: what `judge` asks of a process that is complete
pub record IsComplete (f : Fate) (e : Ending) (facts : Facts) : Type 0 where
  pub seen : WasSeen f e facts
  pub lacks : LacksNothing facts
  pub checks : facts.checks ≡ true
  pub checked : WasChecked f
  pub in_time : IsInTime f e facts
  pub begun : HasBegun e facts

-- all came only if its recorder has said how it ended, or the trace is closed: so asancol-run takes
-- this fact
abbrev pub HasAllByAnEnd : Fate → Ending → Facts → Type 0
HasAllByAnEnd f e facts = e ≡ ending.Unheard → facts.all_came ≡ true → f ≡ fate.Closed
