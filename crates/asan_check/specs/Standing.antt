-- Where a checker stands after the events of a trace.
use Rattle.std.specs.Prelude.{◌≡◌, ℕ, ◌-◌, ◌<◌, ◌⊎◌, Bool, true, false, List, ◌∷◌, ◌++◌, length}
use Rattle.std.specs.Prelude.{drop, take, reverse, vec_capacity, IsPermutation, IsSome}
use Rattle.trace_record.specs.declared.event.Event.{Event}
use Rattle.shadow_map.specs.Shows.{Shows}
use Rattle.asan_check.specs.declared.checker.Checker.{Checker}
use Rattle.asan_check.specs.declared.report.Report.{Report}
use Rattle.asan_check.specs.History.{live, held, marks}
use Rattle.asan_check.specs.Verdicts.{is_access}
use Rattle.asan_check.specs.Traces.{since_anew, fault_of, verdicts_of}

module _ {A : Type 0} where
  -- what a contract sees of a checker: whether it has failed, how many events it has checked, its
  -- reports, and the bound on the bytes of spans in its quarantine
  abbrev pub has_failed : Checker A → Bool
  has_failed c = c.failed

  abbrev pub checked_of : Checker A → ℕ
  checked_of c = c.checked

  abbrev pub reports_of : Checker A → List Report
  reports_of c = c.reports.items

  -- how many reports there is room for in the memory at hand
  abbrev pub report_room : Checker A → ℕ
  report_room c = vec_capacity c.reports

  abbrev pub bound_of : Checker A → ℕ
  bound_of c = c.book.bound

  -- the counts, the reports with their room, and the bound are as they were
  pub record KeepsTally (old new : Checker A) : Type 0 where
    pub failed : has_failed new ≡ has_failed old
    pub checked : checked_of new ≡ checked_of old
    pub reports : reports_of new ≡ reports_of old
    pub room : report_room new ≡ report_room old
    pub bound : bound_of new ≡ bound_of old

  -- the checker's shadow and its book show what the history has left
  pub record ShowsHistory (bound : ℕ) (c : Checker A) (past : List Event) : Type 0 where
    pub shadow : Shows c.shadow (marks bound past)
    pub live_blocks : IsPermutation c.book.live (live bound past)
    pub queue : c.book.queue ≡ held bound past
    pub bound_is : bound_of c ≡ bound

  -- the same of the history since the last `anew` of a trace
  abbrev pub ShowsTrace : ℕ → Checker A → List Event → Type 0
  ShowsTrace bound c past = ShowsHistory bound c (since_anew past)

  -- the checker stands where this trace leads: it hasn't failed, it shows what the trace has left,
  -- it has checked all of its events, and its reports are the verdicts on them
  pub record Stands (bound : ℕ) (c : Checker A) (past : List Event) : Type 0 where
    pub running : has_failed c ≡ false
    pub shown : ShowsTrace bound c past
    pub count : checked_of c ≡ length past
    pub reports : reports_of c ≡ verdicts_of bound past

  -- the checker has failed within this trace: its reports are the verdicts on the events that it
  -- had checked by then, which are the first of the trace and so the last of the list
  pub record FailedAt (bound : ℕ) (c : Checker A) (past : List Event) : Type 0 where
    pub failed : has_failed c ≡ true
    pub bound_is : bound_of c ≡ bound
    pub within : checked_of c < length past
    pub reports : reports_of c ≡ verdicts_of bound (drop (length past - checked_of c) past)

  -- the checker stands where this trace leads, or has failed within it
  abbrev pub StandsOrFailed : ℕ → Checker A → List Event → Type 0
  StandsOrFailed bound c past = Stands bound c past ⊎ FailedAt bound c past

  -- the first so many of these events change nothing, and nothing is wrong with them: after any
  -- trace that the checker shows, it shows the trace with them too, which has the same verdicts
  abbrev pub AreQuiet : Checker A → List Event → ℕ → Type 0
  AreQuiet c events count =
      (bound : ℕ) (past : List Event) → ShowsTrace bound c past →
      ShowsTrace bound c (reverse (take count events) ++ past)
      × (verdicts_of bound (reverse (take count events) ++ past) ≡ verdicts_of bound past)

-- of some events after a trace, this many were passed: the next one, if there is one, is no load
-- and no store, or something is wrong with it
abbrev pub StopsForAReason : ℕ → List Event → List Event → ℕ → Type 0
StopsForAReason bound past events count =
    (next : Event) (later : List Event) → drop count events ≡ next ∷ later →
    is_access next ≡ true →
    IsSome (fault_of bound (reverse (take count events) ++ past) next)
