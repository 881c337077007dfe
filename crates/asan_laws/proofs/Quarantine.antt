-- A run with one quarantine has the blocks, the marks and the verdicts of its history.
use Rattle.std.proofs.Common.{◌≡◌, ℕ, ◌+◌, ◌≤◌, true, false, cond, eqb, List, [], ◌∷◌, ◌++◌, length, Option, Some, None}
use Rattle.std.proofs.Common.{refl, sym, ap, subst, ◌∙◌, inl, inr, arith}
use Rattle.std.specs.Prelude.{◌||◌, ◌&&◌, filter, not, sum_by, Contains, option_to_list}
use Rattle.std.specs.Option.{option_map}
use Rattle.std.specs.List.{IsDistinct, list_any}
use Rattle.std.proofs.lemmas.Bool.{cases_Bool, cases_lt, eq-eqb, not_from_false, not_from_true}
use Rattle.std.proofs.lemmas.List.{append-nil}
use Rattle.std.proofs.lemmas.List.Elements.{filter-append}
use Rattle.std.proofs.lemmas.Map.Keys.{IsDistinct-head, IsDistinct-tail}
use Rattle.trace_record.specs.declared.event.Event.{Event}
use Rattle.trace_record.specs.declared.event.Event.TheVariants as event
use Rattle.trace_record.specs.declared.event.Place.{Place}
use Rattle.trace_record.specs.declared.event.Region.{Region}
use Rattle.shadow_map.specs.States.{Block, state_of}
use Rattle.heap_book.specs.Spans.{Extent, span_bytes, meets, may_be_admitted, held_of, starts_at}
use Rattle.std.proofs.lemmas.List.Sums.{sum_by-cons}
use Rattle.heap_book.proofs.Held.{held-within, held-past, held-total}
use Rattle.asan_check.specs.declared.report.Fault.{Fault}
use Rattle.asan_check.specs.declared.report.Fault.TheVariants as fault
use Rattle.asan_check.specs.declared.report.Report.{Report}
use Rattle.asan_check.specs.History.{block_of, live, freed, held, admits, marks, with_marks, freed_mark, released_mark}
use Rattle.asan_check.specs.History.{released_from, own_marks}
use Rattle.asan_check.specs.Verdicts.{access_fault, fault_of, verdicts_of}
use Rattle.asan_check.proofs.Members.{in_none, in_head, cons_cases, at_element, passes_any, none_from, filter_all}
use Rattle.asan_check.proofs.Members.{filter_none, apart_starts, apart_across, apart_right, starts_once}
use Rattle.asan_check.proofs.Steps.{live_free, live_malloc, held_free, held_malloc}
use Rattle.asan_laws.specs.Laws.{asks_for, since_malloc, since_free}
use Rattle.asan_laws.specs.Runs.{Step, Does, Releases, events_of, live_in, held_in, admits_in, marks_in, fault_in}
use Rattle.asan_laws.specs.Runs.{verdict_in, verdicts_in, since_malloc_in, since_free_in, releasing, with_quarantine}
use Rattle.asan_laws.specs.LeanRecording.{EachHeldFits, RecordsLeanly, lean_numbers, releases}
use Rattle.asan_laws.proofs.RunBlocks.{live_malloc_in, live_refused_in, apart_in}

-- ---- releases, one after the other

-- the blocks that leave a queue stand at its front
queue_parts : (bound : ℕ) (bs : List Extent) → (front : List Extent) × (front ++ held_of bound bs ≡ bs)
queue_parts bound [] = ([], refl)
queue_parts bound (b ∷ bs) =
    elim (cases_lt bound (sum_by span_bytes (b ∷ bs))) [
      | inl lt ↦ let rest = queue_parts bound bs in (
        b ∷ rest.0,
        ap (λ xs. b ∷ xs) (ap (λ hs. rest.0 ++ hs) (held-past bound b bs lt) ∙ rest.1),
      )
      | inr le ↦ ([], held-within bound (b ∷ bs) le)
    ]

-- of blocks whose spans don't meet, the release of the first takes that one alone
first_goes : (b : Extent) (rest : List Extent) → IsDistinct meets (b ∷ rest)
    → filter (λ x. not (starts_at b.at x)) (b ∷ rest) ≡ rest
first_goes b rest apart =
    let self : starts_at b.at b ≡ true = eq-eqb b.at b.at refl in
    rw self (filter_all (λ x. not (starts_at b.at x)) rest (λ x has. not_from_false _
    (apart_starts b x (at_element (λ w. meets b w ≡ false) rest x (IsDistinct-head meets b rest apart) has))))

-- what is gone from a list of which the end stays is its front
gone_front : (front stays : List Extent) → IsDistinct meets (front ++ stays)
    → released_from (front ++ stays) stays ≡ front
gone_front front stays apart =
    filter-append (λ b. not (list_any (starts_at b.at) stays)) front stays
    ∙ ap (λ xs. xs ++ filter (λ b. not (list_any (starts_at b.at) stays)) stays)
    (filter_all _ front (λ x has. not_from_false _
    (none_from (starts_at x.at) stays (λ y in_stays. apart_starts x y
    (apart_across front stays x y apart has in_stays)))))
    ∙ ap (λ xs. front ++ xs)
    (filter_none _ stays (λ x has. not_from_true _ (passes_any (starts_at x.at) stays x has (eq-eqb x.at x.at refl))))
    ∙ append-nil front

-- what releases of blocks at the front of the held ones leave
record Released (front now : List Extent) (run : List Step) : Type 0 where
  live_is : live_in (releasing front run) ≡ live_in run
  held_is : held_in (releasing front run) ≡ now
  marks_are : marks_in (releasing front run) ≡ with_marks released_mark front (marks_in run)

release_all : (front now : List Extent) (run : List Step) → held_in run ≡ front ++ now
    → IsDistinct meets (front ++ now) → Released front now run
release_all [] now run is apart = record { live_is = refl; held_is = is; marks_are = refl }
release_all (b ∷ front) now run is apart =
    let one : held_in (Releases b.at ∷ run) ≡ front ++ now =
    ap (filter (λ x. not (starts_at b.at x))) is ∙ first_goes b (front ++ now) apart in
    let rest = release_all front now (Releases b.at ∷ run) one (IsDistinct-tail meets b (front ++ now) apart) in
    let alone : filter (starts_at b.at) (b ∷ (front ++ now)) ≡ b ∷ [] =
    starts_once (b ∷ (front ++ now)) b b.at apart (in_head b (front ++ now)) refl in
    record {
      live_is = rest.live_is;
      held_is = rest.held_is;
      marks_are = rest.marks_are ∙ ap (with_marks released_mark front)
          (ap (λ bs. with_marks released_mark (filter (starts_at b.at) bs) (marks_in run)) is
          ∙ ap (λ bs. with_marks released_mark bs (marks_in run)) alone);
    }

abbrev gone : ℕ → List Step → List Extent
gone bound run = released_from (held_in run) (held_of bound (held_in run))

within_is : (bound : ℕ) (run : List Step) → Released (gone bound run) (held_of bound (held_in run)) run
within_is bound run =
    let now = held_of bound (held_in run) in
    let parts = queue_parts bound (held_in run) in
    let apart : IsDistinct meets (parts.0 ++ now) =
    subst (IsDistinct meets) (sym parts.1) (apart_right (live_in run) (held_in run) (apart_in run)) in
    let are : gone bound run ≡ parts.0 =
    ap (λ bs. released_from bs now) (sym parts.1) ∙ gone_front parts.0 now apart in
    subst (λ front. Released front now run) (sym are) (release_all parts.0 now run (sym parts.1) apart)

-- ---- the blocks and the marks of the history

pub record IsAsHistory (bound : ℕ) (past : List Event) : Type 0 where
  pub live_is : live_in (with_quarantine bound past) ≡ live bound past
  pub held_is : held_in (with_quarantine bound past) ≡ held bound past
  pub marks_are : marks_in (with_quarantine bound past) ≡ marks bound past

module _ (bound : ℕ) (past : List Event) (before : IsAsHistory bound past) where
  abbrev so_far : List Step
  so_far = with_quarantine bound past

  pub admits_same : (b : Extent) → admits_in (with_quarantine bound past) b ≡ admits bound past b
  admits_same b =
      ap (λ bs. may_be_admitted (bs ++ held_in so_far) b) before.live_is
      ∙ ap (λ bs. may_be_admitted (live bound past ++ bs) b) before.held_is

  after_malloc : (r : Region) → IsAsHistory bound (event.Malloc r ∷ past)
  after_malloc r =
      elim (cases_Bool (admits bound past (block_of r))) [
        | inl ok ↦ let ok' = admits_same (block_of r) ∙ ok in record {
          live_is = live_malloc_in r so_far ok' ∙ ap (λ bs. bs ++ block_of r ∷ []) before.live_is
              ∙ sym (live_malloc bound r past ok);
          held_is = before.held_is ∙ sym (held_malloc bound r past);
          marks_are = rw (ok', ok) (ap (λ ms. Block r.at r.size ∷ ms) before.marks_are);
        }
        | inr refused ↦ let refused' = admits_same (block_of r) ∙ refused in record {
          live_is = live_refused_in r so_far refused' ∙ before.live_is ∙ rw refused refl;
          held_is = before.held_is ∙ sym (held_malloc bound r past);
          marks_are = rw (refused', refused) before.marks_are;
        }
      ]

  after_free : (p : Place) → IsAsHistory bound (event.Free p ∷ past)
  after_free p =
      let next = Does (event.Free p) ∷ so_far in
      let freed_now = filter (starts_at p.at) (live bound past) in
      let queued : held_in next ≡ held bound past ++ freed_now =
      ap (λ bs. bs ++ filter (starts_at p.at) (live_in so_far)) before.held_is
      ∙ ap (λ bs. held bound past ++ filter (starts_at p.at) bs) before.live_is in
      let done = within_is bound next in
      let left = released_from (held bound past ++ freed_now) (held bound (event.Free p ∷ past)) in
      record {
        live_is = done.live_is ∙ ap (filter (λ x. not (starts_at p.at x))) before.live_is
            ∙ sym (live_free bound p past);
        held_is = done.held_is ∙ ap (held_of bound) queued ∙ sym (held_free bound p past);
        marks_are = done.marks_are
            ∙ ap (λ bs. with_marks released_mark (released_from bs (held_of bound bs)) (marks_in next)) queued
            ∙ ap (λ now. with_marks released_mark (released_from (held bound past ++ freed_now) now) (marks_in next))
            (sym (held_free bound p past))
            ∙ ap (λ bs. with_marks released_mark left (with_marks freed_mark (filter (starts_at p.at) bs)
            (marks_in so_far))) before.live_is
            ∙ ap (λ ms. with_marks released_mark left (with_marks freed_mark freed_now ms)) before.marks_are;
      }

pub as_history : (bound : ℕ) (past : List Event) → IsAsHistory bound past
as_history bound [] = record { live_is = refl; held_is = refl; marks_are = refl }
as_history bound (event.Malloc r ∷ past) = after_malloc bound past (as_history bound past) r
as_history bound (event.Free p ∷ past) = after_free bound past (as_history bound past) p
as_history bound (e ∷ past) =
    let before = as_history bound past in record {
      live_is = before.live_is;
      held_is = before.held_is;
      marks_are = ap (λ ms. own_marks e ++ ms) before.marks_are;
    }

-- one block's span is within the sum of several
part_of_sum : (bs : List Extent) (b : Extent) → Contains bs b → span_bytes b ≤ sum_by span_bytes bs
part_of_sum [] b has = absurd (in_none b has)
part_of_sum (c ∷ bs) b has =
    let sum : sum_by span_bytes (c ∷ bs) ≡ span_bytes c + sum_by span_bytes bs = sum_by-cons span_bytes c bs in
    elim (cons_cases b c bs has) [
      | inl same ↦ let is : span_bytes c ≡ span_bytes b = ap span_bytes same in omega arith
      | inr rest ↦ let more = part_of_sum bs b rest in omega arith
    ]

-- each held block fits
pub each_fits : (bound : ℕ) (past : List Event) → EachHeldFits bound (with_quarantine bound past)
each_fits bound past b has =
    let all : sum_by span_bytes (held bound past) ≤ bound = held-total bound (freed bound past) in
    let part = part_of_sum (held bound past) b
    (subst (λ bs. Contains bs b) (as_history bound past).held_is has) in
    omega arith

-- ---- its events

events_released : (bs : List Extent) (run : List Step) → events_of (releasing bs run) ≡ events_of run
events_released [] run = refl
events_released (b ∷ bs) run = events_released bs (Releases b.at ∷ run)

pub events_are : (bound : ℕ) (past : List Event) → events_of (with_quarantine bound past) ≡ past
events_are bound [] = refl
events_are bound (event.Free p ∷ past) =
    events_released (gone bound (Does (event.Free p) ∷ with_quarantine bound past))
    (Does (event.Free p) ∷ with_quarantine bound past)
    ∙ ap (λ es. event.Free p ∷ es) (events_are bound past)
events_are bound (e ∷ past) = ap (λ es. e ∷ es) (events_are bound past)

-- ---- what is wrong in it

abbrev free_by : ℕ → List Extent → List Extent → Option Fault
free_by at lives helds =
    cond (eqb at 0 || list_any (starts_at at) lives) None
    (cond (list_any (starts_at at) helds) (Some (fault.DoubleFree at)) (Some (fault.BadFree at)))

pub fault_is : (bound : ℕ) (past : List Event) (e : Event)
    → fault_in (with_quarantine bound past) e ≡ fault_of bound past e
fault_is bound past (event.Load a) =
    ap (λ ms. access_fault (state_of ms) false a) (as_history bound past).marks_are
fault_is bound past (event.Store a) =
    ap (λ ms. access_fault (state_of ms) true a) (as_history bound past).marks_are
fault_is bound past (event.Malloc r) =
    ap (λ t. cond (eqb r.at 0 || t) None (Some (fault.BadMalloc r.at r.size)))
    (admits_same bound past (as_history bound past) (block_of r))
fault_is bound past (event.Free p) =
    let is = as_history bound past in
    let run = with_quarantine bound past in
    ap (λ bs. free_by p.at bs (held_in run)) is.live_is ∙ ap (free_by p.at (live bound past)) is.held_is
fault_is bound past (event.Poison s) = refl
fault_is bound past (event.Unpoison r) = refl
fault_is bound past event.Anew = refl

verdict_is : (bound : ℕ) (past : List Event) (e : Event) →
    option_to_list (verdict_in (with_quarantine bound past) e)
    ≡ option_to_list (option_map (λ f. let r : Report = record { number = length past + 1; fault = f } in r)
    (fault_of bound past e))
verdict_is bound past e =
    ap (λ (es : List Event). option_to_list (option_map
    (λ f. let r : Report = record { number = length es + 1; fault = f } in r)
    (fault_in (with_quarantine bound past) e))) (events_are bound past)
    ∙ ap (λ found. option_to_list (option_map
    (λ f. let r : Report = record { number = length past + 1; fault = f } in r) found)) (fault_is bound past e)

verdicts_released : (bs : List Extent) (run : List Step) → verdicts_in (releasing bs run) ≡ verdicts_in run
verdicts_released [] run = refl
verdicts_released (b ∷ bs) run = verdicts_released bs (Releases b.at ∷ run)

one_more : (bound : ℕ) (past : List Event) (e : Event)
    → verdicts_in (with_quarantine bound past) ≡ verdicts_of bound past
    → verdicts_in (Does e ∷ with_quarantine bound past) ≡ verdicts_of bound (e ∷ past)
one_more bound past e before =
    ap (λ rs. rs ++ option_to_list (verdict_in (with_quarantine bound past) e)) before
    ∙ ap (λ rs. verdicts_of bound past ++ rs) (verdict_is bound past e)

pub verdicts_are : (bound : ℕ) (past : List Event) → verdicts_in (with_quarantine bound past) ≡ verdicts_of bound past
verdicts_are bound [] = refl
verdicts_are bound (event.Free p ∷ past) =
    verdicts_released (gone bound (Does (event.Free p) ∷ with_quarantine bound past))
    (Does (event.Free p) ∷ with_quarantine bound past)
    ∙ one_more bound past (event.Free p) (verdicts_are bound past)
verdicts_are bound (e ∷ past) = one_more bound past e (verdicts_are bound past)

-- ---- since when

malloc_released : (bs : List Extent) (run : List Step) (b : Extent)
    → since_malloc_in (releasing bs run) b ≡ since_malloc_in run b
malloc_released [] run b = refl
malloc_released (c ∷ bs) run b = malloc_released bs (Releases c.at ∷ run) b

free_released : (bs : List Extent) (run : List Step) (b : Extent)
    → since_free_in (releasing bs run) b ≡ since_free_in run b
free_released [] run b = refl
free_released (c ∷ bs) run b = free_released bs (Releases c.at ∷ run) b

since_malloc_is : (bound : ℕ) (past : List Event) (b : Extent)
    → since_malloc_in (with_quarantine bound past) b ≡ since_malloc bound past b
since_malloc_is bound [] b = refl
since_malloc_is bound (event.Malloc r ∷ past) b =
    ap (λ t. cond (asks_for b r && t) [] (event.Malloc r ∷ since_malloc_in (with_quarantine bound past) b))
    (admits_same bound past (as_history bound past) b)
    ∙ ap (λ es. cond (asks_for b r && admits bound past b) [] (event.Malloc r ∷ es)) (since_malloc_is bound past b)
since_malloc_is bound (event.Free p ∷ past) b =
    malloc_released (gone bound (Does (event.Free p) ∷ with_quarantine bound past))
    (Does (event.Free p) ∷ with_quarantine bound past) b
    ∙ ap (λ es. event.Free p ∷ es) (since_malloc_is bound past b)
since_malloc_is bound (e ∷ past) b = ap (λ es. e ∷ es) (since_malloc_is bound past b)

since_free_is : (bound : ℕ) (past : List Event) (b : Extent)
    → since_free_in (with_quarantine bound past) b ≡ since_free bound past b
since_free_is bound [] b = refl
since_free_is bound (event.Free p ∷ past) b =
    free_released (gone bound (Does (event.Free p) ∷ with_quarantine bound past))
    (Does (event.Free p) ∷ with_quarantine bound past) b
    ∙ ap (λ bs. cond (starts_at p.at b && list_any (starts_at p.at) bs) []
    (event.Free p ∷ since_free_in (with_quarantine bound past) b)) (as_history bound past).live_is
    ∙ ap (λ es. cond (starts_at p.at b && list_any (starts_at p.at) (live bound past)) [] (event.Free p ∷ es))
    (since_free_is bound past b)
since_free_is bound (e ∷ past) b = ap (λ es. e ∷ es) (since_free_is bound past b)

pub since_is : (bound : ℕ) (past : List Event) (b : Extent) →
    (since_malloc_in (with_quarantine bound past) b ≡ since_malloc bound past b)
    × (since_free_in (with_quarantine bound past) b ≡ since_free bound past b)
since_is bound past b = (since_malloc_is bound past b, since_free_is bound past b)

-- ---- recordings of it

-- the releases that follow an event
module _ (bound : ℕ) (first : List Event) (past : List Step) (recorded : List Event) where
  -- a recording of a run that goes on, with the same numbers
  abbrev GoesOn : {run : List Step} → RecordsLeanly bound first past recorded run → List Step → Type 0
  GoesOn way later =
      (on : RecordsLeanly bound first past recorded later) × (lean_numbers on ≡ lean_numbers way)

  then_released : (bs : List Extent) (run : List Step) (way : RecordsLeanly bound first past recorded run)
      → GoesOn way (releasing bs run)
  then_released [] run way = (way, refl)
  then_released (b ∷ bs) run way = then_released bs (Releases b.at ∷ run) (releases b.at recorded run way)

  pub goes_on : (run : List Event) (e : Event)
      (way : RecordsLeanly bound first past recorded (Does e ∷ with_quarantine bound run))
      → GoesOn way (with_quarantine bound (e ∷ run))
  goes_on run (event.Free p) way =
      let next = Does (event.Free p) ∷ with_quarantine bound run in then_released (gone bound next) next way
  goes_on run e way = (way, refl)
