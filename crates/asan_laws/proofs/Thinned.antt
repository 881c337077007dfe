-- Histories that leave the same behind them, and histories from which loads and stores were left out.
use Rattle.std.proofs.Common.{◌≡◌, ℕ, ◌+◌, true, List, [], ◌∷◌, ◌++◌, length, map, Some, None}
use Rattle.std.proofs.Common.{Option, refl, sym, ap, subst, ◌∙◌, inl, inr}
use Rattle.std.specs.Prelude.{filter, not, option_to_list}
use Rattle.std.specs.Option.{option_map}
use Rattle.std.proofs.lemmas.Bool.{cases_Bool, false≢true}
use Rattle.std.proofs.lemmas.List.{map-append}
use Rattle.trace_record.specs.declared.event.Event.{Event}
use Rattle.trace_record.specs.declared.event.Event.TheVariants as event
use Rattle.trace_record.specs.declared.event.Place.{Place}
use Rattle.heap_book.specs.Spans.{Extent, starts_at, may_be_admitted}
use Rattle.asan_check.specs.declared.report.Fault.{Fault}
use Rattle.asan_check.specs.declared.report.Report.{Report}
use Rattle.asan_check.specs.History.{block_of, live, held, admits, own_marks}
use Rattle.asan_check.specs.Verdicts.{fault_of, is_access, verdict, verdicts_of}
use Rattle.asan_laws.specs.Thinning.{faults_of, LeaveTheSame, IsSublist, LeavesOut, ends, keeps, leaves_out}
use Rattle.asan_check.proofs.Steps.{live_free, live_malloc, held_free, held_malloc}

-- ---- histories that leave the same

module _ (bound : ℕ) (one other : List Event) (same : LeaveTheSame bound one other) where
  same_admits : (b : Extent) → admits bound one b ≡ admits bound other b
  same_admits b = ap (λ lives. may_be_admitted (lives ++ held bound one) b) same.same_live
      ∙ ap (λ helds. may_be_admitted (live bound other ++ helds) b) same.same_held

  -- an event is as good or as bad after the one as after the other
  pub same_fault : (e : Event) → fault_of bound one e ≡ fault_of bound other e
  same_fault (event.Load a) = rw same.same_marks refl
  same_fault (event.Store a) = rw same.same_marks refl
  same_fault (event.Malloc r) = rw (same_admits (block_of r)) refl
  same_fault (event.Free p) = rw (same.same_live, same.same_held) refl
  same_fault e = refl

  same_held_after_free : (p : Place) → held bound (event.Free p ∷ one) ≡ held bound (event.Free p ∷ other)
  same_held_after_free p = held_free bound p one ∙ rw (same.same_live, same.same_held) (sym (held_free bound p other))

  -- and one more event keeps them so
  same_step : (e : Event) → LeaveTheSame bound (e ∷ one) (e ∷ other)
  same_step (event.Malloc r) =
      let helds : held bound (event.Malloc r ∷ one) ≡ held bound (event.Malloc r ∷ other) = held_malloc bound r one
      ∙ same.same_held ∙ sym (held_malloc bound r other) in
      elim (cases_Bool (admits bound other (block_of r))) [
        | inl ok ↦ let ok' = same_admits (block_of r) ∙ ok in record {
          same_marks = rw (ok', ok, same.same_marks) refl;
          same_live = live_malloc bound r one ok' ∙ ap (λ lives. lives ++ block_of r ∷ []) same.same_live
              ∙ sym (live_malloc bound r other ok);
          same_held = helds;
        }
        | inr refused ↦ let refused' = same_admits (block_of r) ∙ refused in record {
          same_marks = rw (refused', refused) same.same_marks;
          same_live = rw (refused', refused) same.same_live;
          same_held = helds;
        }
      ]
  same_step (event.Free p) = record {
    same_marks = rw (same_held_after_free p, same.same_live, same.same_held, same.same_marks) refl;
    same_live = live_free bound p one ∙ ap (filter (λ x. not (starts_at p.at x))) same.same_live
        ∙ sym (live_free bound p other);
    same_held = same_held_after_free p;
  }
  same_step e = record {
    same_marks = ap (λ ms. own_marks e ++ ms) same.same_marks;
    same_live = same.same_live;
    same_held = same.same_held;
  }

-- a load or a store leaves no trace
one_access : (bound : ℕ) (one other : List Event) (e : Event) → is_access e ≡ true → LeaveTheSame bound one other
    → LeaveTheSame bound one (e ∷ other)
one_access bound one other (event.Load a) is same =
    record { same_marks = same.same_marks; same_live = same.same_live; same_held = same.same_held }
one_access bound one other (event.Store a) is same =
    record { same_marks = same.same_marks; same_live = same.same_live; same_held = same.same_held }
one_access bound one other e is same = absurd (false≢true is)

-- whichever are left out
pub no_trace : (bound : ℕ) (thin full : List Event) → LeavesOut thin full → LeaveTheSame bound thin full
no_trace bound thin full ends = record { same_marks = refl; same_live = refl; same_held = refl }
no_trace bound thin full (keeps e rest past way) = same_step bound rest past (no_trace bound rest past way) e
no_trace bound thin full (leaves_out e rest past is way) =
    one_access bound rest past e is (no_trace bound rest past way)

-- ---- sublists

module _ {A : Type 0} where
  sub_self : (xs : List A) → IsSublist xs xs
  sub_self [] = tt
  sub_self (x ∷ xs) = inl (refl, sub_self xs)

  sub_under : (xs : List A) (y : A) (ys : List A) → IsSublist xs ys → IsSublist xs (y ∷ ys)
  sub_under [] y ys h = tt
  sub_under (x ∷ xs) y ys h = inr h

  sub_end : (ys zs : List A) → IsSublist zs (ys ++ zs)
  sub_end [] zs = sub_self zs
  sub_end (y ∷ ys) zs = sub_under zs y (ys ++ zs) (sub_end ys zs)

  sub_more : (xs ys zs : List A) → IsSublist xs ys → IsSublist xs (ys ++ zs)
  sub_more [] ys zs h = tt
  sub_more (x ∷ xs) [] zs h = absurd h
  sub_more (x ∷ xs) (y ∷ ys) zs (inl h) = inl (h.0, sub_more xs ys zs h.1)
  sub_more (x ∷ xs) (y ∷ ys) zs (inr h) = inr (sub_more (x ∷ xs) ys zs h)

  sub_both : (xs ys zs : List A) → IsSublist xs ys → IsSublist (xs ++ zs) (ys ++ zs)
  sub_both [] ys zs h = sub_end ys zs
  sub_both (x ∷ xs) [] zs h = absurd h
  sub_both (x ∷ xs) (y ∷ ys) zs (inl h) = inl (h.0, sub_both xs ys zs h.1)
  sub_both (x ∷ xs) (y ∷ ys) zs (inr h) = inr (sub_both (x ∷ xs) ys zs h)

-- ---- faults

-- one more event adds what is wrong with it at the end
faults_push : (bound : ℕ) (past : List Event) (e : Event)
    → faults_of bound (e ∷ past) ≡ faults_of bound past ++ option_to_list (fault_of bound past e)
faults_push bound past e =
    map-append (λ r. r.fault) (verdicts_of bound past) (option_to_list (verdict bound past e))
    ∙ ap (λ xs. faults_of bound past ++ xs) (one (fault_of bound past e))
  where
    one : (f : Option Fault) → map (λ (r : Report). r.fault)
        (option_to_list (option_map (λ g. let r : Report = record { number = length past + 1; fault = g } in r) f))
        ≡ option_to_list f
    one None = refl
    one (Some f) = refl

-- what is wrong in a history from which some are left out is, in its order, some of what is wrong in the full one
pub invents_nothing : (bound : ℕ) (thin full : List Event) → LeavesOut thin full
    → IsSublist (faults_of bound thin) (faults_of bound full)
invents_nothing bound thin full ends = tt
invents_nothing bound thin full (keeps e rest past way) =
    let last = option_to_list (fault_of bound past e) in
    let same : option_to_list (fault_of bound rest e) ≡ last =
    ap option_to_list (same_fault bound rest past (no_trace bound rest past way) e) in
    let here : faults_of bound (e ∷ rest) ≡ faults_of bound rest ++ last =
    faults_push bound rest e ∙ ap (λ fs. faults_of bound rest ++ fs) same in
    subst (λ fs. IsSublist fs (faults_of bound (e ∷ past))) (sym here)
    (subst (λ fs. IsSublist (faults_of bound rest ++ last) fs) (sym (faults_push bound past e))
    (sub_both (faults_of bound rest) (faults_of bound past) last (invents_nothing bound rest past way)))
invents_nothing bound thin full (leaves_out e rest past is way) =
    subst (λ fs. IsSublist (faults_of bound rest) fs) (sym (faults_push bound past e))
    (sub_more (faults_of bound rest) (faults_of bound past) (option_to_list (fault_of bound past e))
    (invents_nothing bound rest past way))
