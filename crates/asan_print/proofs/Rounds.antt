-- One more port was asked.
use Rattle.std.proofs.Common.{ℕ, ◌≡◌, ◌≢◌, ◌+◌, ◌<◌, ◌≤◌, List, [], ◌∷◌, length, Option, Bool, true, false, cond, refl}
use Rattle.std.proofs.Common.{sym, ap, subst, ◌∙◌, arith, inl, inr, slice_index_or, slice_set, length-append}
use Rattle.std.specs.List.{sum_by}
use Rattle.std.proofs.Math.Seq.{map-set_same}
use Rattle.std.proofs.lemmas.Bool.{cases_eq, false≢true}
use Rattle.std.proofs.lemmas.List.Sums.{sum_by-cons, sum_by-set}
use Rattle.std.proofs.lemmas.List.{length-set, get_or-set_same, get_or-set_other, get_or_default}
use Rattle.asan_print.specs.declared.live_printer.LivePrinter.{LivePrinter}
use Rattle.asan_print.specs.declared.port.Port.{Port}
use Rattle.asan_print.specs.Logs.{Line, lines_of, report_lines, Printed, Adds}
use Rattle.asan_print.specs.Ports.{Follows, HasReport, SameLanes, TakesMore, lane_at, taken_at, reports_taken}

module _ {A : Type 0} where
  pub lanes_refl : (xs : List (Option (Port A))) → SameLanes xs xs
  lanes_refl xs = record { same_length = refl; each = λ i d below. refl }

  pub lanes_on : (xs ys : List (Option (Port A))) (at : ℕ) (old new : Option (Port A)) → at < length ys
      → old ≡ slice_index_or ys at old → lane_at new ≡ lane_at old
      → SameLanes xs ys → SameLanes xs (slice_set ys at new)
  lanes_on xs ys at old new low is same r =
      let len : length ys ≡ length xs = r.same_length in
      record {
        same_length = length-set ys at new ∙ len;
        each = λ i d below. elim (cases_eq i at) [
          | inl e ↦ rw (e, get_or-set_same ys at new d low) (same ∙ ap lane_at (is ∙ get_or_default ys at old d low)
              ∙ r.each at d (omega arith))
          | inr n ↦ rw (get_or-set_other ys at i new d n) (r.each i d below)
        ];
      }

  pub follows_on : (start now next : Option (List ℕ)) (p q : LivePrinter A) (ports : List (Option (Port A))) (at : ℕ)
      (old new : Option (Port A))
      → at < length ports → old ≡ slice_index_or ports at old
      → ((log : List Line) → Printed start now p log → lines_of at log ≡ report_lines at (taken_at old)
      → Adds start next q at (report_lines at (taken_at new)) log)
      → Follows start now p ports → Follows start next q (slice_set ports at new)
  follows_on start now next p q ports at old new low is step f =
      let len : length (slice_set ports at new) ≡ length ports = length-set ports at new in
      let e = step f.log f.printed (f.lines at old low ∙ ap (λ o. report_lines at (taken_at o)) (sym is)) in
      record {
        log = e.more;
        printed = e.printed;
        lines = λ i d below. elim (cases_eq i at) [
          | inl x ↦ rw (x, get_or-set_same ports at new d low) e.own
          | inr n ↦ rw (get_or-set_other ports at i new d n) (e.others i n ∙ f.lines i d (omega arith))
        ];
        others = λ i above. e.others i (λ x. absurd (omega arith)) ∙ f.others i (omega arith);
      }

  pub follows_flushed : (start now next : Option (List ℕ)) (p q : LivePrinter A) (ports : List (Option (Port A)))
      → ((log : List Line) → Printed start now p log → Printed start next q log) → Follows start now p ports
      → Follows start next q ports
  follows_flushed start now next p q ports flush f =
      record { log = f.log; printed = flush f.log f.printed; lines = f.lines; others = f.others }

  -- how many reports were taken in all
  abbrev pub count_of : List (Option (Port A)) → ℕ
  count_of ports = sum_by (λ port. length (taken_at port)) ports

  count_of-reports_taken : (xs : List (Option (Port A))) → count_of xs ≡ sum_by length (reports_taken xs)
  count_of-reports_taken [] = refl
  count_of-reports_taken (x ∷ xs) =
      sum_by-cons (λ port. length (taken_at port)) x xs ∙ ap (λ n. length (taken_at x) + n) (count_of-reports_taken xs)
      ∙ sym (sum_by-cons length (taken_at x) (reports_taken xs))

  pub taken_apart : (xs ys : List (Option (Port A))) → count_of xs < count_of ys → reports_taken ys ≢ reports_taken xs
  taken_apart xs ys more same = let is : count_of ys ≡ count_of xs = count_of-reports_taken ys ∙ ap (sum_by length) same
      ∙ sym (count_of-reports_taken xs) in absurd (omega arith)

  -- the first ports were asked, whether any gave a report, and the others are as they were
  pub record Asked (xs ys : List (Option (Port A))) (asked : ℕ) (any : Bool) : Type 0 where
    pub same_length : length ys ≡ length xs
    pub takes : (i : ℕ) (d : Option (Port A)) → i < asked → i < length xs
        → TakesMore (slice_index_or xs i d) (slice_index_or ys i d)
    pub rest : (i : ℕ) (d : Option (Port A)) → asked ≤ i → slice_index_or ys i d ≡ slice_index_or xs i d
    pub none : any ≡ false → reports_taken ys ≡ reports_taken xs
    pub some : any ≡ true → count_of xs < count_of ys
    pub least : count_of xs ≤ count_of ys
    pub finds : (i : ℕ) (d : Option (Port A)) → i < asked → HasReport (slice_index_or xs i d)
        → length (taken_at (slice_index_or xs i d)) < length (taken_at (slice_index_or ys i d))

  pub asked_none : (xs : List (Option (Port A))) → Asked xs xs 0 false
  asked_none xs = record {
    same_length = refl;
    takes = λ i d below low. absurd (omega arith);
    rest = λ i d above. refl;
    none = λ no. refl;
    some = λ yes. absurd (false≢true yes);
    least = omega arith;
    finds = λ i d below has. absurd (omega arith);
  }

  pub asked_on : (xs ys : List (Option (Port A))) (at : ℕ) (old new : Option (Port A)) (here any : Bool)
      → at < length ys → old ≡ slice_index_or ys at old
      → TakesMore old new → (here ≡ false → taken_at new ≡ taken_at old)
      → (here ≡ true → length (taken_at old) < length (taken_at new)) → (HasReport old → here ≡ true)
      → Asked xs ys at any → Asked xs (slice_set ys at new) (at + 1) (cond here true any)
  asked_on xs ys at old new here any low is takes none some finds r =
      let was : (d : Option (Port A)) → old ≡ slice_index_or xs at d = λ d. is ∙ get_or_default ys at old d low
      ∙ r.rest at d (omega arith) in
      let sum = sum_by-set (λ port. length (taken_at port)) ys at new old low in
      let least = r.least in
      let more = ap length takes.taken ∙ length-append (taken_at old) takes.more in
      let before : length (taken_at (slice_index_or ys at old)) ≡ length (taken_at old) =
      ap (λ port. length (taken_at port)) (sym is) in
      record {
        same_length = length-set ys at new ∙ r.same_length;
        takes = λ i d below within. elim (cases_eq i at) [
          | inl e ↦ rw (e, get_or-set_same ys at new d low) (subst (λ port. TakesMore port new) (was d) takes)
          | inr n ↦ rw (get_or-set_other ys at i new d n) (r.takes i d (omega arith) within)
        ];
        rest = λ i d above. rw (get_or-set_other ys at i new d (λ e. absurd (omega arith))) (r.rest i d (omega arith));
        none = elim here as (λ b. (b ≡ false → taken_at new ≡ taken_at old) → cond b true any ≡ false
            → reports_taken (slice_set ys at new) ≡ reports_taken xs) [
              | true ↦ λ same no. absurd (false≢true (sym no))
              | false ↦
                  λ same no. map-set_same taken_at ys at new old (same refl ∙ ap taken_at is) ∙ r.none no
            ] none;
        some = elim here as (λ b. (b ≡ true → length (taken_at old) < length (taken_at new)) → cond b true any ≡ true
            → count_of xs < count_of (slice_set ys at new)) [
              | true ↦ λ grown yes. let g = grown refl in omega arith
              | false ↦ λ grown yes. let g = r.some yes in
                  omega arith
            ] some;
        least = omega arith;
        finds = λ i d below has. elim (cases_eq i at) [
          | inl e ↦ rw (e, get_or-set_same ys at new d low)
              (subst (λ port. length (taken_at port) < length (taken_at new)) (was d)
              (some (finds (subst HasReport (sym (was d)) (subst (λ j. HasReport (slice_index_or xs j d)) e has)))))
          | inr n ↦ rw (get_or-set_other ys at i new d n) (r.finds i d (omega arith) has)
        ];
      }
