-- What one more line does to a log, and to what went out of it.
use Rattle.std.proofs.Common.{ℕ, ◌≡◌, ◌≢◌, ◌+◌, ◌<◌, List, [], ◌∷◌, ◌++◌, length, Option, refl, sym, ap}
use Rattle.std.proofs.Common.{subst, ◌∙◌, arith, append_assoc, length-append, eqb, cond, inl, inr, true, false, take}
use Rattle.std.proofs.Common.{get_or}
use Rattle.std.proofs.Math.Seq.{take-append_seam}
use Rattle.std.proofs.lemmas.List.{append-nil, take_more}
use Rattle.std.proofs.lemmas.Bool.{eq-eqb}
use Rattle.std.proofs.lemmas.Bool.Decides.{eqb_tells}
use Rattle.std.specs.Io.KnownBytes.{Appends}
use Rattle.std.proofs.KnownBytes.{Appends-nil, Appends-trans}
use Rattle.asan_check.specs.declared.report.Report.{Report}
use Rattle.asan_check.specs.Lines.{report_line}
use Rattle.asan_print.specs.declared.fault.WriteFault.{WriteFault}
use Rattle.asan_print.specs.declared.counted.Counted.{Counted}
use Rattle.asan_print.specs.declared.live_printer.LivePrinter.{LivePrinter}
use Rattle.asan_print.specs.declared.live_printer.LivePrinter.TheVariants as live
use Rattle.asan_print.specs.declared.printer.Printer.{Printer}
use Rattle.asan_print.specs.Printing.{Prints, BreaksOff, held_back, written_of}
use Rattle.asan_print.specs.Logs.{Line, joined, lines_of, report_lines, IsBroken, StaysBroken, Printed, Adds}

pub joined-snoc : (log : List Line) (i : ℕ) (l : List ℕ) → joined (log ++ (i, l) ∷ []) ≡ joined log ++ l
joined-snoc [] i l = append-nil l
joined-snoc (p ∷ log) i l = ap (λ r. p.1 ++ r) (joined-snoc log i l) ∙ sym (append_assoc p.1 (joined log) l)

lines_of-append : (i : ℕ) (log more : List Line) → lines_of i (log ++ more) ≡ lines_of i log ++ lines_of i more
lines_of-append i [] more = refl
lines_of-append i (p ∷ log) more =
    elim (eqb i p.0) as (λ b. cond b (p.1 ∷ lines_of i (log ++ more)) (lines_of i (log ++ more))
    ≡ cond b (p.1 ∷ lines_of i log) (lines_of i log) ++ lines_of i more)
    [ true ↦ ap (λ r. p.1 ∷ r) (lines_of-append i log more) | false ↦ lines_of-append i log more ]

pub lines_of-own : (i : ℕ) (log : List Line) (l : List ℕ) → lines_of i (log ++ (i, l) ∷ []) ≡ lines_of i log ++ l ∷ []
lines_of-own i log l = lines_of-append i log ((i, l) ∷ [])
    ∙ ap (λ b. lines_of i log ++ cond b (l ∷ []) []) (eq-eqb i i refl)

pub lines_of-other : (i j : ℕ) (log : List Line) (l : List ℕ) → j ≢ i → lines_of j (log ++ (i, l) ∷ []) ≡ lines_of j log
lines_of-other i j log l ne =
    let no : eqb j i ≡ false = elim (eqb_tells j i) [ inl p ↦ absurd (ne p.1) | inr p ↦ p.0 ] in
    lines_of-append j log ((i, l) ∷ []) ∙ (ap (λ b. lines_of j log ++ cond b (l ∷ []) []) no
    ∙ append-nil (lines_of j log))

pub report_lines-append : (i : ℕ) (xs ys : List Report)
    → report_lines i (xs ++ ys) ≡ report_lines i xs ++ report_lines i ys
report_lines-append i [] ys = refl
report_lines-append i (x ∷ xs) ys = ap (λ r. report_line i x ∷ r) (report_lines-append i xs ys)

module _ {A : Type 0} where
  -- a line was printed
  pub printed_line : (start now next : Option (List ℕ)) (p q : Counted A) (log : List Line) (i : ℕ) (l : List ℕ)
      → Prints now next p.printer q.printer l → Printed start now (live.Prints p) log
      → Printed start next (live.Prints q) (log ++ (i, l) ∷ [])
  printed_line start now next p q log i l prints r =
      let count = prints.count in
      let was = r.ends.1 in
      record {
        out = r.out ++ prints.out;
        rest = held_back q.printer;
        sent = Appends-trans start now next r.out prints.out r.sent prints.sent;
        parts = joined-snoc log i l ∙ ap (λ xs. xs ++ l) (r.parts ∙ ap (λ xs. r.out ++ xs) r.ends.0)
            ∙ append_assoc r.out (held_back p.printer) l
            ∙ ap (λ xs. r.out ++ xs) prints.parts ∙ sym (append_assoc r.out prints.out (held_back q.printer));
        ends = (refl, omega (arith, length-append r.out prints.out));
      }

  -- a line was lost after some of it
  pub lost_line : (start now next : Option (List ℕ)) (p : Counted A) (fault : WriteFault) (log : List Line) (i : ℕ)
      (l : List ℕ)
      → BreaksOff now next p.printer l fault.written → Printed start now (live.Prints p) log
      → Printed {A = A} start next (live.Broken fault) (log ++ (i, l) ∷ [])
  lost_line start now next p fault log i l off r =
      let count = off.count in
      let was = r.ends.1 in
      record {
        out = r.out ++ off.out;
        rest = off.rest;
        sent = Appends-trans start now next r.out off.out r.sent off.sent;
        parts = joined-snoc log i l ∙ ap (λ xs. xs ++ l) (r.parts ∙ ap (λ xs. r.out ++ xs) r.ends.0)
            ∙ append_assoc r.out (held_back p.printer) l
            ∙ ap (λ xs. r.out ++ xs) off.parts ∙ sym (append_assoc r.out off.out off.rest);
        ends = (off.short, omega (arith, length-append r.out off.out));
      }

  -- after a line that was lost the next one is lost too
  pub lost_too : (start now : Option (List ℕ)) (p : LivePrinter A) (log : List Line) (i : ℕ) (l : List ℕ)
      → IsBroken p → Printed start now p log → Printed start now p (log ++ (i, l) ∷ [])
  lost_too start now (live.Prints printer) log i l broken r = absurd broken
  lost_too start now (live.Broken fault) log i l broken r =
      let some = r.ends.0 in
      record {
        out = r.out;
        rest = r.rest ++ l;
        sent = r.sent;
        parts = joined-snoc log i l ∙ ap (λ xs. xs ++ l) r.parts ∙ append_assoc r.out r.rest l;
        ends = (omega (arith, length-append r.rest l), r.ends.1);
      }

  -- what is held back was written
  pub sent_whole : (start now next : Option (List ℕ)) (p q : Counted A) (log : List Line)
      → Prints now next p.printer q.printer [] → Printed start now (live.Prints p) log
      → Printed start next (live.Prints q) log
  sent_whole start now next p q log prints r =
      let count = prints.count in
      let was = r.ends.1 in
      record {
        out = r.out ++ prints.out;
        rest = held_back q.printer;
        sent = Appends-trans start now next r.out prints.out r.sent prints.sent;
        parts = r.parts ∙ ap (λ xs. r.out ++ xs) (r.ends.0 ∙ sym (append-nil (held_back p.printer)) ∙ prints.parts)
            ∙ sym (append_assoc r.out prints.out (held_back q.printer));
        ends = (refl, omega (arith, length-append r.out prints.out));
      }

  -- or some of it was lost
  pub sent_part : (start now next : Option (List ℕ)) (p : Counted A) (fault : WriteFault) (log : List Line)
      → BreaksOff now next p.printer [] fault.written → Printed start now (live.Prints p) log
      → Printed {A = A} start next (live.Broken fault) log
  sent_part start now next p fault log off r =
      let count = off.count in
      let was = r.ends.1 in
      record {
        out = r.out ++ off.out;
        rest = off.rest;
        sent = Appends-trans start now next r.out off.out r.sent off.sent;
        parts = r.parts ∙ ap (λ xs. r.out ++ xs) (r.ends.0 ∙ sym (append-nil (held_back p.printer)) ∙ off.parts)
            ∙ sym (append_assoc r.out off.out off.rest);
        ends = (off.short, omega (arith, length-append r.out off.out));
      }

  -- all lines went out, where nothing is held back after that
  pub all_out : (start now next : Option (List ℕ)) (p q : Counted A) (log : List Line)
      → Prints now next p.printer q.printer [] × (held_back q.printer ≡ []) → Printed start now (live.Prints p) log
      → Appends start next (joined log)
  all_out start now next p q log sent r =
      let s = sent_whole start now next p q log sent.0 r in
      rw (s.parts ∙ ap (λ xs. s.out ++ xs) (s.ends.0 ∙ sent.1) ∙ append-nil s.out) s.sent

  -- a line whose bytes can't be counted is lost as a whole
  pub lost_whole : (now : Option (List ℕ)) (p : Printer A) (l : List ℕ) (written : ℕ) → written ≡ written_of p
      → 0 < length l → BreaksOff now now p l written
  lost_whole now p l written is some = record {
    out = [];
    rest = held_back p ++ l;
    sent = Appends-nil now;
    parts = refl;
    short = omega (arith, length-append (held_back p) l);
    count = omega arith;
  }

  -- what went out of a log that broke off is the front of it, and not all
  pub broken_front : (start now : Option (List ℕ)) (fault : WriteFault) (log : List Line)
      → Printed {A = A} start now (live.Broken fault) log
      → Appends start now (take fault.written (joined log)) × (fault.written < length (joined log))
  broken_front start now fault log r =
      let count = r.ends.1 in
      let some = r.ends.0 in
      let front : take fault.written (joined log) ≡ r.out = ap (λ n. take n (joined log)) count
      ∙ ap (take (length r.out)) r.parts ∙ take-append_seam r.out r.rest in
      (rw front r.sent, let n = ap length r.parts in omega (arith, length-append r.out r.rest))

  pub still_on : {W : Type 0} (w next last : W) (p q r : LivePrinter A) → StaysBroken next last q r
      → StaysBroken w next p q → StaysBroken w last p r
  still_on w next last p q r stays still broken =
      let was = still broken in
      let is = stays (subst IsBroken (sym was.1) broken) in
      (is.0 ∙ was.0, is.1 ∙ was.1)

  -- lines of one process alone
  pub adds_start : (start now : Option (List ℕ)) (p : LivePrinter A) (i : ℕ) (lines : List (List ℕ)) (log : List Line)
      → Printed start now p log → lines_of i log ≡ lines → Adds start now p i lines log
  adds_start start now p i lines log r own = record { more = log; printed = r; own = own; others = λ j n. refl }

  pub adds_line : (start now next : Option (List ℕ)) (p q : LivePrinter A) (i : ℕ) (lines : List (List ℕ)) (l : List ℕ)
      (log : List Line)
      → ((log : List Line) → Printed start now p log → Printed start next q (log ++ (i, l) ∷ []))
      → Adds start now p i lines log → Adds start next q i (lines ++ l ∷ []) log
  adds_line start now next p q i lines l log print a = record {
    more = a.more ++ (i, l) ∷ [];
    printed = print a.more a.printed;
    own = lines_of-own i a.more l ∙ ap (λ r. r ++ l ∷ []) a.own;
    others = λ j n. lines_of-other i j a.more l n ∙ a.others j n;
  }

  -- what is held back was written
  pub adds_flushed : (start now next : Option (List ℕ)) (p q : LivePrinter A) (i : ℕ) (lines : List (List ℕ))
      (log : List Line)
      → ((log : List Line) → Printed start now p log → Printed start next q log)
      → Adds start now p i lines log → Adds start next q i lines log
  adds_flushed start now next p q i lines log flushed a = record {
    more = a.more;
    printed = flushed a.more a.printed;
    own = a.own;
    others = a.others;
  }

  pub adds_report : (start now next : Option (List ℕ)) (p q : LivePrinter A) (i : ℕ) (x : Report) (xs ys : List Report)
      (log : List Line)
      → ys ≡ xs ++ x ∷ []
      → ((log : List Line) → Printed start now p log → Printed start next q (log ++ (i, report_line i x) ∷ []))
      → Adds start now p i (report_lines i xs) log → Adds start next q i (report_lines i ys) log
  adds_report start now next p q i x xs ys log more print a =
      rw (more, report_lines-append i xs (x ∷ []))
      (adds_line start now next p q i (report_lines i xs) (report_line i x) log print a)

-- the lines of one more of some reports, after other lines
pub rest_further : (i k : ℕ) (d : Report) (lines : List (List ℕ)) (xs : List Report) → k < length xs
    → lines ++ report_lines i (take (k + 1) xs) ≡ (lines ++ report_lines i (take k xs)) ++ report_line i (get_or xs k d)
    ∷ []
rest_further i k d lines xs low =
    ap (λ rs. lines ++ report_lines i rs) (take_more xs k d low)
    ∙ ap (λ ls. lines ++ ls) (report_lines-append i (take k xs) (get_or xs k d ∷ []))
    ∙ sym (append_assoc lines (report_lines i (take k xs)) (report_line i (get_or xs k d) ∷ []))
