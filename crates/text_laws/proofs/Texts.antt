-- Where two texts are equal that are made of lines, the lines say the same.
use Rattle.std.proofs.Common.{◌≡◌, ℕ, ◌+◌, ◌^◌, ◌<◌, ◌≤◌, List, [], ◌∷◌, ◌++◌, length, get_or, map, flat_map}
use Rattle.std.proofs.Common.{refl, sym, ap, ◌∙◌, append_assoc, arith}
use Rattle.std.specs.List.{AllByRecursion}
use Rattle.std.proofs.lemmas.List.Elements.{recursion_from_All}
use Rattle.std.proofs.lemmas.Bool.{eqb-false}
use Rattle.asan_check.specs.declared.report.Report.{Report}
use Rattle.asan_check.specs.declared.ending.Ending.{Ending}
use Rattle.asan_check.specs.Lines.{end_line, report_line, text_of}
use Rattle.asan_stream.specs.declared.outcome.Outcome.{Outcome}
use Rattle.asan_stream.specs.Outcomes.{ending_of, reports_of}
use Rattle.asan_senders.specs.Texts.{texts_from}
use Rattle.text_laws.specs.Numbers.{EndingFits, OutcomeFits, ReportFits}
use Rattle.text_laws.specs.declared.line.Line.{Line}
use Rattle.text_laws.specs.declared.line.Line.TheVariants as line
use Rattle.text_laws.specs.Texts.{LineFits, line_of, text_of_lines}
use Rattle.text_laws.proofs.Lines.{ends_read, report_is_no_end, reports_read}

-- no text of lines is empty
nothing : {X : Type 0} (x : List ℕ) → get_or x 0 0 ≡ 112 → [] ≡ x → X
nothing x is e = absurd (eqb-false 0 112 refl (ap (λ (t : List ℕ). get_or t 0 0) e ∙ is))

begins : (l : Line) (x : List ℕ) → get_or (line_of l ++ x) 0 0 ≡ 112
begins (line.Report process report) x = refl
begins (line.End process ending) x = refl

lines_end : (l m : Line) (x y : List ℕ) → LineFits l → LineFits m → line_of l ++ x ≡ line_of m ++ y → (l ≡ m) × (x ≡ y)
lines_end (line.Report p r) (line.Report q s) x y fits fits_too e =
    let read = reports_read p q r s x y fits.0 fits_too.0 fits.1 fits_too.1 e in
    (λ i. line.Report (read.0 i) (read.1 i), read.2)
lines_end (line.End p e) (line.End q f) x y fits fits_too is =
    let read = ends_read p q e f x y fits.0 fits_too.0 fits.1 fits_too.1 is in
    (λ i. line.End (read.0 i) (read.1 i), read.2)
lines_end (line.Report p r) (line.End q f) x y fits fits_too e =
    absurd (report_is_no_end p q r f x y fits.0 fits_too.0 e)
lines_end (line.End p e) (line.Report q s) x y fits fits_too is =
    absurd (report_is_no_end q p s e y x fits_too.0 fits.0 (sym is))

pub lines_read : (ls ms : List Line) → AllByRecursion LineFits ls → AllByRecursion LineFits ms
    → text_of_lines ls ≡ text_of_lines ms → ls ≡ ms
lines_read [] [] fit fit_too e = refl
lines_read [] (m ∷ ms) fit fit_too e = nothing _ (begins m (text_of_lines ms)) e
lines_read (l ∷ ls) [] fit fit_too e = nothing _ (begins l (text_of_lines ls)) (sym e)
lines_read (l ∷ ls) (m ∷ ms) fit fit_too e =
    let read = lines_end l m _ _ fit.0 fit_too.0 e in
    let rest = lines_read ls ms fit.1 fit_too.1 read.1 in
    λ i. read.0 i ∷ rest i

-- the text of a process, and what follows it
one_report : (p : ℕ) (r : Report) (rs : List Report) (e : Ending) (x : List ℕ)
    → text_of p (r ∷ rs) e ++ x ≡ report_line p r ++ (text_of p rs e ++ x)
one_report p r rs e x =
    ap (λ t. t ++ x) (append_assoc (report_line p r) (flat_map (report_line p) rs) (end_line p e))
    ∙ append_assoc (report_line p r) (text_of p rs e) x

texts_end : (p : ℕ) (rs ss : List Report) (e f : Ending) (x y : List ℕ) → p < 2 ^ 64
    → AllByRecursion ReportFits rs → AllByRecursion ReportFits ss → EndingFits e → EndingFits f
    → text_of p rs e ++ x ≡ text_of p ss f ++ y → (rs ≡ ss) × (e ≡ f) × (x ≡ y)
texts_end p [] [] e f x y small fit fit_too fits fits_too is =
    let read = ends_read p p e f x y small small fits fits_too is in (refl, read.1, read.2)
texts_end p [] (s ∷ ss) e f x y small fit fit_too fits fits_too is =
    absurd (report_is_no_end p p s e _ x small small (sym (one_report p s ss f y) ∙ sym is))
texts_end p (r ∷ rs) [] e f x y small fit fit_too fits fits_too is =
    absurd (report_is_no_end p p r f _ y small small (sym (one_report p r rs e x) ∙ is))
texts_end p (r ∷ rs) (s ∷ ss) e f x y small fit fit_too fits fits_too is =
    let read = reports_read p p r s _ _ small small fit.0 fit_too.0
    (sym (one_report p r rs e x) ∙ is ∙ one_report p s ss f y) in
    let rest = texts_end p rs ss e f x y small fit.1 fit_too.1 fits fits_too read.2 in
    (λ i. read.1 i ∷ rest.0 i, rest.1, rest.2)

text_begins : (p : ℕ) (rs : List Report) (e : Ending) (x : List ℕ) → get_or (text_of p rs e ++ x) 0 0 ≡ 112
text_begins p [] e x = refl
text_begins p (r ∷ rs) e x = refl

module _ {F A G B : Type 0} where
  pub outcomes_read : (p : ℕ) (outcomes : List (Outcome F A)) (others : List (Outcome G B))
      → p + length outcomes ≤ 2 ^ 64 → AllByRecursion OutcomeFits outcomes → AllByRecursion OutcomeFits others
      → texts_from p outcomes ≡ texts_from p others
      → (map ending_of outcomes ≡ map ending_of others) × (map reports_of outcomes ≡ map reports_of others)
  outcomes_read p [] [] small fit fit_too e = (refl, refl)
  outcomes_read p [] (o ∷ os) small fit fit_too e = nothing _ (text_begins p (reports_of o) (ending_of o) _) e
  outcomes_read p (o ∷ os) [] small fit fit_too e = nothing _ (text_begins p (reports_of o) (ending_of o) _) (sym e)
  outcomes_read p (one ∷ outcomes) (other ∷ others) small fit fit_too e =
      let read = texts_end p (reports_of one) (reports_of other) (ending_of one) (ending_of other) _ _ (omega arith)
      (recursion_from_All ReportFits _ fit.0.0) (recursion_from_All ReportFits _ fit_too.0.0) fit.0.1 fit_too.0.1 e in
      let rest = outcomes_read (p + 1) outcomes others (omega arith) fit.1 fit_too.1 read.2 in
      (λ i. read.1 i ∷ rest.0 i, λ i. read.0 i ∷ rest.1 i)
