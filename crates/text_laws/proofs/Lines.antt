-- Where two texts are equal that begin with a line each, the lines say the same, and what follows them is equal.
use Rattle.std.proofs.Common.{◌≡◌, ◌≢◌, ℕ, ◌^◌, ◌<◌, ◌≤◌, Bool, true, false, List, ◌∷◌, ◌++◌}
use Rattle.std.proofs.Common.{codes, get_or, drop, decimal}
use Rattle.std.proofs.Common.{refl, sym, ap, ◌∙◌, append_assoc, arith}
use Rattle.std.proofs.lemmas.Bool.{eqb-false}
use Rattle.trace_record.specs.declared.end.End.{End}
use Rattle.asan_check.specs.declared.report.Class.{Class}
use Rattle.asan_check.specs.declared.report.Fault.{Fault}
use Rattle.asan_check.specs.declared.report.Fault.TheVariants as fault
use Rattle.asan_check.specs.declared.report.Report.{Report}
use Rattle.asan_check.specs.declared.ending.Ending.{Ending}
use Rattle.asan_check.specs.declared.ending.Ending.TheVariants as ending
use Rattle.asan_check.specs.Lines.{address_text, class_text, end_line, ending_text, fate_text, fault_text, kind_text}
use Rattle.asan_check.specs.Lines.{report_line, shadow_text}
use Rattle.text_laws.specs.Numbers.{EndingFits, FaultFits, ReportFits}
use Rattle.text_laws.proofs.Words.{decimals_end, hex_texts_end}
use Rattle.text_laws.proofs.Marks.{classes_end, fates_end, kinds_end, sort, sorts_agree, variant, variants_agree}

-- where a space ends a word, and where the line's end does
space : 32 ≤ 32
space = omega arith

feed : 10 ≤ 32
feed = omega arith

-- the texts of faults, with what follows each of their parts
access_parts : (s : Bool) (width at bad : ℕ) (class : Class) (shadow : ℕ) (x : List ℕ)
    → fault_text (fault.Access s width at bad class shadow) ++ 10 ∷ x
    ≡ kind_text s ++ (decimal width ++ 32 ∷ (codes "at " ++ (address_text at ++ 32 ∷ (codes "bad "
    ++ (address_text bad ++ 32 ∷ (class_text class ++ (codes " shadow " ++ (shadow_text shadow ++ 10 ∷ x))))))))
access_parts s width at bad class shadow x = simp append_assoc

double_free_parts : (at : ℕ) (x : List ℕ) → fault_text (fault.DoubleFree at) ++ 10 ∷ x
    ≡ codes " free at " ++ (address_text at ++ 32 ∷ (codes "double-free" ++ 10 ∷ x))
double_free_parts at x = simp append_assoc

bad_free_parts : (at : ℕ) (x : List ℕ) → fault_text (fault.BadFree at) ++ 10 ∷ x
    ≡ codes " free at " ++ (address_text at ++ 32 ∷ (codes "bad-free" ++ 10 ∷ x))
bad_free_parts at x = simp append_assoc

regroup : (a b c d e x : List ℕ) → ((((a ++ b) ++ c) ++ d) ++ e) ++ x ≡ a ++ (b ++ (c ++ (d ++ (e ++ x))))
regroup a b c d e x = simp append_assoc

bad_malloc_parts : (at size : ℕ) (x : List ℕ) → fault_text (fault.BadMalloc at size) ++ 10 ∷ x
    ≡ codes " malloc " ++ (decimal size ++ 32 ∷ (codes "at " ++ (address_text at ++ 32 ∷ (
    codes "bad-malloc" ++ 10 ∷ x))))
bad_malloc_parts at size x =
    regroup (codes " malloc ") (decimal size) (codes " at ") (address_text at) (codes " bad-malloc") (10 ∷ x)

accesses_end : (s t : Bool) (v w a b c d : ℕ) (one other : Class) (g h : ℕ) (x y : List ℕ)
    → FaultFits (fault.Access s v a c one g) → FaultFits (fault.Access t w b d other h)
    → fault_text (fault.Access s v a c one g) ++ 10 ∷ x ≡ fault_text (fault.Access t w b d other h) ++ 10 ∷ y
    → (fault.Access s v a c one g ≡ fault.Access t w b d other h) × (x ≡ y)
accesses_end s t v w a b c d one other g h x y fits fits_too e =
    let whole = sym (access_parts s v a c one g x) ∙ e ∙ access_parts t w b d other h y in
    let kind = kinds_end s t _ _ whole in
    let width = decimals_end 32 space v w _ _ fits.0 fits_too.0 kind.1 in
    let at = hex_texts_end 32 space 12 a b _ _ fits.1 fits_too.1 (ap (drop 3) width.1) in
    let bad = hex_texts_end 32 space 12 c d _ _ fits.2 fits_too.2 (ap (drop 4) at.1) in
    let class = classes_end one other _ _ bad.1 in
    let shadow = hex_texts_end 10 feed 2 g h _ _ fits.3 fits_too.3 (ap (drop 8) class.1) in
    (cc (kind.0, width.0, at.0, bad.0, class.0, shadow.0), shadow.1)

frees_end : (a b : ℕ) (x y : List ℕ) → a < 2 ^ 64 → b < 2 ^ 64
    → codes " free at " ++ (address_text a ++ 32 ∷ x) ≡ codes " free at " ++ (address_text b ++ 32 ∷ y)
    → (a ≡ b) × (x ≡ y)
frees_end a b x y fits fits_too e = hex_texts_end 32 space 12 a b x y fits fits_too (ap (drop 9) e)

pub faults_end : (f g : Fault) (x y : List ℕ) → FaultFits f → FaultFits g
    → fault_text f ++ 10 ∷ x ≡ fault_text g ++ 10 ∷ y → (f ≡ g) × (x ≡ y)
faults_end (fault.Access s v a c one g) (fault.Access t w b d other h) x y fits fits_too e =
    accesses_end s t v w a b c d one other g h x y fits fits_too e
faults_end (fault.DoubleFree a) (fault.DoubleFree b) x y fits fits_too e =
    let at = frees_end a b _ _ fits fits_too (sym (double_free_parts a x) ∙ e ∙ double_free_parts b y) in
    (ap fault.DoubleFree at.0, ap (drop 12) at.1)
faults_end (fault.BadFree a) (fault.BadFree b) x y fits fits_too e =
    let at = frees_end a b _ _ fits fits_too (sym (bad_free_parts a x) ∙ e ∙ bad_free_parts b y) in
    (ap fault.BadFree at.0, ap (drop 9) at.1)
faults_end (fault.DoubleFree a) (fault.BadFree b) x y fits fits_too e =
    let at = frees_end a b _ _ fits fits_too (sym (double_free_parts a x) ∙ e ∙ bad_free_parts b y) in
    absurd (eqb-false 100 98 refl (ap (λ (t : List ℕ). get_or t 0 0) at.1))
faults_end (fault.BadFree a) (fault.DoubleFree b) x y fits fits_too e =
    let at = frees_end a b _ _ fits fits_too (sym (bad_free_parts a x) ∙ e ∙ double_free_parts b y) in
    absurd (eqb-false 98 100 refl (ap (λ (t : List ℕ). get_or t 0 0) at.1))
faults_end (fault.BadMalloc a m) (fault.BadMalloc b n) x y fits fits_too e =
    let whole = sym (bad_malloc_parts a m x) ∙ e ∙ bad_malloc_parts b n y in
    let size = decimals_end 32 space m n _ _ fits.1 fits_too.1 (ap (drop 8) whole) in
    let at = hex_texts_end 32 space 12 a b _ _ fits.0 fits_too.0 (ap (drop 3) size.1) in
    (cc (size.0, at.0), ap (drop 11) at.1)
faults_end f g x y fits fits_too e =
    let k : sort f ≡ sort g = sorts_agree f g (10 ∷ x) (10 ∷ y) e in
    absurd (omega arith)

-- the texts of ends, in the same way
ran_parts : (end : End) (reports : ℕ) (x : List ℕ)
    → ending_text (ending.Ran end reports) ++ 10 ∷ x
    ≡ fate_text end.fate ++ (codes " events " ++ (decimal end.events ++ 32 ∷ (codes "offset "
    ++ (decimal end.offset ++ 32 ∷ (codes "reports " ++ (decimal reports ++ 10 ∷ x))))))
ran_parts end reports x = simp append_assoc

no_memory_parts : (checked reports : ℕ) (x : List ℕ)
    → ending_text (ending.NoMemory checked reports) ++ 10 ∷ x
    ≡ codes "no-memory checked " ++ (decimal checked ++ 32 ∷ (codes "reports " ++ (decimal reports ++ 10 ∷ x)))
no_memory_parts checked reports x = simp append_assoc

runs_end : (one other : End) (m n : ℕ) (x y : List ℕ)
    → EndingFits (ending.Ran one m) → EndingFits (ending.Ran other n)
    → ending_text (ending.Ran one m) ++ 10 ∷ x ≡ ending_text (ending.Ran other n) ++ 10 ∷ y
    → (ending.Ran one m ≡ ending.Ran other n) × (x ≡ y)
runs_end one other m n x y fits fits_too e =
    let whole = sym (ran_parts one m x) ∙ e ∙ ran_parts other n y in
    let fate = fates_end one.fate other.fate _ _ whole in
    let events = decimals_end 32 space one.events other.events _ _ fits.0 fits_too.0 (ap (drop 8) fate.1) in
    let offset = decimals_end 32 space one.offset other.offset _ _ fits.1 fits_too.1 (ap (drop 7) events.1) in
    let reports = decimals_end 10 feed m n _ _ fits.2 fits_too.2 (ap (drop 8) offset.1) in
    let end : one ≡ other = λ i. record { fate = fate.0 i; events = events.0 i; offset = offset.0 i } in
    (cc (end, reports.0), reports.1)

pub endings_end : (e f : Ending) (x y : List ℕ) → EndingFits e → EndingFits f
    → ending_text e ++ 10 ∷ x ≡ ending_text f ++ 10 ∷ y → (e ≡ f) × (x ≡ y)
endings_end (ending.Ran one m) (ending.Ran other n) x y fits fits_too e = runs_end one other m n x y fits fits_too e
endings_end (ending.NoMemory c m) (ending.NoMemory d n) x y fits fits_too e =
    let whole = sym (no_memory_parts c m x) ∙ e ∙ no_memory_parts d n y in
    let checked = decimals_end 32 space c d _ _ fits.0 fits_too.0 (ap (drop 18) whole) in
    let reports = decimals_end 10 feed m n _ _ fits.1 fits_too.1 (ap (drop 8) checked.1) in
    (cc (checked.0, reports.0), reports.1)
endings_end ending.NotOpened ending.NotOpened x y fits fits_too e = (refl, ap (drop 11) e)
endings_end ending.NotStarted ending.NotStarted x y fits fits_too e = (refl, ap (drop 12) e)
endings_end ending.Unsettled ending.Unsettled x y fits fits_too e = (refl, ap (drop 10) e)
endings_end f g x y fits fits_too e =
    let k : variant f ≡ variant g = variants_agree f g (10 ∷ x) (10 ∷ y) e in absurd (omega arith)

-- lines
report_parts : (process : ℕ) (report : Report) (x : List ℕ)
    → report_line process report ++ x
    ≡ 112 ∷ (decimal process ++ 32 ∷ (35 ∷ (decimal report.number ++ (fault_text report.fault ++ 10 ∷ x))))
report_parts process report x = simp append_assoc

end_parts : (process : ℕ) (end : Ending) (x : List ℕ)
    → end_line process end ++ x ≡ 112 ∷ (decimal process ++ 32 ∷ (codes "end " ++ (ending_text end ++ 10 ∷ x)))
end_parts process end x = simp append_assoc

-- the number of an event is followed by a space
numbers_end : (m n : ℕ) (f g : Fault) (x y : List ℕ) → m < 2 ^ 64 → n < 2 ^ 64
    → decimal m ++ (fault_text f ++ x) ≡ decimal n ++ (fault_text g ++ y)
    → (m ≡ n) × (fault_text f ++ x ≡ fault_text g ++ y)
numbers_end m n f g x y fits fits_too e =
    let ends = decimals_end 32 space m n _ _ fits fits_too
    (rw (space_first f x, space_first g y) at e) in
    (ends.0, space_first f x ∙ ap (λ (t : List ℕ). 32 ∷ t) ends.1 ∙ sym (space_first g y))
  where
    space_first : (f : Fault) (x : List ℕ) → fault_text f ++ x ≡ 32 ∷ drop 1 (fault_text f ++ x)
    space_first (fault.Access true width at bad class shadow) x = refl
    space_first (fault.Access false width at bad class shadow) x = refl
    space_first (fault.DoubleFree at) x = refl
    space_first (fault.BadFree at) x = refl
    space_first (fault.BadMalloc at size) x = refl

pub reports_read : (process other : ℕ) (report that : Report) (x y : List ℕ) → process < 2 ^ 64 → other < 2 ^ 64
    → ReportFits report → ReportFits that → report_line process report ++ x ≡ report_line other that ++ y
    → (process ≡ other) × (report ≡ that) × (x ≡ y)
reports_read process other report that x y small small_too fits fits_too e =
    let whole = sym (report_parts process report x) ∙ e ∙ report_parts other that y in
    let processes = decimals_end 32 space process other _ _ small small_too (ap (drop 1) whole) in
    let number = numbers_end report.number that.number report.fault that.fault _ _ fits.0 fits_too.0
    (ap (drop 1) processes.1) in
    let faults = faults_end report.fault that.fault x y fits.1 fits_too.1 number.1 in
    (processes.0, λ i. record { number = number.0 i; fault = faults.0 i }, faults.1)

pub ends_read : (process other : ℕ) (end that : Ending) (x y : List ℕ) → process < 2 ^ 64 → other < 2 ^ 64
    → EndingFits end → EndingFits that → end_line process end ++ x ≡ end_line other that ++ y
    → (process ≡ other) × (end ≡ that) × (x ≡ y)
ends_read process other end that x y small small_too fits fits_too e =
    let whole = sym (end_parts process end x) ∙ e ∙ end_parts other that y in
    let processes = decimals_end 32 space process other _ _ small small_too (ap (drop 1) whole) in
    let ends = endings_end end that x y fits fits_too (ap (drop 4) processes.1) in
    (processes.0, ends.0, ends.1)

pub report_is_no_end : (process other : ℕ) (report : Report) (end : Ending) (x y : List ℕ) → process < 2 ^ 64
    → other < 2 ^ 64 → report_line process report ++ x ≢ end_line other end ++ y
report_is_no_end process other report end x y small small_too e =
    let whole = sym (report_parts process report x) ∙ e ∙ end_parts other end y in
    let processes = decimals_end 32 space process other _ _ small small_too (ap (drop 1) whole) in
    eqb-false 35 101 refl (ap (λ (t : List ℕ). get_or t 0 0) processes.1)
