-- A line has one line feed, its last byte.
use Rattle.std.proofs.Common.{◌≡◌, ◌≢◌, ℕ, ◌^◌, ◌<◌, Bool, true, false, ◌&&◌, ltb, List, [], ◌∷◌, ◌++◌, codes, decimal}
use Rattle.std.proofs.Common.{refl, arith, lt-ltb}
use Rattle.std.specs.List.{AllByRecursion}
use Rattle.std.proofs.lemmas.Bool.{and_from, and_parts, ltb-true}
use Rattle.trace_record.specs.declared.end.Fate.{Fate}
use Rattle.trace_record.specs.declared.end.Fate.TheVariants as fate
use Rattle.trace_record.specs.declared.end.Flaw.TheVariants as flaw
use Rattle.asan_check.specs.declared.report.Class.{Class}
use Rattle.asan_check.specs.declared.report.Class.TheVariants as class
use Rattle.asan_check.specs.declared.report.Fault.{Fault}
use Rattle.asan_check.specs.declared.report.Fault.TheVariants as fault
use Rattle.asan_check.specs.declared.ending.Ending.{Ending}
use Rattle.asan_check.specs.declared.ending.Ending.TheVariants as ending
use Rattle.asan_check.specs.Lines.{class_text, ending_text, fate_text, fault_text, hex_text, kind_text}
use Rattle.text_laws.specs.declared.line.Line.{Line}
use Rattle.text_laws.specs.declared.line.Line.TheVariants as line
use Rattle.text_laws.specs.Numbers.{EndingFits, FaultFits}
use Rattle.text_laws.specs.Texts.{LineFits, line_of}
use Rattle.text_laws.proofs.Words.{IsWord, IsWord-decimal, IsWord-hex}

-- whether each byte is a space, or above it
all_plain : List ℕ → Bool
all_plain [] = true
all_plain (c ∷ cs) = ltb 31 c && all_plain cs

record IsPlain (text : List ℕ) : Type 0 where
  pub all : all_plain text ≡ true

literal : (text : List ℕ) → all_plain text ≡ true → IsPlain text
literal text is = record { all = is }

and : (v w : List ℕ) → IsPlain v → IsPlain w → IsPlain (v ++ w)
unfolding all_plain
and [] w a b = b
and (c ∷ v) w a b =
    let parts = and_parts (ltb 31 c) (all_plain v) a.all in
    let rest = and v w (record { all = parts.1 }) b in
    record { all = and_from (ltb 31 c) (all_plain (v ++ w)) parts.0 rest.all }

word : (v : List ℕ) → IsWord v → IsPlain v
unfolding all_plain
word [] a = record { all = refl }
word (c ∷ v) a =
    let rest = word v a.1 in
    record { all = and_from (ltb 31 c) (all_plain v) (lt-ltb 31 c (omega (arith, a.0))) rest.all }

no_feed : (v : List ℕ) → IsPlain v → AllByRecursion (λ c. c ≢ 10) v
unfolding all_plain
no_feed [] a = tt
no_feed (c ∷ v) a =
    let parts = and_parts (ltb 31 c) (all_plain v) a.all in
    let above = ltb-true 31 c parts.0 in (λ is. omega arith, no_feed v (record { all = parts.1 }))

number : (n : ℕ) → n < 2 ^ 64 → IsPlain (decimal n)
number n fits = word _ (IsWord-decimal n fits)

hex : (width n : ℕ) → n < 2 ^ 64 → IsPlain (hex_text width n)
hex width n fits = word _ (IsWord-hex width n fits)

class_plain : (c : Class) → IsPlain (class_text c)
unfolding all_plain
class_plain class.HeapBufferOverflow = literal _ refl
class_plain class.HeapUseAfterFree = literal _ refl
class_plain class.UseAfterPoison = literal _ refl
class_plain class.StackBufferOverflow = literal _ refl
class_plain class.GlobalBufferOverflow = literal _ refl
class_plain class.UnknownCrash = literal _ refl

kind_plain : (s : Bool) → IsPlain (kind_text s)
unfolding all_plain
kind_plain true = literal _ refl
kind_plain false = literal _ refl

fault_plain : (f : Fault) → FaultFits f → IsPlain (fault_text f)
unfolding all_plain
fault_plain (fault.Access s width at bad class shadow) fits =
    let before = and _ _ (and _ _ (kind_plain s) (number width fits.0)) (literal (codes " at ") refl) in
    let within = and _ _ (and _ _ before (hex 12 at fits.1)) (literal (codes " bad ") refl) in
    let after = and _ _ (and _ _ within (hex 12 bad fits.2)) (literal (codes " ") refl) in
    and _ _ (and _ _ (and _ _ after (class_plain class)) (literal (codes " shadow ") refl)) (hex 2 shadow fits.3)
fault_plain (fault.DoubleFree at) fits =
    and _ _ (and (codes " free at ") _ (literal _ refl) (hex 12 at fits)) (literal (codes " double-free") refl)
fault_plain (fault.BadFree at) fits =
    and _ _ (and (codes " free at ") _ (literal _ refl) (hex 12 at fits)) (literal (codes " bad-free") refl)
fault_plain (fault.BadMalloc at size) fits =
    let before = and (codes " malloc ") _ (literal _ refl) (number size fits.1) in
    let within = and _ _ (and _ _ before (literal (codes " at ") refl)) (hex 12 at fits.0) in
    and _ _ within (literal (codes " bad-malloc") refl)

fate_plain : (f : Fate) → IsPlain (fate_text f)
unfolding all_plain
fate_plain fate.Closed = literal _ refl
fate_plain (fate.Malformed flaw.Header) = literal _ refl
fate_plain (fate.Malformed flaw.Code) = literal _ refl
fate_plain (fate.Malformed flaw.Width) = literal _ refl
fate_plain (fate.Malformed flaw.Size) = literal _ refl
fate_plain (fate.Malformed flaw.Range) = literal _ refl
fate_plain (fate.Malformed flaw.Kind) = literal _ refl
fate_plain fate.Truncated = literal _ refl
fate_plain fate.NoClose = literal _ refl
fate_plain fate.ReadFailed = literal _ refl
fate_plain fate.TooMany = literal _ refl

ending_plain : (e : Ending) → EndingFits e → IsPlain (ending_text e)
unfolding all_plain
ending_plain (ending.Ran end reports) fits =
    let events = and _ _ (and _ _ (fate_plain end.fate) (literal (codes " events ") refl)) (number end.events fits.0) in
    let offset = and _ _ (and _ _ events (literal (codes " offset ") refl)) (number end.offset fits.1) in
    and _ _ (and _ _ offset (literal (codes " reports ") refl)) (number reports fits.2)
ending_plain (ending.NoMemory checked reports) fits =
    let before = and (codes "no-memory checked ") _ (literal _ refl) (number checked fits.0) in
    and _ _ (and _ _ before (literal (codes " reports ") refl)) (number reports fits.1)
ending_plain ending.NotOpened fits = literal _ refl
ending_plain ending.NotStarted fits = literal _ refl
ending_plain ending.Unsettled fits = literal _ refl

-- the front of each line
process_plain : (process : ℕ) → process < 2 ^ 64 → IsPlain (codes "p" ++ decimal process)
unfolding all_plain
process_plain process fits = and (codes "p") _ (literal _ refl) (number process fits)

-- what is plain, and a line feed
ends : (line text : List ℕ) → line ≡ text ++ 10 ∷ [] → IsPlain text
    → (text : List ℕ) × (line ≡ text ++ 10 ∷ []) × AllByRecursion (λ c. c ≢ 10) text
ends line text is plain = (text, is, no_feed text plain)

pub line_feed_is_last : (l : Line) → LineFits l
    → (text : List ℕ) × (line_of l ≡ text ++ 10 ∷ []) × AllByRecursion (λ c. c ≢ 10) text
unfolding all_plain
line_feed_is_last (line.Report process report) fits =
    let before = and _ _ (process_plain process fits.0) (literal (codes " #") refl) in
    ends (line_of (line.Report process report)) _ refl
    (and _ _ (and _ _ before (number report.number fits.1.0)) (fault_plain report.fault fits.1.1))
line_feed_is_last (line.End process ending) fits =
    let before = and _ _ (process_plain process fits.0) (literal (codes " end ") refl) in
    ends (line_of (line.End process ending)) _ refl (and _ _ before (ending_plain ending fits.1))
