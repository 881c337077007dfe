-- A few bytes say which kind a text has.
use Rattle.std.proofs.Common.{◌≡◌, ℕ, ◌+◌, ◌*◌, Bool, true, false, cond, eqb, List, ◌++◌, get_or, drop}
use Rattle.std.proofs.Common.{refl, sym, ap, ◌∙◌, append_assoc}
use Rattle.std.proofs.lemmas.Bool.{eqb-false}
use Rattle.std.proofs.lemmas.List.{append_cancel_left}
use Rattle.trace_record.specs.declared.end.Fate.{Fate}
use Rattle.trace_record.specs.declared.end.Fate.TheVariants as fate
use Rattle.trace_record.specs.declared.end.Flaw.{Flaw}
use Rattle.trace_record.specs.declared.end.Flaw.TheVariants as flaw
use Rattle.asan_check.specs.declared.report.Class.{Class}
use Rattle.asan_check.specs.declared.report.Class.TheVariants as class
use Rattle.asan_check.specs.declared.report.Fault.{Fault}
use Rattle.asan_check.specs.declared.report.Fault.TheVariants as fault
use Rattle.asan_check.specs.declared.ending.Ending.{Ending}
use Rattle.asan_check.specs.declared.ending.Ending.TheVariants as ending
use Rattle.asan_check.specs.Lines.{class_text, ending_text, fate_text, fault_text, kind_text}

byte_at : ℕ → List ℕ → ℕ
byte_at place text = get_or text place 0

-- a class, by its sixth byte
class_at : ℕ → Class
class_at byte =
    cond (eqb byte 98) class.HeapBufferOverflow (cond (eqb byte 117) class.HeapUseAfterFree (
    cond (eqb byte 102) class.UseAfterPoison (cond (eqb byte 45) class.StackBufferOverflow (
    cond (eqb byte 108) class.GlobalBufferOverflow class.UnknownCrash))))

class_read : (c : Class) (x : List ℕ) → class_at (byte_at 5 (class_text c ++ x)) ≡ c
unfolding class_at byte_at
class_read class.HeapBufferOverflow x = refl
class_read class.HeapUseAfterFree x = refl
class_read class.UseAfterPoison x = refl
class_read class.StackBufferOverflow x = refl
class_read class.GlobalBufferOverflow x = refl
class_read class.UnknownCrash x = refl

pub classes_end : (c d : Class) (x y : List ℕ) → class_text c ++ x ≡ class_text d ++ y → (c ≡ d) × (x ≡ y)
classes_end c d x y e =
    let same : c ≡ d = sym (class_read c x) ∙ ap (λ (t : List ℕ). class_at (byte_at 5 t)) e ∙ class_read d y in
    (same, append_cancel_left (class_text c) x y (e ∙ ap (λ (k : Class). class_text k ++ y) (sym same)))

-- a load and a store, by the second byte
pub kinds_end : (s t : Bool) (x y : List ℕ) → kind_text s ++ x ≡ kind_text t ++ y → (s ≡ t) × (x ≡ y)
kinds_end true true x y e = (refl, ap (drop 7) e)
kinds_end false false x y e = (refl, ap (drop 6) e)
kinds_end true false x y e = absurd (eqb-false 115 108 refl (ap (λ (t : List ℕ). get_or t 1 0) e))
kinds_end false true x y e = absurd (eqb-false 108 115 refl (ap (λ (t : List ℕ). get_or t 1 0) e))

-- what is wrong, by the second byte; the two wrong frees differ further on
sort_at : ℕ → ℕ
sort_at byte = cond (eqb byte 102) 1 (cond (eqb byte 109) 2 0)

abbrev pub sort : Fault → ℕ
sort (fault.Access is_store width at bad class shadow) = 0
sort (fault.DoubleFree at) = 1
sort (fault.BadFree at) = 1
sort (fault.BadMalloc at size) = 2

sort_read : (f : Fault) (x : List ℕ) → sort_at (byte_at 1 (fault_text f ++ x)) ≡ sort f
unfolding sort_at byte_at
sort_read (fault.Access true width at bad class shadow) x = refl
sort_read (fault.Access false width at bad class shadow) x = refl
sort_read (fault.DoubleFree at) x = refl
sort_read (fault.BadFree at) x = refl
sort_read (fault.BadMalloc at size) x = refl

pub sorts_agree : (f g : Fault) (x y : List ℕ) → fault_text f ++ x ≡ fault_text g ++ y → sort f ≡ sort g
sorts_agree f g x y e =
    sym (sort_read f x) ∙ ap (λ (t : List ℕ). sort_at (byte_at 1 t)) e ∙ sort_read g y

-- a flaw, by its first byte
flaw_at : ℕ → Flaw
flaw_at byte =
    cond (eqb byte 104) flaw.Header (cond (eqb byte 99) flaw.Code (cond (eqb byte 119) flaw.Width (
    cond (eqb byte 115) flaw.Size (cond (eqb byte 114) flaw.Range flaw.Kind))))

-- a fate, and a kind of end, by the first byte and the fifth
mark : List ℕ → ℕ
mark text = get_or text 0 0 * 256 + get_or text 4 0

fate_at : ℕ → ℕ → Fate
fate_at m byte =
    cond (eqb m (99 * 256 + 101)) fate.Closed (cond (eqb m (109 * 256 + 111)) (fate.Malformed (flaw_at byte)) (
    cond (eqb m (116 * 256 + 99)) fate.Truncated (cond (eqb m (110 * 256 + 108)) fate.NoClose (
    cond (eqb m (114 * 256 + 45)) fate.ReadFailed fate.TooMany))))

fate_read : (f : Fate) (x : List ℕ) → fate_at (mark (fate_text f ++ x)) (byte_at 10 (fate_text f ++ x)) ≡ f
unfolding fate_at flaw_at mark byte_at
fate_read fate.Closed x = refl
fate_read (fate.Malformed flaw.Header) x = refl
fate_read (fate.Malformed flaw.Code) x = refl
fate_read (fate.Malformed flaw.Width) x = refl
fate_read (fate.Malformed flaw.Size) x = refl
fate_read (fate.Malformed flaw.Range) x = refl
fate_read (fate.Malformed flaw.Kind) x = refl
fate_read fate.Truncated x = refl
fate_read fate.NoClose x = refl
fate_read fate.ReadFailed x = refl
fate_read fate.TooMany x = refl

pub fates_end : (f g : Fate) (x y : List ℕ) → fate_text f ++ x ≡ fate_text g ++ y → (f ≡ g) × (x ≡ y)
fates_end f g x y e =
    let same : f ≡ g =
    sym (fate_read f x) ∙ ap (λ (t : List ℕ). fate_at (mark t) (byte_at 10 t)) e ∙ fate_read g y in
    (same, append_cancel_left (fate_text f) x y (e ∙ ap (λ (k : Fate). fate_text k ++ y) (sym same)))

-- which kind of end it is
variant_at : ℕ → ℕ
variant_at m =
    cond (eqb m (110 * 256 + 101)) 1 (cond (eqb m (110 * 256 + 111)) 2 (
    cond (eqb m (110 * 256 + 115)) 3 (cond (eqb m (117 * 256 + 116)) 4 0)))

abbrev pub variant : Ending → ℕ
variant (ending.Ran end reports) = 0
variant (ending.NoMemory checked reports) = 1
variant ending.NotOpened = 2
variant ending.NotStarted = 3
variant ending.Unsettled = 4

ran_read : (f : Fate) (x : List ℕ) → variant_at (mark (fate_text f ++ x)) ≡ 0
unfolding variant_at mark
ran_read fate.Closed x = refl
ran_read (fate.Malformed f) x = refl
ran_read fate.Truncated x = refl
ran_read fate.NoClose x = refl
ran_read fate.ReadFailed x = refl
ran_read fate.TooMany x = refl

variant_read : (e : Ending) (x : List ℕ) → variant_at (mark (ending_text e ++ x)) ≡ variant e
unfolding variant_at mark
variant_read (ending.Ran end reports) x = simp append_assoc (ran_read end.fate _)
variant_read (ending.NoMemory checked reports) x = refl
variant_read ending.NotOpened x = refl
variant_read ending.NotStarted x = refl
variant_read ending.Unsettled x = refl

pub variants_agree : (e f : Ending) (x y : List ℕ) → ending_text e ++ x ≡ ending_text f ++ y → variant e ≡ variant f
variants_agree e f x y is =
    sym (variant_read e x) ∙ ap (λ (t : List ℕ). variant_at (mark t)) is ∙ variant_read f y
