-- Traces of several histories.
use Rattle.std.proofs.Common.{◌≡◌, ℕ, ◌+◌, List, [], ◌∷◌, ◌++◌, length, map, Option, Some, None, refl, sym, ap, ◌∙◌}
use Rattle.std.proofs.Common.{arith, append_assoc, length-append}
use Rattle.std.specs.Prelude.{option_to_list}
use Rattle.std.specs.List.{flat_map}
use Rattle.std.specs.Option.{option_map}
use Rattle.std.proofs.lemmas.List.{append-nil, map-append}
use Rattle.trace_record.specs.declared.event.Event.{Event}
use Rattle.trace_record.specs.declared.event.Event.TheVariants as event
use Rattle.asan_check.specs.declared.report.Fault.{Fault}
use Rattle.asan_check.specs.declared.report.Report.{Report}
use Rattle.asan_check.specs.Verdicts.{fault_of, verdict, verdicts_of}
use Rattle.asan_check.specs.Traces.{since_anew}
use Rattle.asan_check.specs.Traces as trace
use Rattle.asan_laws.specs.Thinning.{faults_of}
use Rattle.asan_laws.specs.Traces.{IsOneHistory, AreHistories, with_histories, numbered_on}

-- an event is not the one at which a history begins anew
abbrev IsOther : Event → Type 0
IsOther event.Anew = ⊥
IsOther e = Unit {0}

-- one event more of a history
other : (e : Event) (past : List Event) → IsOneHistory (e ∷ past) → IsOther e
other (event.Load a) past one = tt
other (event.Store a) past one = tt
other (event.Malloc r) past one = tt
other (event.Free p) past one = tt
other (event.Poison s) past one = tt
other (event.Unpoison r) past one = tt
other event.Anew past one = absurd one

before : (e : Event) (past : List Event) → IsOneHistory (e ∷ past) → IsOneHistory past
before (event.Load a) past one = one
before (event.Store a) past one = one
before (event.Malloc r) past one = one
before (event.Free p) past one = one
before (event.Poison s) past one = one
before (event.Unpoison r) past one = one
before event.Anew past one = absurd one

since_more : (e : Event) (past : List Event) → IsOther e → since_anew (e ∷ past) ≡ e ∷ since_anew past
since_more (event.Load a) past is = refl
since_more (event.Store a) past is = refl
since_more (event.Malloc r) past is = refl
since_more (event.Free p) past is = refl
since_more (event.Poison s) past is = refl
since_more (event.Unpoison r) past is = refl
since_more event.Anew past is = absurd is

-- the history that counts, after one that never begins anew
since_whole : (past : List Event) → IsOneHistory past → since_anew past ≡ past
since_whole [] one = refl
since_whole (e ∷ past) one = since_more e past (other e past one)
    ∙ ap (λ es. e ∷ es) (since_whole past (before e past one))

-- and after one that begins anew
since_begun : (history past : List Event) → IsOneHistory history → since_anew (history ++ event.Anew ∷ past) ≡ history
since_begun [] past one = refl
since_begun (e ∷ history) past one = since_more e (history ++ event.Anew ∷ past) (other e history one)
    ∙ ap (λ es. e ∷ es) (since_begun history past (before e history one))

-- ---- one history

pub fault_whole : (bound : ℕ) (past : List Event) (e : Event) → IsOneHistory past
    → trace.fault_of bound past e ≡ fault_of bound past e
fault_whole bound past e one = ap (λ es. fault_of bound es e) (since_whole past one)

abbrev numbered : ℕ → Option Fault → List Report
numbered n o = option_to_list (option_map (λ f. record { number = n; fault = f }) o)

pub verdicts_whole : (bound : ℕ) (past : List Event) → IsOneHistory past
    → trace.verdicts_of bound past ≡ verdicts_of bound past
verdicts_whole bound [] one = refl
verdicts_whole bound (e ∷ past) one =
    ap (λ rs. rs ++ option_to_list (trace.verdict bound past e)) (verdicts_whole bound past (before e past one))
    ∙ ap (λ o. verdicts_of bound past ++ numbered (length past + 1) o) (fault_whole bound past e (before e past one))

-- ---- a history that begins anew

pub fault_begun : (bound : ℕ) (past history : List Event) (e : Event) → IsOneHistory history
    → trace.fault_of bound (history ++ event.Anew ∷ past) e ≡ fault_of bound history e
fault_begun bound past history e one = ap (λ es. fault_of bound es e) (since_begun history past one)

numbered_later : (m n k : ℕ) (o : Option Fault) → n ≡ m + k → numbered n o ≡ map (numbered_on m) (numbered k o)
numbered_later m n k None is = refl
numbered_later m n k (Some f) is = ap (λ number. record { number = number; fault = f } ∷ []) is

pub verdicts_begun : (bound : ℕ) (past history : List Event) → IsOneHistory history
    → trace.verdicts_of bound (history ++ event.Anew ∷ past)
    ≡ trace.verdicts_of bound past ++ map (numbered_on (length past + 1)) (verdicts_of bound history)
verdicts_begun bound past [] one = refl
verdicts_begun bound past (e ∷ history) one =
    let first = verdicts_of bound history in
    let on = numbered_on (length past + 1) in
    let whole = history ++ event.Anew ∷ past in
    let rest = before e history one in
    let number : length whole + 1 ≡ (length past + 1) + (length history + 1) =
    omega (arith, length-append history (event.Anew ∷ past)) in
    ap (λ rs. rs ++ option_to_list (trace.verdict bound whole e)) (verdicts_begun bound past history rest)
    ∙ ap (λ o. (trace.verdicts_of bound past ++ map on first) ++ numbered (length whole + 1) o)
    (fault_begun bound past history e rest)
    ∙ ap (λ rs. (trace.verdicts_of bound past ++ map on first) ++ rs)
    (numbered_later (length past + 1) (length whole + 1) (length history + 1) (fault_of bound history e) number)
    ∙ append_assoc (trace.verdicts_of bound past) (map on first) (map on (option_to_list (verdict bound history e)))
    ∙ ap (λ rs. trace.verdicts_of bound past ++ rs)
    (sym (map-append on first (option_to_list (verdict bound history e))))

-- ---- several histories

same_faults : (n : ℕ) (rs : List Report) → map (λ r. r.fault) (map (numbered_on n) rs) ≡ map (λ r. r.fault) rs
same_faults n [] = refl
same_faults n (r ∷ rs) = ap (λ fs. r.fault ∷ fs) (same_faults n rs)

faults_begun : (bound : ℕ) (past history : List Event) → IsOneHistory history
    → map (λ r. r.fault) (trace.verdicts_of bound (history ++ event.Anew ∷ past))
    ≡ map (λ r. r.fault) (trace.verdicts_of bound past) ++ faults_of bound history
faults_begun bound past history one =
    let on = numbered_on (length past + 1) in
    ap (map (λ r. r.fault)) (verdicts_begun bound past history one)
    ∙ map-append (λ r. r.fault) (trace.verdicts_of bound past) (map on (verdicts_of bound history))
    ∙ ap (λ fs. map (λ r. r.fault) (trace.verdicts_of bound past) ++ fs)
    (same_faults (length past + 1) (verdicts_of bound history))

pub faults_of_histories : (bound : ℕ) (past : List Event) (histories : List (List Event)) → AreHistories histories
    → map (λ r. r.fault) (trace.verdicts_of bound (with_histories past histories))
    ≡ map (λ r. r.fault) (trace.verdicts_of bound past) ++ flat_map (faults_of bound) histories
faults_of_histories bound past [] are = sym (append-nil (map (λ r. r.fault) (trace.verdicts_of bound past)))
faults_of_histories bound past (history ∷ later) are =
    faults_of_histories bound (history ++ event.Anew ∷ past) later are.1
    ∙ ap (λ fs. fs ++ flat_map (faults_of bound) later) (faults_begun bound past history are.0)
    ∙ append_assoc (map (λ r. r.fault) (trace.verdicts_of bound past)) (faults_of bound history)
    (flat_map (faults_of bound) later)
