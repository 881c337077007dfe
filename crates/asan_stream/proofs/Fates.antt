-- What fates say of failed reads and of bytes to come, and how a piece is cut where it was used.
use Rattle.std.proofs.Common.{◌≡◌, ℕ, List, ◌++◌, take, drop, refl, sym, ap, subst, ◌∙◌, inl, inr, append_assoc}
use Rattle.std.specs.Prelude.{◌⊎◌}
use Rattle.std.proofs.lemmas.List.{take-append-drop}
use Rattle.trace_record.specs.declared.end.Fate.{Fate}
use Rattle.trace_record.specs.declared.end.Fate.TheVariants as fate
use Rattle.trace_record.specs.Stream.{IsDecidedFate}
use Rattle.asan_stream.specs.Outcomes.{SaysNoMore, faults_of}

pub undecided : (f : Fate) → (f ≡ fate.Truncated) ⊎ (f ≡ fate.NoClose) → IsDecidedFate f → ⊥
undecided f (inl is) d = subst IsDecidedFate is d
undecided f (inr is) d = subst IsDecidedFate is d

pub no_faults : (f : Fate) → (f ≡ fate.Truncated) ⊎ (f ≡ fate.NoClose) → faults_of f ≡ 0
no_faults f (inl is) = ap faults_of is
no_faults f (inr is) = ap faults_of is

pub decided_no_faults : (f : Fate) → IsDecidedFate f → faults_of f ≡ 0
decided_no_faults fate.Closed d = refl
decided_no_faults (fate.Malformed f) d = refl
decided_no_faults fate.TooMany d = refl
decided_no_faults fate.Truncated d = absurd d
decided_no_faults fate.NoClose d = absurd d
decided_no_faults fate.ReadFailed d = absurd d

pub decided_more_may_come : (f : Fate) → IsDecidedFate f → SaysNoMore f → ⊥
decided_more_may_come fate.Closed d s = s
decided_more_may_come (fate.Malformed f) d s = s
decided_more_may_come fate.TooMany d s = s
decided_more_may_come fate.Truncated d s = d
decided_more_may_come fate.NoClose d s = d
decided_more_may_come fate.ReadFailed d s = s

-- a text and a piece, cut where the piece was used
pub split_piece : (text piece : List ℕ) (used : ℕ) → text ++ piece ≡ (text ++ take used piece) ++ drop used piece
split_piece text piece used = ap (λ p. text ++ p) (sym (take-append-drop used piece))
    ∙ sym (append_assoc text (take used piece) (drop used piece))
