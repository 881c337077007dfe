-- A text spells one end where no read failed, and the end of a decided text stays, whatever follows.
use Rattle.std.proofs.Common.{◌≡◌, ◌≢◌, ℕ, ◌+◌, ◌≤◌, ◌⊎◌, List, [], ◌++◌, length, Option, Some, None, refl, sym, ap}
use Rattle.std.proofs.Common.{subst, ◌∙◌, inl, inr}
use Rattle.trace_record.specs.declared.event.Event.{Event}
use Rattle.trace_record.specs.declared.end.End.{End}
use Rattle.trace_record.specs.declared.end.Fate.{Fate}
use Rattle.trace_record.specs.declared.end.Fate.TheVariants as fate
use Rattle.trace_record.specs.declared.version.Version.{Version}
use Rattle.trace_record.specs.Stream.{MayEnd, Spells, IsDecidedFate, header_and_records, offset_of, close_length}
use Rattle.trace_record.specs.Reading.{Reads}
use Rattle.trace_record.proofs.Readings.{one_reading, stands, decided_long, version_same}

-- the fate that a text is decided with, if its end is one that a byte decides
abbrev decided_fate : Fate → Option Fate
decided_fate fate.Closed = Some fate.Closed
decided_fate (fate.Malformed f) = Some (fate.Malformed f)
decided_fate fate.TooMany = Some fate.TooMany
decided_fate fate.Truncated = None
decided_fate fate.NoClose = None
decided_fate fate.ReadFailed = None

read_of : (limit : ℕ) (text : List ℕ) (events : List Event) (f : Fate) → MayEnd limit text events f
    → Reads limit text events (decided_fate f)
read_of limit text events fate.Closed may = may
read_of limit text events (fate.Malformed f) may = may
read_of limit text events fate.TooMany may = may
read_of limit text events fate.Truncated may = may.0
read_of limit text events fate.NoClose ((v, made), within) =
    ([], inr record { version = v; made = made; follows = within })
read_of limit text events fate.ReadFailed may = may

fate_decided : (f g : Fate) → decided_fate f ≡ Some g → f ≡ g
fate_decided fate.Closed g is = cc
fate_decided (fate.Malformed f) g is = cc
fate_decided fate.TooMany g is = cc
fate_decided fate.Truncated g is = absurd cc
fate_decided fate.NoClose g is = absurd cc
fate_decided fate.ReadFailed g is = absurd cc

open_fate : (f : Fate) → f ≢ fate.ReadFailed → decided_fate f ≡ None → (f ≡ fate.Truncated) ⊎ (f ≡ fate.NoClose)
open_fate fate.Closed not is = absurd cc
open_fate (fate.Malformed f) not is = absurd cc
open_fate fate.TooMany not is = absurd cc
open_fate fate.Truncated not is = inl refl
open_fate fate.NoClose not is = inr refl
open_fate fate.ReadFailed not is = absurd (not refl)

not_both : (limit : ℕ) (text : List ℕ) (events : List Event) (f g : Fate) → MayEnd limit text events f
    → MayEnd limit text events g → f ≡ fate.Truncated → g ≡ fate.NoClose → ⊥
not_both limit text events f g a b is is' =
    let cut : MayEnd limit text events fate.Truncated = subst (λ (h : Fate). MayEnd limit text events h) is a in
    let bare : MayEnd limit text events fate.NoClose = subst (λ (h : Fate). MayEnd limit text events h) is' b in
    cut.1 bare.0

same_open : (limit : ℕ) (text : List ℕ) (events : List Event) (f g : Fate) → MayEnd limit text events f
    → MayEnd limit text events g → (f ≡ fate.Truncated) ⊎ (f ≡ fate.NoClose) → (g ≡ fate.Truncated) ⊎ (g ≡ fate.NoClose)
    → f ≡ g
same_open limit text events f g a b (inl p) (inl q) = p ∙ sym q
same_open limit text events f g a b (inl p) (inr q) = absurd (not_both limit text events f g a b p q)
same_open limit text events f g a b (inr p) (inl q) = absurd (not_both limit text events g f b a q p)
same_open limit text events f g a b (inr p) (inr q) = p ∙ sym q

same_fate : (limit : ℕ) (text : List ℕ) (events : List Event) (f g : Fate) (o : Option Fate)
    → MayEnd limit text events f → MayEnd limit text events g → f ≢ fate.ReadFailed → g ≢ fate.ReadFailed
    → decided_fate f ≡ o → decided_fate g ≡ o → f ≡ g
same_fate limit text events f g (Some h) a b p q is is' = fate_decided f h is ∙ sym (fate_decided g h is')
same_fate limit text events f g None a b p q is is' =
    same_open limit text events f g a b (open_fate f p is) (open_fate g q is')

same_end : (a b : End) → a.fate ≡ b.fate → a.events ≡ b.events → a.offset ≡ b.offset → a ≡ b
same_end a b fate events offset = λ i. record { fate = fate i; events = events i; offset = offset i }

-- the end of a text that no read failed of
pub one_end : (limit : ℕ) (text : List ℕ) (es fs : List Event) (end other : End) → Spells limit text es end
    → Spells limit text fs other → end.fate ≢ fate.ReadFailed → other.fate ≢ fate.ReadFailed → (es ≡ fs) × (end ≡ other)
one_end limit text es fs end other a b p q =
    let one = one_reading limit text es fs (decided_fate end.fate) (decided_fate other.fate)
    (read_of limit text es end.fate a.fate) (read_of limit text fs other.fate b.fate) in
    let here : MayEnd limit text fs end.fate =
    subst (λ (xs : List Event). MayEnd limit text xs end.fate) one.0 a.fate in
    let fate : end.fate ≡ other.fate = same_fate limit text fs end.fate other.fate (decided_fate other.fate) here b.fate
    p q one.1 refl in
    let events : end.events ≡ other.events = a.count ∙ ap length one.0 ∙ sym b.count in
    let offset : end.offset ≡ other.offset = a.offset
    ∙ ap (λ (xs : List Event). offset_of text xs + close_length end.fate) one.0
    ∙ ap (λ (f : Fate). offset_of text fs + close_length f) fate ∙ sym b.offset in
    (one.0, same_end end other fate events offset)

may_stand : (limit : ℕ) (text more : List ℕ) (events : List Event) (f : Fate) → IsDecidedFate f
    → MayEnd limit text events f → MayEnd limit (text ++ more) events f × (8 ≤ length text)
may_stand limit text more events fate.Closed decided may =
    (stands limit text more events fate.Closed may, decided_long limit text events fate.Closed may)
may_stand limit text more events (fate.Malformed f) decided may =
    (stands limit text more events (fate.Malformed f) may, decided_long limit text events (fate.Malformed f) may)
may_stand limit text more events fate.TooMany decided may =
    (stands limit text more events fate.TooMany may, decided_long limit text events fate.TooMany may)
may_stand limit text more events fate.Truncated decided may = absurd decided
may_stand limit text more events fate.NoClose decided may = absurd decided
may_stand limit text more events fate.ReadFailed decided may = absurd decided

-- the end of a decided text
pub end_stands : (limit : ℕ) (text more : List ℕ) (events : List Event) (end : End) → Spells limit text events end
    → IsDecidedFate end.fate → Spells limit (text ++ more) events end
end_stands limit text more events end spells decided =
    let may = may_stand limit text more events end.fate decided spells.fate in
    let offset : offset_of (text ++ more) events ≡ offset_of text events =
    ap (λ (o : Option Version). header_and_records o events) (version_same text more may.1) in
    record {
      fate = may.0;
      count = spells.count;
      offset = spells.offset
          ∙ ap (λ (n : ℕ). n + close_length end.fate) (sym offset);
    }
