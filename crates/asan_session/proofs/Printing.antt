-- What was printed, by how the writing went.
use Rattle.std.proofs.Common.{arith, ◌≡◌, ℕ, Bool, true, false, List, length, take, Option, sym, inl, inr}
use Rattle.std.specs.Prelude.{◌⊎◌, Result, Ok, Err, OnOk, IfErr, is_ok}
use Rattle.std.proofs.lemmas.Bool.{false≢true}
use Rattle.std.specs.Io.KnownBytes.{Appends, Keeps}
use Rattle.std.proofs.KnownBytes.{Appends-kept}
use Rattle.std.proofs.lemmas.List.{take_all}
use Rattle.asan_stream.specs.declared.outcome.Outcome.{Outcome}
use Rattle.asan_senders.specs.Statuses.{status_of, unwritten}
use Rattle.asan_print.specs.declared.fault.WriteFault.{WriteFault}
use Rattle.asan_print.specs.Logs.{joined}
use Rattle.asan_senders.specs.Live.{ArePrinted}
use Rattle.asan_session.specs.Printed.{HasGoneOut, IsPrintedLive}

whole_front : (text : List ℕ) → take (length text) text ≡ text
whole_front text = take_all (length text) text (omega arith)

-- what holds in any case holds where nothing failed
pub where_ok : {T E : Type 0} (r : Result T E) (P : Type 0) → P → OnOk r P
where_ok (Ok x) P p = p
where_ok (Err e) P p = tt

-- and where something failed there is nothing to show
pub where_not_ok : {T E : Type 0} (r : Result T E) (P : Type 0) → is_ok r ≡ false → OnOk r P
where_not_ok (Ok x) P failed = absurd (false≢true (sym failed))
where_not_ok (Err e) P failed = tt

module _ {F A : Type 0} where
  status_where : (outcomes : List (Outcome F A)) (wrote : Bool) (status : ℕ) → status ≡ status_of outcomes wrote
      → (status ≡ unwritten) ⊎ (status ≡ status_of outcomes true)
  status_where outcomes true status is = inr is
  status_where outcomes false status is = inl is

  -- the whole text went out, and then the writer was flushed
  pub gone_whole : (before mid after : Option (List ℕ)) (text : List ℕ) (outcomes : List (Outcome F A)) (wrote : Bool)
      (status : ℕ)
      → Keeps mid after → status ≡ status_of outcomes wrote → Appends before mid text
      → HasGoneOut before after text outcomes status
  gone_whole before mid after text outcomes wrote status kept is sent =
      let all = Appends-kept before mid after text sent kept in
      record {
        part = (length text, rw (whole_front text) all);
        whole = λ _. all;
        status_is = status_where outcomes wrote status is;
      }

  -- lines went out as reports came, and then the writer was flushed
  pub gone_live : (r : Result (Unit {0}) WriteFault) (before mid after : Option (List ℕ))
      (outcomes : List (Outcome F A)) (status : ℕ) → ArePrinted before mid outcomes r
      → OnOk r ((b : Option (List ℕ)) (text : List ℕ) → Appends b mid text → HasGoneOut b after text outcomes status)
      → IfErr r (λ e. (b : Option (List ℕ)) (text : List ℕ) → Appends b mid (take e.written text)
      → HasGoneOut b after text outcomes status)
      → IsPrintedLive before after outcomes status
  gone_live (Ok x) before mid after outcomes status printed ok fault =
      (printed.log, printed.lines, ok before (joined printed.log) printed.all)
  gone_live (Err e) before mid after outcomes status printed ok fault =
      (printed.log, printed.lines, fault before (joined printed.log) printed.part)
