-- Pieces that are appended to a text one after another.
use Rattle.std.proofs.Common.{◌≡◌, ℕ, ◌+◌, ◌<◌, ◌≤◌, List, ◌++◌, length, codes, OnOk, Ok, Err, true, [], take, arith}
use Rattle.std.proofs.Common.{sym, ap, ◌∙◌, append_assoc, append-nil, length-append}
use Rattle.std.specs.Prelude.{Result, OnErr, is_ok, is_err, if◌then◌else◌, String, string_bytes, string_len}
use Rattle.std.specs.Prelude.{string_capacity}
use Rattle.std.specs.declared.alloc.AllocError.{AllocError}
use Rattle.std.specs.String.Boundary.{IsSplitPoint}
use Rattle.std.proofs.lemmas.Str.{IsUtf8-string_bytes, IsCharBoundary-from_take}
use Rattle.std.proofs.Math.Seq.{take-append_seam}
use Rattle.trace_record.specs.Stream.{BeginsWith}
use Rattle.asan_check.specs.Appending.{AppendsPiece}

module _ {A : Type 0} where
  -- the length of a text that has grown by a piece
  longer : (piece : List ℕ) (old new : String A) → string_bytes new ≡ string_bytes old ++ piece
      → string_len new ≡ string_len old + length piece
  longer piece old new is =
      new.bytes.ok.0 ∙ ap length is ∙ length-append (string_bytes old) piece
      ∙ ap (λ n. n + length piece) (sym old.bytes.ok.0)

  -- two pieces, where the second call answers
  pub both : (first second : List ℕ) (old middle new : String A) (answer : Result (Unit {0}) AllocError)
      → AppendsPiece first old middle (Ok tt) → AppendsPiece second middle new answer
      → AppendsPiece (first ++ second) old new answer
  both first second old middle new (Ok u) a b = record {
    ok = b.ok ∙ ap (λ bytes. bytes ++ second) a.ok ∙ append_assoc (string_bytes old) first second;
    err = tt;
    full = tt;
    capacity = omega arith;
  }
  both first second old middle new (Err e) a b = record {
    ok = tt;
    err = (
      first ++ b.err.0,
      b.err.1 ∙ ap (λ bytes. bytes ++ b.err.0) a.ok
          ∙ append_assoc (string_bytes old) first b.err.0,
    );
    full = omega (arith, longer first old middle a.ok, length-append first second);
    capacity = omega arith;
  }

  -- one piece, as `push_str` appends it
  pub pushed : (piece : List ℕ) (old new : String A) (answer : Result (Unit {0}) AllocError)
      → string_bytes new ≡ (if is_ok answer then string_bytes old ++ piece else string_bytes old)
      → OnErr answer (string_capacity old < string_len old + length piece) → string_capacity old ≤ string_capacity new
      → AppendsPiece piece old new answer
  pushed piece old new (Ok u) bytes full capacity = record { ok = bytes; err = tt; full = tt; capacity = capacity }
  pushed piece old new (Err e) bytes full capacity =
      record { ok = tt; err = ([], bytes ∙ sym (append-nil (string_bytes old))); full = full; capacity = capacity }

  -- a text that was appended to may be cut back to what it was
  cut_back : (old new : String A) → BeginsWith (string_bytes old) (string_bytes new)
      → IsSplitPoint (string_bytes new) (string_len old)
  cut_back old new (more, is) =
      let bytes = string_bytes old in
      let front : take (string_len old) (string_bytes new) ≡ bytes =
      ap (λ n. take n (string_bytes new)) old.bytes.ok.0 ∙ ap (take (length bytes)) is ∙ take-append_seam bytes more in
      let within : string_len old ≤ length (string_bytes new) =
      omega (arith, old.bytes.ok.0, ap length is, length-append bytes more) in
      let whole = IsCharBoundary-from_take (string_bytes new) (string_len old) (IsUtf8-string_bytes new) within
      (rw front (IsUtf8-string_bytes old)) in
      (within, λ _. whole.1)

  pub may_be_cut_back : (piece : List ℕ) (old new : String A) (answer : Result (Unit {0}) AllocError)
      → AppendsPiece piece old new answer
      → is_err answer ≡ true → IsSplitPoint (string_bytes new) (string_len old)
  may_be_cut_back piece old new (Ok u) a failed = cc
  may_be_cut_back piece old new (Err e) a failed = cut_back old new a.err

-- what holds, holds on Ok
pub on_ok : {T E : Type 0} {P : Type 0} (r : Result T E) → P → OnOk r P
on_ok (Ok x) p = p
on_ok (Err e) p = tt

-- the longest end of a run
pub ran_short : (fate events offset reports : List ℕ) → length fate ≤ 16 → length events ≤ 20 → length offset ≤ 20
    → length reports ≤ 20
    → length (fate ++ codes " events " ++ events ++ codes " offset " ++ offset ++ codes " reports " ++ reports) ≤ 110
ran_short fate events offset reports a b c d =
    omega (
      arith,
      length-append (fate ++ codes " events " ++ events ++ codes " offset " ++ offset ++ codes " reports ") reports,
      length-append (fate ++ codes " events " ++ events ++ codes " offset " ++ offset) (codes " reports "),
      length-append (fate ++ codes " events " ++ events ++ codes " offset ") offset,
      length-append (fate ++ codes " events " ++ events) (codes " offset "),
      length-append (fate ++ codes " events ") events,
      length-append fate (codes " events "),
    )
