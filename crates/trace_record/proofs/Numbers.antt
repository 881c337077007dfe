-- The numbers of a record can be had back from its bytes.
use Rattle.std.proofs.Common.{◌≡◌, ℕ, List, [], ◌∷◌, ◌++◌, length, take, drop, sym, ap, ◌∙◌}
use Rattle.std.specs.Prelude.{◌==◌, if◌then◌else◌, slice_index}
use Rattle.std.specs.Int.{w64, from_le_bytes, to_le_bytes}
use Rattle.std.proofs.lemmas.Nat.{from_le_bytes-to_le_bytes_8}
use Rattle.std.proofs.lemmas.List.{append_cancel_left}
use Rattle.trace_record.specs.declared.fields.Fields.{Fields}
use Rattle.trace_record.specs.declared.fields.Numbers.{Numbers}
use Rattle.trace_record.specs.declared.fields.Numbers.TheVariants as numbers
use Rattle.trace_record.specs.declared.version.Version.{Version}
use Rattle.trace_record.specs.Spelling.{record_bytes, bytes_of, FitBytes, Fit, record_length}

-- the number that eight bytes begin with
abbrev pub number : List ℕ → ℕ
number bytes = from_le_bytes w64 (take 8 bytes)

-- the numbers after a code, in a record of this length
abbrev pub numbers_at : ℕ → List ℕ → Numbers
numbers_at long more =
    if long == 10 then numbers.Access (slice_index more 0) (number (drop 1 more))
    else (if long == 17 then numbers.Region (number more) (number (drop 8 more))
    else (if long == 18 then numbers.Shade (slice_index more 0) (number (drop 1 more)) (number (drop 9 more))
    else (if long == 9 then numbers.Place (number more) else numbers.Absent)))

-- the fields that bytes begin with, where they begin with a whole record of a version
abbrev pub fields_at : Version → List ℕ → Fields
fields_at v [] = record { code = 0; numbers = numbers.Place 0 }
fields_at v (code ∷ more) = record { code = code; numbers = numbers_at (record_length v code) more }

-- the numbers that were spelled are read back
numbers_back : (v : Version) (code : ℕ) (x : Numbers) (more : List ℕ)
    → length (record_bytes code x) ≡ record_length v code → FitBytes x
    → fields_at v (record_bytes code x ++ more) ≡ record { code = code; numbers = x }
numbers_back v code (numbers.Access width at) more long fit =
    let same : numbers_at (record_length v code) (width ∷ to_le_bytes w64 at ++ more) ≡ numbers.Access width at =
    ap (λ (n : ℕ). numbers_at n (width ∷ to_le_bytes w64 at ++ more)) (sym long)
    ∙ ap (numbers.Access width) (from_le_bytes-to_le_bytes_8 at fit.1) in
    λ i. record { code = code; numbers = same i }
numbers_back v code (numbers.Region at size) more long fit =
    let bytes = (to_le_bytes w64 at ++ to_le_bytes w64 size) ++ more in
    let read : numbers_at 17 bytes ≡ numbers.Region at size =
    cc (from_le_bytes-to_le_bytes_8 at fit.0, from_le_bytes-to_le_bytes_8 size fit.1) in
    let same : numbers_at (record_length v code) bytes ≡ numbers.Region at size =
    ap (λ (n : ℕ). numbers_at n bytes) (sym long) ∙ read in
    λ i. record { code = code; numbers = same i }
numbers_back v code (numbers.Shade kind at size) more long fit =
    let bytes = kind ∷ (to_le_bytes w64 at ++ to_le_bytes w64 size) ++ more in
    let read : numbers_at 18 bytes ≡ numbers.Shade kind at size =
    cc (from_le_bytes-to_le_bytes_8 at fit.1, from_le_bytes-to_le_bytes_8 size fit.2) in
    let same : numbers_at (record_length v code) bytes ≡ numbers.Shade kind at size =
    ap (λ (n : ℕ). numbers_at n bytes) (sym long) ∙ read in
    λ i. record { code = code; numbers = same i }
numbers_back v code (numbers.Place at) more long fit =
    let same : numbers_at (record_length v code) (to_le_bytes w64 at ++ more) ≡ numbers.Place at =
    ap (λ (n : ℕ). numbers_at n (to_le_bytes w64 at ++ more)) (sym long)
    ∙ ap numbers.Place (from_le_bytes-to_le_bytes_8 at fit) in
    λ i. record { code = code; numbers = same i }
numbers_back v code numbers.Absent more long fit =
    let same : numbers_at (record_length v code) more ≡ numbers.Absent = ap (λ (n : ℕ). numbers_at n more) (sym long) in
    λ i. record { code = code; numbers = same i }

pub fields_at-bytes_of : (v : Version) (x : Fields) (more : List ℕ) → Fit v x → fields_at v (bytes_of x ++ more) ≡ x
fields_at-bytes_of v x more fit = numbers_back v x.code x.numbers more fit.0 fit.1

-- so no record of a version begins another
pub same_fields : (v : Version) (x y : Fields) (r s : List ℕ) → Fit v x → Fit v y → bytes_of x ++ r ≡ bytes_of y ++ s
    → (x ≡ y) × (r ≡ s)
same_fields v x y r s fx fy e =
    let same : x ≡ y = sym (fields_at-bytes_of v x r fx) ∙ ap (fields_at v) e ∙ fields_at-bytes_of v y s fy in
    (same, append_cancel_left (bytes_of y) r s (sym (ap (λ (z : Fields). bytes_of z ++ r) same) ∙ e))
