-- How long an open text can be.
use Rattle.std.proofs.Common.{◌≡◌, ℕ, ◌+◌, ◌*◌, ◌<◌, ◌≤◌, List, [], ◌∷◌, ◌++◌, length, Some, ap, subst, inl, inr, arith}
use Rattle.std.proofs.Common.{length-append}
use Rattle.trace_record.specs.declared.event.Event.{Event}
use Rattle.trace_record.specs.declared.event.Event.TheVariants as event
use Rattle.trace_record.specs.declared.version.Version.{Version}
use Rattle.trace_record.specs.declared.version.Version.TheVariants as version
use Rattle.trace_record.specs.declared.fields.Fields.{Fields}
use Rattle.trace_record.specs.declared.fields.Numbers.{Numbers}
use Rattle.trace_record.specs.declared.fields.Numbers.TheVariants as numbers
use Rattle.trace_record.specs.Spelling.{header, record_bytes, bytes_of, fields_of, spelling, spellings, poison_length}
use Rattle.trace_record.specs.Spelling.{record_length}
use Rattle.trace_record.specs.Stream.{version_of, IsMadeOf, IsOpenWith, MayFollow}
use Rattle.trace_record.proofs.Steps.{poison_lengths, record_length-within, made_version}

spelling_short : (v : Version) (e : Event) → length (spelling v e) ≤ poison_length v
spelling_short v (event.Load a) = let most = poison_lengths v in omega arith
spelling_short v (event.Store a) = let most = poison_lengths v in omega arith
spelling_short v (event.Malloc r) = let most = poison_lengths v in omega arith
spelling_short v (event.Free p) = let most = poison_lengths v in omega arith
spelling_short version.One (event.Poison s) = omega arith
spelling_short version.Two (event.Poison s) = omega arith
spelling_short version.Three (event.Poison s) = omega arith
spelling_short v (event.Unpoison r) = let most = poison_lengths v in omega arith
spelling_short v event.Anew = let most = poison_lengths v in omega arith

numbers_some : (code : ℕ) (x : Numbers) → 0 < length (record_bytes code x)
numbers_some code (numbers.Access width at) = omega arith
numbers_some code (numbers.Region at size) = omega arith
numbers_some code (numbers.Shade kind at size) = omega arith
numbers_some code (numbers.Place at) = omega arith
numbers_some code numbers.Absent = omega arith

-- a spelling has some bytes, and no more than 18
fields_some : (x : Fields) → 0 < length (bytes_of x)
fields_some x = numbers_some x.code x.numbers

pub spelling_some : (v : Version) (e : Event) → 0 < length (spelling v e)
spelling_some v e = fields_some (fields_of v e)

pub spelling_small : (v : Version) (e : Event) → length (spelling v e) ≤ 18
spelling_small v e = let most = poison_lengths v in let short = spelling_short v e in omega arith

spellings_short : (v : Version) (es : List Event) → length (spellings v es) ≤ poison_length v * length es
spellings_short version.One [] = omega arith
spellings_short version.Two [] = omega arith
spellings_short version.Three [] = omega arith
spellings_short version.One (e ∷ es) = let one = spelling_short version.One e in
    let rest = spellings_short version.One es in
    omega (arith, length-append (spelling version.One e) (spellings version.One es))
spellings_short version.Two (e ∷ es) = let one = spelling_short version.Two e in
    let rest = spellings_short version.Two es in
    omega (arith, length-append (spelling version.Two e) (spellings version.Two es))
spellings_short version.Three (e ∷ es) = let one = spelling_short version.Three e in
    let rest = spellings_short version.Three es in
    omega (arith, length-append (spelling version.Three e) (spellings version.Three es))

rest_short : (v : Version) (limit n : ℕ) (rest : List ℕ) → MayFollow v limit n rest
    → poison_length v * n + length rest ≤ poison_length v * limit
rest_short version.One limit n [] f = omega arith
rest_short version.Two limit n [] f = omega arith
rest_short version.Three limit n [] f = omega arith
rest_short version.One limit n (code ∷ more) f =
    let room : n < limit = f.0 in
    let short : length (code ∷ more) < record_length version.One code = f.1 in
    let most = record_length-within version.One code in
    omega arith
rest_short version.Two limit n (code ∷ more) f =
    let room : n < limit = f.0 in
    let short : length (code ∷ more) < record_length version.Two code = f.1 in
    let most = record_length-within version.Two code in
    omega arith
rest_short version.Three limit n (code ∷ more) f =
    let room : n < limit = f.0 in
    let short : length (code ∷ more) < record_length version.Three code = f.1 in
    let most = record_length-within version.Three code in
    omega arith

-- an open text of a version is no longer than the header and the longest records that its limit allows
made_short : (v : Version) (limit : ℕ) (text : List ℕ) (events : List Event) (rest : List ℕ)
    → IsMadeOf v text events rest → MayFollow v limit (length events) rest → length text ≤ poison_length v * limit + 8
made_short v limit text events rest made follows =
    let e = ap length made.split in
    let most = rest_short v limit (length events) rest follows in
    let few = spellings_short v events in
    omega (arith, length-append (header v ++ spellings v events) rest, length-append (header v) (spellings v events))

longest : (v : Version) (limit n : ℕ) → n ≤ poison_length v * limit + 8 → n ≤ 18 * limit + 8
longest version.One limit n short = omega arith
longest version.Two limit n short = short
longest version.Three limit n short = short

-- an open text of any version
pub open_short : (limit : ℕ) (text : List ℕ) (events : List Event) (rest : List ℕ) → IsOpenWith limit text events rest
    → length text ≤ 18 * limit + 8
open_short limit text events rest (inl h) = let lt = h.short in omega arith
open_short limit text events rest (inr r) =
    longest r.version limit (length text) (made_short r.version limit text events rest r.made r.follows)

-- an open text of version 1
pub open_short_1 : (limit : ℕ) (text : List ℕ) (events : List Event) (rest : List ℕ)
    → version_of text ≡ Some version.One → IsOpenWith limit text events rest → length text ≤ 17 * limit + 8
open_short_1 limit text events rest one (inl h) = let lt = h.short in omega arith
open_short_1 limit text events rest one (inr r) =
    let found : version_of text ≡ Some r.version = made_version r.version text events rest r.made in
    let same : r.version ≡ version.One = (cc) in
    subst (λ (v : Version). length text ≤ poison_length v * limit + 8) same
    (made_short r.version limit text events rest r.made r.follows)
