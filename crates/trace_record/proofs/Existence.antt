-- Bytes can always be read: a whole record says something, and a text is open or decided.
use Rattle.std.proofs.Common.{◌≡◌, ◌≢◌, ℕ, zero, suc, ◌+◌, ◌-◌, ◌^◌, ◌<◌, ◌≤◌, ◌⊎◌, List, [], ◌∷◌, ◌++◌, length, take}
use Rattle.std.proofs.Common.{drop, get_or, Option, Some, None, Result, Ok, Err, refl, sym, ap, subst, ◌∙◌, arith}
use Rattle.std.proofs.Common.{append_assoc, length-append, length-drop, inl, inr}
use Rattle.std.specs.Prelude.{slice_index}
use Rattle.std.specs.Int.{w64, to_le_bytes}
use Rattle.std.proofs.lemmas.Nat.{le_bytes_8}
use Rattle.std.proofs.lemmas.Bool.{cases_eq, cases_lt}
use Rattle.std.proofs.lemmas.Bool.Decides.{nat_tests}
use Rattle.std.proofs.lemmas.List.{take-append-drop, take_all, length-take-le, flat_map_more}
use Rattle.std.proofs.lemmas.List.Elements.{All-cons, All-head, All-tail, All-drop, All-take}
use Rattle.trace_record.specs.declared.event.Event.{Event}
use Rattle.trace_record.specs.declared.end.Fate.{Fate}
use Rattle.trace_record.specs.declared.end.Fate.TheVariants as fate
use Rattle.trace_record.specs.declared.end.Flaw.{Flaw}
use Rattle.trace_record.specs.declared.end.Flaw.TheVariants as flaw
use Rattle.trace_record.specs.declared.fields.Fields.{Fields}
use Rattle.trace_record.specs.declared.version.Version.{Version}
use Rattle.trace_record.specs.Spelling.{header, close, record_bytes, bytes_of, FitBytes, Fit, fields_of, flaw_of}
use Rattle.trace_record.specs.Spelling.{spelling, spellings, record_length, AllSpellIn}
use Rattle.trace_record.specs.Reading.{AreBytes, IsWholeRecord, Says, Reads}
use Rattle.trace_record.specs.Stream.{version_of, IsFlawedRecord}
use Rattle.trace_record.proofs.Numbers.{number, numbers_at, fields_at, same_fields}
use Rattle.trace_record.proofs.Steps.{poison_lengths, anew_lengths, header_of, begun_version, all_more, none_to_spell}
use Rattle.trace_record.proofs.Same.{event_of, event_fits, event_flawless, no_prefix}

byte_at : (xs : List ℕ) (i : ℕ) → AreBytes xs → get_or xs i 0 < 256
byte_at [] i bytes = omega arith
byte_at (x ∷ xs) zero bytes = All-head (λ b. b < 256) x xs bytes
byte_at (x ∷ xs) (suc i) bytes = byte_at xs i (All-tail (λ b. b < 256) x xs bytes)

eight : (xs : List ℕ) → 8 ≤ length xs → length (take 8 xs) ≡ 8
eight xs some = length-take-le 8 xs some

-- the number of eight bytes is spelled by them, and fits
number_back : (xs : List ℕ) → AreBytes xs → 8 ≤ length xs → to_le_bytes w64 (number xs) ≡ take 8 xs
number_back xs bytes some = le_bytes_8 (take 8 xs) (number xs) (eight xs some)
    (λ i. byte_at (take 8 xs) i (All-take (λ b. b < 256) 8 xs bytes)) refl

number_fits : (xs : List ℕ) → AreBytes xs → number xs < 2 ^ 64
number_fits xs bytes =
    let at : (i : ℕ) → get_or (take 8 xs) i 0 < 256 = λ i. byte_at (take 8 xs) i (All-take (λ b. b < 256) 8 xs bytes) in
    omega (arith, at 0, at 1, at 2, at 3, at 4, at 5, at 6, at 7)

access_back : (more : List ℕ) → AreBytes more → length more ≡ 9
    → more ≡ slice_index more 0 ∷ to_le_bytes w64 (number (drop 1 more))
access_back [] bytes len = absurd (omega arith)
access_back (width ∷ at) bytes len =
    let tail = All-tail (λ b. b < 256) width at bytes in
    ap (λ (t : List ℕ). width ∷ t) (sym (number_back at tail (omega arith) ∙ take_all 8 at (omega arith)))

region_back : (more : List ℕ) → AreBytes more → length more ≡ 16
    → more ≡ to_le_bytes w64 (number more) ++ to_le_bytes w64 (number (drop 8 more))
region_back more bytes len =
    let size = drop 8 more in
    let long : length size ≡ 8 = omega (arith, length-drop 8 more) in
    let first = number_back more bytes (omega arith) in
    let second = number_back size (All-drop (λ b. b < 256) 8 more bytes) (omega arith)
    ∙ take_all 8 size (omega arith) in
    sym (take-append-drop 8 more) ∙ ap (λ (t : List ℕ). t ++ size) (sym first)
    ∙ ap (λ (t : List ℕ). to_le_bytes w64 (number more) ++ t) (sym second)

shade_back : (more : List ℕ) → AreBytes more → length more ≡ 17
    → more ≡ slice_index more 0 ∷ to_le_bytes w64 (number (drop 1 more)) ++ to_le_bytes w64 (number (drop 9 more))
shade_back [] bytes len = absurd (omega arith)
shade_back (kind ∷ rest) bytes len = ap (λ (t : List ℕ). kind ∷ t)
    (region_back rest (All-tail (λ b. b < 256) kind rest bytes) (omega arith))

place_back : (more : List ℕ) → AreBytes more → length more ≡ 8 → more ≡ to_le_bytes w64 (number more)
place_back more bytes len = sym (number_back more bytes (omega arith) ∙ take_all 8 more (omega arith))

-- the lengths that records have
record_lengths : (v : Version) (code : ℕ) → 0 < record_length v code
    → (record_length v code ≡ 10) ⊎ ((record_length v code ≡ 17)
    ⊎ ((record_length v code ≡ 18) ⊎ ((record_length v code ≡ 9) ⊎ (record_length v code ≡ 1))))
record_lengths v code some =
    elim (cases_eq (record_length v code) 10) [
      | inl is ↦ inl is
      | inr other ↦ elim (cases_eq (record_length v code) 17) [
        | inl is ↦ inr (inl is)
        | inr more ↦ elim (cases_eq (record_length v code) 18) [
          | inl is ↦ inr (inr (inl is))
          | inr last ↦ elim (cases_eq (record_length v code) 9) [
            | inl is ↦ inr (inr (inr (inl is)))
            | inr none ↦ inr (inr (inr (inr (let poison = poison_lengths v in let anew = anew_lengths v in
                grind (arith, nat_tests)))))
          ]
        ]
      ]
    ]

-- a code and the bytes after it spell the numbers at these bytes, in a record of this length
record Spelled (code long : ℕ) (more : List ℕ) : Type 0 where
  whole : code ∷ more ≡ record_bytes code (numbers_at long more)
  long_is : length (record_bytes code (numbers_at long more)) ≡ long
  fit : FitBytes (numbers_at long more)

spelled : (code long : ℕ) (more : List ℕ) → AreBytes more → suc (length more) ≡ long
    → (long ≡ 10) ⊎ ((long ≡ 17) ⊎ ((long ≡ 18) ⊎ ((long ≡ 9) ⊎ (long ≡ 1)))) → Spelled code long more
spelled code long more bytes len (inl is) =
    subst (λ (n : ℕ). Spelled code n more) (sym is)
    record {
      whole = ap (λ (t : List ℕ). code ∷ t) (access_back more bytes (omega arith));
      long_is = refl;
      fit = (byte_at more 0 bytes, number_fits (drop 1 more) (All-drop (λ b. b < 256) 1 more bytes));
    }
spelled code long more bytes len (inr (inl is)) =
    subst (λ (n : ℕ). Spelled code n more) (sym is)
    record {
      whole = ap (λ (t : List ℕ). code ∷ t) (region_back more bytes (omega arith));
      long_is = refl;
      fit = (number_fits more bytes, number_fits (drop 8 more) (All-drop (λ b. b < 256) 8 more bytes));
    }
spelled code long more bytes len (inr (inr (inl is))) =
    subst (λ (n : ℕ). Spelled code n more) (sym is)
    record {
      whole = ap (λ (t : List ℕ). code ∷ t) (shade_back more bytes (omega arith));
      long_is = refl;
      fit = (
        byte_at more 0 bytes,
        number_fits (drop 1 more) (All-drop (λ b. b < 256) 1 more bytes),
        number_fits (drop 9 more) (All-drop (λ b. b < 256) 9 more bytes),
      );
    }
spelled code long more bytes len (inr (inr (inr (inl is)))) =
    subst (λ (n : ℕ). Spelled code n more) (sym is)
    record {
      whole = ap (λ (t : List ℕ). code ∷ t) (place_back more bytes (omega arith));
      long_is = refl;
      fit = number_fits more bytes;
    }
spelled code long [] bytes len (inr (inr (inr (inr is)))) =
    subst (λ (n : ℕ). Spelled code n []) (sym is) record { whole = refl; long_is = refl; fit = tt }
spelled code long (byte ∷ more) bytes len (inr (inr (inr (inr is)))) = absurd (omega arith)

record Back (v : Version) (part : List ℕ) : Type 0 where
  whole : part ≡ bytes_of (fields_at v part)
  fit : Fit v (fields_at v part)

-- the fields of a whole record spell it
back : (v : Version) (part : List ℕ) → IsWholeRecord v part → Back v part
back v [] whole = absurd whole
back v (code ∷ more) whole =
    let len : suc (length more) ≡ record_length v code = whole.1 in
    let s = spelled code (record_length v code) more (All-tail (λ b. b < 256) code more whole.0) len
    (record_lengths v code (omega arith)) in
    record { whole = s.whole; fit = (s.long_is, s.fit) }

said_by : (v : Version) (part : List ℕ) (o : Option Flaw) → Back v part → flaw_of v (fields_at v part).numbers ≡ o
    → (said : Result Event Flaw) × Says v part said
said_by v part None b is = let e = event_of v (fields_at v part) b.fit is in
    (Ok e.event, (e.spells, b.whole ∙ ap bytes_of (sym e.fields)))
said_by v part (Some f) b is = (Err f, (fields_at v part, record { whole = b.whole; fit = b.fit; first = is }))

-- no event is spelled as a flawed record
says_not : (v : Version) (e : Event) (part : List ℕ) (x : Fields) (f : Flaw) → Says v part (Ok e)
    → IsFlawedRecord v part f x → ⊥
says_not v e part x f is bad =
    let same : x ≡ fields_of v e = (same_fields v x (fields_of v e) [] [] bad.fit (event_fits v e is.0)
    (ap (λ (t : List ℕ). t ++ []) (sym bad.whole ∙ is.1))).0 in
    let none : flaw_of v x.numbers ≡ None = ap (λ (y : Fields). flaw_of v y.numbers) same ∙ event_flawless v e is.0 in
    let first : flaw_of v x.numbers ≡ Some f = bad.first in
    cc

-- a whole record says something
pub says : (v : Version) (part : List ℕ) → IsWholeRecord v part → (said : Result Event Flaw) × Says v part said
says v part whole = said_by v part (flaw_of v (fields_at v part).numbers) (back v part whole) refl

-- two things that a record says are one
pub says_one : (v : Version) (part : List ℕ) (said other : Result Event Flaw) → Says v part said → Says v part other
    → said ≡ other
says_one v part (Ok e) (Ok f) a b = ap Ok (no_prefix v e f [] [] a.0 b.0
    (ap (λ (t : List ℕ). t ++ []) (sym a.1 ∙ b.1))).0
says_one v part (Ok e) (Err f) a (x, bad) = absurd (says_not v e part x f a bad)
says_one v part (Err f) (Ok e) (x, bad) b = absurd (says_not v e part x f b bad)
says_one v part (Err f) (Err g) (x, a) (y, b) =
    let same : x ≡ y = (same_fields v x y [] [] a.fit b.fit (ap (λ (t : List ℕ). t ++ []) (sym a.whole ∙ b.whole))).0 in
    let first : Some f ≡ Some g = sym a.first ∙ ap (λ (z : Fields). flaw_of v z.numbers) same ∙ b.first in
    cc

-- a text begins with a whole record
record BeginsWhole (v : Version) (tail : List ℕ) : Type 0 where
  part : List ℕ
  rest : List ℕ
  same : tail ≡ part ++ rest
  whole : IsWholeRecord v part
  bytes : AreBytes rest

begins_whole : (v : Version) (code : ℕ) (more : List ℕ) → AreBytes (code ∷ more) → 0 < record_length v code
    → record_length v code ≤ length (code ∷ more) → BeginsWhole v (code ∷ more)
begins_whole v code more bytes known long =
    let n = record_length v code - 1 in
    let tail = All-tail (λ b. b < 256) code more bytes in
    let len : length (code ∷ take n more) ≡ record_length v code = let h = length-take-le n more (omega arith) in
    omega arith in
    record {
      part = code ∷ take n more;
      rest = drop n more;
      same = ap (λ (t : List ℕ). code ∷ t) (sym (take-append-drop n more));
      whole = (
        All-cons (λ b. b < 256) code (take n more) (All-head (λ b. b < 256) code more bytes)
            (All-take (λ b. b < 256) n more tail),
        len,
      );
      bytes = All-drop (λ b. b < 256) n more tail;
    }

-- a text has a reading
pub record HasReading (limit : ℕ) (text : List ℕ) : Type 0 where
  pub events : List Event
  pub end : Option Fate
  pub reads : Reads limit text events end

-- the texts of a version
module _ (v : Version) where
  regrouped : (es : List Event) (part more : List ℕ)
      → header v ++ spellings v es ++ (part ++ more) ≡ (header v ++ spellings v es ++ part) ++ more
  regrouped es part more = sym (append_assoc (header v ++ spellings v es) part more)

  nothing_here : (limit : ℕ) (es : List Event) → AllSpellIn v es → length es ≤ limit
      → HasReading limit (header v ++ spellings v es ++ [])
  nothing_here limit es all within = record {
    events = es;
    end = None;
    reads = ([], inr record { version = v; made = record { spelled = all; split = refl }; follows = within });
  }

  closed_here : (limit : ℕ) (es : List Event) (code : ℕ) (more : List ℕ) → AllSpellIn v es → length es ≤ limit
      → code ≡ close → HasReading limit (header v ++ spellings v es ++ code ∷ more)
  closed_here limit es code more all within is =
      record {
        events = es;
        end = Some fate.Closed;
        reads = (
          within,
          v,
          (
            all,
            (
              more,
              ap (λ (c : ℕ). (header v ++ spellings v es) ++ (c ∷ more)) is
                  ∙ regrouped es (close ∷ []) more,
            ),
          ),
        );
      }

  many_here : (limit : ℕ) (es : List Event) (code : ℕ) (more : List ℕ) → AllSpellIn v es → length es ≡ limit
      → code ≢ close → HasReading limit (header v ++ spellings v es ++ code ∷ more)
  many_here limit es code more all full not =
      record {
        events = es;
        end = Some fate.TooMany;
        reads = (full, code, not, v, (all, (more, regrouped es (code ∷ []) more)));
      }

  code_here : (limit : ℕ) (es : List Event) (code : ℕ) (more : List ℕ) → AllSpellIn v es → length es < limit
      → code ≢ close → record_length v code ≡ 0 → HasReading limit (header v ++ spellings v es ++ code ∷ more)
  code_here limit es code more all room not unknown =
      record {
        events = es;
        end = Some (fate.Malformed flaw.Code);
        reads = inr (
          room,
          v,
          code ∷ [],
          inl (refl, code, record { alone = refl; no_record = unknown; no_close = not }),
          (all, (more, regrouped es (code ∷ []) more)),
        );
      }

  unfinished_here : (limit : ℕ) (es : List Event) (code : ℕ) (more : List ℕ) → AllSpellIn v es → length es < limit
      → length (code ∷ more) < record_length v code → HasReading limit (header v ++ spellings v es ++ code ∷ more)
  unfinished_here limit es code more all room short =
      record {
        events = es;
        end = None;
        reads = (
          code ∷ more,
          inr record {
            version = v;
            made = record { spelled = all; split = refl };
            follows = (room, short);
          },
        );
      }

  flawed_here : (limit : ℕ) (es : List Event) (part rest tail : List ℕ) (f : Flaw) (x : Fields) → AllSpellIn v es
      → length es < limit → tail ≡ part ++ rest → IsFlawedRecord v part f x
      → HasReading limit (header v ++ spellings v es ++ tail)
  flawed_here limit es part rest tail f x all room same bad =
      record {
        events = es;
        end = Some (fate.Malformed f);
        reads = inr (
          room,
          v,
          part,
          inr (x, bad),
          (all, (rest, ap (λ (t : List ℕ). (header v ++ spellings v es) ++ t) same ∙ regrouped es part rest)),
        );
      }

  event_here : (es : List Event) (e : Event) (part rest tail : List ℕ) → tail ≡ part ++ rest → part ≡ spelling v e
      → header v ++ spellings v (es ++ e ∷ []) ++ rest ≡ header v ++ spellings v es ++ tail
  event_here es e part rest tail same is =
      ap (λ (t : List ℕ). t ++ rest) (sym (flat_map_more (spelling v) (header v) es e))
      ∙ append_assoc (header v ++ spellings v es) (spelling v e) rest
      ∙ ap (λ (t : List ℕ). (header v ++ spellings v es) ++ (t ++ rest)) (sym is)
      ∙ ap (λ (t : List ℕ). (header v ++ spellings v es) ++ t) (sym same)

  record_here : (limit : ℕ) (es : List Event) (part rest tail : List ℕ) (said : Result Event Flaw) → AllSpellIn v es
      → length es < limit → tail ≡ part ++ rest → Says v part said
      → ((e : Event) → AllSpellIn v (es ++ e ∷ []) → HasReading limit (header v ++ spellings v (es ++ e ∷ []) ++ rest))
      → HasReading limit (header v ++ spellings v es ++ tail)
  record_here limit es part rest tail (Ok e) all room same is next =
      subst (λ (t : List ℕ). HasReading limit t) (event_here es e part rest tail same is.1)
      (next e (all_more v es e all is.0))
  record_here limit es part rest tail (Err f) all room same (x, bad) next =
      flawed_here limit es part rest tail f x all room same bad

  -- a text whose first events are these has a reading
  read_tail : (fuel limit : ℕ) (es : List Event) (tail : List ℕ) → AllSpellIn v es → length es + fuel ≡ limit
      → AreBytes tail → HasReading limit (header v ++ spellings v es ++ tail)
  read_tail fuel limit es [] all room bytes = nothing_here limit es all (omega arith)
  read_tail zero limit es (code ∷ more) all room bytes =
      elim (cases_eq code close) [
        | inl is ↦ closed_here limit es code more all (omega arith) is
        | inr not ↦ many_here limit es code more all (omega arith) not
      ]
  read_tail (suc fuel) limit es (code ∷ more) all room bytes =
      elim (cases_eq code close) [
        | inl is ↦ closed_here limit es code more all (omega arith) is
        | inr not ↦ elim (cases_lt 0 (record_length v code)) [
          | inr unknown ↦ code_here limit es code more all (omega arith) not (omega arith)
          | inl known ↦ elim (cases_lt (length (code ∷ more)) (record_length v code)) [
            | inl short ↦ unfinished_here limit es code more all (omega arith) short
            | inr long ↦
                let b = begins_whole v code more bytes known long in
                let s = says v b.part b.whole in
                record_here limit es b.part b.rest (code ∷ more) s.0 all (omega arith) b.same s.1
                (λ e more_spell. read_tail fuel limit (es ++ e ∷ []) b.rest more_spell
                (omega (arith, length-append es (e ∷ []))) b.bytes)
          ]
        ]
      ]

-- the text has a version, or its first bytes are no header
header_or_not : (text : List ℕ) (o : Option Version) → version_of text ≡ o
    → ((v : Version) × (take 8 text ≡ header v)) ⊎ ((v : Version) → take 8 text ≢ header v)
header_or_not text (Some v) is = inl (v, header_of text v is)
header_or_not text None is = inr (λ v e. absurd (let some = begun_version text v e in cc))

-- every text has a reading
pub reading : (limit : ℕ) (text : List ℕ) → AreBytes text → HasReading limit text
reading limit text bytes =
    elim (cases_lt (length text) 8) [
      | inl short ↦ record {
        events = [];
        end = None;
        reads = (text, inl record { short = short; none = refl; rest_is = refl });
      }
      | inr long ↦ elim (header_or_not text (version_of text) refl) [
        | inl (v, is) ↦ subst (λ (t : List ℕ). HasReading limit t) (ap (λ (t : List ℕ). t ++ drop 8 text) (sym is)
            ∙ take-append-drop 8 text) (read_tail v limit limit [] (drop 8 text) (none_to_spell v) (omega arith)
            (All-drop (λ b. b < 256) 8 text bytes))
        | inr other ↦ record {
          events = [];
          end = Some (fate.Malformed flaw.Header);
          reads = inl (refl, record { long = long; other = other; none = refl });
        }
      ]
    ]
