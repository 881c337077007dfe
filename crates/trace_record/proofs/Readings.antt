-- A text is read in one way, and a longer text is read the same as far as the shorter one.
use Rattle.std.proofs.Common.{◌≡◌, ◌≢◌, ℕ, ◌+◌, ◌<◌, ◌≤◌, ◌⊎◌, List, [], ◌∷◌, ◌++◌, length, take, Option, Some, None}
use Rattle.std.proofs.Common.{refl, sym, ap, subst, ◌∙◌, arith, append_assoc, length-append, inl, inr, eqb}
use Rattle.std.specs.Prelude.{IsTrue, nat_lt, ◌==◌, if◌then◌else◌, option_map}
use Rattle.std.proofs.lemmas.Bool.Decides.{nat_tests}
use Rattle.std.proofs.lemmas.List.{append_cancel_left, append-nil, take-append-le}
use Rattle.std.proofs.lemmas.List.Elements.{All-head, All-tail}
use lib.Pointwise.{pointwise}
use Rattle.trace_record.specs.declared.event.Event.{Event}
use Rattle.trace_record.specs.declared.end.Fate.{Fate}
use Rattle.trace_record.specs.declared.end.Fate.TheVariants as fate
use Rattle.trace_record.specs.declared.end.Flaw.{Flaw}
use Rattle.trace_record.specs.declared.end.Flaw.TheVariants as flaw
use Rattle.trace_record.specs.declared.fields.Fields.{Fields}
use Rattle.trace_record.specs.declared.fields.Numbers.{Numbers}
use Rattle.trace_record.specs.declared.fields.Numbers.TheVariants as numbers
use Rattle.trace_record.specs.declared.version.Version.{Version}
use Rattle.trace_record.specs.declared.version.Version.TheVariants as version
use Rattle.trace_record.specs.Spelling.{header, close, record_bytes, bytes_of, Fit, fields_of, flaw_of, spelling}
use Rattle.trace_record.specs.Spelling.{spellings, spells_in, AllSpellIn, record_length}
use Rattle.trace_record.specs.Stream.{version_of, IsMadeOf, IsDecided, MayFollow, BeginsWith, HasAfter}
use Rattle.trace_record.specs.Reading.{Reads}
use Rattle.trace_record.proofs.Numbers.{fields_at, fields_at-bytes_of, same_fields}
use Rattle.trace_record.proofs.Same.{no_prefix, event_fits, event_flawless}
use Rattle.trace_record.proofs.Steps.{header_of, made_version, made_long}

-- no event that spells in the version stands here
abbrev pub NoEvent : Version → List ℕ → Type 0
NoEvent v tail = (e : Event) (more : List ℕ) → IsTrue (spells_in v e) → tail ≢ spelling v e ++ more

-- the fate that what follows the events decides
abbrev fate_at : Version → ℕ → ℕ → List ℕ → Option Fate
fate_at v limit count [] = None
fate_at v limit count (code ∷ more) =
    if code == close then Some fate.Closed
    else (if count == limit then Some fate.TooMany
    else (if record_length v code == 0 then Some (fate.Malformed flaw.Code)
    else (if nat_lt (length (code ∷ more)) (record_length v code) then None
    else option_map (λ f. fate.Malformed f) (flaw_of v (fields_at v (code ∷ more)).numbers))))

-- the text is the header, these events and this tail, which decides the fate
record IsSplit (limit : ℕ) (v : Version) (text : List ℕ) (events : List Event) (tail : List ℕ) (end : Option Fate) :
    Type 0 where
  made : IsMadeOf v text events tail
  within : length events ≤ limit
  stuck : length events < limit → NoEvent v tail
  fate_is : end ≡ fate_at v limit (length events) tail

-- the text has no header: it is too short for one, or it begins in another way
record IsShort (text : List ℕ) (events : List Event) (end : Option Fate) : Type 0 where
  short : length text < 8
  none : events ≡ []
  fate_is : end ≡ None

record IsOther (text : List ℕ) (events : List Event) (end : Option Fate) : Type 0 where
  long : 8 ≤ length text
  other : (v : Version) → take 8 text ≢ header v
  none : events ≡ []
  fate_is : end ≡ Some (fate.Malformed flaw.Header)

-- a whole record has the length of its code
abbrev IsLong : Version → List ℕ → Type 0
IsLong v [] = ⊥
IsLong v (code ∷ more) = (0 < record_length v code) × (record_length v code ≤ length (code ∷ more))

code_long : (v : Version) (code : ℕ) (x : Numbers) (more : List ℕ) → length (record_bytes code x) ≡ record_length v code
    → IsLong v (record_bytes code x ++ more)
code_long v code (numbers.Access width at) more long = (omega arith, omega arith)
code_long v code (numbers.Region at size) more long = (omega arith, omega arith)
code_long v code (numbers.Shade kind at size) more long = (omega arith, omega arith)
code_long v code (numbers.Place at) more long = (omega arith, omega arith)
code_long v code numbers.Absent more long = (omega arith, omega arith)

smaller : {A : Type 0} (have wanted : ℕ) (y z : A) → have < wanted → (if nat_lt have wanted then y else z) ≡ y
smaller have wanted y z lt = grind (arith, nat_tests)

not_smaller : {A : Type 0} (have wanted : ℕ) (y z : A) → wanted ≤ have → (if nat_lt have wanted then y else z) ≡ z
not_smaller have wanted y z le = grind (arith, nat_tests)

-- after fewer events than the limit, a code that is no close and stands for a record
settled : {A : Type 0} (code count limit wanted have : ℕ) (v w x y z : A) → code ≢ 7 → count ≢ limit → wanted ≢ 0
    → (if code == 7 then v else (if count == limit then w else
    (if wanted == 0 then x else (if nat_lt have wanted then y else z)))) ≡ (if nat_lt have wanted then y else z)
settled code count limit wanted have v w x y z other room known = grind (arith, nat_tests)

pub within_of : (v : Version) (limit count : ℕ) (tail : List ℕ) → MayFollow v limit count tail → count ≤ limit
within_of v limit count [] may = may
within_of v limit count (code ∷ more) may = let room : count < limit = may.0 in omega arith

no_code_fate : {A : Type 0} (wanted code count limit : ℕ) (v w x y : A) → code ≢ 7 → count ≢ limit → wanted ≡ 0
    → x ≡ (if code == 7 then v else (if count == limit then w else (if wanted == 0 then x else y)))
no_code_fate wanted code count limit v w x y other room unknown = grind (arith, nat_tests)

full_fate : {A : Type 0} (code count limit : ℕ) (v w x : A) → code ≢ 7 → count ≡ limit
    → w ≡ (if code == 7 then v else (if count == limit then w else x))
full_fate code count limit v w x other full = grind (arith, nat_tests)

-- the first of some events, and the others
head_spells : (v : Version) (e : Event) (es : List Event) → AllSpellIn v (e ∷ es) → IsTrue (spells_in v e)
head_spells v e es all = All-head (λ f. IsTrue (spells_in v f)) e es all

tail_spells : (v : Version) (e : Event) (es : List Event) → AllSpellIn v (e ∷ es) → AllSpellIn v es
tail_spells v e es all = All-tail (λ f. IsTrue (spells_in v f)) e es all

no_more : (xs ys : List Event) → length ys ≡ 0 → xs ++ ys ≡ xs
no_more xs [] none = append-nil xs
no_more xs (y ∷ ys) none = absurd (omega arith)

-- the texts of a version
module _ (v : Version) where
  spelled_long : (x : Fields) (more : List ℕ) → Fit v x → IsLong v (bytes_of x ++ more)
  spelled_long x more fit = code_long v x.code x.numbers more fit.0

  long_of : (tail : List ℕ) (e : Event) (more : List ℕ) → IsTrue (spells_in v e) → tail ≡ spelling v e ++ more
      → IsLong v tail
  long_of tail e more spells is =
      subst (IsLong v) (sym is) (spelled_long (fields_of v e) more (event_fits v e spells))

  no_record : (code : ℕ) (more : List ℕ) → record_length v code ≡ 0 → NoEvent v (code ∷ more)
  no_record code more zero e rest spells is = absurd (let h = long_of (code ∷ more) e rest spells is in omega arith)

  nothing_follows : (limit count : ℕ) (tail : List ℕ) → MayFollow v limit count tail → NoEvent v tail
  nothing_follows limit count [] may e more spells is = absurd (long_of [] e more spells is)
  nothing_follows limit count (code ∷ rest) may e more spells is =
      absurd (let short : length (code ∷ rest) < record_length v code = may.1 in
      let h = long_of (code ∷ rest) e more spells is in omega arith)

  not_close : (code : ℕ) → 0 < record_length v code → code ≢ 7
  not_close code some is = absurd (let zero : record_length v code ≡ 0 = ap (record_length v) is in omega arith)

  open_fate : (limit count : ℕ) (tail : List ℕ) → MayFollow v limit count tail → None ≡ fate_at v limit count tail
  open_fate limit count [] may = refl
  open_fate limit count (code ∷ more) may =
      let room : count < limit = may.0 in
      let short : length (code ∷ more) < record_length v code = may.1 in
      sym (settled code count limit (record_length v code) (length (code ∷ more)) _ _ _ _ _
      (not_close code (omega arith)) (omega arith) (omega arith) ∙ smaller _ _ _ _ short)

  long_fate : (limit count : ℕ) (tail : List ℕ) → count < limit → IsLong v tail
      → option_map (λ f. fate.Malformed f) (flaw_of v (fields_at v tail).numbers) ≡ fate_at v limit count tail
  long_fate limit count [] room long = absurd long
  long_fate limit count (code ∷ more) room long =
      let some : 0 < record_length v code = long.0 in
      sym (settled code count limit (record_length v code) (length (code ∷ more)) _ _ _ _ _ (not_close code some)
      (omega arith) (omega arith) ∙ not_smaller _ _ _ _ long.1)

  record_fate : (limit count : ℕ) (x : Fields) (more : List ℕ) → count < limit → Fit v x
      → option_map (λ f. fate.Malformed f) (flaw_of v x.numbers) ≡ fate_at v limit count (bytes_of x ++ more)
  record_fate limit count x more room fit =
      ap (λ (y : Fields). option_map (λ f. fate.Malformed f) (flaw_of v y.numbers))
      (sym (fields_at-bytes_of v x more fit))
      ∙ long_fate limit count (bytes_of x ++ more) room (spelled_long x more fit)

  code_fate : (limit count code : ℕ) (more : List ℕ) → count < limit → code ≢ 7 → record_length v code ≡ 0
      → Some (fate.Malformed flaw.Code) ≡ fate_at v limit count (code ∷ more)
  code_fate limit count code more room other unknown =
      no_code_fate (record_length v code) code count limit _ _ _ _ other (omega arith) unknown

  many_fate : (limit count byte : ℕ) (more : List ℕ) → count ≡ limit → byte ≢ 7
      → Some fate.TooMany ≡ fate_at v limit count (byte ∷ more)
  many_fate limit count byte more full other = full_fate byte count limit _ _ _ other full

  -- a flawed record is no event
  flawed_no_event : (x : Fields) (more : List ℕ) (f : Flaw) → Fit v x → flaw_of v x.numbers ≡ Some f
      → NoEvent v (bytes_of x ++ more)
  flawed_no_event x more f fit first e rest spells is =
      let same : x ≡ fields_of v e = (same_fields v x (fields_of v e) more rest fit (event_fits v e spells)
      is).0 in
      let none : flaw_of v x.numbers ≡ None = ap (λ (y : Fields). flaw_of v y.numbers) same
      ∙ event_flawless v e spells in
      cc

  -- where events can be read from two lists of bytes that are one, those of the list that is read to its end are more
  front : (limit k : ℕ) (es fs : List Event) (r s : List ℕ) → AllSpellIn v es → AllSpellIn v fs → k + length es ≤ limit
      → (k + length fs < limit → NoEvent v s) → spellings v es ++ r ≡ spellings v fs ++ s
      → (later : List Event) × (fs ≡ es ++ later) × (r ≡ spellings v later ++ s)
  front limit k [] fs r s ae af within stuck is = (fs, refl, is)
  front limit k (x ∷ es) [] r s ae af within stuck is =
      absurd (stuck (omega arith) x (spellings v es ++ r) (head_spells v x es ae) (sym is
      ∙ append_assoc (spelling v x) (spellings v es) r))
  front limit k (x ∷ es) (f ∷ fs) r s ae af within stuck is =
      let first = no_prefix v x f (spellings v es ++ r) (spellings v fs ++ s) (head_spells v x es ae)
      (head_spells v f fs af) (sym (append_assoc (spelling v x) (spellings v es) r) ∙ is
      ∙ append_assoc (spelling v f) (spellings v fs) s) in
      let rest = front limit (k + 1) es fs r s (tail_spells v x es ae) (tail_spells v f fs af) (omega arith)
      (λ lt. stuck (omega arith)) first.1 in
      (rest.0, cc (first.0, rest.1), rest.2)

  split_at : (limit : ℕ) (text : List ℕ) (events : List Event) (part more tail : List ℕ) → AllSpellIn v events
      → text ≡ (header v ++ spellings v events ++ part) ++ more → part ++ more ≡ tail → IsMadeOf v text events tail
  split_at limit text events part more tail all is same =
      record {
        spelled = all;
        split = is ∙ append_assoc (header v ++ spellings v events) part more
            ∙ ap (λ (t : List ℕ). (header v ++ spellings v events) ++ t) same;
      }

  tails : (text : List ℕ) (es fs : List Event) (r s : List ℕ) → IsMadeOf v text es r → IsMadeOf v text fs s
      → spellings v es ++ r ≡ spellings v fs ++ s
  tails text es fs r s a b = append_cancel_left (header v) _ _ (sym (append_assoc (header v) (spellings v es) r)
      ∙ sym a.split ∙ b.split ∙ append_assoc (header v) (spellings v fs) s)

  -- the events of a text are the first events of a longer one
  first_split : (limit : ℕ) (text more : List ℕ) (es fs : List Event) (r s : List ℕ) (end end' : Option Fate)
      → IsSplit limit v text es r end → IsSplit limit v (text ++ more) fs s end'
      → (later : List Event) × (fs ≡ es ++ later)
  first_split limit text more es fs r s end end' a b =
      let longer : IsMadeOf v (text ++ more) es (r ++ more) =
      record {
        spelled = a.made.spelled;
        split = ap (λ (t : List ℕ). t ++ more) a.made.split
            ∙ append_assoc (header v ++ spellings v es) r more;
      } in
      let found = front limit 0 es fs (r ++ more) s a.made.spelled b.made.spelled (let n = a.within in
      omega arith) (λ lt. b.stuck (omega arith)) (tails (text ++ more) es fs (r ++ more) s longer b.made) in
      (found.0, found.1)

  same_split : (limit : ℕ) (text : List ℕ) (es fs : List Event) (r s : List ℕ) (end end' : Option Fate)
      → IsSplit limit v text es r end → IsSplit limit v text fs s end' → (es ≡ fs) × (end ≡ end')
  same_split limit text es fs r s end end' a b =
      let here : spellings v es ++ r ≡ spellings v fs ++ s = tails text es fs r s a.made b.made in
      let there = front limit 0 es fs r s a.made.spelled b.made.spelled (let n = a.within in
      omega arith) (λ lt. b.stuck (omega arith)) here in
      let back = front limit 0 fs es s r b.made.spelled a.made.spelled (let n = b.within in
      omega arith) (λ lt. a.stuck (omega arith)) (sym here) in
      let none : length there.0 ≡ 0 = let e = ap length there.1 in let f = ap length back.1 in
      omega (arith, length-append es there.0, length-append fs back.0) in
      let events : es ≡ fs = sym (no_more es there.0 none) ∙ sym there.1 in
      let rests : r ≡ s = append_cancel_left (spellings v fs) r s
      (sym (ap (λ (xs : List Event). spellings v xs ++ r) events) ∙ here) in
      (events, a.fate_is ∙ cc (events, rests) ∙ sym b.fate_is)

-- each reading of a text has one of these three forms
abbrev Form : ℕ → List ℕ → List Event → Option Fate → Type 0
Form limit text events end = IsShort text events end
    ⊎ (IsOther text events end ⊎ ((v : Version) × (tail : List ℕ) × IsSplit limit v text events tail end))

form_of : (limit : ℕ) (text : List ℕ) (events : List Event) (end : Option Fate) → Reads limit text events end
    → Form limit text events end
form_of limit text events None (rest, inl h) = inl record { short = h.short; none = h.none; fate_is = refl }
form_of limit text events None (rest, inr r) =
    inr (inr (
      r.version,
      rest,
      record {
        made = r.made;
        within = within_of r.version limit (length events) rest r.follows;
        stuck = λ _. nothing_follows r.version limit (length events) rest r.follows;
        fate_is = open_fate r.version limit (length events) rest r.follows;
      },
    ))
form_of limit text events (Some fate.Closed) (within, v, (all, (more, is))) =
    inr (inr (
      v,
      7 ∷ more,
      record {
        made = split_at v limit text events (7 ∷ []) more (7 ∷ more) all is refl;
        within = within;
        stuck = λ _. no_record v 7 more refl;
        fate_is = refl;
      },
    ))
form_of limit text events (Some (fate.Malformed f)) (inl (is, bad)) =
    inr (inl record {
      long = bad.long;
      other = bad.other;
      none = bad.none;
      fate_is = ap (λ g. Some (fate.Malformed g)) is;
    })
form_of limit text events (Some (fate.Malformed f)) (inr (room, v, part, inl (is, byte, bad), (all, (more, split)))) =
    inr (inr (
      v,
      byte ∷ more,
      record {
        made =
            split_at v limit text events part more (byte ∷ more) all split (ap (λ (p : List ℕ). p ++ more) bad.alone);
        within = omega arith;
        stuck = λ _. no_record v byte more bad.no_record;
        fate_is = ap (λ g. Some (fate.Malformed g)) is
            ∙ code_fate v limit (length events) byte more room bad.no_close bad.no_record;
      },
    ))
form_of limit text events (Some (fate.Malformed f)) (inr (room, v, part, inr (x, bad), (all, (more, split)))) =
    inr (inr (
      v,
      bytes_of x ++ more,
      record {
        made =
            split_at v limit text events part more (bytes_of x ++ more) all split
            (ap (λ (p : List ℕ). p ++ more) bad.whole);
        within = omega arith;
        stuck = λ _. flawed_no_event v x more f bad.fit bad.first;
        fate_is = ap (option_map (λ g. fate.Malformed g)) (sym bad.first)
            ∙ record_fate v limit (length events) x more room bad.fit;
      },
    ))
form_of limit text events (Some fate.TooMany) (full, byte, other, v, (all, (more, is))) =
    inr (inr (
      v,
      byte ∷ more,
      record {
        made = split_at v limit text events (byte ∷ []) more (byte ∷ more) all is refl;
        within = omega arith;
        stuck = λ room. absurd (omega arith);
        fate_is = many_fate v limit (length events) byte more full other;
      },
    ))
form_of limit text events (Some fate.Truncated) reads = absurd reads
form_of limit text events (Some fate.NoClose) reads = absurd reads
form_of limit text events (Some fate.ReadFailed) reads = absurd reads

split_long : (limit : ℕ) (v : Version) (text : List ℕ) (events : List Event) (tail : List ℕ) (end : Option Fate)
    → IsSplit limit v text events tail end → 8 ≤ length text
split_long limit v text events tail end s = made_long v text events tail s.made

-- the version that the first eight bytes stand for, or none
abbrev version_by_front : List ℕ → Option Version
version_by_front front = if pointwise eqb (header version.One) front then Some version.One else
    (if pointwise eqb (header version.Two) front then Some version.Two else
    (if pointwise eqb (header version.Three) front then Some version.Three else None))

-- the version of a text is that of each longer one
pub version_same : (text more : List ℕ) → 8 ≤ length text → version_of (text ++ more) ≡ version_of text
version_same text more long = ap version_by_front (take-append-le 8 text more long)

version_stays : (text more : List ℕ) (v : Version) → 8 ≤ length text → version_of text ≡ Some v
    → version_of (text ++ more) ≡ Some v
version_stays text more v long is = version_same text more long ∙ is

one_version : (text more : List ℕ) (v w : Version) (es fs : List Event) (r s : List ℕ) → IsMadeOf v text es r
    → IsMadeOf w (text ++ more) fs s → w ≡ v
one_version text more v w es fs r s a b =
    let here : version_of (text ++ more) ≡ Some v =
    version_stays text more v (made_long v text es r a) (made_version v text es r a) in
    let there : version_of (text ++ more) ≡ Some w = made_version w (text ++ more) fs s b in
    cc

first_events : (limit : ℕ) (text more : List ℕ) (es fs : List Event) (end end' : Option Fate) → Form limit text es end
    → Form limit (text ++ more) fs end' → (later : List Event) × (fs ≡ es ++ later)
first_events limit text more es fs end end' (inl a) _ = (fs, rw (a.none) refl)
first_events limit text more es fs end end' (inr (inl a)) _ = (fs, rw (a.none) refl)
first_events limit text more es fs end end' (inr (inr (v, r, a))) (inl b) =
    absurd (let n = split_long limit v text es r end a in let m = b.short in omega (arith, length-append text more))
first_events limit text more es fs end end' (inr (inr (v, r, a))) (inr (inl b)) =
    absurd (b.other v (take-append-le 8 text more (split_long limit v text es r end a)
    ∙ header_of text v (made_version v text es r a.made)))
first_events limit text more es fs end end' (inr (inr (v, r, a))) (inr (inr (w, s, b))) =
    first_split v limit text more es fs r s end end' a
    (subst (λ (u : Version). IsSplit limit u (text ++ more) fs s end')
    (one_version text more v w es fs r s a.made b.made) b)

one_form : (limit : ℕ) (text : List ℕ) (es fs : List Event) (end end' : Option Fate) → Form limit text es end
    → Form limit text fs end' → (es ≡ fs) × (end ≡ end')
one_form limit text es fs end end' (inl a) (inl b) = (a.none ∙ sym b.none, a.fate_is ∙ sym b.fate_is)
one_form limit text es fs end end' (inl a) (inr (inl b)) = absurd (let m = a.short in let n = b.long in omega arith)
one_form limit text es fs end end' (inl a) (inr (inr (w, s, b))) =
    absurd (let m = a.short in let n = split_long limit w text fs s end' b in omega arith)
one_form limit text es fs end end' (inr (inl a)) (inl b) = absurd (let m = b.short in let n = a.long in omega arith)
one_form limit text es fs end end' (inr (inl a)) (inr (inl b)) = (a.none ∙ sym b.none, a.fate_is ∙ sym b.fate_is)
one_form limit text es fs end end' (inr (inl a)) (inr (inr (w, s, b))) =
    absurd (a.other w (header_of text w (made_version w text fs s b.made)))
one_form limit text es fs end end' (inr (inr (v, r, a))) (inl b) =
    absurd (let m = b.short in let n = split_long limit v text es r end a in omega arith)
one_form limit text es fs end end' (inr (inr (v, r, a))) (inr (inl b)) =
    absurd (b.other v (header_of text v (made_version v text es r a.made)))
one_form limit text es fs end end' (inr (inr (v, r, a))) (inr (inr (w, s, b))) =
    let here : version_of text ≡ Some v = made_version v text es r a.made in
    let there : version_of text ≡ Some w = made_version w text fs s b.made in
    let same : w ≡ v = (cc) in
    same_split v limit text es fs r s end end' a (subst (λ (u : Version). IsSplit limit u text fs s end') same b)

-- two readings of a text are one
pub one_reading : (limit : ℕ) (text : List ℕ) (es fs : List Event) (end end' : Option Fate) → Reads limit text es end
    → Reads limit text fs end' → (es ≡ fs) × (end ≡ end')
one_reading limit text es fs end end' a b =
    one_form limit text es fs end end' (form_of limit text es end a) (form_of limit text fs end' b)

-- a longer text begins with the same events
pub same_first : (limit : ℕ) (text more : List ℕ) (es fs : List Event) (end end' : Option Fate)
    → Reads limit text es end → Reads limit (text ++ more) fs end' → (later : List Event) × (fs ≡ es ++ later)
same_first limit text more es fs end end' a b =
    first_events limit text more es fs end end' (form_of limit text es end a) (form_of limit (text ++ more) fs end' b)

begins : (front text more : List ℕ) → BeginsWith front text → BeginsWith front (text ++ more)
begins front text more (rest, is) = (rest ++ more, ap (λ (t : List ℕ). t ++ more) is ∙ append_assoc front rest more)

has_after : (v : Version) (text more : List ℕ) (events : List Event) (part : List ℕ) → HasAfter v text events part
    → HasAfter v (text ++ more) events part
has_after v text more events part (all, front) = (all, begins (header v ++ spellings v events ++ part) text more front)

-- what is decided stays so, whatever follows
pub stands : (limit : ℕ) (text more : List ℕ) (events : List Event) (fate : Fate) → IsDecided limit text events fate
    → IsDecided limit (text ++ more) events fate
stands limit text more events fate.Closed (within, v, after) =
    (within, v, has_after v text more events (close ∷ []) after)
stands limit text more events (fate.Malformed f) (inl (is, bad)) =
    inl (
      is,
      record {
        long = let n = bad.long in omega (arith, length-append text more);
        other = λ v e. bad.other v (sym (take-append-le 8 text more bad.long) ∙ e);
        none = bad.none;
      },
    )
stands limit text more events (fate.Malformed f) (inr (room, v, part, flawed, after)) =
    inr (room, v, part, flawed, has_after v text more events part after)
stands limit text more events fate.TooMany (full, byte, other, v, after) =
    (full, byte, other, v, has_after v text more events (byte ∷ []) after)
stands limit text more events fate.Truncated decided = absurd decided
stands limit text more events fate.NoClose decided = absurd decided
stands limit text more events fate.ReadFailed decided = absurd decided

form_long : (limit : ℕ) (text : List ℕ) (events : List Event) (fate : Fate) → Form limit text events (Some fate)
    → 8 ≤ length text
form_long limit text events fate (inl a) = absurd (let e = a.fate_is in cc)
form_long limit text events fate (inr (inl b)) = b.long
form_long limit text events fate (inr (inr (v, tail, s))) = split_long limit v text events tail (Some fate) s

-- a decided text has at least as many bytes as the header
pub decided_long : (limit : ℕ) (text : List ℕ) (events : List Event) (fate : Fate) → IsDecided limit text events fate
    → 8 ≤ length text
decided_long limit text events fate decided =
    form_long limit text events fate (form_of limit text events (Some fate) decided)
