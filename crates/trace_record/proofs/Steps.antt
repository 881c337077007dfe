-- What a part more of a text does to where a decoder stands.
use Rattle.std.proofs.Common.{◌≡◌, ◌≢◌, ℕ, ◌+◌, ◌<◌, ◌≤◌, false, List, [], ◌∷◌, ◌++◌, length, take, drop, get_or}
use Rattle.std.proofs.Common.{Option, Some, None, Ok, refl, sym, ap, subst, ◌∙◌, inl, inr, arith, append_assoc}
use Rattle.std.proofs.Common.{length-append, eqb}
use Rattle.std.specs.Prelude.{IsTrue}
use Rattle.std.specs.List.{starts_with}
use Rattle.std.proofs.lemmas.List.{append-nil, take_all, take_more, take-append-drop, length-take, flat_map_more}
use Rattle.std.proofs.lemmas.List.Elements.{All-nil, All-push}
use Rattle.std.proofs.lemmas.Bool.{cases_Bool}
use Rattle.std.proofs.lemmas.Bool.Decides.{nat_tests}
use lib.Seq.{take-add}
use lib.Pointwise.{pointwise, pointwise_long, bytes_decides}
use Rattle.trace_record.specs.declared.event.Event.{Event}
use Rattle.trace_record.specs.declared.end.Fate.TheVariants as fate
use Rattle.trace_record.specs.declared.end.Flaw.{Flaw}
use Rattle.trace_record.specs.declared.end.Flaw.TheVariants as flaw
use Rattle.trace_record.specs.declared.fields.Fields.{Fields}
use Rattle.trace_record.specs.declared.fields.Numbers.{Numbers}
use Rattle.trace_record.specs.declared.fields.Numbers.TheVariants as numbers
use Rattle.trace_record.specs.declared.version.Version.{Version}
use Rattle.trace_record.specs.declared.version.Version.TheVariants as version
use Rattle.trace_record.specs.Spelling.{header, close, record_bytes, bytes_of, Fit, flaw_of, spelling, spellings}
use Rattle.trace_record.specs.Spelling.{spells_in, AllSpellIn, poison_length, anew_length, record_length}
use Rattle.trace_record.specs.Reading.{Says}
use Rattle.trace_record.specs.Stream.{version_of, IsMadeOf, IsInHeader, IsUnfinished, MayFollow, header_and_records}
use Rattle.trace_record.specs.Stream.{offset_of, Spells, IsDecidedByLast}
use Rattle.trace_record.specs.Standing.{Standing, StandsAt, end_of}

-- some bytes of a piece, and some after them, follow what was read before
pub joined : (text piece : List ℕ) (i n : ℕ)
    → (text ++ take i piece) ++ take n (drop i piece) ≡ text ++ take (i + n) piece
joined text piece i n = append_assoc text (take i piece) (take n (drop i piece))
    ∙ ap (λ (part : List ℕ). text ++ part) (sym (take-add i n piece))

-- the record of a poison has 17 bytes or 18
pub poison_lengths : (v : Version) → (17 ≤ poison_length v) × (poison_length v ≤ 18)
poison_lengths version.One = (omega arith, omega arith)
poison_lengths version.Two = (omega arith, omega arith)
poison_lengths version.Three = (omega arith, omega arith)

-- the record of a history that begins anew has one byte, where a version has it
pub anew_lengths : (v : Version) → anew_length v ≤ 1
anew_lengths version.One = omega arith
anew_lengths version.Two = omega arith
anew_lengths version.Three = omega arith

pub record_length-within : (v : Version) (code : ℕ) → record_length v code ≤ poison_length v
record_length-within v code = let poison = poison_lengths v in let anew = anew_lengths v in grind (arith, nat_tests)

-- a list of one byte or more has a last one
pub last_of : (n : ℕ) (xs : List ℕ) → length xs ≡ n + 1 → xs ≡ take n xs ++ get_or xs n 0 ∷ []
last_of n xs len = sym (take_all (n + 1) xs (omega arith)) ∙ take_more xs n 0 (omega arith)

-- a flawed record without its last byte is unfinished
abbrev WithoutLast : Version → List ℕ → Type 0
WithoutLast v bytes = (before : List ℕ) × (byte : ℕ) × (bytes ≡ before ++ byte ∷ []) × IsUnfinished v before

without_last : (v : Version) (code : ℕ) (x : Numbers) (f : Flaw)
    → length (record_bytes code x) ≡ record_length v code → flaw_of v x ≡ Some f
    → WithoutLast v (record_bytes code x)
without_last v code (numbers.Access width at) f long first = let bytes = record_bytes code (numbers.Access width at) in
    (take 9 bytes, get_or bytes 9 0, refl, omega arith)
without_last v code (numbers.Region at size) f long first = let bytes = record_bytes code (numbers.Region at size) in
    (take 16 bytes, get_or bytes 16 0, refl, omega arith)
without_last v code (numbers.Shade kind at size) f long first =
    let bytes = record_bytes code (numbers.Shade kind at size) in
    (take 17 bytes, get_or bytes 17 0, refl, omega arith)
without_last v code (numbers.Place at) f long first = let bytes = record_bytes code (numbers.Place at) in
    (take 8 bytes, get_or bytes 8 0, refl, omega arith)
without_last v code numbers.Absent f long first = absurd cc

-- fewer bytes than the record has that they begin
pub unfinished_of : (v : Version) (part : List ℕ) → 0 < length part → length part < record_length v (get_or part 0 0)
    → IsUnfinished v part
unfinished_of v [] some short = absurd (omega arith)
unfinished_of v (code ∷ more) some short = short

pub follows_unfinished : (v : Version) (limit count : ℕ) (rest : List ℕ) → count < limit → IsUnfinished v rest
    → MayFollow v limit count rest
follows_unfinished v limit count [] room bad = absurd bad
follows_unfinished v limit count (code ∷ more) room short = (room, short)

-- one event more
pub all_more : (v : Version) (events : List Event) (e : Event) → AllSpellIn v events → IsTrue (spells_in v e)
    → AllSpellIn v (events ++ e ∷ [])
all_more v events e all one = All-push (λ f. IsTrue (spells_in v f)) events e all one

pub none_to_spell : (v : Version) → AllSpellIn v []
none_to_spell v = All-nil (λ e. IsTrue (spells_in v e))

-- ---- the version of a text

differs : (xs ys : List ℕ) → length xs ≢ length ys → pointwise eqb xs ys ≡ false
differs xs ys ne =
    elim (cases_Bool (pointwise eqb xs ys)) [
      | inl same ↦ absurd (ne (pointwise_long eqb xs ys same))
      | inr other ↦ other
    ]

pub short_version : (text : List ℕ) → length text < 8 → version_of text ≡ None
short_version text lt =
    let ne : 8 ≢ length (take 8 text) = λ e. absurd (omega (arith, length-take 8 text)) in
    rw (
      differs (header version.One) (take 8 text) ne,
      differs (header version.Two) (take 8 text) ne,
      differs (header version.Three) (take 8 text) ne,
    ) refl

pub headed_version : (v : Version) (more : List ℕ) → version_of (header v ++ more) ≡ Some v
headed_version version.One more = refl
headed_version version.Two more = refl
headed_version version.Three more = refl

-- a text that says its version begins with the header of this version
pub header_of : (text : List ℕ) (v : Version) → version_of text ≡ Some v → take 8 text ≡ header v
header_of text v is =
    elim (cases_Bool (starts_with eqb text (header version.One))) [
      | inl one ↦
          let found : version_of text ≡ Some version.One = rw one refl in
          let same : version.One ≡ v = (cc) in
          sym ((bytes_decides (header version.One) (take 8 text)).0 one) ∙ ap header same
      | inr first ↦ elim (cases_Bool (starts_with eqb text (header version.Two))) [
        | inl two ↦
            let found : version_of text ≡ Some version.Two = rw (first, two) refl in
            let same : version.Two ≡ v = (cc) in
            sym ((bytes_decides (header version.Two) (take 8 text)).0 two) ∙ ap header same
        | inr second ↦ elim (cases_Bool (starts_with eqb text (header version.Three))) [
          | inl three ↦
              let found : version_of text ≡ Some version.Three = rw (first, second, three) refl in
              let same : version.Three ≡ v = (cc) in
              sym ((bytes_decides (header version.Three) (take 8 text)).0 three) ∙ ap header same
          | inr none ↦
              let found : version_of text ≡ None = rw (first, second, none) refl in
              absurd (cc)
        ]
      ]
    ]

-- a text that begins with a header has its version
pub begun_version : (text : List ℕ) (v : Version) → take 8 text ≡ header v → version_of text ≡ Some v
begun_version text v is =
    let back : header v ++ drop 8 text ≡ text = ap (λ (t : List ℕ). t ++ drop 8 text) (sym is)
    ∙ take-append-drop 8 text in
    sym (ap version_of back) ∙ headed_version v (drop 8 text)

pub made_version : (v : Version) (text : List ℕ) (events : List Event) (rest : List ℕ) → IsMadeOf v text events rest
    → version_of text ≡ Some v
made_version version.One text events rest made = ap version_of made.split
made_version version.Two text events rest made = ap version_of made.split
made_version version.Three text events rest made = ap version_of made.split

pub made_long : (v : Version) (text : List ℕ) (events : List Event) (rest : List ℕ) → IsMadeOf v text events rest
    → 8 ≤ length text
made_long v text events rest made = let e = ap length made.split in omega arith

pub made_offset : (v : Version) (text : List ℕ) (events : List Event) (rest : List ℕ) → IsMadeOf v text events rest
    → offset_of text events ≡ 8 + length (spellings v events)
made_offset v text events rest made = ap (λ (o : Option Version). header_and_records o events)
    (made_version v text events rest made)

no_offset : (text : List ℕ) (events : List Event) → version_of text ≡ None → offset_of text events ≡ 0
no_offset text events none = ap (λ (o : Option Version). header_and_records o events) none

pub in_header_offset : (text : List ℕ) (events : List Event) → length text < 8 → offset_of text events ≡ 0
in_header_offset text events lt = no_offset text events (short_version text lt)

-- ---- where a decoder stands

pub in_header_of : (d : Standing) (text : List ℕ) (events : List Event) → StandsAt d text events → d.offset < 8
    → IsInHeader text events d.rest
in_header_of d text events at lt =
    elim at.reads [
      | inl h ↦ h
      | inr r ↦ absurd (let e : d.offset ≡ 8 + length (spellings r.version events) = at.offset
          ∙ made_offset r.version text events d.rest r.made in omega arith)
    ]

-- after the header, the text is made of the header of the decoder's version, its events and its rest
pub record IsAtRecord (d : Standing) (text : List ℕ) (events : List Event) : Type 0 where
  pub made : IsMadeOf d.version text events d.rest
  pub follows : MayFollow d.version d.limit (length events) d.rest
  pub offset : d.offset ≡ 8 + length (spellings d.version events)

in_version : (d : Standing) (text : List ℕ) (events : List Event) (v : Version) → v ≡ d.version
    → IsMadeOf v text events d.rest → MayFollow v d.limit (length events) d.rest
    → d.offset ≡ 8 + length (spellings v events) → IsAtRecord d text events
in_version d text events v same made follows offset = record {
  made = subst (λ (w : Version). IsMadeOf w text events d.rest) same made;
  follows = subst (λ (w : Version). MayFollow w d.limit (length events) d.rest) same follows;
  offset = offset ∙ ap (λ (w : Version). 8 + length (spellings w events)) same;
}

pub in_records_of : (d : Standing) (text : List ℕ) (events : List Event) → StandsAt d text events → 8 ≤ d.offset
    → IsAtRecord d text events
in_records_of d text events at le =
    elim at.reads [
      | inl h ↦ absurd (let e : offset_of text events ≡ 0 = in_header_offset text events h.short in let f = at.offset in
          omega arith)
      | inr r ↦
          let found : version_of text ≡ Some r.version = made_version r.version text events d.rest r.made in
          let has : version_of text ≡ Some d.version = at.version (made_long r.version text events d.rest r.made) in
          let same : r.version ≡ d.version = (cc) in
          in_version d text events r.version same r.made r.follows (at.offset
          ∙ made_offset r.version text events d.rest r.made)
    ]

-- the first eight bytes are no header
pub bad_header : (d : Standing) (part text : List ℕ) (events : List Event) → StandsAt d text events → d.offset < 8
    → length d.rest + length part ≡ 8 → version_of (d.rest ++ part) ≡ None
    → Spells d.limit (text ++ part) events (end_of d (fate.Malformed flaw.Header))
    × IsDecidedByLast d.limit (text ++ part) events
bad_header d part text events at lt eight other_front =
    let h = in_header_of d text events at lt in
    let all = text ++ part in
    let len : length all ≡ 8 = let e = ap length h.rest_is in omega (arith, length-append text part) in
    let none : version_of all ≡ None = ap (λ (t : List ℕ). version_of (t ++ part)) (sym h.rest_is) ∙ other_front in
    let other : (v : Version) → take 8 all ≢ header v = λ v e. absurd (let some = begun_version all v e in cc) in (
      record {
        fate = inl (refl, record { long = omega arith; other = other; none = h.none });
        count = at.count;
        offset = let e = no_offset all events none in let f = in_header_offset text events h.short in
            let g = at.offset in omega arith;
      },
      (
        take 7 all,
        get_or all 7 0,
        last_of 7 all len,
        (take 7 all, inl record { short = omega (arith, length-take 7 all); none = h.none; rest_is = refl }),
      ),
    )

-- the last bytes of a header
pub header_whole : (d : Standing) (part text : List ℕ) (events : List Event) (v : Version) → StandsAt d text events
    → d.offset < 8 → length d.rest + length part ≡ 8 → version_of (d.rest ++ part) ≡ Some v
    → StandsAt (record d { version = v; offset = 8; rest = [] }) (text ++ part) events
header_whole d part text events v at lt eight is =
    let h = in_header_of d text events at lt in
    let all = text ++ part in
    let len : length all ≡ 8 = let e = ap length h.rest_is in omega (arith, length-append text part) in
    let some : version_of all ≡ Some v = ap (λ (t : List ℕ). version_of (t ++ part)) (sym h.rest_is) ∙ is in
    let bare : all ≡ header v = sym (take_all 8 all (omega arith)) ∙ header_of all v some in
    let made : IsMadeOf v all [] [] = record { spelled = none_to_spell v; split = bare } in
    let made_events : IsMadeOf v all events [] = subst (λ (es : List Event). IsMadeOf v all es []) (sym h.none) made in
    let no_event : length events ≡ 0 = ap length h.none in
    record {
      running = at.running;
      reads = inr record { version = v; made = made_events; follows = omega arith };
      count = at.count;
      offset = sym (made_offset v all events [] made_events
          ∙ ap (λ (es : List Event). 8 + length (spellings v es)) h.none);
      version = λ long. some;
    }

-- a part in a record's place
module _ (d : Standing) (part text : List ℕ) (events : List Event) (at : StandsAt d text events)
    (le : 8 ≤ d.offset) where
  made_more : IsMadeOf d.version (text ++ part) events (d.rest ++ part)
  made_more =
      let r = (in_records_of d text events at le).made in
      record {
        spelled = r.spelled;
        split = rw (r.split)
            (append_assoc (header d.version ++ spellings d.version events) d.rest part);
      }

  offset_more : offset_of (text ++ part) events ≡ d.offset
  offset_more = made_offset d.version (text ++ part) events (d.rest ++ part) made_more
      ∙ sym (in_records_of d text events at le).offset

  -- the part is what follows the events
  split_part : d.rest ≡ [] → text ++ part ≡ (header d.version ++ spellings d.version events ++ part) ++ []
  split_part none = made_more.split ∙ ap (λ (p : List ℕ). (header d.version ++ spellings d.version events)
      ++ (p ++ part)) none ∙ sym (append-nil _)

  -- the part does not end the record
  pub part_more : IsUnfinished d.version (d.rest ++ part) → d.events < d.limit
      → StandsAt (record d { rest = d.rest ++ part }) (text ++ part) events
  part_more short room =
      record {
        running = at.running;
        reads = inr record {
          version = d.version;
          made = made_more;
          follows = follows_unfinished d.version d.limit (length events) (d.rest ++ part)
              (let n = at.count in omega arith) short;
        };
        count = at.count;
        offset = sym offset_more;
        version = λ _. made_version d.version (text ++ part) events (d.rest ++ part) made_more;
      }

  pub too_many : (byte : ℕ) → d.rest ≡ [] → part ≡ byte ∷ [] → byte ≢ close → d.events ≡ d.limit
      → Spells d.limit (text ++ part) events (end_of d fate.TooMany) × IsDecidedByLast d.limit (text ++ part) events
  too_many byte none one not full =
      let s : text ++ part ≡ (header d.version ++ spellings d.version events ++ byte ∷ []) ++ [] = split_part none
      ∙ ap (λ (p : List ℕ). (header d.version ++ spellings d.version events ++ p) ++ []) one in (
        record {
          fate = (sym at.count ∙ full, byte, not, d.version, (made_more.spelled, ([], s)));
          count = at.count;
          offset = let e = offset_more in omega arith;
        },
        (text, byte, ap (λ (p : List ℕ). text ++ p) one, (_, at.reads)),
      )

  pub bad_code : (byte : ℕ) → d.rest ≡ [] → part ≡ byte ∷ [] → byte ≢ close → d.events < d.limit
      → record_length d.version byte ≡ 0 → Spells d.limit (text ++ part) events (end_of d (fate.Malformed flaw.Code))
      × IsDecidedByLast d.limit (text ++ part) events
  bad_code byte none one not room unknown =
      let s : text ++ part ≡ (header d.version ++ spellings d.version events ++ byte ∷ []) ++ [] = split_part none
      ∙ ap (λ (p : List ℕ). (header d.version ++ spellings d.version events ++ p) ++ []) one in (
        record {
          fate = inr (
            let e = at.count in omega arith,
            d.version,
            byte ∷ [],
            inl (refl, byte, record { alone = refl; no_record = unknown; no_close = not }),
            (made_more.spelled, ([], s)),
          );
          count = at.count;
          offset = let e = offset_more in omega arith;
        },
        (text, byte, ap (λ (p : List ℕ). text ++ p) one, (_, at.reads)),
      )

  pub bad_record : (x : Fields) (f : Flaw) → d.rest ++ part ≡ bytes_of x → Fit d.version x
      → flaw_of d.version x.numbers ≡ Some f → d.events < d.limit
      → Spells d.limit (text ++ part) events (end_of d (fate.Malformed f))
      × IsDecidedByLast d.limit (text ++ part) events
  bad_record x f is fit first room =
      let front = header d.version ++ spellings d.version events in
      let s : text ++ part ≡ front ++ bytes_of x = made_more.split ∙ ap (λ (p : List ℕ). front ++ p) is in
      let short = without_last d.version x.code x.numbers f fit.0 first in
      let within : length events < d.limit = let e = at.count in omega arith in (
        record {
          fate = inr (
            within,
            d.version,
            bytes_of x,
            inr (x, record { whole = refl; fit = fit; first = first }),
            (made_more.spelled, ([], s ∙ sym (append-nil _))),
          );
          count = at.count;
          offset = let e = offset_more in omega arith;
        },
        (
          front ++ short.0,
          short.1,
          s ∙ ap (λ (p : List ℕ). front ++ p) short.2 ∙ sym (append_assoc front short.0 (short.1 ∷ [])),
          (
            short.0,
            inr record {
              version = d.version;
              made = record { spelled = made_more.spelled; split = refl };
              follows = follows_unfinished d.version d.limit (length events) short.0 within short.3;
            },
          ),
        ),
      )

  -- the last bytes of an event's record
  pub event_more : (e : Event) → Says d.version (d.rest ++ part) (Ok e) → d.events < d.limit
      → StandsAt (record d { events = d.events + 1; offset = d.offset + length (spelling d.version e); rest = [] })
      (text ++ part) (events ++ e ∷ [])
  event_more e says room =
      let v = d.version in
      let more : List Event = events ++ e ∷ [] in
      let split : text ++ part ≡ header v ++ spellings v more ++ [] = made_more.split
      ∙ ap (λ (p : List ℕ). (header v ++ spellings v events) ++ p) says.1
      ∙ flat_map_more (spelling v) (header v) events e ∙ sym (append-nil (header v ++ spellings v more)) in
      let made : IsMadeOf v (text ++ part) more [] =
      record { spelled = all_more v events e made_more.spelled says.0; split = split } in
      let one_more : length more ≡ length events + 1 = length-append events (e ∷ []) in
      let longer : length (header v ++ spellings v events ++ spelling v e) ≡ length (header v ++ spellings v more) =
      ap length (flat_map_more (spelling v) (header v) events e) in
      let long : length (spellings v more) ≡ length (spellings v events) + length (spelling v e) =
      omega (arith, length-append (header v ++ spellings v events) (spelling v e)) in
      let before = (in_records_of d text events at le).offset in
      let after = made_offset v (text ++ part) more [] made in
      record {
        running = at.running;
        reads = inr record { version = v; made = made; follows = (let n = at.count in omega arith) };
        count = (let n = at.count in omega arith);
        offset = omega arith;
        version = λ _. made_version v (text ++ part) more [] made;
      }
