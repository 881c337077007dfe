-- An event is known by its fields, which fit and have no flaw; fields without a flaw are those of an event.
use Rattle.std.proofs.Common.{◌≡◌, ℕ, ◌+◌, ◌*◌, ◌^◌, ◌<◌, ◌≤◌, ◌⊎◌, Bool, List, ◌++◌, length, None, refl, sym, ap}
use Rattle.std.proofs.Common.{subst, ◌∙◌, arith, inl, inr}
use Rattle.std.specs.Prelude.{IsTrue, ◌/◌, ◌%◌, ◌&&◌, nat_le}
use Rattle.std.proofs.Math.Bridge.{le_prop}
use Rattle.std.proofs.Props.{props}
use Rattle.std.proofs.lemmas.Bool.{cases_eq}
use Rattle.std.proofs.lemmas.Bool.Decides.{nat_tests}
use Rattle.asan_units.specs.Units.{is_width}
use Rattle.trace_record.specs.Flaws.{access_flaw, region_flaw, shade_flaw, place_flaw}
use Rattle.trace_record.specs.declared.event.Access.{Access}
use Rattle.trace_record.specs.declared.event.Region.{Region}
use Rattle.trace_record.specs.declared.event.Place.{Place}
use Rattle.trace_record.specs.declared.event.Event.{Event}
use Rattle.trace_record.specs.declared.event.Event.TheVariants as event
use Rattle.trace_record.specs.declared.fields.Fields.{Fields}
use Rattle.trace_record.specs.declared.fields.Numbers.{Numbers}
use Rattle.trace_record.specs.declared.fields.Numbers.TheVariants as numbers
use Rattle.trace_record.specs.declared.shade.Kind.{Kind}
use Rattle.trace_record.specs.declared.shade.Kind.TheVariants as kind
use Rattle.trace_record.specs.declared.shade.Shade.{Shade}
use Rattle.trace_record.specs.declared.version.Version.{Version}
use Rattle.trace_record.specs.declared.version.Version.TheVariants as version
use Rattle.trace_record.specs.Kinds.{kind_number, kind_of}
use Rattle.trace_record.specs.Ranges.{largest_region}
use Rattle.trace_record.specs.Shades.{shade_size, shade_kind}
use Rattle.trace_record.specs.Spelling.{Fit, record_bytes, fields_of, poison_numbers, flaw_of, poison_length}
use Rattle.trace_record.specs.Spelling.{record_length, anew_length, spelling, spells_in, has_kind, has_anew}
use Rattle.trace_record.proofs.Numbers.{same_fields}
use Rattle.trace_record.proofs.Steps.{poison_lengths, anew_lengths}

IsTrue_prop : (width : ℕ) → IsProp (IsTrue (is_width width))
IsTrue_prop width = hlevel props

pub same_access : (a b : Access) → a.at ≡ b.at → a.width ≡ b.width → a ≡ b
same_access a b at width =
    let P : ℕ → ℕ → Type 0 = λ at width. (known : IsTrue (is_width width)) (in_range : at + width ≤ 2 ^ 47)
    → a ≡ record { at = at; width = width; known_width = known; in_range = in_range } in
    let here : P a.at a.width = λ known in_range i. record {
      at = a.at;
      width = a.width;
      known_width = IsTrue_prop a.width a.known_width known i;
      in_range = le_prop a.in_range in_range i;
    } in
    (subst (λ (w : ℕ). P b.at w) width (subst (λ (n : ℕ). P n a.width) at here)) b.known_width b.in_range

pub same_region : (a b : Region) → a.at ≡ b.at → a.size ≡ b.size → a ≡ b
same_region a b at size =
    let P : ℕ → ℕ → Type 0 = λ at size. (small : size ≤ largest_region version.Two) (in_range : at + size ≤ 2 ^ 47)
    → a ≡ record { at = at; size = size; small = small; in_range = in_range } in
    let here : P a.at a.size = λ small in_range i. record {
      at = a.at;
      size = a.size;
      small = le_prop a.small small i;
      in_range = le_prop a.in_range in_range i;
    } in
    (subst (λ (w : ℕ). P b.at w) size (subst (λ (n : ℕ). P n a.size) at here)) b.small b.in_range

same_number : (m n : ℕ) → m / 4 ≡ n / 4 → m % 4 ≡ n % 4 → m ≡ n
same_number m n sizes kinds = omega arith

kind_back : (n : ℕ) → n < 3 → kind_number (kind_of n) ≡ n
kind_back n known = grind (arith, nat_tests)

pub same_shade : (a b : Shade) → a.at ≡ b.at → shade_size a ≡ shade_size b
    → kind_number (shade_kind a) ≡ kind_number (shade_kind b) → a ≡ b
same_shade a b at size kind =
    let rest : a.size_and_kind % 4 ≡ b.size_and_kind % 4 = sym (kind_back (a.size_and_kind % 4) a.known_kind) ∙ kind
    ∙ kind_back (b.size_and_kind % 4) b.known_kind in
    let packed : a.size_and_kind ≡ b.size_and_kind = same_number a.size_and_kind b.size_and_kind size rest in
    let P : ℕ → ℕ → Type 0 = λ at packed. (known : packed % 4 < 3) (small : packed / 4 ≤ largest_region version.Two)
    (in_range : at + packed / 4 ≤ 2 ^ 47) → a
    ≡ record { at = at; size_and_kind = packed; known_kind = known; small = small; in_range = in_range } in
    let here : P a.at a.size_and_kind = λ known small in_range i. record {
      at = a.at;
      size_and_kind = a.size_and_kind;
      known_kind = le_prop a.known_kind known i;
      small = le_prop a.small small i;
      in_range = le_prop a.in_range in_range i;
    } in
    (subst (λ (w : ℕ). P b.at w) packed (subst (λ (n : ℕ). P n a.size_and_kind) at here)) b.known_kind b.small
    b.in_range

pub same_place : (a b : Place) → a.at ≡ b.at → a ≡ b
same_place a b at =
    let P : ℕ → Type 0 = λ at. (in_range : at < 2 ^ 47) → a ≡ record { at = at; in_range = in_range } in
    let here : P a.at = λ in_range i. record { at = a.at; in_range = le_prop a.in_range in_range i } in
    (subst P at here) b.in_range

numbers_of : (x y : Fields) → x ≡ y → x.numbers ≡ y.numbers
numbers_of x y is = ap (λ (z : Fields). z.numbers) is

code_of : (x y : Fields) → x ≡ y → x.code ≡ y.code
code_of x y is = ap (λ (z : Fields). z.code) is

-- of both is either
first_of : (a b : Bool) → IsTrue (a && b) → IsTrue a
first_of a b both = grind (arith, nat_tests)

second_of : (a b : Bool) → IsTrue (a && b) → IsTrue b
second_of a b both = grind (arith, nat_tests)

-- version 1 has no other kind than a user's
user_alone : (k : Kind) → IsTrue (has_kind version.One k) → kind_number k ≡ 0
user_alone kind.User has = refl
user_alone kind.Stack has = absurd cc
user_alone kind.Global has = absurd cc

same_poison : (v : Version) (a b : Shade) → IsTrue (spells_in v (event.Poison a))
    → IsTrue (spells_in v (event.Poison b)) → poison_numbers v a ≡ poison_numbers v b → a ≡ b
same_poison version.One a b sa sb n =
    let ka : kind_number (shade_kind a) ≡ 0 = user_alone (shade_kind a) (first_of _ _ sa) in
    let kb : kind_number (shade_kind b) ≡ 0 = user_alone (shade_kind b) (first_of _ _ sb) in
    same_shade a b (cc) (cc) (ka ∙ sym kb)
same_poison version.Two a b sa sb n = same_shade a b (cc) (cc) (cc)
same_poison version.Three a b sa sb n = same_shade a b (cc) (cc) (cc)

-- events that spell in a version and have the same fields there are one
pub same_event : (v : Version) (e f : Event) → IsTrue (spells_in v e) → IsTrue (spells_in v f)
    → fields_of v e ≡ fields_of v f → e ≡ f
same_event v (event.Load a) (event.Load b) se sf is = let n = numbers_of _ _ is in
    ap event.Load (same_access a b (cc) (cc))
same_event v (event.Store a) (event.Store b) se sf is = let n = numbers_of _ _ is in
    ap event.Store (same_access a b (cc) (cc))
same_event v (event.Malloc a) (event.Malloc b) se sf is = let n = numbers_of _ _ is in
    ap event.Malloc (same_region a b (cc) (cc))
same_event v (event.Free a) (event.Free b) se sf is = let n = numbers_of _ _ is in ap event.Free (same_place a b (cc))
same_event v (event.Poison a) (event.Poison b) se sf is = ap event.Poison (same_poison v a b se sf (numbers_of _ _ is))
same_event v (event.Unpoison a) (event.Unpoison b) se sf is = let n = numbers_of _ _ is in
    ap event.Unpoison (same_region a b (cc) (cc))
same_event v event.Anew event.Anew se sf is = refl
same_event v _ _ se sf is = absurd (let n = code_of _ _ is in omega arith)

width_small : (width : ℕ) → IsTrue (is_width width) → width < 2 ^ 8
width_small width known = grind (arith, nat_tests)

pub kind_small : (k : Kind) → kind_number k ≤ 2
kind_small kind.User = omega arith
kind_small kind.Stack = omega arith
kind_small kind.Global = omega arith

poison_fits : (v : Version) (s : Shade) → Fit v (fields_of v (event.Poison s))
poison_fits version.One s = (refl, (omega arith, omega arith))
poison_fits version.Two s = (refl, (let small = kind_small (shade_kind s) in omega arith, omega arith, omega arith))
poison_fits version.Three s = (refl, (let small = kind_small (shade_kind s) in omega arith, omega arith, omega arith))

anew_fits : (v : Version) → IsTrue (has_anew v) → Fit v (fields_of v event.Anew)
anew_fits version.One has = absurd cc
anew_fits version.Two has = absurd cc
anew_fits version.Three has = (refl, tt)

-- an event's fields are those of a record, in a version that it spells in
pub event_fits : (v : Version) (e : Event) → IsTrue (spells_in v e) → Fit v (fields_of v e)
event_fits v (event.Load a) spells = (refl, (width_small a.width a.known_width, omega arith))
event_fits v (event.Store a) spells = (refl, (width_small a.width a.known_width, omega arith))
event_fits v (event.Malloc r) spells = (refl, (omega arith, omega arith))
event_fits v (event.Free p) spells = (refl, omega arith)
event_fits v (event.Poison s) spells = poison_fits v s
event_fits v (event.Unpoison r) spells = (refl, (omega arith, omega arith))
event_fits v event.Anew spells = anew_fits v spells

no_access_flaw : (at width : ℕ) → IsTrue (is_width width) → at + width ≤ 2 ^ 47 → access_flaw at width ≡ None
no_access_flaw at width known in_range = grind (arith, nat_tests)

no_region_flaw : (v : Version) (at size : ℕ) → IsTrue (nat_le size (largest_region v)) → at + size ≤ 2 ^ 47
    → region_flaw v at size ≡ None
no_region_flaw v at size small in_range = grind (arith, nat_tests)

no_shade_flaw : (v : Version) (at size kind : ℕ) → kind ≤ 2 → IsTrue (nat_le size (largest_region v))
    → at + size ≤ 2 ^ 47 → shade_flaw v at size kind ≡ None
no_shade_flaw v at size kind known small in_range = grind (arith, nat_tests)

no_place_flaw : (at : ℕ) → at < 2 ^ 47 → place_flaw at ≡ None
no_place_flaw at in_range = grind (arith, nat_tests)

poison_flawless : (v : Version) (s : Shade) → IsTrue (spells_in v (event.Poison s))
    → flaw_of v (poison_numbers v s) ≡ None
poison_flawless version.One s spells = no_region_flaw version.One s.at (shade_size s)
    (second_of (has_kind version.One (shade_kind s)) _ spells) s.in_range
poison_flawless version.Two s spells = no_shade_flaw version.Two s.at (shade_size s) (kind_number (shade_kind s))
    (kind_small (shade_kind s)) (second_of (has_kind version.Two (shade_kind s)) _ spells) s.in_range
poison_flawless version.Three s spells = no_shade_flaw version.Three s.at (shade_size s) (kind_number (shade_kind s))
    (kind_small (shade_kind s)) (second_of (has_kind version.Three (shade_kind s)) _ spells) s.in_range

-- the numbers of an event have no flaw in a version that it spells in
pub event_flawless : (v : Version) (e : Event) → IsTrue (spells_in v e) → flaw_of v (fields_of v e).numbers ≡ None
event_flawless v (event.Load a) spells = no_access_flaw a.at a.width a.known_width a.in_range
event_flawless v (event.Store a) spells = no_access_flaw a.at a.width a.known_width a.in_range
event_flawless v (event.Malloc r) spells = no_region_flaw v r.at r.size spells r.in_range
event_flawless v (event.Free p) spells = no_place_flaw p.at p.in_range
event_flawless v (event.Poison s) spells = poison_flawless v s spells
event_flawless v (event.Unpoison r) spells = no_region_flaw v r.at r.size spells r.in_range
event_flawless v event.Anew spells = refl

access_of : (at width : ℕ) → access_flaw at width ≡ None → IsTrue (is_width width) × (at + width ≤ 2 ^ 47)
access_of at width none = (grind (arith, nat_tests), grind (arith, nat_tests))

-- no version has a larger region than version 2
largest_of_all : (v : Version) → largest_region v ≤ largest_region version.Two
largest_of_all version.One = omega arith
largest_of_all version.Two = omega arith
largest_of_all version.Three = omega arith

pub record IsGoodRegion (v : Version) (at size : ℕ) : Type 0 where
  pub fits : IsTrue (nat_le size (largest_region v))
  pub small : size ≤ largest_region version.Two
  pub in_range : at + size ≤ 2 ^ 47

pub region_of : (v : Version) (at size : ℕ) → region_flaw v at size ≡ None → IsGoodRegion v at size
region_of v at size none =
    record {
      fits = grind (arith, nat_tests);
      small = (let most = largest_of_all v in grind (arith, nat_tests));
      in_range = grind (arith, nat_tests);
    }

place_of : (at : ℕ) → place_flaw at ≡ None → at < 2 ^ 47
place_of at none = grind (arith, nat_tests)

only_version_1 : (v : Version) → 17 ≡ poison_length v → v ≡ version.One
only_version_1 version.One is = refl
only_version_1 version.Two is = absurd (omega arith)
only_version_1 version.Three is = absurd (omega arith)

-- the codes of the records of each length
access_codes : (v : Version) (code : ℕ) → 10 ≡ record_length v code → (code ≡ 1) ⊎ (code ≡ 2)
access_codes v code long =
    elim (cases_eq code 1) [
      | inl is ↦ inl is
      | inr other ↦ elim (cases_eq code 2) [
        | inl is ↦ inr is
        | inr none ↦ absurd (let poison = poison_lengths v in let anew = anew_lengths v in grind (arith, nat_tests))
      ]
    ]

region_codes : (v : Version) (code : ℕ) → 17 ≡ record_length v code
    → (code ≡ 3) ⊎ (((code ≡ 5) × (v ≡ version.One)) ⊎ (code ≡ 6))
region_codes v code long =
    elim (cases_eq code 3) [
      | inl is ↦ inl is
      | inr other ↦ elim (cases_eq code 5) [
        | inl is ↦ inr (inl (is, only_version_1 v (grind (arith, nat_tests))))
        | inr more ↦ elim (cases_eq code 6) [
          | inl is ↦ inr (inr is)
          | inr none ↦ absurd (let anew = anew_lengths v in grind (arith, nat_tests))
        ]
      ]
    ]

shade_code : (v : Version) (code : ℕ) → 18 ≡ record_length v code → (code ≡ 5) × (18 ≡ poison_length v)
shade_code v code long =
    let anew = anew_lengths v in
    let is : code ≡ 5 = grind (arith, nat_tests) in
    (is, grind (arith, nat_tests))

place_code : (v : Version) (code : ℕ) → 9 ≡ record_length v code → code ≡ 4
place_code v code long = let poison = poison_lengths v in let anew = anew_lengths v in grind (arith, nat_tests)

absent_code : (v : Version) (code : ℕ) → 1 ≡ record_length v code → (code ≡ 8) × (1 ≡ anew_length v)
absent_code v code long =
    let poison = poison_lengths v in
    let is : code ≡ 8 = grind (arith, nat_tests) in
    (is, grind (arith, nat_tests))

-- an event that spells in a version and has these fields there
pub record HasEvent (v : Version) (x : Fields) : Type 0 where
  pub event : Event
  pub spells : IsTrue (spells_in v event)
  pub fields : fields_of v event ≡ x

access_event : (v : Version) (code : ℕ) (a : Access) → (code ≡ 1) ⊎ (code ≡ 2)
    → HasEvent v (record { code = code; numbers = numbers.Access a.width a.at })
access_event v code a (inl is) = record {
  event = event.Load a;
  spells = refl;
  fields = λ i. record { code = sym is i; numbers = numbers.Access a.width a.at };
}
access_event v code a (inr is) = record {
  event = event.Store a;
  spells = refl;
  fields = λ i. record { code = sym is i; numbers = numbers.Access a.width a.at };
}

-- the poison of these numbers
pub record HasShade (at size : ℕ) (k : Kind) : Type 0 where
  pub shade : Shade
  pub at_is : shade.at ≡ at
  pub size_is : shade_size shade ≡ size
  pub kind_is : shade_kind shade ≡ k

kind_there : (k : Kind) → kind_of (kind_number k) ≡ k
kind_there kind.User = refl
kind_there kind.Stack = refl
kind_there kind.Global = refl

shade_with : (at size : ℕ) (k : Kind) → size ≤ largest_region version.Two → at + size ≤ 2 ^ 47 → HasShade at size k
shade_with at size k small in_range =
    let packed = size * 4 + kind_number k in
    let few = kind_small k in
    let front : packed / 4 ≡ size = omega arith in
    let last : packed % 4 ≡ kind_number k = omega arith in
    record {
      shade = record {
        at = at;
        size_and_kind = packed;
        known_kind = omega arith;
        small = omega arith;
        in_range = omega arith;
      };
      at_is = refl;
      size_is = front;
      kind_is = ap kind_of last ∙ kind_there k;
    }

poison_of_1 : (r : Region) → IsTrue (nat_le r.size (largest_region version.One))
    → HasEvent version.One (record { code = 5; numbers = numbers.Region r.at r.size })
poison_of_1 r fits =
    let s = shade_with r.at r.size kind.User r.small r.in_range in
    record {
      event = event.Poison s.shade;
      spells = rw (s.kind_is, s.size_is) fits;
      fields = λ i. record { code = 5; numbers = numbers.Region (s.at_is i) (s.size_is i) };
    }

-- in a version whose poison has a kind
poison_of : (v : Version) (at size : ℕ) (k : Kind) → 18 ≡ poison_length v → IsGoodRegion v at size
    → HasEvent v (record { code = 5; numbers = numbers.Shade (kind_number k) at size })
poison_of version.One at size k kinds good = absurd (omega arith)
poison_of version.Two at size k kinds good =
    let s = shade_with at size k good.small good.in_range in
    record {
      event = event.Poison s.shade;
      spells = rw (s.size_is) (good.fits);
      fields = λ i. record { code = 5; numbers = numbers.Shade (kind_number (s.kind_is i)) (s.at_is i) (s.size_is i) };
    }
poison_of version.Three at size k kinds good =
    let s = shade_with at size k good.small good.in_range in
    record {
      event = event.Poison s.shade;
      spells = rw (s.size_is) (good.fits);
      fields = λ i. record { code = 5; numbers = numbers.Shade (kind_number (s.kind_is i)) (s.at_is i) (s.size_is i) };
    }

region_event : (v : Version) (code : ℕ) (r : Region) → IsTrue (nat_le r.size (largest_region v))
    → (code ≡ 3) ⊎ (((code ≡ 5) × (v ≡ version.One)) ⊎ (code ≡ 6))
    → HasEvent v (record { code = code; numbers = numbers.Region r.at r.size })
region_event v code r fits (inl is) = record {
  event = event.Malloc r;
  spells = fits;
  fields = λ i. record { code = sym is i; numbers = numbers.Region r.at r.size };
}
region_event v code r fits (inr (inl (is, one))) =
    let one_fits : IsTrue (nat_le r.size (largest_region version.One)) =
    subst (λ (w : Version). IsTrue (nat_le r.size (largest_region w))) one fits in
    subst (λ (w : Version). HasEvent w (record { code = code; numbers = numbers.Region r.at r.size })) (sym one)
    (subst (λ (n : ℕ). HasEvent version.One (record { code = n; numbers = numbers.Region r.at r.size })) (sym is)
    (poison_of_1 r one_fits))
region_event v code r fits (inr (inr is)) =
    record {
      event = event.Unpoison r;
      spells = fits;
      fields = λ i. record { code = sym is i; numbers = numbers.Region r.at r.size };
    }

known_kind : (v : Version) (at size kind : ℕ) → shade_flaw v at size kind ≡ None → kind ≤ 2
known_kind v at size kind none = grind (arith, nat_tests)

region_none : (v : Version) (at size kind : ℕ) → shade_flaw v at size kind ≡ None → region_flaw v at size ≡ None
region_none v at size kind none = let known = known_kind v at size kind none in grind (arith, nat_tests)

shade_event : (v : Version) (code kind at size : ℕ) → shade_flaw v at size kind ≡ None
    → (code ≡ 5) × (18 ≡ poison_length v) → HasEvent v (record { code = code; numbers = numbers.Shade kind at size })
shade_event v code kind at size none (is, kinds) =
    let good = region_of v at size (region_none v at size kind none) in
    let known = kind_back kind (let most = known_kind v at size kind none in omega arith) in
    let here : HasEvent v (record { code = 5; numbers = numbers.Shade kind at size }) =
    subst (λ (n : ℕ). HasEvent v (record { code = 5; numbers = numbers.Shade n at size })) known
    (poison_of v at size (kind_of kind) kinds good) in
    subst (λ (n : ℕ). HasEvent v (record { code = n; numbers = numbers.Shade kind at size })) (sym is) here

-- in a version with such a record
absent_event : (v : Version) → 1 ≡ anew_length v → HasEvent v (record { code = 8; numbers = numbers.Absent })
absent_event version.One has = absurd (omega arith)
absent_event version.Two has = absurd (omega arith)
absent_event version.Three has = record { event = event.Anew; spells = refl; fields = refl }

event_with : (v : Version) (code : ℕ) (x : Numbers) → length (record_bytes code x) ≡ record_length v code
    → flaw_of v x ≡ None → HasEvent v (record { code = code; numbers = x })
event_with v code (numbers.Access width at) long none = let h = access_of at width none in
    access_event v code record { at = at; width = width; known_width = h.0; in_range = h.1 } (access_codes v code long)
event_with v code (numbers.Region at size) long none = let h = region_of v at size none in
    region_event v code record {
      at = at;
      size = size;
      small = h.small;
      in_range = h.in_range;
    } h.fits (region_codes v code long)
event_with v code (numbers.Shade kind at size) long none = shade_event v code kind at size none (shade_code v code long)
event_with v code (numbers.Place at) long none =
    record {
      event = event.Free record { at = at; in_range = place_of at none };
      spells = refl;
      fields = λ i. record { code = sym (place_code v code long) i; numbers = numbers.Place at };
    }
event_with v code numbers.Absent long none =
    let h = absent_code v code long in
    subst (λ (n : ℕ). HasEvent v (record { code = n; numbers = numbers.Absent })) (sym h.0) (absent_event v h.1)

-- fields whose numbers have no flaw are those of an event
pub event_of : (v : Version) (x : Fields) → Fit v x → flaw_of v x.numbers ≡ None → HasEvent v x
event_of v x fit none = event_with v x.code x.numbers fit.0 none

-- no spelling begins another
pub no_prefix : (v : Version) (e f : Event) (x y : List ℕ) → IsTrue (spells_in v e) → IsTrue (spells_in v f)
    → spelling v e ++ x ≡ spelling v f ++ y → (e ≡ f) × (x ≡ y)
no_prefix v e f x y se sf is =
    let same = same_fields v (fields_of v e) (fields_of v f) x y (event_fits v e se) (event_fits v f sf) is in
    (same_event v e f se sf same.0, same.1)
