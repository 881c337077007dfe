-- What is read of the values that were found.
use Rattle.std.proofs.Common.{◌≡◌, ℕ, List, Option, None, Some, refl, ap, sym, inl, inr}
use Rattle.std.specs.Prelude.{Result, Ok, Err, IfErr, IfOk, MatchResult, codes, is_ok, unwrap_or}
use Rattle.std.specs.Str.Parse.{ParsesUnsigned}
use Rattle.clap.specs.Matches.{ReadsOne, one_text}
use Rattle.asan_stream.specs.BadOptions.{bad_option_of, is_memory_bound}
use Rattle.asan_stream.specs.declared.options.BadOption.{BadOption}
use Rattle.asan_stream.specs.declared.options.BadOption.TheVariants as option
use Rattle.asan_stream.specs.declared.options.Options.{Options}
use Rattle.clap.specs.declared.parser.matches.Found.{Found}
use Rattle.asan_request.specs.Settings.{AreOptionsOf, AreSizesOf, IsBadOption, IsBadSize, IsGiven, IsSet, IsSetIfGiven}
use Rattle.asan_request.specs.Settings.{IsReadAs}
use Rattle.asan_stream.specs.Ranges.{usual_quarantine, usual_limit, usual_ring, usual_workers}

module _ {E : Type 0} (gives : List ℕ → Result ℕ E → Type 0) (bits : ℕ)
    (parses : (text : List ℕ) (r : Result ℕ E) → gives text r → ParsesUnsigned bits 10 text r) where
  pub spelled : (text : List ℕ) (got : Option ℕ) (default : ℕ) → ReadsOne gives text got
      → IsReadAs bits text (unwrap_or got default)
  spelled text (Some v) default so numeral fits = (parses text (Ok v) so).1
  spelled text None default so numeral fits = absurd ((parses text (Err so.0) so.1) (numeral, fits))

  pub set_by : (text : Option (List ℕ)) (got : Option ℕ) (default : ℕ)
      → (text ≡ None → got ≡ None) → ((t : List ℕ) → text ≡ Some t → ReadsOne gives t got)
      → IsSet bits text default (unwrap_or got default)
  set_by None got default none some = rw (none refl) refl
  set_by (Some t) got default none some = spelled t got default (some t refl)

  pub set_of : (text : Option (List ℕ)) (got : Option ℕ) (own default value : ℕ) → value ≡ unwrap_or got own
      → own ≡ default
      → (text ≡ None → got ≡ None) → ((t : List ℕ) → text ≡ Some t → ReadsOne gives t got)
      → IsSet bits text default value
  set_of text got own default value is own_is none some =
      let by : IsSet bits text default (unwrap_or got default) = set_by text got default none some in
      rw (is, own_is) by

  pub given_by : (text : Option (List ℕ)) (got : Option ℕ) (number : ℕ) → got ≡ Some number
      → (text ≡ None → got ≡ None) → ((t : List ℕ) → text ≡ Some t → ReadsOne gives t got) → IsGiven bits text number
  given_by None None number is none some = absurd (let e : None ≡ Some number = is in cc)
  given_by None (Some n) number is none some = absurd (let e : Some n ≡ None = none refl in cc)
  given_by (Some t) got number is none some =
      let value : IsReadAs bits t (unwrap_or got number) = spelled t got number (some t refl) in
      rw is at value

  pub set_if : (text : Option (List ℕ)) (got : Option ℕ)
      → (text ≡ None → got ≡ None) → ((t : List ℕ) → text ≡ Some t → ReadsOne gives t got) → IsSetIfGiven bits text got
  set_if None got none some = none refl
  set_if (Some t) (Some v) none some = λ numeral fits. ap Some (parses t (Ok v) (some t refl)).1
  set_if (Some t) None none some = λ numeral fits. absurd (let so = some t refl in
      (parses t (Err so.0) so.1) (numeral, fits))

-- options that were made of these values are those that were found, without a bound on memory
pub made_of : {E : Type 0} (P : E → Type 0) (r : Result Options E) (found : Found) (quarantine ring workers limit : ℕ)
    → MatchResult r (λ o. (o.quarantine ≡ quarantine) × (o.ring ≡ ring) × (o.workers ≡ workers) × (o.limit ≡ limit)) P
    → IsSet 64 (one_text found (codes "quarantine")) usual_quarantine quarantine
    → IsSet 32 (one_text found (codes "ring")) usual_ring ring
    → IsSet 32 (one_text found (codes "workers")) usual_workers workers
    → IsSet 32 (one_text found (codes "limit")) usual_limit limit
    → IfOk r (AreSizesOf found)
made_of P (Ok o) found quarantine ring workers limit so a b c d = (rw so.0 a, rw so.1 b, rw so.2 c, rw so.3 d)
made_of P (Err e) found quarantine ring workers limit so a b c d = tt

-- and where they weren't made, the first that is out of its range is one of those that were found
pub refused_of : (P : Options → Type 0) (r : Result Options BadOption) (found : Found)
    (quarantine ring workers limit : ℕ)
    → MatchResult r P (λ bad. bad_option_of quarantine ring workers limit ≡ Some bad)
    → IsSet 64 (one_text found (codes "quarantine")) usual_quarantine quarantine
    → IsSet 32 (one_text found (codes "ring")) usual_ring ring
    → IsSet 32 (one_text found (codes "workers")) usual_workers workers
    → IsSet 32 (one_text found (codes "limit")) usual_limit limit
    → IfErr r (IsBadSize found)
refused_of P (Ok o) found quarantine ring workers limit so a b c d = tt
refused_of P (Err bad) found quarantine ring workers limit so a b c d =
    (quarantine, ring, workers, limit, (a, b, c, d), so)

-- with a bound on memory that was found they are all that was found
pub bounded_of : {E : Type 0} (r : Result Options E) (o : Options) (found : Found) (bytes : ℕ)
    → IfOk r (λ p. p.memory ≡ Some bytes)
    → IfOk r (λ p. (p.quarantine ≡ o.quarantine) × (p.ring ≡ o.ring) × (p.workers ≡ o.workers) × (p.limit ≡ o.limit))
    → AreSizesOf found o → IsSetIfGiven 64 (one_text found (codes "memory")) (Some bytes) → IfOk r (AreOptionsOf found)
bounded_of (Ok p) o found bytes memory same sizes given =
    ((rw same.0 sizes.0, rw same.1 sizes.1, rw same.2 sizes.2, rw same.3 sizes.3), rw memory given)
bounded_of (Err e) o found bytes memory same sizes given = tt

-- a bound that they cannot have is out of its range
pub bad_memory_of : (r : Result Options BadOption) (o : Options) (found : Found) (bytes : ℕ)
    → is_ok r ≡ is_memory_bound bytes → IfErr r (λ bad. bad ≡ option.Memory)
    → AreSizesOf found o → IsSetIfGiven 64 (one_text found (codes "memory")) (Some bytes) → IfErr r (IsBadOption found)
bad_memory_of (Ok p) o found bytes range is sizes given = tt
bad_memory_of (Err bad) o found bytes range is sizes given = inr (is, ((o, sizes), (bytes, given, sym range)))

-- an option with a default that is out of its range is an option that is
pub bad_size_of : (found : Found) (bad : BadOption) → IsBadSize found bad → IsBadOption found bad
bad_size_of found bad first = inl first

-- and without one they are, where none was found
pub unbounded_of : (o : Options) (found : Found)
    → AreSizesOf found o → o.memory ≡ None → IsSetIfGiven 64 (one_text found (codes "memory")) None
    → AreOptionsOf found o
unbounded_of o found sizes none given = (sizes, rw none given)

-- what is read of all the options
pub ruleset options_read = (bounded_of, unbounded_of, bad_memory_of, bad_size_of)
