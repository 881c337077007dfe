-- What the arguments set, by what was found among them.
use Rattle.std.specs.Prelude.{◌≡◌, ℕ, ◌<◌, ◌^◌, ◌⊎◌, Bool, true, false, List, [], Option, None}
use Rattle.std.specs.Prelude.{IfSome, Some, codes, map, option_map, string_bytes}
use Rattle.std.specs.Option.{option_map_or}
use Rattle.std.specs.Str.Parse.{IsNumeral, digits_value, without_leading_plus}
use Rattle.asan_stream.specs.Ranges.{usual_quarantine, usual_ring, usual_workers, usual_limit}
use Rattle.asan_stream.specs.BadOptions.{bad_option_of, is_memory_bound}
use Rattle.asan_stream.specs.declared.options.BadOption.{BadOption}
use Rattle.asan_stream.specs.declared.options.BadOption.TheVariants as option
use Rattle.asan_stream.specs.declared.options.Options.{Options}
use Rattle.asan_senders.specs.Ranges.{most_senders}
use Rattle.asan_inputs.specs.declared.serve.Serving.{Serving}
use Rattle.asan_request.specs.declared.request.TraceFiles.{TraceFiles}
use Rattle.clap.specs.Words.{first_value, matched_of, one_text, raw_values}
use Rattle.clap.specs.declared.parser.matches.Found.{Found}

-- the number is the one that a text spells, if the text spells one that fits into these bits
abbrev pub IsReadAs : ℕ → List ℕ → ℕ → Type 0
IsReadAs bits text number =
    IsNumeral 10 (without_leading_plus text)
    → digits_value 10 (without_leading_plus text) < 2 ^ bits
    → number ≡ digits_value 10 (without_leading_plus text)

-- the number that was given, or the default where none was
abbrev pub IsSet : ℕ → Option (List ℕ) → ℕ → ℕ → Type 0
IsSet bits None default number = number ≡ default
IsSet bits (Some text) default number = IsReadAs bits text number

-- the number that was given, or none where none was
abbrev pub IsSetIfGiven : ℕ → Option (List ℕ) → Option ℕ → Type 0
IsSetIfGiven bits None number = number ≡ None
IsSetIfGiven bits (Some text) number =
    IsNumeral 10 (without_leading_plus text)
    → digits_value 10 (without_leading_plus text) < 2 ^ bits
    → number ≡ Some (digits_value 10 (without_leading_plus text))

-- whether a flag is set: what was found says so, and nothing was found where it is not given
pub record IsFlag (text : Option (List ℕ)) (flag : Bool) : Type 0 where
  pub set : text ≡ Some (codes "true") → flag ≡ true
  pub unset : text ≡ Some (codes "false") → flag ≡ false
  pub missing : text ≡ None → flag ≡ false

-- these are the values of the options that have a default: each is the one that was found, or the
-- default
abbrev pub AreSizes : Found → (quarantine ring workers limit : ℕ) → Type 0
AreSizes found quarantine ring workers limit =
    IsSet 64 (one_text found (codes "quarantine")) usual_quarantine quarantine
    × IsSet 32 (one_text found (codes "ring")) usual_ring ring
    × IsSet 32 (one_text found (codes "workers")) usual_workers workers
    × IsSet 32 (one_text found (codes "limit")) usual_limit limit

-- each option that has a default has such a value
abbrev pub AreSizesOf : Found → Options → Type 0
AreSizesOf found options =
    AreSizes found options.quarantine options.ring options.workers options.limit

-- and memory has the bound that was found, or none
abbrev pub AreOptionsOf : Found → Options → Type 0
AreOptionsOf found options =
    AreSizesOf found options
    × IsSetIfGiven 64 (one_text found (codes "memory")) options.memory

-- it is the first of these options whose value is out of its range
abbrev pub IsBadSize : Found → BadOption → Type 0
IsBadSize found bad =
    (quarantine ring workers limit : ℕ) × AreSizes found quarantine ring workers limit
    × (bad_option_of quarantine ring workers limit ≡ Some bad)

-- the bound on memory that was found is out of its range, and the other options are in theirs
abbrev pub IsBadMemory : Found → Type 0
IsBadMemory found =
    ((options : Options) × AreSizesOf found options)
    × ((bytes : ℕ) × IsSetIfGiven 64 (one_text found (codes "memory")) (Some bytes)
    × (is_memory_bound bytes ≡ false))

-- it is the first of all options whose value is out of its range; memory is the last of them
abbrev pub IsBadOption : Found → BadOption → Type 0
IsBadOption found bad = IsBadSize found bad ⊎ ((bad ≡ option.Memory) × IsBadMemory found)

-- the files that were found, in order, with their options
abbrev pub AreFilesOf : Found → TraceFiles → Type 0
AreFilesOf found files =
    (map string_bytes files.names.items
    ≡ option_map_or raw_values (matched_of found (codes "files")) [])
    × AreOptionsOf found files.options
    × IsFlag (one_text found (codes "live")) files.is_live

-- the number is the one that was given
abbrev pub IsGiven : ℕ → Option (List ℕ) → ℕ → Type 0
IsGiven bits None number = ⊥
IsGiven bits (Some text) number = IsReadAs bits text number

-- the socket that was found, with how many senders it is served for, and how
pub record IsServingOf (found : Found) (serving : Serving) : Type 0 where
  pub socket : first_value found (codes "socket") ≡ Some (string_bytes serving.socket)
  pub count : IsGiven 32 (one_text found (codes "count")) serving.count
  pub ready : first_value found (codes "ready") ≡ option_map string_bytes serving.ready
  pub options : AreOptionsOf found serving.options
  pub live : IsFlag (one_text found (codes "live")) serving.is_live

-- no number of senders was found, or one that is out of range
abbrev pub LacksCount : Found → Type 0
LacksCount found =
    (count : Option ℕ) × IsSetIfGiven 32 (one_text found (codes "count")) count
    × IfSome count (λ number. (number ≡ 0) ⊎ (most_senders < number))

-- nothing can be served: no socket was found, or no number of senders in range
abbrev pub LacksServing : Found → Type 0
LacksServing found = (first_value found (codes "socket") ≡ None) ⊎ LacksCount found
