-- What the arguments ask for.
use Rattle.std.specs.Prelude.{◌≡◌, ◌≢◌, List, ℕ, None, Option, Some, codes, false, option_map}
use Rattle.clap.specs.Words.{rows_of, subcommand_name_of, subcommand_rows_of}
use Rattle.clap.specs.declared.parser.matches.ArgMatches.{ArgMatches}
use Rattle.clap.specs.declared.parser.matches.Found.{Found}
use Rattle.asan_request.specs.Settings.{AreFilesOf, IsServingOf, LacksServing}
use Rattle.asan_request.specs.declared.request.Request.{Request}
use Rattle.asan_request.specs.declared.request.Request.TheVariants as request

-- it is asked for in words: the request without any is the one for standard input
abbrev pub IsAskedInWords : Request → Type 0
IsAskedInWords request.Input = ⊥
IsAskedInWords (request.Files files) = Unit {0}
IsAskedInWords (request.Serve serving) = Unit {0}

-- it does not ask what became of each file
abbrev pub IsQuiet : Request → Type 0
IsQuiet request.Input = Unit {0}
IsQuiet (request.Files files) = files.verbose ≡ false
IsQuiet (request.Serve serving) = Unit {0}

-- the command that was found has this name, and this was found among its arguments
pub record IsCommand (matches : ArgMatches) (name : List ℕ) (found : Found) : Type 0 where
  pub name_is : subcommand_name_of matches ≡ Some name
  pub rows_are : option_map (λ row. row.1) (subcommand_rows_of matches) ≡ Some (rows_of found)

-- the request is what the command asks for: `check` for files, and `serve` for a socket
abbrev pub IsRequestOf : ArgMatches → Request → Type 0
IsRequestOf matches request.Input = ⊥
IsRequestOf matches (request.Files files) =
    (found : Found) × IsCommand matches (codes "check") found × AreFilesOf found files
IsRequestOf matches (request.Serve serving) =
    (found : Found) × IsCommand matches (codes "serve") found × IsServingOf found serving

-- what the command asks for, or that it is none of the two, or lacks what it serves
abbrev pub IsFoundIn : ArgMatches → Option Request → Type 0
IsFoundIn matches (Some request) = IsRequestOf matches request
IsFoundIn matches None =
    (subcommand_name_of matches ≢ Some (codes "check"))
    × (subcommand_name_of matches ≡ Some (codes "serve") → (found : Found)
    × IsCommand matches (codes "serve") found × LacksServing found)
