-- What the command that was found asks for.
use Rattle.std.proofs.Common.{arith, ◌≡◌, ◌∙◌, ℕ, List, [], ◌∷◌, Option, None, Some, ap, sym}
use Rattle.std.specs.Prelude.{IfNone, IfSome, IsSomeAnd, MatchOption, codes, option_map, string_bytes}
use Rattle.clap.specs.Words.{first_value, one_text, rows_of, subcommand_name_of, subcommand_rows_of}
use Rattle.clap.specs.declared.parser.matches.ArgMatches.{ArgMatches}
use Rattle.clap.specs.declared.parser.matches.Found.{Found}
use Rattle.asan_inputs.specs.declared.serve.Serving.{Serving}
use Rattle.asan_request.specs.declared.request.Request.{Request}
use Rattle.asan_request.specs.declared.request.Request.TheVariants as request
use Rattle.asan_request.specs.Requests.{IsCommand, IsFoundIn}
use Rattle.asan_request.specs.Settings.{AreOptionsOf, IsFlag, IsGiven, LacksServing}

abbrev first_code : Option (List ℕ) → ℕ
first_code None = 0
first_code (Some []) = 0
first_code (Some (code ∷ codes)) = code

module _ (matches : ArgMatches) (found : Found) where
  pub command_of : (name text : List ℕ) → Some text ≡ subcommand_name_of matches → text ≡ name
      → Some (rows_of found) ≡ option_map (λ row. row.1) (subcommand_rows_of matches) → IsCommand matches name found
  command_of name text is same rows = record { name_is = sym is ∙ ap Some same; rows_are = sym rows }

  -- a command has one name
  not_check : IsCommand matches (codes "serve") found → subcommand_name_of matches ≡ Some (codes "check") → ⊥
  not_check serve is =
      let apart : ◌≡◌ {A = ℕ} 115 99 = ap first_code (sym serve.name_is ∙ is) in absurd (omega arith)

  -- the request of `serve`, or that there is none
  pub served : (serving : Option Serving) (asked : Option Request) (gives : Serving → Request → Type 0)
      → ((s : Serving) (r : Request) → gives s r → r ≡ request.Serve s)
      → MatchOption serving (asked ≡ None) (λ s. IsSomeAnd asked (gives s))
      → IsCommand matches (codes "serve") found
      → IfSome serving (λ s. first_value found (codes "socket") ≡ Some (string_bytes s.socket))
      → IfSome serving (λ s. IsGiven 32 (one_text found (codes "count")) s.count)
      → IfSome serving (λ s. first_value found (codes "ready") ≡ option_map string_bytes s.ready)
      → IfSome serving (λ s. AreOptionsOf found s.options)
      → IfSome serving (λ s. IsFlag (one_text found (codes "live")) s.is_live)
      → IfNone serving (LacksServing found) → IsFoundIn matches asked
  served None asked gives made is serve socket count ready options live lacks =
      rw is (not_check serve, λ same. (found, serve, lacks))
  served (Some s) None gives made is serve socket count ready options live lacks = elim is [ ]
  served (Some s) (Some r) gives made is serve socket count ready options live lacks =
      rw (made s r is) (
        found,
        serve,
        record {
          socket = socket;
          count = count;
          ready = ready;
          options = options;
          live = live;
        },
      )
