-- What was asked for in words.
use Rattle.std.proofs.Common.{◌≡◌, ◌==◌, false, List, [], length, sym}
use Rattle.std.specs.Prelude.{◌↔◌, Result, Ok, IfOk}
use Rattle.std.proofs.lemmas.Bool.{false≢true}
use Rattle.asan_request.specs.declared.refusal.Refusal.{Refusal}
use Rattle.asan_request.specs.declared.request.Request.{Request}
use Rattle.asan_request.specs.declared.request.Request.TheVariants as request
use Rattle.asan_request.specs.declared.request.TraceFiles.{TraceFiles}
use Rattle.asan_request.specs.Requests.{IsAskedInWords, IsQuiet}

-- what was asked for in words is not what is asked for without any
pub asked_in_words : {W : Type 0} (r : Result Request Refusal) (words : List W) → IfOk r IsAskedInWords
    → (length words == 0) ≡ false → (r ≡ Ok request.Input) ↔ (words ≡ [])
asked_in_words r words asked some = (
  λ is. absurd (rw is at asked),
  λ none. absurd (false≢true (sym (rw none at some))),
)

pub asked_quietly : (r : Result Request Refusal) → IfOk r IsQuiet → (files : TraceFiles)
    → r ≡ Ok (request.Files files) → files.verbose ≡ false
asked_quietly r quiet files is = rw is at quiet
