-- Words of the command line that are not carried out.
use Rattle.std.specs.Prelude.{◌≡◌, ℕ, ◌⊎◌}
use Rattle.clap.specs.declared.error.Error.{Error}
use Rattle.clap.specs.declared.error.kind.ErrorKind.{ErrorKind}
use Rattle.clap.specs.declared.error.kind.ErrorKind.TheVariants as kind
use Rattle.asan_senders.specs.Statuses.{unchecked, unwritten}
use Rattle.asan_inputs.specs.declared.names.BadNames.{BadNames}
use Rattle.asan_inputs.specs.declared.names.BadNames.TheVariants as names
use Rattle.asan_request.specs.declared.refusal.Refusal.{Refusal}
use Rattle.asan_request.specs.declared.refusal.Refusal.TheVariants as refusal

-- what an error of this kind means: that there was no memory, the help or the release that the
-- arguments ask for, or a mistake in them
abbrev pub refusal_of : ErrorKind → Error → Refusal
refusal_of kind.OutOfMemory error = refusal.NoMemory
refusal_of kind.DisplayHelp error = refusal.Help error
refusal_of kind.DisplayVersion error = refusal.Help error
refusal_of _ error = refusal.Mistake error

-- what it means that files of these names are not checked
abbrev pub refusal_of_names : BadNames → Refusal
refusal_of_names names.TooMany = refusal.TooManyFiles
refusal_of_names names.InputTwice = refusal.InputTwice
refusal_of_names names.NoMemory = refusal.NoMemory

-- the status of a command line that is refused (profile)
abbrev pub refused : ℕ
refused = 2

-- the status of a program that printed the help or the release, as asked (profile)
abbrev pub helped : ℕ
helped = 0

-- the status: that of a refused command line for a mistake in the arguments, and that of a program
-- that could not begin if there was no memory to read them; if they ask for help or the release it
-- depends on whether that could be printed
abbrev pub IsStatusFor : Refusal → ℕ → Type 0
IsStatusFor (refusal.Help text) status = (status ≡ helped) ⊎ (status ≡ unwritten)
IsStatusFor (refusal.Mistake text) status = status ≡ refused
IsStatusFor (refusal.OptionOutOfRange bad) status = status ≡ refused
IsStatusFor refusal.TooManyFiles status = status ≡ refused
IsStatusFor refusal.InputTwice status = status ≡ refused
IsStatusFor refusal.NoMemory status = status ≡ unchecked
