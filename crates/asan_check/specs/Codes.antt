-- Why the bytes that the checker marks are not addressable, and the class that a bad access has by
-- that. The codes and the classes are this project's choice (profile).
use Rattle.std.specs.Prelude.{ℕ, ◌==◌, if◌then◌else◌, List, [], ◌∷◌}
use Rattle.shadow_map.specs.States.{State, Coded, HeapRedzone, code_of}
use Rattle.trace_record.specs.declared.shade.Kind.{Kind}
use Rattle.trace_record.specs.declared.shade.Kind.TheVariants as kind
use Rattle.asan_check.specs.declared.report.Class.{Class}
use Rattle.asan_check.specs.declared.report.Class.TheVariants as class

-- beside the redzone of a block: the bytes of a block that was freed; what the user poisons, and
-- the redzones that a compiler puts round the variables of a stack frame and round globals
abbrev pub Freed : State
Freed = Coded 0xfd

abbrev pub UserPoison : State
UserPoison = Coded 0xf7

abbrev pub StackRedzone : State
StackRedzone = Coded 0xf2

abbrev pub GlobalRedzone : State
GlobalRedzone = Coded 0xf9

-- the code that a poison of a kind gives
abbrev pub code_of_kind : Kind → ℕ
code_of_kind kind.User = code_of UserPoison
code_of_kind kind.Stack = code_of StackRedzone
code_of_kind kind.Global = code_of GlobalRedzone

-- the codes, each with the class that it stands for
abbrev pub classes : List (ℕ × Class)
classes =
    (code_of HeapRedzone, class.HeapBufferOverflow)
    ∷ (code_of Freed, class.HeapUseAfterFree)
    ∷ (code_of UserPoison, class.UseAfterPoison)
    ∷ (code_of StackRedzone, class.StackBufferOverflow)
    ∷ (code_of GlobalRedzone, class.GlobalBufferOverflow)
    ∷ []

-- the class that a byte stands for by such rows: unknown where it is in none
abbrev pub class_among : List (ℕ × Class) → ℕ → Class
class_among [] code = class.UnknownCrash
class_among (row ∷ rows) code = if code == row.0 then row.1 else class_among rows code

-- the class that a shadow byte stands for
abbrev pub class_of_code : ℕ → Class
class_of_code = class_among classes
