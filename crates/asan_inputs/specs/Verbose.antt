-- Whether the words of the command line ask for a line on what became of each file.
use Rattle.std.specs.Prelude.{Bool, List, String, codes, string_bytes}
use Rattle.std.specs.List.{list_any}
use Rattle.std.specs.Str.{bytes_eq}
use Rattle.std.specs.declared.alloc.Global.{Global}

-- whether `--verbose` is one of the words
abbrev pub is_verbose : List (String Global) → Bool
is_verbose words = list_any (λ word. bytes_eq (string_bytes word) (codes "--verbose")) words
