-- What a printer does to a writer and to the text that it holds back.
use Rattle.std.specs.Prelude.{◌≡◌, ℕ, ◌+◌, ◌<◌, List, ◌++◌, length, Option, string_bytes}
use Rattle.std.specs.Io.KnownBytes.{Appends}
use Rattle.asan_print.specs.declared.printer.Printer.{Printer}

module _ {A : Type 0} where
  -- what a contract sees of a printer: the text that it holds back, and how many bytes went out
  -- before it
  abbrev pub held_back : Printer A → List ℕ
  held_back p = string_bytes p.text

  abbrev pub written_of : Printer A → ℕ
  written_of p = p.sent

  -- how many bytes were printed so far: those that went out, and those that are held back
  abbrev pub printed_of : Printer A → ℕ
  printed_of p = written_of p + length (held_back p)

  -- a text was printed: what the printer had held back, and then the text, are what went out and
  -- what it holds back now
  pub record Prints
      (before after : Option (List ℕ)) (old new : Printer A) (text : List ℕ) : Type 0 where
    pub out : List ℕ
    pub sent : Appends before after out
    pub parts : held_back old ++ text ≡ out ++ held_back new
    pub count : written_of new ≡ written_of old + length out

  -- the printing of a text broke off: what the printer had held back, and then the text, are what
  -- went out and some more; this number of bytes went out in all
  pub record BreaksOff
      (before after : Option (List ℕ)) (old : Printer A) (text : List ℕ) (written : ℕ)
      : Type 0 where
    pub out : List ℕ
    pub rest : List ℕ
    pub sent : Appends before after out
    pub parts : held_back old ++ text ≡ out ++ rest
    pub short : 0 < length rest
    pub count : written ≡ written_of old + length out
