-- Runs, one after another.
use Rattle.std.proofs.Common.{◌≡◌, ℕ, zero, suc, ◌+◌, ◌-◌, ◌<◌, ◌≤◌, cond, leb, ltb, true, false, List, [], ◌∷◌, length}
use Rattle.std.proofs.Common.{take, get_or, refl, sym, ap, ◌∙◌, arith, inl, inr}
use Rattle.std.proofs.lemmas.Bool.{cases_lt}
use Rattle.std.proofs.lemmas.Bool.Decides.{nat_tests}
use Rattle.std.proofs.lemmas.List.{take_more}
use Rattle.std.proofs.lemmas.List.Sums.{sum_by-cons, sum_by-append, sum_by-take-le}
use Rattle.page_table.specs.declared.run.Run.{Run}
use Rattle.page_table.specs.Runs.{length_of, byte_of_runs}
use Rattle.page_table.specs.Nodes.{IsFilled, HasRunsUpTo}

-- what stands past the last run
abbrev pub no_run : Run
no_run = record { length = 0; byte = 0 }

length_cons : (run : Run) (runs : List Run) → length_of (run ∷ runs) ≡ run.length + length_of runs
length_cons run runs = sum_by-cons (λ r. r.length) run runs

first_step : (run : Run) (runs : List Run) (offset : ℕ) →
    byte_of_runs (run ∷ runs) offset ≡ cond (ltb offset run.length) run.byte (byte_of_runs runs (offset - run.length))
first_step run runs offset = refl

-- the byte at an offset that lies in a run
pub byte_in_run : (runs : List Run) (i : ℕ) (offset : ℕ) → i < length runs →
    length_of (take i runs) ≤ offset → offset < length_of (take i runs) + (get_or runs i no_run).length →
    byte_of_runs runs offset ≡ (get_or runs i no_run).byte
byte_in_run [] i offset lt low high = absurd (omega arith)
byte_in_run (first ∷ runs) zero offset lt low high =
    first_step first runs offset ∙ grind (arith, nat_tests)
byte_in_run (first ∷ runs) (suc i) offset lt low high =
    let long = length_cons first (take i runs) in
    let past : ltb offset first.length ≡ false = grind (arith, nat_tests) in
    first_step first runs offset ∙ rw past (byte_in_run runs i (offset - first.length) (omega arith) (omega arith)
    (omega arith))

-- the runs up to one, and the runs with it
pub length_on : (runs : List Run) (i : ℕ) → i < length runs →
    length_of (take (i + 1) runs) ≡ length_of (take i runs) + (get_or runs i no_run).length
length_on runs i lt =
    ap length_of (take_more runs i no_run lt) ∙ sum_by-append (λ r. r.length) (take i runs) (get_or runs i no_run ∷ [])
    ∙ ap (λ n. length_of (take i runs) + n) (length_cons (get_or runs i no_run) [] ∙ omega arith)

pub length_within : (runs : List Run) (i : ℕ) → length_of (take i runs) ≤ length_of runs
length_within runs i = sum_by-take-le (λ r. r.length) runs i

-- runs that are filled in up to one of them, and then a part of it
module _ (width : ℕ) (old now new : ℕ → ℕ) (from at : ℕ) (runs : List Run) (i : ℕ) (lt : i < length runs)
    (reached : at ≡ from + length_of (take i runs)) where
  pub filled_on : (to : ℕ) → at ≤ to → to ≤ at + (get_or runs i no_run).length →
      HasRunsUpTo width old now from at runs → IsFilled width now new at to (get_or runs i no_run).byte →
      HasRunsUpTo width old new from to runs
  filled_on to low high done filled index below =
      filled index below ∙ rw (done index below) (elim (cases_lt index at) [
        | inl before ↦
            let yes : ltb index at ≡ true = grind (arith, nat_tests) in
            let also : ltb index to ≡ true = grind (arith, nat_tests) in
            let no : leb at index ≡ false = grind (arith, nat_tests) in
            rw (yes, also, no) refl
        | inr from_here ↦ elim (cases_lt index to) [
          | inl inside ↦
              let yes : leb at index ≡ true = grind (arith, nat_tests) in
              let no : ltb index at ≡ false = grind (arith, nat_tests) in
              let also : ltb index to ≡ true = grind (arith, nat_tests) in
              let low : leb from index ≡ true = grind (arith, nat_tests) in
              rw (yes, no, also, low) (sym (byte_in_run runs i (index - from) lt (omega arith) (omega arith)))
          | inr past ↦
              let no : ltb index at ≡ false = grind (arith, nat_tests) in
              let also : ltb index to ≡ false = grind (arith, nat_tests) in
              let yes : leb at index ≡ true = grind (arith, nat_tests) in
              rw (yes, no, also) refl
        ]
      ])
