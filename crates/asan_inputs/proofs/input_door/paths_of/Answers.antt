use Rattle.std.proofs.Common.{arith, ◌≡◌, Some, ap, map, string_bytes, sym, ◌∙◌}
use Rattle.std.proofs.lemmas.List.{take_all}
use Rattle.asan_inputs.specs.Inputs.{input_place}
use Rattle.asan_inputs.proofs.Turns.{names_restored}
use Rattle.asan_inputs.proofs.input_door.paths_of.Goals as goal

pub returns-in-Some-clause-names : goal.returns-in-Some-clause-names
returns-in-Some-clause-names c =
    let names = c.args.names.now in
    let paths = c.loop-name.paths.items in
    let place : input_place names ≡ Some c.in-Some.place = sym c.place_of_input.ensures ∙ c.in-Some.is in
    let end = c.loop-name-test.false in
    let same : map string_bytes paths ≡ map string_bytes names = c.loop-name.invariant
    ∙ ap (map string_bytes) (take_all c.loop-name.name-index names (omega (arith, end))) in
    rw c.remove.ensures.items (names_restored names paths c.in-Some.place place same)
