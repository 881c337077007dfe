use Rattle.std.proofs.Common.{arith, ◌≡◌, ◌<◌, ◌∙◌, [], ℕ, Bor, List, ap, length, map, get_or, sym, take, true}
use Rattle.std.proofs.lemmas.List.{get_or-map, length-map, take-map}
use Rattle.std.specs.Str.{bytes_eq}
use Rattle.asan_inputs.specs.Inputs.{input_name, inputs_among}
use Rattle.asan_inputs.proofs.Turns.{one_more_input}
use Rattle.asan_inputs.proofs.names.names_of.Goals as goal

pub returns-then-has_input-clause-twice : goal.returns-then-has_input-clause-twice
returns-then-has_input-clause-twice c is =
    let files : List (Bor (List ℕ)) = c.args.files.now in
    let text : Bor (List ℕ) → List ℕ = λ file. file.now in
    let i = c.loop-file.file-index in
    let within : i < length (map text files) = rw (length-map files text) c.loop-file-test.true in
    let own : get_or (map text files) i [] ≡ (get_or files i record { ref_ptr = (0, 0); now = [] }).now =
    get_or-map text files i record { ref_ptr = (0, 0); now = [] } [] c.loop-file-test.true in
    let hit : bytes_eq (get_or (map text files) i []) input_name ≡ true = ap (λ name. bytes_eq name input_name) own
    ∙ sym c.eq-is_input.ensures ∙ c.if-is_input.true in
    let before : inputs_among (take i (map text files)) ≡ 1 = ap inputs_among (take-map text i files)
    ∙ (rw c.if-has_input.true at c.loop-file.invariant.inputs) in
    let more = one_more_input (map text files) i within hit in
    omega (arith, before, more)
