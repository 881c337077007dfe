use Rattle.std.proofs.Common.{◌≡◌, cond, take, map, string_bytes}
use Rattle.asan_inputs.specs.Inputs.{inputs_among}
use Rattle.asan_inputs.proofs.names.names_of.Given as goal

abbrev pub invariant-loop-file : goal.invariant-loop-file
invariant-loop-file l = record {
  names : map string_bytes l.names.items ≡ map (λ file. file.now) (take l.file-index l.files);
  inputs : inputs_among (map (λ file. file.now) (take l.file-index l.files)) ≡ cond l.has_input 1 0;
}
