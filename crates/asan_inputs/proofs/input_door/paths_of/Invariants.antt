use Rattle.std.proofs.Common.{◌≡◌, take, map, string_bytes}
use Rattle.asan_inputs.proofs.input_door.paths_of.Given as goal

abbrev pub invariant-loop-name : goal.invariant-loop-name
invariant-loop-name l = map string_bytes l.paths.items ≡ map string_bytes (take l.name-index l.names)
