use Rattle.std.specs.Prelude.{codes}
use Rattle.clap.specs.Words.{found_of}
use Rattle.asan_request.proofs.Commands.{command_of, served}
use Rattle.asan_request.proofs.command_line.request_of.Goals as goal

pub returns-in_ok-files-in-Some-check-default-clause-found : goal.returns-in_ok-files-in-Some-check-default-clause-found
returns-in_ok-files-in-Some-check-default-clause-found c =
    let command = c.in-Some-check-default in
    let found = found_of command.of_check.now in (
      found,
      command_of c.args.matches.now found (codes "check") command.field-0-0.now command.ensures.name command.is-check
          command.ensures.rows,
      c.in_ok-files-in-Some-check-default.ensures.found,
    )

pub returns-in_ok-serving_of-in-Some-serve-default-clause-found :
    goal.returns-in_ok-serving_of-in-Some-serve-default-clause-found
returns-in_ok-serving_of-in-Some-serve-default-clause-found c =
    let command = c.in-Some-serve-default in
    let found = found_of command.of_serve.now in
    let serving = c.in_ok-serving_of-in-Some-serve-default in
    served c.args.matches.now found serving.field-0 c.map.result _ (λ s r made. made) c.map.ensures.cases
    (command_of c.args.matches.now found (codes "serve") command.field-0-0.now command.ensures.name command.is-serve
    command.ensures.rows)
    serving.ensures.socket serving.ensures.count serving.ensures.ready serving.ensures.options serving.ensures.live
    serving.ensures.lacks
