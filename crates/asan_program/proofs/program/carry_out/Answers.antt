use Rattle.std.proofs.Common.{◌≡◌}
use Rattle.asan_program.proofs.program.carry_out.Goals as goal

pub returns-in_ok-check_files-in-Files-clause-files : goal.returns-in_ok-check_files-in-Files-clause-files
returns-in_ok-check_files-in-Files-clause-files g c files is =
    let same : c.in-Files.files ≡ files = (let its = c.in-Files.is in cc) in
    rw same at c.in_ok-check_files-in-Files.ensures.files
