use Rattle.std.proofs.lemmas.List.Elements.{recursion_from_All}
use Rattle.text_laws.specs.Texts.{LineFits}
use Rattle.text_laws.proofs.Texts.{lines_read}
use Rattle.text_laws.proofs.laws.printed_texts_have_one_reading.Goals as goal

pub returns : goal.returns
returns c ls ms fit fit_too e =
    lines_read ls ms (recursion_from_All LineFits ls fit) (recursion_from_All LineFits ms fit_too) e
