-- What a malloc is answered, and the book that is left.
use Rattle.std.specs.Prelude.{◌≡◌, ◌<◌, true, false}
use Rattle.heap_book.specs.declared.answers.Admit.{Admit}
use Rattle.heap_book.specs.declared.answers.Admit.TheVariants.{Ignored, Admitted, Refused}
use Rattle.heap_book.specs.Spans.{Extent, may_be_admitted}
use Rattle.heap_book.specs.Blocks.{Blocks, taken_blocks, AddsLive}

-- a malloc at address 0 is ignored; any other is admitted if it may be, beside the spans that are
-- taken, and else refused
abbrev pub IsAdmitAnswer : Blocks → Extent → Admit → Type 0
IsAdmitAnswer book block Ignored = block.at ≡ 0
IsAdmitAnswer book block (Admitted admitted) =
    (admitted ≡ block) × (0 < block.at) × (may_be_admitted (taken_blocks book) block ≡ true)
IsAdmitAnswer book block Refused =
    (0 < block.at) × (may_be_admitted (taken_blocks book) block ≡ false)

-- the book after the answer: only an admission changes it
abbrev pub AfterAdmit : Blocks → Admit → Blocks → Type 0
AfterAdmit old Ignored new = new ≡ old
AfterAdmit old (Admitted block) new = AddsLive old block new
AfterAdmit old Refused new = new ≡ old
