-- What a reader remembers.
use Rattle.std.specs.Option.{ForSome}
use Rattle.page_table.specs.declared.table.PageTable.{PageTable}
use Rattle.page_table.specs.declared.reader.Found.{Found}
use Rattle.page_table.specs.declared.reader.FoundArea.{FoundArea}
use Rattle.page_table.specs.Tables.{IsArea, IsPart}

-- what is remembered at a place: the part of that number, or no part
abbrev pub IsFound : {A : Type 0} → PageTable A → Found A → Type 0
IsFound table found = ForSome found.part (λ part. IsPart table found.number part.now)

-- what is remembered of the areas: the area of that number, or none
abbrev pub IsFoundArea : {A : Type 0} → PageTable A → FoundArea A → Type 0
IsFoundArea table found = ForSome found.area (λ area. IsArea table found.number area.now)
