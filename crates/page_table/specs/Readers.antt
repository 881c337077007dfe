-- What a reader reads.
use Rattle.page_table.specs.declared.table.PageTable.{PageTable}
use Rattle.page_table.specs.declared.reader.Reader.{Reader}

-- the table that a reader reads
abbrev pub table_of : {A : Type 0} → Reader A → PageTable A
table_of reader = reader.table.now
