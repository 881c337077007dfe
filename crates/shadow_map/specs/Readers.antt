-- What a reader of a shadow reads.
use Rattle.page_table.specs.Readers.{table_of}
use Rattle.shadow_map.specs.declared.shadow.Shadow.{Shadow}
use Rattle.shadow_map.specs.declared.reader.ShadowReader.{ShadowReader}

-- the shadow that a reader reads
abbrev pub shadow_of : {A : Type 0} → ShadowReader A → Shadow A
shadow_of reader = record { granules = table_of reader.granules }
