-- The tags that entries stand for.
use Rattle.std.specs.Prelude.{◌+◌, ◌*◌, ◌^◌}
use Rattle.line_map.specs.declared.tag.Tag.{Tag}
use Rattle.line_map.specs.declared.packed_tag.PackedTag.{PackedTag}

-- the tag of an entry
abbrev pub tag_of : PackedTag → Tag
tag_of entry = record {
  offset = entry.offset;
  slot = record { size = entry.size_high * 2 ^ 32 + entry.size_low; live = entry.live };
}
