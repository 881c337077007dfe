-- What the tags of a node come to.
use Rattle.std.specs.Prelude.{◌≡◌, ℕ, ◌<◌, ◌≤◌, ◌^◌, ◌==◌, ◌⊎◌, if◌then◌else◌}
use Rattle.std.specs.Prelude.{Option, Some, None, IsSome}
use Rattle.line_map.specs.declared.tag.Tag.{Tag}

-- a width that a node may have
abbrev pub IsWidth : ℕ → Type 0
IsWidth width = (0 < width) × (width ≤ 2 ^ 47)

-- of the lines below a width, one has this tag now, and the others have what they had
abbrev pub IsPut : ℕ → (ℕ → Option Tag) → (ℕ → Option Tag) → ℕ → Option Tag → Type 0
IsPut width old new line tag =
    (index : ℕ) → index < width → new index ≡ (if index == line then tag else old index)

-- the last of the lines below one that has a tag
abbrev pub IsLastLine : (ℕ → Option Tag) → ℕ → Option ℕ → Type 0
IsLastLine tags end None = (line : ℕ) → line < end → tags line ≡ None
IsLastLine tags end (Some found) =
    (found < end) × IsSome (tags found)
    × ((line : ℕ) → found < line → line < end → tags line ≡ None)

-- the same line, with its tag
abbrev pub IsLastBelow : (ℕ → Option Tag) → ℕ → Option (ℕ × Tag) → Type 0
IsLastBelow tags end None = (line : ℕ) → line < end → tags line ≡ None
IsLastBelow tags end (Some found) =
    (found.0 < end) × (tags found.0 ≡ Some found.1)
    × ((line : ℕ) → found.0 < line → line < end → tags line ≡ None)

-- a tag, if there is one, stands at an offset or past it
abbrev pub StandsFrom : ℕ → Option Tag → Type 0
StandsFrom offset tag = (found : Tag) → tag ≡ Some found → offset ≤ found.offset

-- the last tag before an offset of a line, with its line: that of the line itself, if it stands
-- before the offset, and else the last of the lines below
abbrev pub IsLastBeforePlace : (ℕ → Option Tag) → ℕ → ℕ → Option (ℕ × Tag) → Type 0
IsLastBeforePlace tags line offset result =
    ((tag : Tag) × (result ≡ Some (line, tag)) × (tags line ≡ Some tag)
    × (tag.offset < offset))
    ⊎ (StandsFrom offset (tags line) × IsLastBelow tags line result)
