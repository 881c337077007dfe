-- What a shadow shows.
use Rattle.std.specs.Prelude.{◌≡◌, ℕ, ◌<◌, nat_lt, if◌then◌else◌, List}
use Rattle.asan_units.specs.Units.{granule_count}
use Rattle.page_table.specs.Tables.{byte_of}
use Rattle.shadow_map.specs.declared.shadow.Shadow.{Shadow}
use Rattle.shadow_map.specs.States.{Mark, AreMarks, state_of, lift}

module _ {A : Type 0} where
  -- the shadow byte that the shadow keeps for a granule
  unfoldable pub value_at : Shadow A → ℕ → ℕ
  value_at shadow granule = byte_of shadow.granules granule

  -- the shadow shows what these marks have left: the shadow byte of every granule below 2^44; and
  -- they are marks that calls may make
  pub record Shows (shadow : Shadow A) (marks : List Mark) : Type 0 where
    pub are_marks : AreMarks marks
    pub values : (granule : ℕ) → granule < granule_count →
        value_at shadow granule ≡ lift (state_of marks) granule

  -- below a granule the shadow shows the one list of marks, and from it on the other
  abbrev pub ShowsUpTo : ℕ → Shadow A → List Mark → List Mark → Type 0
  ShowsUpTo place shadow new old =
      (granule : ℕ) → granule < granule_count →
      value_at shadow granule
      ≡ (if nat_lt granule place then lift (state_of new) granule else lift (state_of old) granule)
