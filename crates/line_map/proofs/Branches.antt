-- The tags of a branch by those of its nodes.
use Rattle.std.proofs.Common.{◌≡◌, ◌≢◌, ℕ, zero, suc, ◌+◌, ◌-◌, ◌*◌, ◌/◌, ◌%◌, ◌<◌, ◌≤◌, cond, eqb, true, false, List}
use Rattle.std.proofs.Common.{[], ◌∷◌, ◌++◌, Option, Some, None, length, get_or, set, length-append, refl, sym, ap, ◌∙◌}
use Rattle.std.proofs.Common.{arith, inl, inr}
use Rattle.std.specs.Prelude.{map, nat_lt, IsSome}
use Rattle.std.proofs.lemmas.Bool.{cases_eq, cases_lt}
use Rattle.std.proofs.lemmas.Bool.Decides.{nat_tests}
use Rattle.std.proofs.lemmas.List.{get_or-map, get_or-set_same, get_or-set_other, get_or_past, get_or_append_left}
use Rattle.std.proofs.lemmas.List.{get_or_default, map-set, length-set, length-map}
use Rattle.std.proofs.Math.Seq.{get_or-append_seam}
use Rattle.std.proofs.lemmas.Nat.{div-mul-add, mod-mul-add, div-add-mod'}
use Rattle.std.proofs.Math.Nat.{mod-lt, mul-le-mul_right}
use Rattle.line_map.specs.declared.tag.Tag.{Tag}
use Rattle.line_map.specs.Nodes.{IsPut, IsLastLine, IsLastBelow, StandsFrom, IsLastBeforePlace}
use Rattle.line_map.specs.Branches.{nodes_tag}

-- ---- a line of the branch, and the same line within its node
same_line : (width line index : ℕ) → index / width ≡ line / width → eqb (index % width) (line % width) ≡ eqb index line
same_line width line index same =
    let split : line / width * width + line % width ≡ line = div-add-mod' line width in
    let also : line / width * width + index % width ≡ index = rw (← same) (div-add-mod' index width) in
    grind (arith, nat_tests)

other_line : (width line index : ℕ) → index / width ≢ line / width → eqb index line ≡ false
other_line width line index other =
    elim (cases_eq index line) [
      | inl same ↦ absurd (other (ap (λ i. i / width) same))
      | inr apart ↦ grind (arith, nat_tests)
    ]

-- ---- whole nodes
pub within : (place width line : ℕ) → place * width ≤ line → line < place * width + width → line / width ≡ place
within place width line low high =
    let rest : line ≡ place * width + (line - place * width) = omega arith in
    ap (λ i. i / width) rest ∙ div-mul-add place width (line - place * width) (omega arith)

pub one_less : (place width : ℕ) → 0 < place → (place - 1) * width + width ≡ place * width
one_less zero width lt = absurd (omega arith)
one_less (suc place) width lt =
    let less : suc place - 1 ≡ place = omega arith in
    rw less (omega arith)

pub one_lower : (first place width : ℕ) → 0 < place → (first + (place - 1)) * width + width ≡ (first + place) * width
one_lower first place width lt =
    let less : first + (place - 1) ≡ (first + place) - 1 = omega arith in
    rw less (one_less (first + place) width (omega arith))

pub reached : (number width line : ℕ) → number ≤ line / width → number * width ≤ line
reached number width line le =
    let split : line / width * width + line % width ≡ line = div-add-mod' line width in
    let more : number * width ≤ line / width * width = mul-le-mul_right width le in
    omega arith

-- ---- the last line with a tag, where the lines above an end have none
pub raised : (tags : ℕ → Option Tag) (low end : ℕ) (result : Option ℕ) → low ≤ end →
    ((line : ℕ) → low ≤ line → line < end → tags line ≡ None) → IsLastLine tags low result
    → IsLastLine tags end result
raised tags low end None le none last = λ line lt.
    elim (cases_lt line low) [
      | inl below ↦ last line below
      | inr above ↦ none line above lt
    ]
raised tags low end (Some found) le none last = (
  let below = last.0 in omega arith,
  last.1,
  λ line past lt.
      elim (cases_lt line low) [
        | inl below ↦ last.2 line past below
        | inr above ↦ none line above lt
      ],
)

pub raised_entry : (tags : ℕ → Option Tag) (low end : ℕ) (result : Option (ℕ × Tag)) → low ≤ end →
    ((line : ℕ) → low ≤ line → line < end → tags line ≡ None) → IsLastBelow tags low result
    → IsLastBelow tags end result
raised_entry tags low end None le none last = raised tags low end None le none last
raised_entry tags low end (Some found) le none last = (
  let below = last.0 in omega arith,
  last.1,
  λ line past lt.
      elim (cases_lt line low) [
        | inl below ↦ last.2 line past below
        | inr above ↦ none line above lt
      ],
)

some_of : {new old : Option Tag} → new ≡ old → IsSome old → IsSome new
some_of same some = rw same some

-- ---- the tag of a line, by the node in which it lies
module _ {S : Type 0} (tag_at : S → ℕ → Option Tag) (width first : ℕ) (nodes : List S) where
  abbrev tags : ℕ → Option Tag
  tags line = nodes_tag tag_at width first nodes line

  -- a node that is kept
  pub kept_tag : (place line : ℕ) (node : S) → place < length nodes → node ≡ get_or nodes place node
      → line / width ≡ first + place →
      tags line ≡ tag_at node (line % width)
  kept_tag place line node lt is same =
      let there : S → Option Tag = λ node. tag_at node (line % width) in
      let no : nat_lt (line / width) first ≡ false = grind (arith, nat_tests) in
      let at : line / width - first ≡ place = omega arith in
      rw (no, at) (get_or-map there nodes place node None lt ∙ ap there (sym is))

  -- one below those that are kept
  pub below_tag : (line : ℕ) → line / width < first → tags line ≡ None
  below_tag line lt =
      let yes : nat_lt (line / width) first ≡ true = grind (arith, nat_tests) in
      rw yes refl

  -- one above them
  pub above_tag : (line : ℕ) → first + length nodes ≤ line / width → tags line ≡ None
  above_tag line le =
      let there : S → Option Tag = λ node. tag_at node (line % width) in
      let no : nat_lt (line / width) first ≡ false = grind (arith, nat_tests) in
      let len : length (map there nodes) ≡ length nodes = length-map nodes there in
      rw no (get_or_past (map there nodes) (line / width - first) None (omega arith))

  -- ---- the last line of a node that has a tag, as one of the branch
  module _ (place : ℕ) (node : S) (positive : 0 < width) (kept : place < length nodes)
      (is : node ≡ get_or nodes place node) where
    pub none_below : (end : ℕ) → end ≤ width → IsLastLine (tag_at node) end None →
        (line : ℕ) → (first + place) * width ≤ line → line < (first + place) * width + end → tags line ≡ None
    none_below end most none line low high =
        let here : line / width ≡ first + place = within (first + place) width line low (omega arith) in
        let split : line / width * width + line % width ≡ line = div-add-mod' line width in
        let same : line / width * width ≡ (first + place) * width = ap (λ i. i * width) here in
        kept_tag place line node kept is here ∙ none (line % width) (omega arith)

    pub last_below : (end : ℕ) (found : ℕ) → end ≤ width → IsLastLine (tag_at node) end (Some found) →
        IsLastLine tags ((first + place) * width + end) (Some ((first + place) * width + found))
    last_below end found most last =
        let below : found < end = last.0 in
        let here : ((first + place) * width + found) / width ≡ first + place =
        div-mul-add (first + place) width found (omega arith) in
        let rest : ((first + place) * width + found) % width ≡ found =
        mod-mul-add (first + place) width found (omega arith) in (
          omega arith,
          some_of (kept_tag place ((first + place) * width + found) node kept is here ∙ ap (tag_at node) rest) last.1,
          λ line past lt.
              let there : line / width ≡ first + place =
              within (first + place) width line (omega arith) (omega arith) in
              let split : line / width * width + line % width ≡ line = div-add-mod' line width in
              let same : line / width * width ≡ (first + place) * width = ap (λ i. i * width) there in
              kept_tag place line node kept is there ∙ last.2 (line % width) (omega arith) (omega arith),
        )

    entry_below : (end found : ℕ) (tag : Tag) → end ≤ width → IsLastBelow (tag_at node) end (Some (found, tag)) →
        IsLastBelow tags ((first + place) * width + end) (Some ((first + place) * width + found, tag))
    entry_below end found tag most last =
        let line = last_below end found most (last.0, some_of last.1 refl, last.2) in
        let below : found < end = last.0 in
        let here : ((first + place) * width + found) / width ≡ first + place =
        div-mul-add (first + place) width found (omega arith) in
        let rest : ((first + place) * width + found) % width ≡ found =
        mod-mul-add (first + place) width found (omega arith) in (
          line.0,
          kept_tag place ((first + place) * width + found) node kept is here ∙ ap (tag_at node) rest ∙ last.1,
          line.2,
        )

    -- ---- the last tag of a node before an offset of a line, as one of the branch
    module _ (line offset : ℕ) (here : line / width ≡ first + place) where
      own : tags line ≡ tag_at node (line % width)
      own = kept_tag place line node kept is here

      whole : (first + place) * width + line % width ≡ line
      whole =
          let split : line / width * width + line % width ≡ line = div-add-mod' line width in
          let same : line / width * width ≡ (first + place) * width = ap (λ i. i * width) here in
          omega arith

      from_of : StandsFrom offset (tag_at node (line % width)) → StandsFrom offset (tags line)
      from_of from = λ tag some. from tag (sym own ∙ some)

      pub place_some : (found : ℕ) (tag : Tag)
          → IsLastBeforePlace (tag_at node) (line % width) offset (Some (found, tag))
          → IsLastBeforePlace tags line offset (Some ((first + place) * width + found, tag))
      place_some found tag (inl (there, same, some, before)) =
          let pair : (found, tag) ≡ (line % width, there) = cc in
          let line_is : found ≡ line % width = ap (λ (last : ℕ × Tag). last.0) pair in
          let tag_is : tag ≡ there = ap (λ (last : ℕ × Tag). last.1) pair in
          rw (line_is, tag_is, whole) (inl (there, refl, own ∙ some, before))
      place_some found tag (inr (from, last)) =
          let rest : line % width < width = mod-lt line positive in
          let lower = entry_below (line % width) found tag (omega arith) last in
          inr (from_of from, rw whole at lower)

      pub place_none : IsLastBeforePlace (tag_at node) (line % width) offset None → StandsFrom offset (tags line)
          × ((index : ℕ) → (first + place) * width ≤ index → index < line → tags index ≡ None)
      place_none (inl (there, same, some, before)) = absurd cc
      place_none (inr (from, none)) =
          let rest : line % width < width = mod-lt line positive in
          let all = whole in (
            from_of from,
            λ index low high. none_below (line % width) (omega arith) none index low (omega arith),
          )

module _ {S : Type 0} (tag_at : S → ℕ → Option Tag) (width first : ℕ) (nodes : List S) where
  abbrev old : ℕ → Option Tag
  old line = nodes_tag tag_at width first nodes line

  -- ---- one node is another now
  module _ (place : ℕ) (new : S) (lt : place < length nodes) where
    abbrev now : ℕ → Option Tag
    now line = nodes_tag tag_at width first (set nodes place new) line

    here_tag : (line : ℕ) → line / width ≡ first + place → now line ≡ tag_at new (line % width)
    here_tag line same =
        kept_tag tag_at width first (set nodes place new) place line new (rw length-set lt)
        (sym (get_or-set_same nodes place new new lt)) same

    other_tag : (line : ℕ) → line / width ≢ first + place → now line ≡ old line
    other_tag line other =
        elim (cases_lt (line / width) first) [
          | inl below ↦ below_tag tag_at width first (set nodes place new) line below
              ∙ sym (below_tag tag_at width first nodes line below)
          | inr above ↦
              let there : S → Option Tag = λ node. tag_at node (line % width) in
              let no : nat_lt (line / width) first ≡ false = grind (arith, nat_tests) in
              rw no
              (ap (λ (tags : List (Option Tag)). get_or tags (line / width - first) None)
              (map-set there nodes place new)
              ∙ get_or-set_other (map there nodes) place (line / width - first) (there new) None (omega arith))
        ]

    -- one line of it is given a tag, or loses its own
    pub node_put : (line : ℕ) (tag : Option Tag) (node : S) → 0 < width → line / width ≡ first + place
        → node ≡ get_or nodes place node →
        IsPut width (tag_at node) (tag_at new) (line % width) tag → (index : ℕ)
        → now index ≡ cond (eqb index line) tag (old index)
    node_put line tag node positive here is put index =
        elim (cases_eq (index / width) (line / width)) [
          | inl same ↦
              let was : old index ≡ tag_at node (index % width) =
              kept_tag tag_at width first nodes place index node lt is (same ∙ here) in
              here_tag index (same ∙ here) ∙ put (index % width) (mod-lt index positive)
              ∙ rw (was, same_line width line index same) refl
          | inr other ↦ rw (other_line width line index other) (other_tag index (λ same. other (same ∙ sym here)))
        ]

    -- its tags are what they were
    pub node_same : (node : S) → node ≡ get_or nodes place node → ((line : ℕ) → tag_at new line ≡ tag_at node line) →
        (line : ℕ) → now line ≡ old line
    node_same node is same line =
        elim (cases_eq (line / width) (first + place)) [
          | inl here ↦ here_tag line here ∙ same (line % width)
              ∙ sym (kept_tag tag_at width first nodes place line node lt is here)
          | inr other ↦ other_tag line other
        ]

  -- ---- one node more is kept, which has no tags
  module _ (node : S) (none : (line : ℕ) → tag_at node line ≡ None) where
    -- above the others
    pub pushed : (line : ℕ) → nodes_tag tag_at width first (nodes ++ node ∷ []) line ≡ old line
    pushed line =
        elim (cases_lt (line / width) first) [
          | inl below ↦ below_tag tag_at width first (nodes ++ node ∷ []) line below
              ∙ sym (below_tag tag_at width first nodes line below)
          | inr above ↦
              let len : length (nodes ++ node ∷ []) ≡ length nodes + 1 = length-append nodes (node ∷ []) in
              elim (cases_lt (line / width) (first + length nodes)) [
                | inl kept ↦
                    let place : ℕ = line / width - first in
                    let lt : place < length nodes = omega arith in
                    let at : line / width ≡ first + place = omega arith in
                    let had : S = get_or nodes place node in
                    let is : had ≡ get_or nodes place had = get_or_default nodes place node had lt in
                    kept_tag tag_at width first (nodes ++ node ∷ []) place line had (omega arith)
                    (is ∙ sym (get_or_append_left nodes (node ∷ []) had place lt)) at
                    ∙ sym (kept_tag tag_at width first nodes place line had lt is at)
                | inr past ↦
                    elim (cases_eq (line / width) (first + length nodes)) [
                      | inl same ↦
                          kept_tag tag_at width first (nodes ++ node ∷ []) (length nodes) line node (omega arith)
                          (sym (get_or-append_seam nodes node [] node)) same
                          ∙ none (line % width) ∙ sym (above_tag tag_at width first nodes line past)
                      | inr other ↦ above_tag tag_at width first (nodes ++ node ∷ []) line (omega arith)
                          ∙ sym (above_tag tag_at width first nodes line past)
                    ]
              ]
        ]

    -- below the others
    pub fronted : 0 < first → (line : ℕ) → nodes_tag tag_at width (first - 1) (node ∷ nodes) line ≡ old line
    fronted positive line =
        elim (cases_lt (line / width) first) [
          | inl below ↦
              (elim (cases_lt (line / width) (first - 1)) [
                | inl low ↦ below_tag tag_at width (first - 1) (node ∷ nodes) line low
                | inr high ↦ kept_tag tag_at width (first - 1) (node ∷ nodes) 0 line node (omega arith) refl
                    (omega arith) ∙ none (line % width)
              ]) ∙ sym (below_tag tag_at width first nodes line below)
          | inr above ↦
              let there : S → Option Tag = λ node. tag_at node (line % width) in
              let no : nat_lt (line / width) first ≡ false = grind (arith, nat_tests) in
              let also : nat_lt (line / width) (first - 1) ≡ false = grind (arith, nat_tests) in
              let next : line / width - (first - 1) ≡ suc (line / width - first) = omega arith in
              rw (no, also, next) refl
        ]
