-- The bytes of a branch by those of its nodes.
use Rattle.std.proofs.Common.{◌≡◌, ◌≢◌, ℕ, zero, suc, ◌+◌, ◌-◌, ◌*◌, ◌/◌, ◌%◌, ◌<◌, ◌≤◌, cond, leb, ltb, Bool, true}
use Rattle.std.proofs.Common.{false, List, [], ◌∷◌, length, get_or, set, refl, sym, ap, ◌∙◌, arith, inl, inr}
use Rattle.std.specs.Prelude.{◌&&◌, map}
use Rattle.std.proofs.lemmas.Bool.{cases_eq, cases_lt}
use Rattle.std.proofs.lemmas.Bool.Decides.{nat_tests}
use Rattle.std.proofs.lemmas.List.{get_or-map, get_or-set_same, get_or-set_other, map-set, length-set}
use Rattle.std.proofs.lemmas.Nat.{div-mul-add, div-add-mod', le-div}
use Rattle.std.proofs.Math.Nat.{mod-lt}
use Rattle.page_table.specs.declared.run.Run.{Run}
use Rattle.page_table.specs.Runs.{byte_of_runs}
use Rattle.page_table.specs.Nodes.{IsFilled, HasRunsUpTo}

pub past_the_kept : {X : Type 0} (f : X → ℕ) (nodes : List X) (place rest : ℕ) → length nodes ≤ place
    → get_or (map f nodes) place rest ≡ rest
past_the_kept f [] place rest le = refl
past_the_kept f (node ∷ nodes) zero rest le = absurd (omega arith)
past_the_kept f (node ∷ nodes) (suc place) rest le = past_the_kept f nodes place rest (omega arith)

either : (b : Bool) (byte : ℕ) → byte ≡ cond b byte byte
either true byte = refl
either false byte = refl

-- the indices from one up to another, which lie in one node, as they stand within that node and within the branch
module _ (width from to index : ℕ) where
  same_node : from ≤ to → index / width ≡ from / width →
      (leb (from % width) (index % width) && ltb (index % width) (from % width + (to - from)))
      ≡ (leb from index && ltb index to)
  same_node order same =
      let split : from / width * width + from % width ≡ from = div-add-mod' from width in
      let also : from / width * width + index % width ≡ index = rw (← same) (div-add-mod' index width) in
      grind (arith, nat_tests)

  other_node : to ≤ from - from % width + width → index / width ≢ from / width
      → (leb from index && ltb index to) ≡ false
  other_node end other =
      let split : from / width * width + from % width ≡ from = div-add-mod' from width in
      elim (cases_lt index from) [
        | inl lt ↦ grind (arith, nat_tests)
        | inr ge ↦ elim (cases_lt index to) [
          | inl lt ↦
              let node : index ≡ from / width * width + (index - from / width * width) = omega arith in
              absurd (other (ap (λ i. i / width) node
              ∙ div-mul-add (from / width) width (index - from / width * width) (omega arith)))
          | inr past ↦ grind (arith, nat_tests)
        ]
      ]

-- how far an index is from another in its node
same_offset : (width from index : ℕ) → index / width ≡ from / width → index % width - from % width ≡ index - from
same_offset width from index same =
    let split : from / width * width + from % width ≡ from = div-add-mod' from width in
    let also : from / width * width + index % width ≡ index = rw (← same) (div-add-mod' index width) in
    omega arith

module _ {S : Type 0} (byte_at : S → ℕ → ℕ) (width : ℕ) where
  abbrev pub byte_from : List S → ℕ → ℕ → ℕ
  byte_from nodes rest index = get_or (map (λ node. byte_at node (index % width)) nodes) (index / width) rest

  module _ (nodes : List S) (from to byte rest index : ℕ) (order : from ≤ to)
      (within : to ≤ from - from % width + width) where
    -- these indices lie in a node, and are set there
    pub node_set : (node new : S) (there here : ℕ → ℕ) → 0 < width → from / width < length nodes
        → node ≡ get_or nodes (from / width) node →
        (index / width ≡ from / width → there (index % width) ≡ here index) →
        ((place : ℕ) → place < width → byte_at new place
        ≡ cond (leb (from % width) place && ltb place (from % width + (to - from))) (there place)
        (byte_at node place)) →
        byte_from (set nodes (from / width) new) rest index
        ≡ cond (leb from index && ltb index to) (here index) (byte_from nodes rest index)
    node_set node new there here positive lt is agree filled =
        let place = from / width in
        let byte_there : S → ℕ = λ node. byte_at node (index % width) in
        elim (cases_eq (index / width) place) [
          | inl same ↦
              let now : byte_from (set nodes place new) rest index ≡ byte_there new =
              rw same (get_or-map byte_there (set nodes place new) place new rest (rw length-set lt)
              ∙ ap byte_there (get_or-set_same nodes place new new lt)) in
              let was : byte_from nodes rest index ≡ byte_there node =
              rw same (get_or-map byte_there nodes place node rest lt ∙ ap byte_there (sym is)) in
              now ∙ filled (index % width) (mod-lt index positive)
              ∙ rw (was, agree same, same_node width from to index order same) refl
          | inr other ↦
              rw (other_node width from to index within other)
              (ap (λ (bytes : List ℕ). get_or bytes (index / width) rest) (map-set byte_there nodes place new)
              ∙ get_or-set_other (map byte_there nodes) place (index / width) (byte_there new) rest other)
        ]

    -- and all get one byte
    pub node_filled : (node new : S) → 0 < width → from / width < length nodes → node ≡ get_or nodes (from / width) node
        →
        IsFilled width (byte_at node) (byte_at new) (from % width) (from % width + (to - from)) byte →
        byte_from (set nodes (from / width) new) rest index
        ≡ cond (leb from index && ltb index to) byte (byte_from nodes rest index)
    node_filled node new positive lt is filled =
        node_set node new (λ place. byte) (λ index. byte) positive lt is (λ same. refl) filled

    -- and get what some runs say
    pub node_has_runs : (runs : List Run) (node new : S) → 0 < width → from / width < length nodes
        → node ≡ get_or nodes (from / width) node →
        HasRunsUpTo width (byte_at node) (byte_at new) (from % width) (from % width + (to - from)) runs →
        byte_from (set nodes (from / width) new) rest index
        ≡ cond (leb from index && ltb index to) (byte_of_runs runs (index - from)) (byte_from nodes rest index)
    node_has_runs runs node new positive lt is filled =
        node_set node new (λ place. byte_of_runs runs (place - from % width))
        (λ index. byte_of_runs runs (index - from)) positive lt is
        (λ same. ap (byte_of_runs runs) (same_offset width from index same)) filled

    -- these indices lie in a node that is not kept, and the rest has the byte
    pub rest_filled : length nodes ≤ from / width → rest ≡ byte →
        byte_from nodes rest index ≡ cond (leb from index && ltb index to) byte (byte_from nodes rest index)
    rest_filled le is =
        elim (cases_eq (index / width) (from / width)) [
          | inl same ↦
              let was : byte_from nodes rest index ≡ byte =
              rw same (past_the_kept (λ node. byte_at node (index % width)) nodes (from / width) rest le ∙ is) in
              rw was (either (leb from index && ltb index to) byte)
          | inr other ↦ rw (other_node width from to index within other) refl
        ]

  -- the byte at an index in one of the nodes
  pub node_byte : (nodes : List S) (place rest index : ℕ) (node : S) → place < length nodes →
      node ≡ get_or nodes place node → index / width ≡ place →
      byte_from nodes rest index ≡ byte_at node (index % width)
  node_byte nodes place rest index node lt is same =
      let there : S → ℕ = λ node. byte_at node (index % width) in
      rw same (get_or-map there nodes place node rest lt ∙ ap there (sym is))

  -- the byte at an index of the node in which another index lies
  pub node_from : (nodes : List S) (at rest index : ℕ) (node : S) → at / width < length nodes →
      node ≡ get_or nodes (at / width) node → at - at % width ≤ index → index < at - at % width + width →
      byte_from nodes rest index ≡ byte_at node (index - (at - at % width))
  node_from nodes at rest index node lt is low high =
      let split : at / width * width + at % width ≡ at = div-add-mod' at width in
      let place : index ≡ at / width * width + (index - (at - at % width)) = omega arith in
      let same : index / width ≡ at / width =
      ap (λ n. n / width) place ∙ div-mul-add (at / width) width (index - (at - at % width)) (omega arith) in
      let also : at / width * width + index % width ≡ index = rw same at (div-add-mod' index width) in
      let offset : index % width ≡ index - (at - at % width) = omega arith in
      node_byte nodes (at / width) rest index node lt is same ∙ ap (byte_at node) offset

  -- the byte at an index past the nodes that are kept
  pub rest_from : (nodes : List S) (at rest index : ℕ) → 0 < width → length nodes ≤ at / width → at ≤ index →
      byte_from nodes rest index ≡ rest
  rest_from nodes at rest index positive le order =
      let split : at / width * width + at % width ≡ at = div-add-mod' at width in
      let more : at / width ≤ index / width = le-div (at / width) index width positive (omega arith) in
      past_the_kept (λ node. byte_at node (index % width)) nodes (index / width) rest (omega arith)

  -- one of the nodes has the bytes that it had
  pub node_same : (nodes : List S) (place rest index : ℕ) (node new : S) → 0 < width → place < length nodes
      → node ≡ get_or nodes place node →
      ((i : ℕ) → i < width → byte_at new i ≡ byte_at node i)
      → byte_from (set nodes place new) rest index ≡ byte_from nodes rest index
  node_same nodes place rest index node new positive lt is same =
      let there : S → ℕ = λ node. byte_at node (index % width) in
      elim (cases_eq (index / width) place) [
        | inl here ↦
            rw here (get_or-map there (set nodes place new) place new rest (rw length-set lt)
            ∙ ap there (get_or-set_same nodes place new new lt)
            ∙ same (index % width) (mod-lt index positive)
            ∙ sym (get_or-map there nodes place node rest lt ∙ ap there (sym is)))
        | inr other ↦ ap (λ (bytes : List ℕ). get_or bytes (index / width) rest) (map-set there nodes place new)
            ∙ get_or-set_other (map there nodes) place (index / width) (there new) rest other
      ]
