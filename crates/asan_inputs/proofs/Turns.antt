-- Standard input among the names of files.
use Rattle.std.proofs.Common.{arith, Bool, true, ◌≡◌, ◌<◌, ◌≤◌, ℕ, ◌+◌, ◌-◌, Option, None, Some, List, [], ◌∷◌, String}
use Rattle.std.proofs.Common.{length, suc, zero, take, drop, get_or, map, string_bytes, refl, sym, ap, ◌∙◌}
use Rattle.std.specs.Prelude.{IfSome}
use Rattle.std.specs.List.{filter, insert, remove}
use Rattle.std.specs.Str.{bytes_eq}
use Rattle.std.specs.declared.alloc.Global.{Global}
use Rattle.std.proofs.lemmas.List.{drop-map, drop_at, get_or-map, length-append, length-drop, length-map, length-take}
use Rattle.std.proofs.lemmas.List.{length-take-le, map-append, set-get_or, set_split, take-append-drop, take-map}
use Rattle.std.proofs.lemmas.List.{take_at}
use Rattle.std.proofs.lemmas.List.Elements.{filter-append}
use Rattle.std.proofs.lemmas.List.Filters.{length-filter_more}
use Rattle.std.proofs.lemmas.List.Quantifiers.{position-Some}
use Rattle.std.proofs.lemmas.Slice.Eq.{bytes_eq-Decides}
use Rattle.asan_inputs.specs.Inputs.{input_name, input_place, inputs_among, names_with, place_after, place_of}

-- an element that was removed and put back into its place
put_back : {X : Type 0} (xs : List X) (i : ℕ) (d : X) → i < length xs → insert (remove xs i) i (get_or xs i d) ≡ xs
put_back xs i d within =
    let front : length (take i xs) ≡ i = length-take-le i xs (omega arith) in
    rw (take_at (take i xs) (drop (suc i) xs) i front, drop_at (take i xs) (drop (suc i) xs) i front)
    (sym (set_split xs i (get_or xs i d) within) ∙ set-get_or xs i d)

-- where the first `-` was left out, its place gives it back
restored : (names : List (String Global)) (place : ℕ) → input_place names ≡ Some place
    → insert (remove (map string_bytes names) place) place input_name ≡ map string_bytes names
restored [] place is = absurd (let e : None ≡ Some place = is in cc)
restored (first ∷ rest) place is =
    let names = first ∷ rest in
    let ns = map string_bytes names in
    let found = position-Some (λ name. bytes_eq (string_bytes name) input_name) names place first is in
    let own : get_or ns place input_name ≡ string_bytes (get_or names place first) =
    get_or-map string_bytes names place first input_name found.0 in
    let named : string_bytes (get_or names place first) ≡ input_name = (bytes_eq-Decides _ _).0 found.1 in
    let within : place < length ns = rw (length-map names string_bytes) found.0 in
    let back : insert (remove ns place) place (get_or ns place input_name) ≡ ns = put_back ns place input_name within in
    rw (own ∙ named) at back

map_removed : {X Y : Type 0} (f : X → Y) (xs : List X) (i : ℕ) → map f (remove xs i) ≡ remove (map f xs) i
map_removed f xs i = rw (map-append f (take i xs) (drop (suc i) xs), take-map f i xs, drop-map f (suc i) xs) refl

pub names_restored : (names paths : List (String Global)) (place : ℕ) → input_place names ≡ Some place
    → map string_bytes paths ≡ map string_bytes names
    → names_with (Some place) (map string_bytes (remove paths place)) ≡ map string_bytes names
names_restored names paths place is same = rw (map_removed string_bytes paths place, same) (restored names place is)

-- it is no further than the paths that are left
pub place_within : (names : List (String Global)) (paths : List (List ℕ)) (place : Option ℕ) → place ≡ input_place names
    → names_with place paths ≡ map string_bytes names → IfSome place (λ at. at ≤ length paths)
place_within names paths None is same = tt
place_within [] paths (Some at) is same = absurd (let e : Some at ≡ None = is in cc)
place_within (first ∷ rest) paths (Some at) is same =
    let names = first ∷ rest in
    let found = position-Some (λ name. bytes_eq (string_bytes name) input_name) names at first (sym is) in
    let within : at < length names = found.0 in
    let whole : length (take at paths) + suc (length (drop at paths)) ≡ length names =
    sym (length-append (take at paths) (input_name ∷ drop at paths)) ∙ ap length same
    ∙ length-map names string_bytes in
    let front = length-take at paths in
    let back = length-drop at paths in
    omega arith

-- one more name came, and it was that of a file
pub names_in_turn : {I : Type 0} (input : Option I) (before : ℕ) (paths : List (List ℕ))
    → IfSome input (λ _. before ≤ length paths) → (before ≡ 0 → input ≡ None)
    → names_with (place_of input (before - 1)) (drop 1 paths) ≡ drop 1 (names_with (place_of input before) paths)
names_in_turn None before paths within file = refl
names_in_turn (Some x) zero paths within file = absurd (let e : Some x ≡ None = file refl in cc)
names_in_turn (Some x) (suc k) [] within file = absurd (omega arith)
names_in_turn (Some x) (suc k) (p ∷ ps) within file = let e : suc k - 1 ≡ k = omega arith in rw e refl

pub place_in_turn : {I : Type 0} (input : Option I) (before : ℕ) → (before ≡ 0 → input ≡ None)
    → place_of input (before - 1) ≡ place_after (place_of input before)
place_in_turn None before file = refl
place_in_turn (Some x) zero file = absurd (let e : Some x ≡ None = file refl in cc)
place_in_turn (Some x) (suc k) file = let e : suc k - 1 ≡ k = omega arith in rw e refl

-- where a name is `-`, there are more of these among all names than among those before it
pub one_more_input : (names : List (List ℕ)) (i : ℕ) → i < length names → bytes_eq (get_or names i []) input_name ≡ true
    → inputs_among (take i names) < inputs_among names
one_more_input names i within is =
    let is_input : List ℕ → Bool = λ name. bytes_eq name input_name in
    let front = filter is_input (take (i + 1) names) in
    let back = filter is_input (drop (i + 1) names) in
    let all : length (filter is_input names) ≡ length front + length back =
    ap (λ all. length (filter is_input all)) (sym (take-append-drop (i + 1) names))
    ∙ ap length (filter-append is_input (take (i + 1) names) (drop (i + 1) names)) ∙ length-append front back in
    let more = length-filter_more is_input names i [] within in
    let one = rw is at more in
    omega (arith, all, one)
