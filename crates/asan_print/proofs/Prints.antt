-- Texts that are printed one after another.
use Rattle.std.proofs.Common.{◌≡◌, ℕ, ◌+◌, ◌<◌, List, [], ◌∷◌, ◌++◌, length, Option, refl, sym, ap, ◌∙◌, arith}
use Rattle.std.proofs.Common.{append_assoc, length-append, string_bytes, take, drop, get_or}
use Rattle.std.specs.Prelude.{Result, Ok, Err, OnOk, IfErr}
use Rattle.std.specs.List.{flat_map}
use Rattle.std.proofs.lemmas.List.{append-nil, take_more, take-append-drop}
use Rattle.std.proofs.Math.Seq.{take-append_seam}
use Rattle.std.specs.Io.KnownBytes.{Appends}
use Rattle.std.proofs.KnownBytes.{Appends-trans}
use Rattle.asan_print.specs.declared.printer.Printer.{Printer}
use Rattle.asan_print.specs.Printing.{Prints, BreaksOff}

-- what goes out in two parts
regroup : (old t u o1 mid o2 new : List ℕ) → old ++ t ≡ o1 ++ mid → mid ++ u ≡ o2 ++ new
    → old ++ (t ++ u) ≡ (o1 ++ o2) ++ new
regroup old t u o1 mid o2 new first second =
    sym (append_assoc old t u) ∙ ap (λ xs. xs ++ u) first ∙ append_assoc o1 mid u ∙ ap (λ xs. o1 ++ xs) second
    ∙ sym (append_assoc o1 o2 new)

module _ {A : Type 0} where
  -- one text was printed, and then another
  pub prints_then : (a b c : Option (List ℕ)) (p q r : Printer A) (t u : List ℕ) → Prints a b p q t → Prints b c q r u
      → Prints a c p r (t ++ u)
  prints_then a b c p q r t u first second =
      let one = first.count in
      let two = second.count in
      record {
        out = first.out ++ second.out;
        sent = Appends-trans a b c first.out second.out first.sent second.sent;
        parts = regroup (string_bytes p.text) t u first.out (string_bytes q.text) second.out (string_bytes r.text)
            first.parts second.parts;
        count = omega (arith, length-append first.out second.out);
      }

  -- one text was printed, and the next broke off
  pub breaks_then : (a b c : Option (List ℕ)) (p q : Printer A) (t u : List ℕ) (n : ℕ) → Prints a b p q t
      → BreaksOff b c q u n → BreaksOff a c p (t ++ u) n
  breaks_then a b c p q t u n first second =
      let one = first.count in
      let two = second.count in
      record {
        out = first.out ++ second.out;
        rest = second.rest;
        sent = Appends-trans a b c first.out second.out first.sent second.sent;
        parts = regroup (string_bytes p.text) t u first.out (string_bytes q.text) second.out second.rest first.parts
            second.parts;
        short = second.short;
        count = omega (arith, length-append first.out second.out);
      }

  -- where a text broke off, so did all of which it is the front
  pub breaks_more : (a b : Option (List ℕ)) (p : Printer A) (t u : List ℕ) (n : ℕ) → BreaksOff a b p t n
      → BreaksOff a b p (t ++ u) n
  breaks_more a b p t u n off =
      let some = off.short in
      record {
        out = off.out;
        rest = off.rest ++ u;
        sent = off.sent;
        parts = sym (append_assoc (string_bytes p.text) t u) ∙ ap (λ xs. xs ++ u) off.parts
            ∙ append_assoc off.out off.rest u;
        short = omega (arith, length-append off.rest u);
        count = off.count;
      }

  -- what a printer holds back and has written is all that counts
  pub breaks_same : (a b : Option (List ℕ)) (p q : Printer A) (t : List ℕ) (n : ℕ)
      → string_bytes q.text ≡ string_bytes p.text → q.sent ≡ p.sent → BreaksOff a b q t n → BreaksOff a b p t n
  breaks_same a b p q t n text written off = record {
    out = off.out;
    rest = off.rest;
    sent = off.sent;
    parts = ap (λ xs. xs ++ t) (sym text) ∙ off.parts;
    short = off.short;
    count = off.count ∙ ap (λ k. k + length off.out) written;
  }

-- where a printer that began with nothing broke off: the front of the text went out, and not all of it
module _ {A : Type 0} where
  pub front_out : (a b : Option (List ℕ)) (p : Printer A) (t : List ℕ) (n : ℕ) → string_bytes p.text ≡ [] → p.sent ≡ 0
      → BreaksOff a b p t n → Appends a b (take n t) × (n < length t)
  front_out a b p t n empty fresh off =
      let whole : t ≡ off.out ++ off.rest = ap (λ xs. xs ++ t) (sym empty) ∙ off.parts in
      let count : n ≡ length off.out = let e = off.count in omega arith in
      let some = off.short in
      let front : take n t ≡ off.out = ap (λ k. take k t) count ∙ ap (take (length off.out)) whole
      ∙ take-append_seam off.out off.rest in
      (rw front off.sent, let e = ap length whole in omega (arith, length-append off.out off.rest))

-- the text of the first items of a list, and what follows it
module _ {X : Type 0} (f : X → List ℕ) where
  flat_append : (xs ys : List X) → flat_map f (xs ++ ys) ≡ flat_map f xs ++ flat_map f ys
  flat_append [] ys = refl
  flat_append (x ∷ xs) ys = ap (λ t. f x ++ t) (flat_append xs ys)
      ∙ sym (append_assoc (f x) (flat_map f xs) (flat_map f ys))

  pub flat_more : (xs : List X) (i : ℕ) (d : X) → i < length xs
      → flat_map f (take (i + 1) xs) ≡ flat_map f (take i xs) ++ f (get_or xs i d)
  flat_more xs i d lt =
      ap (flat_map f) (take_more xs i d lt) ∙ flat_append (take i xs) (get_or xs i d ∷ [])
      ∙ ap (λ t. flat_map f (take i xs) ++ t) (append-nil (f (get_or xs i d)))

  pub flat_rest : (xs : List X) (i : ℕ) (d : X) (last : List ℕ) → i < length xs
      → flat_map f xs ++ last ≡ (flat_map f (take i xs) ++ f (get_or xs i d)) ++ (flat_map f (drop (i + 1) xs) ++ last)
  flat_rest xs i d last lt =
      ap (λ t. t ++ last) (ap (flat_map f) (sym (take-append-drop (i + 1) xs))
      ∙ flat_append (take (i + 1) xs) (drop (i + 1) xs)
      ∙ ap (λ t. t ++ flat_map f (drop (i + 1) xs)) (flat_more xs i d lt))
      ∙ append_assoc (flat_map f (take i xs) ++ f (get_or xs i d)) (flat_map f (drop (i + 1) xs)) last

-- what holds of an answer holds of it with what follows
pub on_ok : {T E : Type 0} (r : Result T E) (P Q : Type 0) → OnOk r P → (P → Q) → OnOk r Q
on_ok (Ok x) P Q p f = f p
on_ok (Err e) P Q p f = tt

pub if_err : {T E : Type 0} (r : Result T E) (P Q : E → Type 0) → IfErr r P → ((e : E) → P e → Q e) → IfErr r Q
if_err (Ok x) P Q p f = tt
if_err (Err e) P Q p f = f e p
