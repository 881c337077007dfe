-- Benches that are back stay so.
use Rattle.std.proofs.Common.{◌≡◌, ℕ, zero, suc, ◌<◌, ◌++◌, ◌∷◌, [], List, length, arith, ◌∙◌, inl, inr, refl}
use Rattle.std.proofs.Common.{slice_index_or, slice_set, append_assoc}
use Rattle.std.specs.Prelude.{All}
use Rattle.std.proofs.lemmas.Bool.{cases_eq}
use Rattle.std.proofs.lemmas.List.{get_or-set_same, get_or-set_other}
use Rattle.asan_stream.specs.declared.bench.Bench.{Bench}
use Rattle.asan_stream.specs.Benches.{process_of}
use Rattle.asan_senders.specs.declared.sender.Sender.{Sender}
use Rattle.asan_senders.specs.declared.sender.Sender.TheVariants as sender
use Rattle.asan_senders.specs.Senders.{HasBench, IsBack, StaysOrJoins, TakesBack}
use Rattle.asan_senders.specs.Shares.{AreBack, Share}

-- one more element, in front
pub all_cons : {X : Type 0} (P : X → Type 0) (x : X) (xs : List X) → P x → All P xs → All P (x ∷ xs)
all_cons P x xs here rest zero d below = here
all_cons P x xs here rest (suc k) d below = rest k d (omega arith)

-- one element was taken from the end of a list, and put in front of those that were taken before
pub moved : {X : Type 0} (all now front placed : List X) (x : X) → all ≡ now ++ placed → now ≡ front ++ x ∷ []
    → all ≡ front ++ x ∷ placed
moved all now front placed x split last = split ∙ (rw last (append_assoc front (x ∷ []) placed))

module _ {F A : Type 0} where
  -- a sender that takes its bench back stays or joins
  pub joins_of : (b : Bench A) (s t : Sender F A) → TakesBack b s t → StaysOrJoins s t
  joins_of b sender.NotOpened t takes = takes
  joins_of b (sender.NotStarted missing) t takes = takes
  joins_of b (sender.Ready feed lane) t takes = takes
  joins_of b (sender.Running h) t takes = takes
  joins_of b (sender.Read d) t takes = inr (takes.0, takes.1, takes.2)
  joins_of b (sender.Joined d bench reports) t takes = takes

  pub joins_same : (x : Sender F A) → StaysOrJoins x x
  joins_same sender.NotOpened = refl
  joins_same (sender.NotStarted missing) = refl
  joins_same (sender.Ready feed lane) = refl
  joins_same (sender.Running h) = refl
  joins_same (sender.Read d) = inl refl
  joins_same (sender.Joined d bench reports) = refl

  pub joins_on : (x y z : Sender F A) → StaysOrJoins x y → StaysOrJoins y z → StaysOrJoins x z
  joins_on sender.NotOpened y z p q = rw p at q
  joins_on (sender.NotStarted missing) y z p q = rw p at q
  joins_on (sender.Ready feed lane) y z p q = rw p at q
  joins_on (sender.Running h) y z p q = rw p at q
  joins_on (sender.Read d) y z (inl p) q = rw p at q
  joins_on (sender.Read d) y z (inr (bench, reports, p)) q = inr (bench, reports, rw p at q)
  joins_on (sender.Joined d bench reports) y z p q = rw p at q

  -- the sender of this bench has it
  pub back_at : (senders : List (Sender F A)) (at : ℕ) (s : Sender F A) (b : Bench A) → at < length senders
      → process_of b ≡ at → HasBench s → IsBack (slice_set senders at s) b
  back_at senders at s b low same has d = rw (same, get_or-set_same senders at s d low) has

  -- a bench that is back stays so when another one comes back
  pub back_on : (senders : List (Sender F A)) (at : ℕ) (s : Sender F A) (b : Bench A) → at < length senders
      → HasBench s → IsBack senders b → IsBack (slice_set senders at s) b
  back_on senders at s b low has back d = elim (cases_eq (process_of b) at) [
    | inl same ↦ rw (same, get_or-set_same senders at s d low) has
    | inr other ↦ rw (get_or-set_other senders at (process_of b) s d other) (back d)
  ]

  -- as do those of whole shares
  pub shares_stay : (before after : List (Sender F A)) → ((b : Bench A) → IsBack before b → IsBack after b)
      → (shares : List (Share A)) → AreBack before shares → AreBack after shares
  shares_stay before after on shares back k d below i e low =
      on (slice_index_or (slice_index_or shares k d).items i e) (back k d below i e low)
