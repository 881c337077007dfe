-- The calls of an account's `refuses` and `give_back`: what each takes, and what it gives back. Assumes `Logic`.
use Rattle.std.proofs.Common.{◌≡◌, ℕ, ◌<◌, ◌^◌, Bool, List, [], ◌∷◌, w64, refl, ap}
use seplogic.Ra.Ura.{Ura}
use mir.Val.{Val, vbool, vint, vptr, vunit}
use base.Logic.{SProp, ent, sep, ex, guard, id⊢}
use base.Fml.{Fml, Lft, Share, ftrue, fsep, flft}
use prog.Memory.{Memory}
use prog.Routine.{Routine}
use types.Logic.{Logic, sem}
use contract.Monad.{Fun, fact}
use types.Kit.{‵, raw, ◌⊛◌, some, later, ◌$◌, ◌∵◌, !, qed, move, keep, use1, split, join, fjoin, pick, feq_i, feq_l}
use types.Kit.{flt_i, show, check, await, updating, now as at_once, done}
use denote.RattleType.{RattleType}
use denote.Memory.{hidden_shr}
use denote.Builtin.{bool, unit}
use denote.Steps.{nothing, only}
use denote.Triple.Statement.{Contract}
use denote.Triple.Spec.{triple_of}
use Rattle.std.specs.Prelude.{IfSome, IsTrue}
use Rattle.refusing_allocator.specs.Rules.{bound_in}
use Rattle.refusing_allocator.specs.contracts.account.Account as account
use Rattle.refusing_allocator.specs.contracts.account.Account.refuses as refuses
use Rattle.refusing_allocator.specs.contracts.account.Account.give_back as give_back

abbrev pub Account : RattleType
Account = account.the_row

-- a `&` to the account r at a place, for the lifetime κ
abbrev pub lent : Lft → ℕ × ℕ → Account.Denot → Fml
lent κ at r = hidden_shr Account κ r at.0 at.1

module _ {M : Type 1} {𝓤 : Ura M} (𝓛 : Logic 𝓤) (at_mem : Memory → SProp 𝓤) (run : Routine → Fun 𝓤) where
  abbrev pub Asks : Contract 𝓤
  Asks = triple_of 𝓛 refuses.signature (refuses.spec 𝓛 at_mem run)

  abbrev pub Returns : Contract 𝓤
  Returns = triple_of 𝓛 give_back.signature (give_back.spec 𝓛 at_mem run)

  -- each call with this `&` and a size, and the share q of the token of its lifetime
  abbrev pub asked : Lft → Share → ℕ × ℕ → Account.Denot → ℕ → Asks.Ghost
  asked κ q at r size = (
    (
      (κ, tt),
      (q, tt),
      tt,
      (record { ref_ptr = at; now = r }, (size, tt)),
      (vptr at.0 at.1 ∷ [], (vint w64 size ∷ [], tt)),
    ),
    tt,
  )

  abbrev pub returned : Lft → Share → ℕ × ℕ → Account.Denot → ℕ → Returns.Ghost
  returned κ q at r size = (
    (
      (κ, tt),
      (q, tt),
      tt,
      (record { ref_ptr = at; now = r }, (size, tt)),
      (vptr at.0 at.1 ∷ [], (vint w64 size ∷ [], tt)),
    ),
    tt,
  )

module _ {M : Type 1} {𝓤 : Ura M} (𝓛 : Logic 𝓤) (at_mem : Memory → SProp 𝓤) (run : Routine → Fun 𝓤)
    (κ : Lft) (q : Share) (at : ℕ × ℕ) (r : Account.Denot) (size : ℕ) where
  open 𝓛 use {H, A}

  pub Asks-takes : size < 2 ^ 64
      → ent 𝓤 (sep 𝓤 (sem 𝓛 (lent κ at r)) (A.lft κ q)) ((Asks 𝓛 at_mem run).pre (asked 𝓛 at_mem run κ q at r size))
  Asks-takes fits =
      qed 𝓛 (‵ (lent κ at r) ∷ ‵ (flft κ q) ∷ []) ∵
      nothing ! $ flt_i ! size (2 ^ 64) fits $ feq_i ! (List Val) (vint w64 size ∷ []) (vint w64 size ∷ []) refl
      $ fjoin ! $ fjoin ! $
      move ! (1 ∷ []) $ feq_i ! (List Val) (vptr at.0 at.1 ∷ []) (vptr at.0 at.1 ∷ []) refl $ fjoin ! $ fjoin ! $
      -- [the arguments; the token]
      nothing ! $ move ! (2 ∷ 0 ∷ []) $ join ! $ join ! $ nothing ! $ move ! (1 ∷ 0 ∷ []) $ done !

  -- the token comes back, with some answer
  pub Asks-gives : (v : Val)
      → ent 𝓤 ((Asks 𝓛 at_mem run).post (asked 𝓛 at_mem run κ q at r size) v)
      (H.⇛ (ex 𝓤 (λ (y : Bool). guard 𝓤 (v ≡ vbool y) (A.lft κ q))))
  Asks-gives v =
      qed 𝓛 (raw ((Asks 𝓛 at_mem run).post (asked 𝓛 at_mem run κ q at r size) v) ∷ []) ∵ updating ! $
      use1 𝓛 (later (some (λ (y : Bool). ((‵ (flft κ q) ⊛ ‵ ftrue) ⊛ ‵ (bool.own_val y (v ∷ []))) ⊛
      some (λ (ws : Unit {0} × (Unit {0} × Unit {0})). ‵ (fsep ftrue (fsep ftrue ftrue))
      ⊛ raw (fact 𝓤 (IfSome (bound_in r.rule) (λ bound. bound < size → IsTrue y))))))) (id⊢ 𝓤 _) $
      await ! tt $ pick ! (λ y. split ! $ split ! $ split ! $ move ! (2 ∷ [])
      $ feq_l ! (λ is. keep ! (0 ∷ []) $ at_once ! $
      show ! (λ (z : Bool). guard 𝓤 (v ≡ vbool z) (A.lft κ q)) y $ check ! (ap only is) $ done !))

  pub Returns-takes : size < 2 ^ 64
      → ent 𝓤 (sep 𝓤 (sem 𝓛 (lent κ at r)) (A.lft κ q))
      ((Returns 𝓛 at_mem run).pre (returned 𝓛 at_mem run κ q at r size))
  Returns-takes fits =
      qed 𝓛 (‵ (lent κ at r) ∷ ‵ (flft κ q) ∷ []) ∵
      nothing ! $ flt_i ! size (2 ^ 64) fits $ feq_i ! (List Val) (vint w64 size ∷ []) (vint w64 size ∷ []) refl
      $ fjoin ! $ fjoin ! $
      move ! (1 ∷ []) $ feq_i ! (List Val) (vptr at.0 at.1 ∷ []) (vptr at.0 at.1 ∷ []) refl $ fjoin ! $ fjoin ! $
      -- [the arguments; the token]
      nothing ! $ move ! (2 ∷ 0 ∷ []) $ join ! $ join ! $ nothing ! $ move ! (1 ∷ 0 ∷ []) $ done !

  -- the token comes back
  pub Returns-gives : (v : Val)
      → ent 𝓤 ((Returns 𝓛 at_mem run).post (returned 𝓛 at_mem run κ q at r size) v)
      (H.⇛ (guard 𝓤 (v ≡ vunit) (A.lft κ q)))
  Returns-gives v =
      qed 𝓛 (raw ((Returns 𝓛 at_mem run).post (returned 𝓛 at_mem run κ q at r size) v) ∷ []) ∵ updating ! $
      use1 𝓛 (later (some (λ (y : Unit {0}). ((‵ (flft κ q) ⊛ ‵ ftrue) ⊛ ‵ (unit.own_val y (v ∷ []))) ⊛
      some (λ (ws : Unit {0} × (Unit {0} × Unit {0})). ‵ (fsep ftrue (fsep ftrue ftrue)) ⊛ ‵ ftrue)))) (id⊢ 𝓤 _) $
      await ! tt $ pick ! (λ y. split ! $ split ! $ split ! $ move ! (2 ∷ [])
      $ feq_l ! (λ is. keep ! (0 ∷ []) $ at_once ! $
      check ! (ap only is) $ done !))
