-- The `&self` of an allocator that refuses, at its calls: a `&` to each of its two fields. Assumes `Logic`.
use Rattle.std.proofs.Common.{ℕ, ◌+◌, List, [], ◌∷◌, Bor}
use seplogic.Ra.Ura.{Ura}
use mir.Syntax.{Args, a_type, dnil, dcons}
use mir.Val.{Val}
use base.Logic.{ent, sep, emp, id⊢}
use base.Fml.{Fml, Lft, Share, ftrue, flft}
use prog.Memory.{size, align, up}
use types.Logic.{Logic, sem}
use types.Kit.{‵, ◌⊛◌, ◌$◌, ◌∵◌, !, qed, move, keep, drop, use1, split3, fsplit, done}
use denote.Builtin.{RefOf}
use denote.Opens.{unhide}
use denote.Param.{bounded, param}
use denote.Signature.{Slot, plain, type_at}
use Rattle.std.proofs.alloc.Calls.{Al, α, seen}
use Rattle.refusing_allocator.proofs.Counting.{lent}
use Rattle.refusing_allocator.specs.contracts.RefusingAllocator as allocator

module _ (Z : Al) where
  -- what a function over the inner allocator is made for
  abbrev pub args : Args
  args = bounded (a_type ∷ []) (Z.row, tt) (dcons Z.d (dcons Z.drops dnil))

  abbrev pub self : Slot 2
  self = RefOf (0 ∷ []) tt (plain (λ _. allocator.the_row (param 0 Z.row))) (λ _. tt)

  abbrev pub Held : Type 0
  Held = Bor (allocator.the_row Z.row).Denot

  abbrev pub inner_at : Held → ℕ × ℕ
  inner_at r = (r.ref_ptr.0, r.ref_ptr.1 + up (align (α Z)) 0)

  abbrev pub account_at : Held → ℕ × ℕ
  account_at r = (r.ref_ptr.0, r.ref_ptr.1 + up 8 (up (align (α Z)) 0 + size (α Z)))

  module _ {M : Type 1} {𝓤 : Ura M} (𝓛 : Logic 𝓤) (κ₁ κ₂ : Lft) (q₁ q₂ : Share) (r : Held) (vs : List Val)
      (Rest : Fml) where
    open 𝓛 use {A}

    -- what comes with `self` at the entry, in the order in which the calls need it
    pub enters :
        ent 𝓤 (sep 𝓤 (sep 𝓤 (A.lft κ₁ q₁) (sep 𝓤 (A.lft κ₂ q₂) (emp 𝓤)))
        (sep 𝓤 (sem 𝓛 ((type_at self (κ₁, (κ₂, tt))).own_val r vs)) (sem 𝓛 Rest)))
        (sep 𝓤 (sem 𝓛 (lent κ₁ (account_at r) r.now.account))
        (sep 𝓤 (A.lft κ₁ q₁) (sep 𝓤 (sem 𝓛 (seen Z κ₁ (inner_at r) r.now.inner)) (A.lft κ₂ q₂))))
    enters =
        qed 𝓛 (((‵ (flft κ₁ q₁) ⊛ ‵ (flft κ₂ q₂) ⊛ ‵ ftrue) ⊛ ‵ ((type_at self (κ₁, (κ₂, tt))).own_val r vs) ⊛ ‵ Rest)
        ∷ []) ∵
        split3 ! $ split3 ! $ move ! (3 ∷ []) $ fsplit ! $ drop ! $ unhide ! $ fsplit ! $ fsplit ! $
        use1 𝓛 (‵ (seen Z κ₁ (inner_at r) r.now.inner)) (id⊢ 𝓤 _) $ move ! (1 ∷ []) $ fsplit ! $
        use1 𝓛 (‵ (lent κ₁ (account_at r) r.now.account)) (id⊢ 𝓤 _) $
        keep ! (0 ∷ 4 ∷ 2 ∷ 5 ∷ []) $ done !
