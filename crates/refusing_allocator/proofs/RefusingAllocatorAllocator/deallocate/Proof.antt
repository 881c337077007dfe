-- It gives the block back to the inner allocator, and its bytes to the account. Assumes `Logic`.
use Rattle.std.proofs.Common.{ℕ, ◌^◌, ◌<◌, List, [], ◌∷◌, w64, refl, ◌≡◌}
use seplogic.Ra.Ura.{Ura}
use mir.Syntax.{Ty, Fn}
use mir.Val.{Val, vunit, vint, vptr}
use mir.MapTy.{inst_fn}
use base.Logic.{SProp, ent, never_e}
use base.Fml.{Fml, Lft, Share, ftrue, ffalse, fsep, froom, flft}
use prog.Memory.{size, align, capped}
use prog.Model.{Model}
use prog.Wp.{WpFn}
use types.Logic.{Logic}
use contract.BorrowLft.{◌⊑◌, ⊑_trans}
use contract.Monad.{fact}
use contract.Running.{Running, MachineTables, tables}
use types.Kit.{Item, ‵, raw, ◌⊛◌, later, given, ◌$◌, ◌∵◌, !, qed, by, move, keep, use1, use2, split, split3, join}
use types.Kit.{fsplit, fjoin, feq_i, learn, await}
use types.Run.{enter, of_opd, unit_lit, addr, stop, fld, no_more, and_then, returns}
use types.ByLocal.{alloc_all, pass_all, free_all, look_at, get, through, sets, lands_as}
use denote.Builtin.{usize, RawPtr}
use denote.Exit.{yes}
use denote.Plain.{uint_vals, uint_Tells}
use denote.RattleType.{owns}
use denote.RawPtr.{Ptr, block_ptr, null_ptr, rawptr_vals, rawptr_Tells}
use denote.Ref.{shr_vals}
use denote.Signature.{plain, type_at}
use denote.Steps.{heard, nothing}
use denote.Triple.Call.{calls_at}
use denote.Triple.Clauses.{Ended, Clauses}
use denote.Triple.Statement.{Triple}
use denote.Triple.Table.{framed}
use denote.Triple.Walked.{Stays, stay_dropped, walk_of, Goes-dropped}
use Rattle.std.proofs.raw_atomic.Walks.{proved, leaves}
use Rattle.std.proofs.alloc.Calls.{Al, seen, token, gives_key, Gives, at_gives, Gives-goes, Gives-Gives}
use Rattle.refusing_allocator.proofs.Counting.{lent, Returns, returned, Returns-takes, Returns-gives}
use Rattle.refusing_allocator.proofs.account.Account.give_back.Symbol as give_back
use Rattle.refusing_allocator.proofs.account.Account.give_back.Met.{met as give_back_met}
use Rattle.refusing_allocator.proofs.Handle.{args, self, Held, inner_at, account_at, enters}
use Rattle.refusing_allocator.specs.contracts.RefusingAllocatorAllocator.deallocate as f
use Rattle.refusing_allocator.specs.contracts.RefusingAllocatorAllocator.deallocate.Key.{name}
use Rattle.refusing_allocator.proofs.RefusingAllocatorAllocator.deallocate.Statement.{statement}
use Rattle.refusing_allocator.proofs.RefusingAllocatorAllocator.deallocate.Code as code

module _ (Z : Al) where
  abbrev function : Fn
  function = inst_fn (args Z) code.function

  abbrev ended : Ended
  ended = f.ended Z.row Z.g Z.d Z.drops

  abbrev stayed : Stays ended.signature.params ended.kept
  stayed = (
    stay_dropped (self Z) yes,
    (
      stay_dropped (plain (λ _. RawPtr)) yes,
      (stay_dropped (plain (λ _. usize)) yes, (stay_dropped (plain (λ _. usize)) yes, tt)),
    ),
  )

module _ (Z : Al) {M : Type 1} {𝓤 : Ura M} (𝓛 : Logic 𝓤) (𝓜 : Model 𝓤 𝓛.H) (𝓡 : Running 𝓤 𝓛.H 𝓜) where
  open 𝓛 use {H}

  abbrev 𝓣 : MachineTables 𝓤 H 𝓜
  𝓣 = tables 𝓤 H 𝓜 𝓡 𝓡.env

  abbrev c : Clauses 𝓤 (ended Z)
  c = f.clauses Z.row Z.g Z.d Z.drops 𝓛 𝓜.mem 𝓡.returns

  module _ (κ₁ κ₂ : Lft) (q₁ q₂ : Share) (within : κ₁ ⊑ κ₂) (r : Held Z) (n a : ℕ) (τ : Ty) where
    abbrev Said : Type 0
    Said = (capped (size τ) ≡ n) × (capped (align τ) ≡ a)

    abbrev y : Ptr → (walk_of 𝓛 (ended Z) (stayed Z) c).Ghost
    y x = (
      (
        (κ₁, (κ₂, tt)),
        (q₁, (q₂, tt)),
        (within, tt),
        (r, (x, (n, (a, tt)))),
        (shr_vals r, (rawptr_vals x, (vint w64 n ∷ [], (vint w64 a ∷ [], tt)))),
      ),
      τ,
    )

    abbrev Post : Ptr → Val → SProp 𝓤
    Post x = (walk_of 𝓛 (ended Z) (stayed Z) c).post (y x)

    abbrev Others : Ptr → Fml
    Others x = owns (RawPtr ∷ usize ∷ usize ∷ []) (x, (n, (a, tt)))
        (rawptr_vals x, (vint w64 n ∷ [], (vint w64 a ∷ [], tt)))

    abbrev entry : Ptr → Item 𝓤
    entry x = (‵ (flft κ₁ q₁) ⊛ ‵ (flft κ₂ q₂) ⊛ ‵ ftrue) ⊛ ‵ ((type_at (self Z) (κ₁, (κ₂, tt))).own_val r (shr_vals r))
        ⊛ ‵ (Others x)

    walk : Triple 𝓤 (𝓣.C (gives_key Z)) (Gives Z 𝓛 𝓜.mem 𝓡.returns)
        → Triple 𝓤 (𝓣.C give_back.name) (Returns 𝓛 𝓜.mem 𝓡.returns) → n < 2 ^ 64 → a < 2 ^ 64 → (x : Ptr)
        → ent 𝓤 ((walk_of 𝓛 (ended Z) (stayed Z) c).pre (y x))
        (WpFn 𝓤 H 𝓣.C 𝓣.Λ (function Z) (vptr r.ref_ptr.0 r.ref_ptr.1 ∷ (denote.RawPtr.ptr_val x) ∷ vint w64 n
        ∷ vint w64 a ∷ []) (Post x))
    -- no block lies at null
    walk inner_meets returns_meets n_fits a_fits null_ptr =
        qed 𝓛 (entry null_ptr ∷ (raw (fact 𝓤 (κ₂ ⊑ Z.row.lives)) ⊛ raw (fact 𝓤 Said)
        ⊛ ‵ (fsep ffalse (token Z r.now.inner τ null_ptr))) ∷ []) ∵
        move ! (1 ∷ []) $ split3 ! $ move ! (2 ∷ []) $ fsplit ! $ keep ! (0 ∷ []) $ by ! (never_e 𝓤 _)
    walk inner_meets returns_meets n_fits a_fits (block_ptr b o) =
        let h : Z.row.Denot = r.now.inner in
        let x : Ptr = block_ptr b o in
        let z : (Gives Z 𝓛 𝓜.mem 𝓡.returns).Ghost = at_gives Z 𝓛 𝓜.mem 𝓡.returns κ₁ q₁ (inner_at Z r) h b o n a τ in
        let back : (Returns 𝓛 𝓜.mem 𝓡.returns).Ghost =
        returned 𝓛 𝓜.mem 𝓡.returns κ₁ q₁ (account_at Z r) r.now.account n in
        qed 𝓛 (entry x ∷ (raw (fact 𝓤 (κ₂ ⊑ Z.row.lives)) ⊛ raw (fact 𝓤 Said) ⊛ ‵ (fsep (froom τ b o) (token Z h τ x)))
        ∷ []) ∵
        move ! (1 ∷ []) $ split3 ! $ heard ! (κ₂ ⊑ Z.row.lives) (λ lives. heard ! Said (λ said. move ! (1 ∷ []) $
        use1 𝓛 (‵ (lent κ₁ (account_at Z r) r.now.account) ⊛ ‵ (flft κ₁ q₁) ⊛ ‵ (seen Z κ₁ (inner_at Z r) h)
        ⊛ ‵ (flft κ₂ q₂))
        (enters Z 𝓛 κ₁ κ₂ q₁ q₂ r (shr_vals r) (Others x)) $ split3 ! $ move ! (2 ∷ []) $ split !
        $ keep ! (4 ∷ 0 ∷ 3 ∷ 1 ∷ 2 ∷ []) $
        enter ! 𝓣.C 𝓣.Λ (function Z) _ _ $ alloc_all
        ! (λ l. pass_all ! refl (
          (tt, tt),
          (
            (tt, tt),
            ((tt, record { fits = n_fits }), ((tt, record { fits = a_fits }), tt)),
          ),
        ) $
        -- [the block; the `&` to the inner allocator; the token of κ₁; the token of κ₂; the `&` to the account; the
        -- locals]
        sets ! (addr ! (through ! refl (fld ! refl (stop !)))) refl (tt, tt) $
        fsplit ! $ move ! (2 ∷ 3 ∷ []) $ join ! $ move ! (2 ∷ 0 ∷ []) $ join ! $ move ! (1 ∷ 0 ∷ []) $ join ! $
        use1 𝓛 (raw ((Gives Z 𝓛 𝓜.mem 𝓡.returns).pre z))
        (Gives-goes Z 𝓛 𝓜.mem 𝓡.returns κ₁ q₁ (inner_at Z r) h (⊑_trans κ₁ κ₂ Z.row.lives within lives) b o n a τ said.0
        said.1 n_fits a_fits) $
        calls_at ! (framed 𝓤 H 𝓜 𝓣) (Gives Z 𝓛 𝓜.mem 𝓡.returns) inner_meets z
        (and_then ! (get ! refl) (and_then ! (get ! refl)
        (and_then ! (get ! refl) (and_then ! (get ! refl) (no_more !))))) (λ v.
        use1 𝓛 (later (given (v ≡ vunit) (‵ (flft κ₁ q₁))))
        (Gives-Gives Z 𝓛 𝓜.mem 𝓡.returns κ₁ q₁ (inner_at Z r) h b o n a τ v) $ await ! tt $ learn ! (λ is.
        -- [the token of κ₁; the token of κ₂; the `&` to the account; the locals]
        lands_as ! is refl (tt, tt) $ sets ! (addr ! (through ! refl (fld ! refl (stop !)))) refl (tt, tt)
        $ move ! (2 ∷ 0 ∷ []) $
        use2 𝓛 (raw ((Returns 𝓛 𝓜.mem 𝓡.returns).pre back))
        (Returns-takes 𝓛 𝓜.mem 𝓡.returns κ₁ q₁ (account_at Z r) r.now.account n n_fits) $
        calls_at ! (framed 𝓤 H 𝓜 𝓣) (Returns 𝓛 𝓜.mem 𝓡.returns) returns_meets back
        (and_then ! (get ! refl) (and_then ! (get ! refl) (no_more !))) (λ w.
        use1 𝓛 (later (given (w ≡ vunit) (‵ (flft κ₁ q₁))))
        (Returns-gives 𝓛 𝓜.mem 𝓡.returns κ₁ q₁ (account_at Z r) r.now.account n w) $
        await ! tt $ learn ! (λ is_done.
        lands_as ! is_done refl (tt, tt) $ sets ! (of_opd ! (unit_lit !)) refl (tt, tt) $ returns ! (look_at ! 0 refl)
        $ free_all ! refl $
        -- [the token of κ₁; the token of κ₂]
        nothing ! $ feq_i ! (List Val) (vunit ∷ []) (vunit ∷ []) refl $
        nothing ! $ nothing ! $ nothing ! $ nothing ! $ nothing ! $ fjoin ! $ move ! (1 ∷ 0 ∷ []) $ fjoin !
        $ move ! (1 ∷ 0 ∷ []) $ fjoin ! $ move ! (1 ∷ 0 ∷ []) $ fjoin ! $
        nothing ! $ move ! (5 ∷ 0 ∷ []) $ join ! $ move ! (4 ∷ 0 ∷ []) $ join ! $
        by ! (leaves 𝓛 (ended Z) (stayed Z) c (y x) vunit tt (tt, (tt, (tt, (tt, tt))))
        (tt, (tt, (tt, (tt, tt))))))))))))

pub deallocate_spec : {M : Type 1} → statement M
deallocate_spec 𝓤 𝓛 𝓜 𝓡 wired B laws g methods drops met _ =
    let Z : Al = record { row = B; laws = laws; g = g; d = methods; drops = drops } in
    let number = Goes-dropped 𝓛 2 (plain (λ _. usize)) yes (λ κs x w. refl) in
    proved 𝓛 (ended Z) (stayed Z) (c Z 𝓛 𝓜 𝓡) 𝓜 𝓡 (
      Goes-dropped 𝓛 2 (self Z) yes (λ κs x w. refl),
      (Goes-dropped 𝓛 2 (plain (λ _. RawPtr)) yes (λ κs x w. refl), (number, (number, tt))),
    )
    (name (args Z)) (function Z) (code.unfolded 𝓤 𝓛.H 𝓜 𝓡 wired (B, tt) methods drops)
    (λ κs. (shr_vals, (rawptr_vals, (uint_vals w64, (uint_vals w64, tt)))))
    (λ κs. ((λ r vs told. told.0), (rawptr_Tells, (uint_Tells w64, (uint_Tells w64, tt)))))
    (λ κs qs bounds a τ are. walk Z 𝓛 𝓜 𝓡 κs.0 κs.1.0 qs.0 qs.1.0 bounds.0 a.0 a.1.1.0 a.1.1.1.0 τ
    (met.deallocate drops)
    (give_back_met 𝓤 𝓛 𝓜 𝓡 (code.calls-refusing_allocator::account::Account::give_back 𝓡.env wired)) are.1.1.0.1
    are.1.1.1.0.1 a.1.0)
