-- It asks the account, and else answers what the inner allocator answers; where that is a refusal, the account gets
-- the bytes back. Assumes `Logic`.
use Rattle.std.proofs.Common.{ℕ, ◌^◌, ◌<◌, Bool, true, false, [], ◌∷◌, Ok, Err, w64, refl, ◌≡◌}
use seplogic.Ra.Ura.{Ura}
use mir.Syntax.{Ty, Fn, Body}
use mir.Val.{Val, vbool, vint, vptr, vunit}
use mir.MapTy.{inst_fn}
use base.Logic.{SProp, ent, sep, emp}
use base.Fml.{Fml, Lft, Share, ftrue, flft}
use prog.Memory.{size, align, capped}
use prog.Model.{Model}
use prog.Wp.{Env, Wp, WpFn, after_seq, at_return}
use types.Logic.{Logic, sem}
use contract.BorrowLft.{◌⊑◌, ⊑_trans}
use contract.Monad.{fact}
use contract.Running.{Running, MachineTables, tables}
use types.Kit.{Post as After, any_q, ‵, raw, ◌⊛◌, some, later, given, at_ret, ◌$◌, ◌∵◌, !, qed, by, move, keep, use0}
use types.Kit.{use1, use2, split, split3, join, fjoin, pick, learn, await}
use types.Run.{enter, lit, addr, of_opd, stop, fld, no_more, and_then, first, branches, skips, switches_on, exec}
use types.Run.{returns, returns_within}
use types.Match.{vrt, in_variant}
use types.Part.{agg, whole}
use types.ByLocal.{alloc_all, pass_all, free_all, look_at, get, get_in, get_tag, through, sets, sets_last, lands_as}
use types.ByLocal.{env}
use denote.Builtin.{usize}
use denote.Exit.{yes}
use denote.Opens.{shr_dup}
use denote.Plain.{uint_vals, uint_Tells}
use denote.RawPtr.{block_ptr}
use denote.RattleType.{owns}
use denote.Ref.{shr_vals}
use denote.Signature.{plain, type_at}
use denote.Steps.{heard, nothing}
use denote.Triple.Call.{calls_at}
use denote.Triple.Clauses.{Ended, Clauses}
use denote.Triple.Statement.{Triple}
use denote.Triple.Table.{framed}
use denote.Triple.Walked.{Stays, stay_dropped, walk_of, Goes-dropped}
use Rattle.std.proofs.alloc.Shapes.{after, front, arm_body}
use Rattle.std.proofs.raw_atomic.Walks.{proved, leaves}
use Rattle.std.proofs.alloc.Calls.{Al, seen, token, Answer, answer_val, Answer-typed, Answer-Ok, Answer-err, takes_key}
use Rattle.std.proofs.alloc.Calls.{Takes, at_takes, Answered, Takes-goes, Takes-gives, answers}
use Rattle.std.specs.Allocator.{block_if_ok}
use Rattle.refusing_allocator.proofs.Counting.{Account, lent, Asks, asked, Asks-takes, Asks-gives, Returns, returned}
use Rattle.refusing_allocator.proofs.Counting.{Returns-takes, Returns-gives}
use Rattle.refusing_allocator.proofs.Handle.{args, self, Held, inner_at, account_at, enters}
use Rattle.refusing_allocator.proofs.account.Account.TheLaws as account_laws
use Rattle.refusing_allocator.proofs.account.Account.refuses.Symbol as refuses
use Rattle.refusing_allocator.proofs.account.Account.refuses.Met.{met as refuses_met}
use Rattle.refusing_allocator.proofs.account.Account.give_back.Symbol as give_back
use Rattle.refusing_allocator.proofs.account.Account.give_back.Met.{met as give_back_met}
use Rattle.refusing_allocator.specs.contracts.RefusingAllocatorAllocator.allocate as f
use Rattle.refusing_allocator.specs.contracts.RefusingAllocatorAllocator.allocate.Key.{name}
use Rattle.refusing_allocator.proofs.RefusingAllocatorAllocator.allocate.Statement.{statement}
use Rattle.refusing_allocator.proofs.RefusingAllocatorAllocator.allocate.Code as code

module _ (Z : Al) where
  abbrev function : Fn
  function = inst_fn (args Z) code.function

  abbrev ended : Ended
  ended = f.ended Z.row Z.g Z.d Z.drops

  abbrev stayed : Stays ended.signature.params ended.kept
  stayed = (
    stay_dropped (self Z) yes,
    (
      stay_dropped (plain (λ _. usize)) yes,
      (stay_dropped (plain (λ _. usize)) yes, tt),
    ),
  )

module _ (Z : Al) {M : Type 1} {𝓤 : Ura M} (𝓛 : Logic 𝓤) (𝓜 : Model 𝓤 𝓛.H) (𝓡 : Running 𝓤 𝓛.H 𝓜) where
  open 𝓛 use {H, A}

  abbrev 𝓣 : MachineTables 𝓤 H 𝓜
  𝓣 = tables 𝓤 H 𝓜 𝓡 𝓡.env

  abbrev c : Clauses 𝓤 (ended Z)
  c = f.clauses Z.row Z.g Z.d Z.drops 𝓛 𝓜.mem 𝓡.returns

  module _ (κ₁ κ₂ : Lft) (q₁ q₂ : Share) (within : κ₁ ⊑ κ₂) (r : Held Z) (n a : ℕ) (τ : Ty) where
    abbrev y : (walk_of 𝓛 (ended Z) (stayed Z) c).Ghost
    y = (
      (
        (κ₁, (κ₂, tt)),
        (q₁, (q₂, tt)),
        (within, tt),
        (r, (n, (a, tt))),
        (shr_vals r, (vint w64 n ∷ [], (vint w64 a ∷ [], tt))),
      ),
      τ,
    )

    abbrev Post : Val → SProp 𝓤
    Post = (walk_of 𝓛 (ended Z) (stayed Z) c).post y

    abbrev Numbers : Fml
    Numbers = owns (usize ∷ usize ∷ []) (n, (a, tt)) (vint w64 n ∷ [], (vint w64 a ∷ [], tt))

    -- an answer with its block, if it has one, is all that is owed
    answers_with : (x : Answer.Denot) (v : Val) → ent 𝓤 (emp 𝓤) (sem 𝓛 (Answer.own_val x (v ∷ [])))
        → ent 𝓤 (sep 𝓤 (A.lft κ₁ q₁) (sep 𝓤 (A.lft κ₂ q₂) (sem 𝓛 (block_if_ok (token Z r.now.inner) τ x)))) (Post v)
    answers_with x v made =
        qed 𝓛 (‵ (flft κ₁ q₁) ∷ ‵ (flft κ₂ q₂) ∷ ‵ (block_if_ok (token Z r.now.inner) τ x) ∷ []) ∵
        use0 𝓛 (‵ (Answer.own_val x (v ∷ []))) made $
        nothing ! $ nothing ! $ nothing ! $ nothing ! $ fjoin ! $ move ! (1 ∷ 0 ∷ []) $ fjoin ! $ move ! (1 ∷ 0 ∷ [])
        $ fjoin ! $
        nothing ! $ move ! (4 ∷ 0 ∷ []) $ join ! $ move ! (3 ∷ 0 ∷ []) $ join ! $
        by ! (leaves 𝓛 (ended Z) (stayed Z) c y v x (tt, (tt, (tt, tt))) (tt, (tt, (tt, tt))))

    walk : Triple 𝓤 (𝓣.C (takes_key Z)) (Takes Z 𝓛 𝓜.mem 𝓡.returns)
        → Triple 𝓤 (𝓣.C refuses.name) (Asks 𝓛 𝓜.mem 𝓡.returns)
        → Triple 𝓤 (𝓣.C give_back.name) (Returns 𝓛 𝓜.mem 𝓡.returns) → n < 2 ^ 64 → a < 2 ^ 64
        → ent 𝓤 ((walk_of 𝓛 (ended Z) (stayed Z) c).pre y)
        (WpFn 𝓤 H 𝓣.C 𝓣.Λ (function Z) (vptr r.ref_ptr.0 r.ref_ptr.1 ∷ vint w64 n ∷ vint w64 a ∷ []) Post)
    walk inner_meets asks_meets returns_meets n_fits a_fits =
        let h : Z.row.Denot = r.now.inner in
        let Said : Type 0 = (capped (size τ) ≡ n) × (capped (align τ) ≡ a) in
        let z : (Takes Z 𝓛 𝓜.mem 𝓡.returns).Ghost = at_takes Z 𝓛 𝓜.mem 𝓡.returns κ₁ q₁ (inner_at Z r) h n a τ in
        let ask : (Asks 𝓛 𝓜.mem 𝓡.returns).Ghost = asked 𝓛 𝓜.mem 𝓡.returns κ₁ q₁ (account_at Z r) r.now.account n in
        let back : (Returns 𝓛 𝓜.mem 𝓡.returns).Ghost =
        returned 𝓛 𝓜.mem 𝓡.returns κ₁ q₁ (account_at Z r) r.now.account n in
        qed 𝓛 (((‵ (flft κ₁ q₁) ⊛ ‵ (flft κ₂ q₂) ⊛ ‵ ftrue)
        ⊛ ‵ ((type_at (self Z) (κ₁, (κ₂, tt))).own_val r (shr_vals r)) ⊛ ‵ Numbers)
        ∷ (raw (fact 𝓤 (κ₂ ⊑ Z.row.lives)) ⊛ raw (fact 𝓤 Said)) ∷ []) ∵
        move ! (1 ∷ []) $ split ! $ heard ! (κ₂ ⊑ Z.row.lives) (λ lives. heard ! Said (λ said.
        use1 𝓛 (‵ (lent κ₁ (account_at Z r) r.now.account) ⊛ ‵ (flft κ₁ q₁) ⊛ ‵ (seen Z κ₁ (inner_at Z r) h)
        ⊛ ‵ (flft κ₂ q₂))
        (enters Z 𝓛 κ₁ κ₂ q₁ q₂ r (shr_vals r) Numbers) $ split3 ! $ move ! (2 ∷ []) $ split ! $ move ! (2 ∷ 3 ∷ []) $
        enter ! 𝓣.C 𝓣.Λ (function Z) _ _ $ alloc_all
        ! (λ l. pass_all ! refl ((tt, tt), ((tt, record { fits = n_fits }), ((tt, record { fits = a_fits }), tt))) $
        let En : Env 𝓤 H = env (function Z).locals l in
        let both : Body = front (after 5 (function Z).body) in
        let Then : After 𝓤 H = any_q (after_seq 𝓤 H
        (Wp 𝓤 H 𝓣.C 𝓣.Λ En (after 6 (function Z).body) (at_return 𝓤 H En Post)) (at_return 𝓤 H En Post)) in
        -- [the `&` to the account; the token of κ₁; the `&` to the inner allocator; the token of κ₂; the locals]
        sets ! (addr ! (through ! refl (fld ! refl (stop !)))) refl (tt, tt) $
        shr_dup ! Account account_laws.the_row_laws.shr_laws r.now.account (account_at Z r).0 (account_at Z r).1 κ₁
        $ move ! (1 ∷ 2 ∷ []) $
        use2 𝓛 (raw ((Asks 𝓛 𝓜.mem 𝓡.returns).pre ask))
        (Asks-takes 𝓛 𝓜.mem 𝓡.returns κ₁ q₁ (account_at Z r) r.now.account n n_fits) $
        calls_at ! (framed 𝓤 H 𝓜 𝓣) (Asks 𝓛 𝓜.mem 𝓡.returns) asks_meets ask
        (and_then ! (get ! refl) (and_then ! (get ! refl) (no_more !))) (λ u.
        use1 𝓛 (later (some (λ (y : Bool). given (u ≡ vbool y) (‵ (flft κ₁ q₁)))))
        (Asks-gives 𝓛 𝓜.mem 𝓡.returns κ₁ q₁ (account_at Z r) r.now.account n u) $
        await ! tt $ pick ! (λ is_refused. learn ! (λ is. lands_as ! is refl (tt, tt) $
        -- [the token of κ₁; the `&` to the account; the `&` to the inner allocator; the token of κ₂; the locals]
        first ! $ branches ! (get ! refl)
        (λ _. sets ! (agg ! (no_more !)) refl (tt, tt) $
        sets ! (agg ! (and_then ! (lit ! tt) (and_then ! (get ! refl) (no_more !)))) refl (Answer-typed false 0 0) $
        returns_within ! Post refl (look_at ! 0 refl) $ free_all ! refl $
        nothing ! $ keep ! (1 ∷ 4 ∷ 0 ∷ []) $ by
        ! (answers_with (Err (record {})) (answer_val false 0 0) (Answer-err 𝓛)))
        (λ _. skips ! $ exec ! 𝓣.C 𝓣.Λ En (after 3 (function Z).body) (at_ret En Post) $
        sets ! (addr ! (through ! refl (fld ! refl (stop !)))) refl (tt, tt) $
        move ! (2 ∷ 0 ∷ []) $ use2 𝓛 (raw ((Takes Z 𝓛 𝓜.mem 𝓡.returns).pre z))
        (Takes-goes Z 𝓛 𝓜.mem 𝓡.returns κ₁ q₁ (inner_at Z r) h (⊑_trans κ₁ κ₂ Z.row.lives within lives) n a τ said.0
        said.1 n_fits a_fits) $
        calls_at ! (framed 𝓤 H 𝓜 𝓣) (Takes Z 𝓛 𝓜.mem 𝓡.returns) inner_meets z
        (and_then ! (get ! refl) (and_then ! (get ! refl) (and_then ! (get ! refl) (no_more !)))) (λ v.
        use1 𝓛 (later (raw (Answered Z 𝓛 𝓜.mem 𝓡.returns h τ v) ⊛ ‵ (flft κ₁ q₁)))
        (Takes-gives Z 𝓛 𝓜.mem 𝓡.returns κ₁ q₁ (inner_at Z r) h n a τ v) $
        await ! tt $ split ! $ answers Z ! 𝓜.mem 𝓡.returns h τ v
        -- [the block's room; the right to free it; the token of κ₁; the `&` to the account; the token of κ₂; the
        -- locals]
        (λ b o is_block. fjoin ! $ lands_as ! is_block refl (Answer-typed true b o) $
        first ! $ switches_on ! (get_tag ! (vrt ! refl (fld ! refl (stop !))) (whole !))
        $ exec ! 𝓣.C 𝓣.Λ En (arm_body 0 both) Then $
        sets ! (of_opd ! (get_in ! (vrt ! refl (fld ! refl (stop !))) (in_variant ! 0 0 refl refl (whole !)))) refl
        (tt, tt) $
        sets_last ! (agg ! (and_then ! (lit ! tt) (and_then ! (get ! refl) (no_more !)))) refl (Answer-typed true b o) $
        exec ! 𝓣.C 𝓣.Λ En (after 6 (function Z).body) (at_ret En Post)
        $ sets ! (of_opd ! (get ! refl)) refl (Answer-typed true b o) $
        returns ! (look_at ! 0 refl) $ free_all ! refl $
        keep ! (1 ∷ 3 ∷ 0 ∷ []) $ by ! (answers_with (Ok (block_ptr b o)) (answer_val true b o) (Answer-Ok 𝓛 b o)))
        -- [the token of κ₁; the `&` to the account; the token of κ₂; the locals]
        (λ is_error. lands_as ! is_error refl (Answer-typed false 0 0) $
        first ! $ switches_on ! (get_tag ! (vrt ! refl (fld ! refl (stop !))) (whole !))
        $ exec ! 𝓣.C 𝓣.Λ En (arm_body 1 both) Then $
        sets ! (of_opd ! (get_in ! (vrt ! refl (fld ! refl (stop !))) (in_variant ! 1 0 refl refl (whole !)))) refl
        (tt, tt) $
        sets ! (addr ! (through ! refl (fld ! refl (stop !)))) refl (tt, tt) $
        move ! (1 ∷ 0 ∷ []) $
        use2 𝓛 (raw ((Returns 𝓛 𝓜.mem 𝓡.returns).pre back))
        (Returns-takes 𝓛 𝓜.mem 𝓡.returns κ₁ q₁ (account_at Z r) r.now.account n n_fits) $
        calls_at ! (framed 𝓤 H 𝓜 𝓣) (Returns 𝓛 𝓜.mem 𝓡.returns) returns_meets back
        (and_then ! (get ! refl) (and_then ! (get ! refl) (no_more !))) (λ w.
        use1 𝓛 (later (given (w ≡ vunit) (‵ (flft κ₁ q₁))))
        (Returns-gives 𝓛 𝓜.mem 𝓡.returns κ₁ q₁ (account_at Z r) r.now.account n w) $
        await ! tt $ learn ! (λ is_done. lands_as ! is_done refl (tt, tt) $
        sets_last ! (agg ! (and_then ! (lit ! tt) (and_then ! (get ! refl) (no_more !)))) refl (Answer-typed false 0 0)
        $
        exec ! 𝓣.C 𝓣.Λ En (after 6 (function Z).body) (at_ret En Post)
        $ sets ! (of_opd ! (get ! refl)) refl (Answer-typed false 0 0) $
        returns ! (look_at ! 0 refl) $ free_all ! refl $
        nothing ! $ move ! (1 ∷ 2 ∷ 0 ∷ []) $ by
        ! (answers_with (Err (record {})) (answer_val false 0 0) (Answer-err 𝓛)))))))))))))

pub allocate_spec : {M : Type 1} → statement M
allocate_spec 𝓤 𝓛 𝓜 𝓡 wired B laws g methods drops met _ =
    let Z : Al = record { row = B; laws = laws; g = g; d = methods; drops = drops } in
    let number = Goes-dropped 𝓛 2 (plain (λ _. usize)) yes (λ κs x w. refl) in
    proved 𝓛 (ended Z) (stayed Z) (c Z 𝓛 𝓜 𝓡) 𝓜 𝓡 (
      Goes-dropped 𝓛 2 (self Z) yes (λ κs x w. refl),
      (number, (number, tt)),
    )
    (name (args Z)) (function Z) (code.unfolded 𝓤 𝓛.H 𝓜 𝓡 wired (B, tt) methods drops)
    (λ κs. (shr_vals, (uint_vals w64, (uint_vals w64, tt))))
    (λ κs. ((λ r vs told. told.0), (uint_Tells w64, (uint_Tells w64, tt))))
    (λ κs qs bounds a τ are. walk Z 𝓛 𝓜 𝓡 κs.0 κs.1.0 qs.0 qs.1.0 bounds.0 a.0 a.1.0 a.1.1.0 τ
    (met.allocate drops) (refuses_met 𝓤 𝓛 𝓜 𝓡 (code.calls-refusing_allocator::account::Account::refuses 𝓡.env wired))
    (give_back_met 𝓤 𝓛 𝓜 𝓡 (code.calls-refusing_allocator::account::Account::give_back 𝓡.env wired)) are.1.0.1
    are.1.1.0.1)
