-- Histories that have the same blocks, but for the oldest of those that one holds: a malloc or a free is as good or as
-- bad after both, and keeps them so.
use Rattle.std.proofs.Common.{◌≡◌, ℕ, Bool, true, false, cond, eqb, List, [], ◌∷◌, ◌++◌, Option, Some, None, refl, sym}
use Rattle.std.proofs.Common.{ap, subst, ◌∙◌, inl, inr, append_assoc, arith}
use Rattle.std.specs.Prelude.{◌||◌, filter, not, nat_le, sum_by, Contains, option_to_list}
use Rattle.std.specs.List.{AllZip, IsDistinct, list_any}
use Rattle.std.specs.List.Sorted.{IsPermutation}
use Rattle.std.proofs.lemmas.Bool.{cases_Bool, eqb-true, false≢true, false_from_ne_true}
use Rattle.std.proofs.lemmas.List.Sorted.{IsPermutation-append_left, list_any-IsPermutation, Contains-permutation}
use Rattle.trace_record.specs.declared.event.Event.{Event}
use Rattle.trace_record.specs.declared.event.Event.TheVariants as event
use Rattle.trace_record.specs.declared.event.Place.{Place}
use Rattle.trace_record.specs.declared.event.Region.{Region}
use Rattle.heap_book.specs.Spans.{Extent, span_bytes, meets, held_of, starts_at}
use Rattle.heap_book.proofs.Permutations.{IsPermutation-filter}
use Rattle.asan_check.specs.declared.report.Fault.{Fault}
use Rattle.asan_check.specs.declared.report.Fault.TheVariants as fault
use Rattle.asan_check.specs.History.{block_of, live, held, admits}
use Rattle.asan_check.specs.Verdicts.{fault_of, is_access, marks_none}
use Rattle.asan_check.proofs.Steps.{live_free, live_malloc, held_free, held_malloc, spans_apart}
use Rattle.asan_check.proofs.Members.{in_head, in_tail, cons_cases, apart_left, starts_once, none_from}
use Rattle.asan_check.proofs.Members.{none_passes, filter_none}
use Rattle.asan_check.proofs.Blocks.{admitted_placed, none_at_zero}
use Rattle.asan_check.proofs.Frees as frees
use Rattle.asan_laws.specs.Snapshots.{is_shade}
use Rattle.asan_laws.specs.Recording.{HaveBlocksBut, is_of_block}
use Rattle.asan_laws.proofs.Members.{any_passes}

-- ---- blocks in another order

-- of blocks whose spans don't meet, those that start at an address are the same in any order
pub same_starts : (at : ℕ) (one other : List Extent) → IsDistinct meets one → IsDistinct meets other
    → IsPermutation one other → filter (starts_at at) one ≡ filter (starts_at at) other
same_starts at one other apart also same =
    elim (cases_Bool (list_any (starts_at at) one)) [
      | inl any ↦
          let found = any_passes (starts_at at) one any in
          let here : found.0.at ≡ at = eqb-true found.0.at at found.2 in
          starts_once one found.0 at apart found.1 here
          ∙ sym (starts_once other found.0 at also (Contains-permutation one other found.0 same found.1) here)
      | inr none ↦
          filter_none (starts_at at) one (λ x has. none_passes (starts_at at) one x none has)
          ∙ sym (filter_none (starts_at at) other (λ x has. none_passes (starts_at at) other x
          (sym (list_any-IsPermutation (starts_at at) one other same) ∙ none) has))
    ]

live_apart : (bound : ℕ) (past : List Event) → IsDistinct meets (live bound past)
live_apart bound past = apart_left (live bound past) (held bound past) (spans_apart bound past)

-- ---- lists

any_append : {X : Type 0} (p : X → Bool) (xs ys : List X) → list_any p (xs ++ ys) ≡ (list_any p xs || list_any p ys)
any_append p [] ys = refl
any_append p (x ∷ xs) ys = ap (λ t. p x || t) (any_append p xs ys) ∙ assoc (p x) (list_any p xs) (list_any p ys)
  where
    assoc : (a b c : Bool) → (a || (b || c)) ≡ ((a || b) || c)
    assoc true b c = refl
    assoc false b c = refl

-- where none of some passes, they may be left out of the middle
any_middle : {X : Type 0} (p : X → Bool) (xs ys zs : List X) → list_any p ys ≡ false
    → list_any p (xs ++ (ys ++ zs)) ≡ list_any p (xs ++ zs)
any_middle p xs ys zs none =
    any_append p xs (ys ++ zs) ∙ ap (λ t. list_any p xs || t) (any_append p ys zs ∙ rw none refl)
    ∙ sym (any_append p xs zs)

-- ---- which of the oldest blocks are held still

-- some of the blocks of a list, with those that are held of others after it
record Left (bound : ℕ) (cut others : List Extent) : Type 0 where
  left : List Extent
  is : held_of bound (cut ++ others) ≡ left ++ held_of bound others
  part : (b : Extent) → Contains left b → Contains cut b

still_left : (bound : ℕ) (cut others : List Extent) → Left bound cut others
still_left bound [] others = record { left = []; is = refl; part = λ b has. has }
still_left bound (c ∷ cut) others =
    let rest = still_left bound cut others in
    elim (cases_Bool (nat_le (sum_by span_bytes (c ∷ (cut ++ others))) bound)) [
      | inl fits ↦ record {
        left = c ∷ rest.left;
        is = rw fits (ap (λ bs. c ∷ bs) rest.is);
        part = λ b has. elim (cons_cases b c rest.left has) [
          | inl same ↦ subst (λ x. Contains (c ∷ cut) x) same (in_head c cut)
          | inr more ↦ in_tail b c cut (rest.part b more)
        ];
      }
      | inr gone ↦ record {
        left = rest.left;
        is = rw gone rest.is;
        part = λ b has. in_tail b c cut (rest.part b has);
      }
    ]

-- both have the same blocks, but for some of these
pub record HaveBlocksStill (bound : ℕ) (cut : List Extent) (one other : List Event) : Type 0 where
  pub left : List Extent
  pub blocks : HaveBlocksBut bound left one other
  pub part : (b : Extent) → Contains left b → Contains cut b

-- ---- what is said of an event

-- nothing is wrong in either history, or faults of which this holds
abbrev pub SayAlike : (Fault → Fault → Type 0) → Option Fault → Option Fault → Type 0
SayAlike Same one other = AllZip Same (option_to_list one) (option_to_list other)

pub say_the_same : (Same : Fault → Fault → Type 0) → ((f : Fault) → Same f f) → (one other : Option Fault)
    → one ≡ other → SayAlike Same one other
say_the_same Same self one other is = rw is (itself other)
  where
    itself : (f : Option Fault) → SayAlike Same f f
    itself None = tt
    itself (Some f) = (self f, tt)

-- ---- a malloc or a free

module _ (bound : ℕ) (cut : List Extent) (one other : List Event) (same : HaveBlocksBut bound cut one other) where
  -- a malloc that meets none of the blocks that are cut
  module _ (r : Region) (apart : (b : Extent) → Contains cut b → meets (block_of r) b ≡ false) where
    pub same_admits : admits bound one (block_of r) ≡ admits bound other (block_of r)
    same_admits =
        let b = block_of r in
        let lives = live bound one ++ held bound one in
        let any : list_any (meets b) lives ≡ list_any (meets b) (live bound other ++ held bound other) =
        list_any-IsPermutation (meets b) lives (live bound other ++ held bound one)
        (IsPermutation-append_left (held bound one) (live bound one) (live bound other) same.same_live)
        ∙ sym (any_middle (meets b) (live bound other) cut (held bound one) (none_from (meets b) cut apart))
        ∙ ap (λ helds. list_any (meets b) (live bound other ++ helds)) (sym same.oldest_cut) in
        rw any refl

    pub malloc_same : fault_of bound one (event.Malloc r) ≡ fault_of bound other (event.Malloc r)
    malloc_same = rw same_admits refl

    pub malloc_step : HaveBlocksBut bound cut (event.Malloc r ∷ one) (event.Malloc r ∷ other)
    malloc_step =
        let helds : held bound (event.Malloc r ∷ other) ≡ cut ++ held bound (event.Malloc r ∷ one) =
        held_malloc bound r other ∙ same.oldest_cut ∙ ap (λ bs. cut ++ bs) (sym (held_malloc bound r one)) in
        elim (cases_Bool (admits bound other (block_of r))) [
          | inl ok ↦ let ok' = same_admits ∙ ok in record {
            same_live = rw (live_malloc bound r one ok', live_malloc bound r other ok)
                (IsPermutation-append_left (block_of r ∷ []) (live bound one) (live bound other) same.same_live);
            oldest_cut = helds;
          }
          | inr refused ↦ let refused' = same_admits ∙ refused in record {
            same_live = rw (refused', refused) same.same_live;
            oldest_cut = helds;
          }
        ]

  -- a free
  module _ (p : Place) where
    pub same_any : list_any (starts_at p.at) (live bound one) ≡ list_any (starts_at p.at) (live bound other)
    same_any = list_any-IsPermutation (starts_at p.at) (live bound one) (live bound other) same.same_live

    pub same_freed : filter (starts_at p.at) (live bound one) ≡ filter (starts_at p.at) (live bound other)
    same_freed = same_starts p.at (live bound one) (live bound other) (live_apart bound one) (live_apart bound other)
        same.same_live

    -- some of the blocks that are cut are held still
    pub free_step : HaveBlocksStill bound cut (event.Free p ∷ one) (event.Free p ∷ other)
    free_step =
        let rest = still_left bound cut (held bound one ++ filter (starts_at p.at) (live bound one)) in record {
          left = rest.left;
          blocks = record {
            same_live = rw (live_free bound p one, live_free bound p other)
                (IsPermutation-filter (λ x. not (starts_at p.at x)) (live bound one) (live bound other) same.same_live);
            oldest_cut =
                held_free bound p other
                ∙ ap (λ bs. held_of bound (bs ++ filter (starts_at p.at) (live bound other))) same.oldest_cut
                ∙ ap (held_of bound) (append_assoc cut (held bound one) (filter (starts_at p.at) (live bound other)))
                ∙ ap (λ bs. held_of bound (cut ++ (held bound one ++ bs))) (sym same_freed)
                ∙ rest.is
                ∙ ap (λ bs. rest.left ++ bs) (sym (held_free bound p one));
          };
          part = rest.part;
        }

    -- it is as good or as bad, but that the second free of a block that is cut is a bad one
    pub free_says : (Same : Fault → Fault → Type 0) → ((f : Fault) → Same f f)
        → ((b : Extent) → Contains cut b → Same (fault.BadFree b.at) (fault.DoubleFree b.at)) →
        SayAlike Same (fault_of bound one (event.Free p)) (fault_of bound other (event.Free p))
    free_says Same self twice =
        let helds : list_any (starts_at p.at) (held bound other)
        ≡ (list_any (starts_at p.at) cut || list_any (starts_at p.at) (held bound one)) =
        ap (list_any (starts_at p.at)) same.oldest_cut ∙ any_append (starts_at p.at) cut (held bound one) in
        rw (same_any, helds) (go (eqb p.at 0 || list_any (starts_at p.at) (live bound other))
        (list_any (starts_at p.at) cut) (list_any (starts_at p.at) (held bound one)) found)
      where
        found : list_any (starts_at p.at) cut ≡ true → Same (fault.BadFree p.at) (fault.DoubleFree p.at)
        found any =
            let first = any_passes (starts_at p.at) cut any in
            subst (λ (at : ℕ). Same (fault.BadFree at) (fault.DoubleFree at)) (eqb-true first.0.at p.at first.2)
            (twice first.0 first.1)

        go : (good is_cut is_held : Bool)
            → (is_cut ≡ true → Same (fault.BadFree p.at) (fault.DoubleFree p.at)) →
            SayAlike Same
            (cond good None (cond is_held (Some (fault.DoubleFree p.at)) (Some (fault.BadFree p.at))))
            (cond good None (cond (is_cut || is_held) (Some (fault.DoubleFree p.at)) (Some (fault.BadFree p.at))))
        go true is_cut is_held found = tt
        go false true true found = (self (fault.DoubleFree p.at), tt)
        go false false true found = (self (fault.DoubleFree p.at), tt)
        go false false false found = (self (fault.BadFree p.at), tt)
        go false true false found = (found refl, tt)

-- ---- other events

pub is_other : (e : Event) → is_of_block e ≡ false → (bound : ℕ) (past : List Event) →
    (live bound (e ∷ past) ≡ live bound past) × (held bound (e ∷ past) ≡ held bound past)
is_other (event.Malloc r) is bound past = absurd (false≢true (sym is))
is_other (event.Free p) is bound past = absurd (false≢true (sym is))
is_other e is bound past = (refl, refl)

-- what lays no mark whatever came before it changes no blocks either: no block is at address 0
refused_at_zero : (bound : ℕ) (past : List Event) (r : Region) → r.at ≡ 0 → admits bound past (block_of r) ≡ false
refused_at_zero bound past r zero_is = false_from_ne_true _ (λ ok.
    let above = (admitted_placed (live bound past ++ held bound past) (block_of r) ok).1 in
    absurd (omega arith))

pub nothing_done : (e : Event) → marks_none e ≡ true → (bound : ℕ) (past : List Event) →
    (live bound (e ∷ past) ≡ live bound past) × (held bound (e ∷ past) ≡ held bound past)
nothing_done (event.Malloc r) is bound past =
    (rw (refused_at_zero bound past r (eqb-true r.at 0 is)) refl, held_malloc bound r past)
nothing_done (event.Free p) is bound past =
    let none = none_at_zero bound past p.at (eqb-true p.at 0 is) in
    (frees.live_stays bound past p none, frees.held_stays bound past p none)
nothing_done e is bound past = (refl, refl)

module _ (bound : ℕ) (cut : List Extent) (one other : List Event) (same : HaveBlocksBut bound cut one other) where
  pub on_left : (e : Event) → (live bound (e ∷ one) ≡ live bound one) × (held bound (e ∷ one) ≡ held bound one)
      → HaveBlocksBut bound cut (e ∷ one) other
  on_left e as_it_was = record {
    same_live = rw as_it_was.0 same.same_live;
    oldest_cut = rw as_it_was.1 same.oldest_cut;
  }

  pub on_right : (e : Event) → (live bound (e ∷ other) ≡ live bound other)
      × (held bound (e ∷ other) ≡ held bound other) → HaveBlocksBut bound cut one (e ∷ other)
  on_right e as_it_was = record {
    same_live = rw as_it_was.0 same.same_live;
    oldest_cut = as_it_was.1 ∙ same.oldest_cut;
  }

pub access_is_none : (e : Event) → is_access e ≡ true → is_of_block e ≡ false
access_is_none (event.Malloc r) is = absurd (false≢true is)
access_is_none (event.Free p) is = absurd (false≢true is)
access_is_none e is = refl

pub shade_is_none : (e : Event) → is_shade e ≡ true → is_of_block e ≡ false
shade_is_none (event.Malloc r) is = absurd (false≢true is)
shade_is_none (event.Free p) is = absurd (false≢true is)
shade_is_none e is = refl

pub shade_is_good : (bound : ℕ) (past : List Event) (e : Event) → is_shade e ≡ true → fault_of bound past e ≡ None
shade_is_good bound past (event.Poison s) is = refl
shade_is_good bound past (event.Unpoison r) is = refl
shade_is_good bound past e is = absurd (false≢true is)
