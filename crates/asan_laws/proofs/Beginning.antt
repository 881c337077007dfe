-- A segment begins with the blocks of the run, and nothing is wrong in its beginning.
use Rattle.std.proofs.Common.{◌≡◌, ℕ, ◌+◌, true, false, List, [], ◌∷◌, ◌++◌, refl, sym, ap, subst, ◌∙◌, arith}
use Rattle.std.proofs.Common.{inl, inr, append_assoc}
use Rattle.std.specs.Prelude.{sum_by, Contains}
use Rattle.std.specs.List.{AllZip, list_all}
use Rattle.std.specs.List.Sorted.{IsPermutation}
use Rattle.std.proofs.lemmas.Bool.{and_parts, cases_Bool, false≢true}
use Rattle.std.proofs.lemmas.List.Elements.{Contains-append_left, Contains-append_right, Contains-append_cases}
use Rattle.std.proofs.lemmas.List.Sorted.{IsPermutation-refl, IsPermutation-sym, IsPermutation-trans}
use Rattle.std.proofs.lemmas.List.Sorted.{IsPermutation-append_comm, IsPermutation-append_left}
use Rattle.std.proofs.lemmas.List.Sums.{sum_by-append}
use Rattle.std.proofs.lemmas.Map.Keys.{IsDistinct-IsPermutation}
use Rattle.trace_record.specs.declared.event.Event.{Event}
use Rattle.trace_record.specs.declared.event.Event.TheVariants as event
use Rattle.heap_book.specs.Spans.{Extent, span_bytes, meets}
use Rattle.heap_book.proofs.NeverMeet.{meets-flip}
use Rattle.asan_check.specs.declared.report.Report.{Report}
use Rattle.asan_check.specs.History.{live, held}
use Rattle.asan_check.specs.Verdicts.{verdicts_of}
use Rattle.asan_check.proofs.Members.{in_none, in_head, apart_right}
use Rattle.asan_laws.specs.Snapshots.{LaysOut, lays_none, lays_live, lays_held, is_shade, IsSnapshot}
use Rattle.asan_laws.specs.Recording.{HaveBlocksBut, HaveSameBlocks, IsSameInDetail, Records, begins, block}
use Rattle.asan_laws.specs.Recording.{leaves_out_shade, is_of_block, without_shades, IsSnapshotBut, NoMallocMeets}
use Rattle.asan_laws.proofs.Snapshots.{Fit, fit_of, Stand, stands}
use Rattle.asan_laws.proofs.Reported.{keeps, reported_alike}
use Rattle.asan_laws.proofs.Said.{says_in_detail}

-- ---- blocks that fit, but for some of the held ones

middle_first : (xs ys zs : List Extent) → IsPermutation (xs ++ (ys ++ zs)) (ys ++ (xs ++ zs))
middle_first xs ys zs =
    subst (λ all. IsPermutation all (ys ++ (xs ++ zs))) (append_assoc xs ys zs)
    (subst (IsPermutation ((xs ++ ys) ++ zs)) (append_assoc ys xs zs)
    (IsPermutation-append_left zs (xs ++ ys) (ys ++ xs) (IsPermutation-append_comm xs ys)))

fit_but : (bound : ℕ) (lives cut newest : List Extent) → Fit bound lives (cut ++ newest) → Fit bound lives newest
fit_but bound lives cut newest fit = record {
  apart = apart_right cut (lives ++ newest) (IsDistinct-IsPermutation meets meets-flip (lives ++ (cut ++ newest))
      (cut ++ (lives ++ newest)) (middle_first lives cut newest) fit.apart);
  placed = λ b has. fit.placed b (elim (Contains-append_cases lives newest b has) [
    | inl is_live ↦ Contains-append_left lives (cut ++ newest) b is_live
    | inr is_held ↦ Contains-append_right lives (cut ++ newest) b (Contains-append_right cut newest b is_held)
  ]);
  within = let all : sum_by span_bytes (cut ++ newest) ≡ sum_by span_bytes cut + sum_by span_bytes newest =
      sum_by-append span_bytes cut newest in
      let le = fit.within in
      omega arith;
}

-- ---- poisons and unpoisons among mallocs and frees

all_of_blocks : (laid : List Event) (lives helds : List Extent) → LaysOut laid lives helds
    → list_all is_of_block laid ≡ true
all_of_blocks laid lives helds lays_none = refl
all_of_blocks laid lives helds (lays_live r past ls hs way) = all_of_blocks past ls hs way
all_of_blocks laid lives helds (lays_held r p past ls hs here way) = all_of_blocks past ls hs way

module _ (bound : ℕ) where
  -- mallocs and frees record the same with poisons and unpoisons among them
  way_of : (past : List Event) → list_all is_of_block (without_shades past) ≡ true
      → Records bound [] [] (without_shades past) past
  way_of [] all = begins
  way_of (e ∷ past) all =
      elim (cases_Bool (is_shade e)) [
        | inl shade ↦ rw shade (leaves_out_shade e (without_shades past) past shade (way_of past (rw shade at all)))
        | inr kept ↦
            let parts = and_parts (is_of_block e) (list_all is_of_block (without_shades past)) (rw kept at all) in
            rw kept (block e (without_shades past) past parts.0 (way_of past parts.1))
      ]

  pub at_start : HaveSameBlocks bound [] []
  at_start = record { same_live = IsPermutation-refl []; oldest_cut = refl }

  pub none_cut : (past run : List Event) → NoMallocMeets bound [] past run
  none_cut past run later before r b split has is_held = absurd (in_none b has)

  pub none_left : (left : List Extent) → ((b : Extent) → Contains left b → Contains [] b) → left ≡ []
  none_left [] part = refl
  none_left (b ∷ left) part = absurd (in_none b (part b (in_head b left)))

  -- so they leave the same blocks
  shaded_blocks : (past : List Event) → list_all is_of_block (without_shades past) ≡ true
      → HaveSameBlocks bound (without_shades past) past
  shaded_blocks past all =
      let still = keeps bound [] [] [] at_start (without_shades past) past (none_cut [] past)
      (way_of past all) in
      subst (λ cut. HaveBlocksBut bound cut (without_shades past) past) (none_left still.left still.part) still.blocks

  none_beside : (xs ys : List Report) (R : Report → Report → Type 0) → AllZip R xs ys → xs ≡ [] → ys ≡ []
  none_beside xs [] R h is = refl
  none_beside [] (y ∷ ys) R h is = absurd h
  none_beside (x ∷ xs) (y ∷ ys) R h is = absurd cc

  shaded_quiet : (past : List Event) → list_all is_of_block (without_shades past) ≡ true
      → verdicts_of bound (without_shades past) ≡ [] → verdicts_of bound past ≡ []
  shaded_quiet past all quiet =
      let alike = reported_alike bound [] [] [] at_start IsSameInDetail (λ f. refl)
      (λ b has. absurd (in_none b has)) (says_in_detail bound) (without_shades past) past (none_cut [] past)
      (way_of past all) in
      alike.run_adds
      ∙ none_beside alike.of_recording alike.of_run _ alike.one_by_one (sym alike.recording_adds ∙ quiet)

-- ---- the beginning of a segment

module _ (bound : ℕ) (cut : List Extent) (snapshot past : List Event) (is : IsSnapshotBut bound cut snapshot past) where
  laid : Stand bound (without_shades snapshot) is.lives is.newest
  laid = stands bound (without_shades snapshot) is.lives is.newest is.lays_out
      (fit_but bound is.lives cut is.newest
      (subst (Fit bound is.lives) is.oldest_cut (fit_of bound past is.lives is.same_live)))

  of_blocks : list_all is_of_block (without_shades snapshot) ≡ true
  of_blocks = all_of_blocks (without_shades snapshot) is.lives is.newest is.lays_out

  pub begins_with_blocks : HaveBlocksBut bound cut snapshot past
  begins_with_blocks =
      let same = shaded_blocks bound snapshot of_blocks in record {
        same_live = IsPermutation-trans (live bound snapshot) is.lives (live bound past)
            (IsPermutation-sym is.lives (live bound snapshot)
            (subst (λ lives. IsPermutation lives (live bound snapshot)) laid.lives_are same.same_live)) is.same_live;
        oldest_cut = is.oldest_cut ∙ ap (λ helds. cut ++ helds) (sym (same.oldest_cut ∙ laid.helds_are));
      }

  pub begins_quietly : verdicts_of bound snapshot ≡ []
  begins_quietly = shaded_quiet bound snapshot of_blocks laid.quiet

-- ---- poisons and unpoisons that come last

is_kept : (e : Event) → is_of_block e ≡ true → is_shade e ≡ false
is_kept (event.Malloc r) is = refl
is_kept (event.Free p) is = refl
is_kept e is = absurd (false≢true is)

-- a history that is a snapshot of another, with its poisons and unpoisons last, is such a beginning
no_shades : (laid : List Event) → list_all is_of_block laid ≡ true → without_shades laid ≡ laid
no_shades [] all = refl
no_shades (e ∷ laid) all =
    let parts = and_parts (is_of_block e) (list_all is_of_block laid) all in
    rw (is_kept e parts.0) (ap (λ es. e ∷ es) (no_shades laid parts.1))

shades_gone : (shades laid : List Event) → list_all is_shade shades ≡ true
    → without_shades (shades ++ laid) ≡ without_shades laid
shades_gone [] laid all = refl
shades_gone (e ∷ shades) laid all =
    let parts = and_parts (is_shade e) (list_all is_shade shades) all in
    rw parts.0 (shades_gone shades laid parts.1)

pub snapshot_of_all : (bound : ℕ) (snapshot past : List Event) → IsSnapshot bound snapshot past
    → IsSnapshotBut bound [] snapshot past
snapshot_of_all bound snapshot past is = record {
  lives = is.lives;
  newest = held bound past;
  lays_out = subst (λ laid. LaysOut laid is.lives (held bound past)) (sym (
      ap without_shades is.parts
      ∙ shades_gone is.shades is.laid is.are_shades
      ∙ no_shades is.laid (all_of_blocks is.laid is.lives (held bound past) is.lays_out)
      )) is.lays_out;
  same_live = is.same_blocks;
  oldest_cut = refl;
}
