-- What is reported of a recording is what is reported of the run.
use Rattle.std.proofs.Common.{◌≡◌, ℕ, ◌+◌, Bool, true, false, List, [], ◌∷◌, ◌++◌, length, refl, sym, ap, subst, ◌∙◌}
use Rattle.std.proofs.Common.{Some, None, Option, append_assoc}
use Rattle.std.specs.Prelude.{option_to_list, Contains}
use Rattle.std.specs.Option.{option_map}
use Rattle.std.specs.List.{AllZip}
use Rattle.std.proofs.lemmas.Bool.{false≢true}
use Rattle.std.proofs.lemmas.List.{append-nil}
use Rattle.std.proofs.lemmas.List.Elements.{Contains-append_left, Contains-push}
use Rattle.trace_record.specs.declared.event.Event.{Event}
use Rattle.trace_record.specs.declared.event.Event.TheVariants as event
use Rattle.trace_record.specs.declared.event.Access.{Access}
use Rattle.trace_record.specs.declared.event.Region.{Region}
use Rattle.heap_book.specs.Spans.{Extent, meets}
use Rattle.asan_check.specs.declared.report.Fault.{Fault}
use Rattle.asan_check.specs.declared.report.Fault.TheVariants as fault
use Rattle.asan_check.specs.declared.report.Report.{Report}
use Rattle.asan_check.specs.History.{block_of, live, held}
use Rattle.asan_check.specs.Verdicts.{fault_of, verdict, verdicts_of}
use Rattle.asan_laws.specs.Laws.{access_event}
use Rattle.asan_laws.specs.Recording.{HaveBlocksBut, Records, begins, block, access, leaves_out_access, says_nothing}
use Rattle.asan_laws.specs.Recording.{leaves_out_shade, states, numbers_in_both, is_of_block, AreReportedAlike}
use Rattle.asan_laws.specs.Recording.{AddTheSame}
use Rattle.asan_laws.specs.Recording.{IsReportedOfOne, NoMallocMeets, Detail, shadow_bytes, Finds}
use Rattle.asan_laws.proofs.SameBlocks.{HaveBlocksStill, SayAlike, say_the_same, malloc_same, malloc_step, free_step}
use Rattle.asan_laws.proofs.SameBlocks.{free_says, on_left, on_right, is_other, nothing_done, access_is_none}
use Rattle.asan_laws.proofs.SameBlocks.{shade_is_none, shade_is_good}

-- ---- reports, one by one

module _ {A B : Type 0} where
  pub zip_append : (R : A → B → Type 0) (xs xs' : List A) (ys ys' : List B) → AllZip R xs ys → AllZip R xs' ys'
      → AllZip R (xs ++ xs') (ys ++ ys')
  zip_append R [] xs' [] ys' h h' = h'
  zip_append R [] xs' (y ∷ ys) ys' h h' = absurd h
  zip_append R (x ∷ xs) xs' [] ys' h h' = absurd h
  zip_append R (x ∷ xs) xs' (y ∷ ys) ys' h h' = (h.0, zip_append R xs xs' ys ys' h.1 h')

  pub zip_weaker : (R S : A → B → Type 0) → ((x : A) (y : B) → R x y → S x y) → (xs : List A) (ys : List B)
      → AllZip R xs ys → AllZip S xs ys
  zip_weaker R S weaker [] [] h = tt
  zip_weaker R S weaker [] (y ∷ ys) h = absurd h
  zip_weaker R S weaker (x ∷ xs) [] h = absurd h
  zip_weaker R S weaker (x ∷ xs) (y ∷ ys) h = (weaker x y h.0, zip_weaker R S weaker xs ys h.1)

-- what is said of one event, with its number in each
pub both_say : (Same : Detail → Fault → Fault → Type 0) (numbers : List (ℕ × ℕ × Detail)) (m n : ℕ) (detail : Detail)
    → Contains numbers (m, n, detail) → (f g : Option Fault) → SayAlike (Same detail) f g
    → AllZip (IsReportedOfOne numbers Same)
    (option_to_list (option_map (λ f. let r : Report = record { number = m; fault = f } in r) f))
    (option_to_list (option_map (λ f. let r : Report = record { number = n; fault = f } in r) g))
both_say Same numbers m n detail has None None h = tt
both_say Same numbers m n detail has None (Some g) h = absurd h
both_say Same numbers m n detail has (Some f) None h = absurd h
both_say Same numbers m n detail has (Some f) (Some g) h = ((detail, has, h.0), tt)

-- nothing is said of an event that is good
pub none_said : (number : ℕ) (reports : List Report) (f : Option Fault) → f ≡ None →
    reports ++ option_to_list (option_map (λ f. let r : Report = record { number = number; fault = f } in r) f)
    ≡ reports
none_said number reports f good =
    ap (λ found. reports ++ option_to_list (option_map
    (λ g. let r : Report = record { number = number; fault = g } in r) found)) good
    ∙ append-nil reports

-- ---- reports that are added

module _ (Same : Detail → Fault → Fault → Type 0) (first recorded past run : List Report)
    (numbers : List (ℕ × ℕ × Detail)) (alike : AddTheSame numbers Same first recorded past run) where
  -- to both
  pub added_to_both : (last : ℕ × ℕ × Detail) (one other : List Report)
      → AllZip (IsReportedOfOne (numbers ++ last ∷ []) Same) one other
      → AddTheSame (numbers ++ last ∷ []) Same first (recorded ++ one) past (run ++ other)
  added_to_both last one other both =
      let all = numbers ++ last ∷ [] in record {
        of_recording = alike.of_recording ++ one;
        of_run = alike.of_run ++ other;
        recording_adds = ap (λ rs. rs ++ one) alike.recording_adds ∙ append_assoc first alike.of_recording one;
        run_adds = ap (λ rs. rs ++ other) alike.run_adds ∙ append_assoc past alike.of_run other;
        one_by_one = zip_append (IsReportedOfOne all Same) alike.of_recording one alike.of_run other
            (zip_weaker (IsReportedOfOne numbers Same) (IsReportedOfOne all Same)
            (λ r s h. (h.0, Contains-append_left numbers (last ∷ []) (r.number, s.number, h.0) h.1, h.2))
            alike.of_recording alike.of_run alike.one_by_one) both;
      }

  -- none
  pub none_added : (recorded_now run_now : List Report) → recorded_now ≡ recorded → run_now ≡ run
      → AddTheSame numbers Same first recorded_now past run_now
  none_added recorded_now run_now same also = record {
    of_recording = alike.of_recording;
    of_run = alike.of_run;
    recording_adds = same ∙ alike.recording_adds;
    run_adds = also ∙ alike.run_adds;
    one_by_one = alike.one_by_one;
  }

-- ---- one more event

module _ (bound : ℕ) (Same : Detail → Fault → Fault → Type 0) (first past recorded run : List Event)
    (numbers : List (ℕ × ℕ × Detail)) (alike : AreReportedAlike bound numbers Same first past recorded run)
    (e : Event) where
  pub in_both : (detail : Detail) → SayAlike (Same detail) (fault_of bound recorded e) (fault_of bound run e) →
      AreReportedAlike bound (numbers ++ (length recorded + 1, length run + 1, detail) ∷ []) Same first past
      (e ∷ recorded) (e ∷ run)
  in_both detail says =
      let last : ℕ × ℕ × Detail = (length recorded + 1, length run + 1, detail) in
      added_to_both Same (verdicts_of bound first) (verdicts_of bound recorded) (verdicts_of bound past)
      (verdicts_of bound run) numbers alike last (option_to_list (verdict bound recorded e))
      (option_to_list (verdict bound run e))
      (both_say Same (numbers ++ last ∷ []) (length recorded + 1) (length run + 1) detail (Contains-push numbers last)
      (fault_of bound recorded e) (fault_of bound run e) says)

  pub in_run : fault_of bound run e ≡ None → AreReportedAlike bound numbers Same first past recorded (e ∷ run)
  in_run good = none_added Same (verdicts_of bound first) (verdicts_of bound recorded) (verdicts_of bound past)
      (verdicts_of bound run) numbers alike (verdicts_of bound recorded) (verdicts_of bound (e ∷ run)) refl
      (none_said (length run + 1) (verdicts_of bound run) (fault_of bound run e) good)

  pub in_recording : fault_of bound recorded e ≡ None
      → AreReportedAlike bound numbers Same first past (e ∷ recorded) run
  in_recording good = none_added Same (verdicts_of bound first) (verdicts_of bound recorded) (verdicts_of bound past)
      (verdicts_of bound run) numbers alike (verdicts_of bound (e ∷ recorded)) (verdicts_of bound run)
      (none_said (length recorded + 1) (verdicts_of bound recorded) (fault_of bound recorded e) good) refl

-- ---- the whole

pub is_none : (is_store : Bool) (a : Access) → is_of_block (access_event is_store a) ≡ false
is_none false a = refl
is_none true a = refl

none_meets_before : (bound : ℕ) (cut : List Extent) (past run : List Event) (e : Event)
    → NoMallocMeets bound cut past (e ∷ run) → NoMallocMeets bound cut past run
none_meets_before bound cut past run e none later before r b split =
    none (e ∷ later) before r b (ap (λ es. e ∷ es) split)

module _ (bound : ℕ) (first past : List Event) where
  one_more : (e : Event) (run : List Event) → (since : List Event) × (run ≡ since ++ past)
      → (since : List Event) × (e ∷ run ≡ since ++ past)
  one_more e run rest = (e ∷ rest.0, ap (λ es. e ∷ es) rest.1)

  -- a run goes on from what it was when the recording began
  goes_on : (recorded run : List Event) → Records bound first past recorded run
      → (since : List Event) × (run ≡ since ++ past)
  goes_on recorded run begins = ([], refl)
  goes_on recorded run (block e t f is way) = one_more e f (goes_on t f way)
  goes_on recorded run (access detail is_store a t f finds way) = one_more (access_event is_store a) f (goes_on t f way)
  goes_on recorded run (leaves_out_access e t f is good way) = one_more e f (goes_on t f way)
  goes_on recorded run (says_nothing e t f is good way) = goes_on t f way
  goes_on recorded run (leaves_out_shade e t f is way) = one_more e f (goes_on t f way)
  goes_on recorded run (states e t f is way) = goes_on t f way

module _ (bound : ℕ) (first past : List Event) (cut : List Extent)
    (start : HaveBlocksBut bound cut first past) where
  -- none of the blocks that are cut still meets a malloc of the run
  apart : (recorded run : List Event) → Records bound first past recorded run
      → (still : HaveBlocksStill bound cut recorded run) (r : Region)
      → NoMallocMeets bound cut past (event.Malloc r ∷ run) → (b : Extent) → Contains still.left b
      → meets (block_of r) b ≡ false
  apart recorded run way still r none b has =
      let since = goes_on bound first past recorded run way in
      let is_held : Contains (held bound run) b =
      rw still.blocks.oldest_cut (Contains-append_left still.left (held bound recorded) b has) in
      none [] since.0 r b (ap (λ es. event.Malloc r ∷ es) since.1) (still.part b has)
      (subst (λ es. Contains (held bound es) b) since.1 is_held)

  block_keeps : (recorded run : List Event) → Records bound first past recorded run
      → HaveBlocksStill bound cut recorded run → (e : Event) → is_of_block e ≡ true
      → NoMallocMeets bound cut past (e ∷ run) → HaveBlocksStill bound cut (e ∷ recorded) (e ∷ run)
  block_keeps recorded run way still (event.Malloc r) is none = record {
    left = still.left;
    blocks = malloc_step bound still.left recorded run still.blocks r (apart recorded run way still r none);
    part = still.part;
  }
  block_keeps recorded run way still (event.Free p) is none =
      let after = free_step bound still.left recorded run still.blocks p in record {
        left = after.left;
        blocks = after.blocks;
        part = λ b has. still.part b (after.part b has);
      }
  block_keeps recorded run way still e is none = absurd (false≢true is)

  left_keeps : (recorded run : List Event) → HaveBlocksStill bound cut recorded run → (e : Event)
      → (live bound (e ∷ recorded) ≡ live bound recorded) × (held bound (e ∷ recorded) ≡ held bound recorded)
      → HaveBlocksStill bound cut (e ∷ recorded) run
  left_keeps recorded run still e is = record {
    left = still.left;
    blocks = on_left bound still.left recorded run still.blocks e is;
    part = still.part;
  }

  right_keeps : (recorded run : List Event) → HaveBlocksStill bound cut recorded run → (e : Event)
      → (live bound (e ∷ run) ≡ live bound run) × (held bound (e ∷ run) ≡ held bound run)
      → HaveBlocksStill bound cut recorded (e ∷ run)
  right_keeps recorded run still e is = record {
    left = still.left;
    blocks = on_right bound still.left recorded run still.blocks e is;
    part = still.part;
  }

  -- both have the same blocks again, but for some of those that were cut
  pub keeps : (recorded run : List Event) → NoMallocMeets bound cut past run
      → Records bound first past recorded run → HaveBlocksStill bound cut recorded run
  keeps recorded run none begins = record { left = cut; blocks = start; part = λ b has. has }
  keeps recorded run none (block e t f is way) =
      block_keeps t f way (keeps t f (none_meets_before bound cut past f e none) way) e is none
  keeps recorded run none (access detail is_store a t f finds way) =
      let e = access_event is_store a in
      let still = keeps t f (none_meets_before bound cut past f e none) way in
      left_keeps t (e ∷ f) (right_keeps t f still e (is_other e (is_none is_store a) bound f)) e
      (is_other e (is_none is_store a) bound t)
  keeps recorded run none (leaves_out_access e t f is good way) =
      right_keeps t f (keeps t f (none_meets_before bound cut past f e none) way) e
      (is_other e (access_is_none e is) bound f)
  keeps recorded run none (says_nothing e t f is good way) =
      left_keeps t f (keeps t f none way) e (nothing_done e is bound t)
  keeps recorded run none (leaves_out_shade e t f is way) =
      right_keeps t f (keeps t f (none_meets_before bound cut past f e none) way) e
      (is_other e (shade_is_none e is) bound f)
  keeps recorded run none (states e t f is way) =
      left_keeps t f (keeps t f none way) e (is_other e (shade_is_none e is) bound t)

  -- which faults count as the same
  module _ (Same : Detail → Fault → Fault → Type 0) (self : (f : Fault) → Same shadow_bytes f f)
      (twice : (b : Extent) → Contains cut b → Same shadow_bytes (fault.BadFree b.at) (fault.DoubleFree b.at))
      (finds_same : (detail : Detail) (recorded run : List Event) (is_store : Bool) (a : Access)
      → Finds bound detail recorded run a → SayAlike (Same detail) (fault_of bound recorded (access_event is_store a))
      (fault_of bound run (access_event is_store a))) where
    block_says : (recorded run : List Event) → Records bound first past recorded run
        → HaveBlocksStill bound cut recorded run → (e : Event) → is_of_block e ≡ true
        → NoMallocMeets bound cut past (e ∷ run)
        → SayAlike (Same shadow_bytes) (fault_of bound recorded e) (fault_of bound run e)
    block_says recorded run way still (event.Malloc r) is none =
        say_the_same (Same shadow_bytes) self _ _
        (malloc_same bound still.left recorded run still.blocks r (apart recorded run way still r none))
    block_says recorded run way still (event.Free p) is none =
        free_says bound still.left recorded run still.blocks p (Same shadow_bytes) self
        (λ b has. twice b (still.part b has))
    block_says recorded run way still e is none = absurd (false≢true is)

    pub reported_alike : (recorded run : List Event) → NoMallocMeets bound cut past run
        → (way : Records bound first past recorded run)
        → AreReportedAlike bound (numbers_in_both way) Same first past recorded run
    reported_alike recorded run none begins = record {
      of_recording = [];
      of_run = [];
      recording_adds = sym (append-nil (verdicts_of bound first));
      run_adds = sym (append-nil (verdicts_of bound past));
      one_by_one = tt;
    }
    reported_alike recorded run none (block e t f is way) =
        let before = none_meets_before bound cut past f e none in
        in_both bound Same first past t f (numbers_in_both way) (reported_alike t f before way) e
        shadow_bytes (block_says t f way (keeps t f before way) e is none)
    reported_alike recorded run none (access detail is_store a t f finds way) =
        let e = access_event is_store a in
        in_both bound Same first past t f (numbers_in_both way)
        (reported_alike t f (none_meets_before bound cut past f e none) way) e detail
        (finds_same detail t f is_store a finds)
    reported_alike recorded run none (leaves_out_access e t f is good way) =
        in_run bound Same first past t f (numbers_in_both way)
        (reported_alike t f (none_meets_before bound cut past f e none) way) e good
    reported_alike recorded run none (says_nothing e t f is good way) =
        in_recording bound Same first past t f (numbers_in_both way) (reported_alike t f none way) e good
    reported_alike recorded run none (leaves_out_shade e t f is way) =
        in_run bound Same first past t f (numbers_in_both way)
        (reported_alike t f (none_meets_before bound cut past f e none) way) e (shade_is_good bound f e is)
    reported_alike recorded run none (states e t f is way) =
        in_recording bound Same first past t f (numbers_in_both way) (reported_alike t f none way) e
        (shade_is_good bound t e is)
