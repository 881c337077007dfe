-- What is encoded is read: after the header and whole records, an event's bytes give this event.
use Rattle.std.proofs.Common.{◌≡◌, ℕ, ◌<◌, ◌≤◌, List, [], ◌∷◌, ◌++◌, length, take, drop, Some, None, Ok, refl, sym, ap}
use Rattle.std.proofs.Common.{subst, ◌∙◌, arith, append_assoc, length-append, length-drop, inl, inr}
use Rattle.std.proofs.lemmas.List.{append-nil, append_cancel_left, take-append-drop, take_all, flat_map_more}
use Rattle.std.proofs.lemmas.List.Elements.{All-pop}
use Rattle.std.specs.Prelude.{IsTrue}
use Rattle.trace_record.specs.declared.event.Event.{Event}
use Rattle.trace_record.specs.declared.end.Fate.{Fate}
use Rattle.trace_record.specs.declared.end.Fate.TheVariants as fate
use Rattle.trace_record.specs.declared.decoder.Out.{Out}
use Rattle.trace_record.specs.declared.decoder.Out.TheVariants as out
use Rattle.trace_record.specs.declared.version.Version.{Version}
use Rattle.trace_record.specs.Spelling.{header, spelling, spellings, spells_in, AllSpellIn}
use Rattle.trace_record.specs.Stream.{version_of, IsMadeOf, IsOpenWith, IsDecided, IsDecidedFate, MayEnd}
use Rattle.trace_record.specs.Reading.{Says, Reads}
use Rattle.trace_record.specs.Standing.{Standing, Answers}
use Rattle.trace_record.proofs.Same.{no_prefix}
use Rattle.trace_record.proofs.Steps.{all_more, made_version}
use Rattle.trace_record.proofs.Readings.{one_reading, stands}

-- a text with a version is made of its header, where it is open and holds an event
made_of : (v : Version) (limit : ℕ) (text : List ℕ) (events : List Event) (f : Event) (rest : List ℕ)
    → version_of text ≡ Some v → IsOpenWith limit text (events ++ f ∷ []) rest → IsMadeOf v text (events ++ f ∷ []) rest
made_of v limit text events f rest is (inl h) =
    absurd (let e = ap length h.none in omega (arith, length-append events (f ∷ [])))
made_of v limit text events f rest is (inr r) =
    let found : version_of text ≡ Some r.version = made_version r.version text (events ++ f ∷ []) rest r.made in
    let same : r.version ≡ v = (cc) in
    subst (λ (w : Version). IsMadeOf w text (events ++ f ∷ []) rest) same r.made

decided_of : (limit : ℕ) (text : List ℕ) (events : List Event) (f : Fate) → IsDecidedFate f → MayEnd limit text events f
    → IsDecided limit text events f
decided_of limit text events fate.Closed decided may = may
decided_of limit text events (fate.Malformed g) decided may = may
decided_of limit text events fate.TooMany decided may = may
decided_of limit text events fate.Truncated decided may = absurd decided
decided_of limit text events fate.NoClose decided may = absurd decided
decided_of limit text events fate.ReadFailed decided may = absurd decided

-- after the header of a version and these events, which are spelled in it
module _ (v : Version) (events : List Event) (all : AllSpellIn v events) where
  -- the whole text is open and holds this event too
  open_with : (limit : ℕ) (e : Event) → IsTrue (spells_in v e) → length events < limit
      → Reads limit ((header v ++ spellings v events) ++ spelling v e) (events ++ e ∷ []) None
  open_with limit e one room = (
    [],
    inr record {
      version = v;
      made = record {
        spelled = all_more v events e all one;
        split = flat_map_more (spelling v) (header v) events e
            ∙ sym (append-nil (header v ++ spellings v (events ++ e ∷ [])));
      };
      follows = omega (arith, length-append events (e ∷ []));
    },
  )

  -- what follows the events of an open text with nothing unfinished
  spelled_last : (limit : ℕ) (f : Event) (part : List ℕ)
      → IsOpenWith limit ((header v ++ spellings v events) ++ part) (events ++ f ∷ []) [] → Says v part (Ok f)
  spelled_last limit f part at =
      let text = (header v ++ spellings v events) ++ part in
      let bare : IsMadeOf v text events part = record { spelled = all; split = refl } in
      let made = made_of v limit text events f [] (made_version v text events part bare) at in
      let last : IsTrue (spells_in v f) = (All-pop (λ g. IsTrue (spells_in v g)) (events ++ f ∷ []) events (Some f) refl
      made.spelled).1 in (
        last,
        append_cancel_left (header v ++ spellings v events) part (spelling v f) (made.split
            ∙ append-nil (header v ++ spellings v (events ++ f ∷ []))
            ∙ sym (flat_map_more (spelling v) (header v) events f)),
      )

  -- the one answer to an event's bytes
  pub read_back : (new : Standing) (e : Event) (used : ℕ) (o : Out) → IsTrue (spells_in v e) → length events < new.limit
      → used ≤ length (spelling v e) → (o ≡ out.Need → used ≡ length (spelling v e))
      → Answers new ((header v ++ spellings v events) ++ take used (spelling v e)) events o
      → (o ≡ out.Got e) × (used ≡ length (spelling v e))
  read_back new e used (out.Got f) one room within need answers =
      let at : IsOpenWith new.limit ((header v ++ spellings v events) ++ take used (spelling v e)) (events ++ f ∷ [])
      [] = subst (λ (rest : List ℕ). IsOpenWith new.limit
      ((header v ++ spellings v events) ++ take used (spelling v e)) (events ++ f ∷ []) rest) answers.1
      answers.0.reads in
      let part = spelled_last new.limit f (take used (spelling v e)) at in
      let same = no_prefix v f e (drop used (spelling v e)) [] part.0 one
      (ap (λ (t : List ℕ). t ++ drop used (spelling v e)) (sym part.1) ∙ take-append-drop used (spelling v e)
      ∙ sym (append-nil (spelling v e))) in
      let rest : length (drop used (spelling v e)) ≡ 0 = ap length same.1 in
      (ap out.Got same.0, omega (arith, length-drop used (spelling v e)))
  read_back new e used out.Need one room within need answers =
      let whole : take used (spelling v e) ≡ spelling v e =
      take_all used (spelling v e) (let n = need refl in omega arith) in
      let text : Reads new.limit ((header v ++ spellings v events) ++ spelling v e) events None =
      subst (λ (part : List ℕ). Reads new.limit ((header v ++ spellings v events) ++ part) events None) whole
      (new.rest, answers.reads) in
      absurd (let two = one_reading new.limit ((header v ++ spellings v events) ++ spelling v e) events
      (events ++ e ∷ []) None None text (open_with new.limit e one room) in let n = ap length two.0 in
      omega (arith, length-append events (e ∷ [])))
  read_back new e used (out.Stop end) one room within need answers =
      let front = (header v ++ spellings v events) ++ take used (spelling v e) in
      let rest = drop used (spelling v e) in
      let text : front ++ rest ≡ (header v ++ spellings v events) ++ spelling v e =
      append_assoc (header v ++ spellings v events) (take used (spelling v e)) rest
      ∙ ap (λ (t : List ℕ). (header v ++ spellings v events) ++ t) (take-append-drop used (spelling v e)) in
      let decided : IsDecided new.limit front events end.fate =
      decided_of new.limit front events end.fate answers.1 answers.0.fate in
      let later : IsDecided new.limit ((header v ++ spellings v events) ++ spelling v e) events end.fate =
      subst (λ (t : List ℕ). IsDecided new.limit t events end.fate) text
      (stands new.limit front rest events end.fate decided) in
      absurd (let two = one_reading new.limit ((header v ++ spellings v events) ++ spelling v e) events
      (events ++ e ∷ []) (Some end.fate) None later (open_with new.limit e one room) in let no = two.1 in cc)
