-- Bytes that begin with no whole good record.
use Rattle.std.proofs.Common.{◌≡◌, ℕ, List, ◌++◌, length, take, get_or, None, Ok, Err, refl, sym, subst}
use Rattle.std.proofs.lemmas.List.{take_at}
use Rattle.std.specs.Prelude.{IsTrue, Result}
use Rattle.std.specs.Result.{result_ok}
use Rattle.trace_record.specs.declared.event.Event.{Event}
use Rattle.trace_record.specs.declared.event.Event.TheVariants as event
use Rattle.trace_record.specs.declared.end.Flaw.{Flaw}
use Rattle.trace_record.specs.declared.version.Version.{Version}
use Rattle.trace_record.specs.declared.version.Version.TheVariants as version
use Rattle.trace_record.specs.Spelling.{fields_of, record_length, spelling, spells_in}
use Rattle.trace_record.specs.Stream.{BeginsWith}
use Rattle.trace_record.specs.Reading.{HasNoRecord, Says}
use Rattle.trace_record.proofs.Existence.{says_one}
use Rattle.trace_record.proofs.Same.{event_fits}

-- the first byte of a record is its code
code_first : (v : Version) (e : Event) (more : List ℕ) → get_or (spelling v e ++ more) 0 0 ≡ (fields_of v e).code
code_first v (event.Load a) more = refl
code_first v (event.Store a) more = refl
code_first v (event.Malloc r) more = refl
code_first v (event.Free p) more = refl
code_first version.One (event.Poison s) more = refl
code_first version.Two (event.Poison s) more = refl
code_first version.Three (event.Poison s) more = refl
code_first v (event.Unpoison r) more = refl
code_first v event.Anew more = refl

-- the record has as many bytes as the first one says
front_length : (v : Version) (e : Event) (bytes : List ℕ) → IsTrue (spells_in v e) → BeginsWith (spelling v e) bytes
    → record_length v (get_or bytes 0 0) ≡ length (spelling v e)
front_length v e bytes spells (more, is) =
    rw (is, code_first v e more) (sym (event_fits v e spells).0)

-- no good record comes first where a flawed one does
pub none_of_flawed : (v : Version) (bytes : List ℕ) (f : Flaw)
    → Says v (take (record_length v (get_or bytes 0 0)) bytes) (Err f) → HasNoRecord v bytes
none_of_flawed v bytes f flawed e spells begins =
    let size = front_length v e bytes spells begins in
    let part : take (record_length v (get_or bytes 0 0)) bytes ≡ spelling v e =
    rw (size, begins.1) (take_at (spelling v e) begins.0 (length (spelling v e)) refl) in
    let says : Says v (spelling v e) (Err f) = subst (λ p. Says v p (Err f)) part flawed in
    let good : Says v (spelling v e) (Ok e) = (spells, refl) in
    let same = says_one v (spelling v e) (Ok e) (Err f) good says in absurd cc

-- the same, by what was read of the record that comes first
pub none_of_unread : (v : Version) (bytes : List ℕ) (size : ℕ) (said : Result Event Flaw)
    → size ≡ record_length v (get_or bytes 0 0) → Says v (take size bytes) said → None ≡ result_ok said
    → HasNoRecord v bytes
none_of_unread v bytes size (Ok e) is says none = absurd cc
none_of_unread v bytes size (Err f) is says none =
    none_of_flawed v bytes f (subst (λ (n : ℕ). Says v (take n bytes) (Err f)) is says)
