-- The frames in a unit by its functions and its lines (on specs/EntriesFrames.antt).
use Rattle.addr2line_units.proofs.Common.{inl, ◌≤◌, arith, ◌≡◌, ◌≢◌, ◌∙◌, ℕ, ap, sym, refl, subst, not, ◌&&◌, is_ok, is_none, box_value, Bool, true, false, Option, Some, None, option_map, Result, Ok, Err, if◌then◌else◌, Error, OutOfMemory, ◌>>=◌, Sections, UnitRecord, cached_detail, exceeds_inline_room, Location, location_at, location_of_row, Scope, LazyFunctions, LazyLines, LinesCache, EntriesCache, UnitView, ViewState, functions_in_take_memory, lines_take_memory, AreLinesOf, cached_files, is_uncached, no_lines, FoundFunction, found_frames, AreRead, AsksNoMemoryIn, ReadsEntriesOf, StayEntries, has_entries, has_entries_by, StayFunctions, cached_functions, IsViewOf, answer_in, answer_of_view, waits, was_checked, LocationResult, asks_lines_in, frames_by, frames_in, function_in, inlined_of_unit, is_open, ExactlyUnlessOom, ExactlyUnlessOomIf, IfErr, CachedUnit, AreEntriesOf, first_answer_of, is_decided, find_takes_memory, function_at, false≢true, indexed_unit, frames_of_place, verdict, DwLang, FramesResult, frames_by_lines}
use Rattle.addr2line_lines.specs.declared.row.Row.{Row}
use Rattle.addr2line_lines.specs.Location.{LineTable as Lines}
use Rattle.addr2line_units.specs.declared.unit.LazyLines.TheVariants as lines
use Rattle.addr2line_units.specs.declared.unit.ViewState.TheVariants as states
use Rattle.addr2line_units.specs.declared.entries.FunctionPlace.{FunctionPlace}
use Rattle.addr2line_units.specs.declared.entries.UnitFrames.TheVariants as found
use Rattle.addr2line_units.specs.UnitAfter.{AfterFramesIn, AfterFunctionIn, AfterLinesOf, AfterEntries, AfterCheck}
use Rattle.addr2line_units.specs.EntriesFrames.{HasFewInlined}
use Rattle.addr2line_units.specs.EntriesFunctions.{found_in_cache}
use Rattle.addr2line_units.proofs.EntriesKeeps.{KeepsChecked, KeepsFunction}
use Rattle.addr2line_units.specs.UnitLinesCached.{location_or, lines_or}
use Rattle.addr2line_units.proofs.EntriesLemmas.{IsView, checked_decides, exactly_unless_oom, fault_entries, fault_in, few_in, function_entries, function_is_in, functions_right, functions_stay, functions_take_in, not_open}
use Rattle.addr2line_units.proofs.EntriesMemoryLemmas.{exactly_if_none, find_takes_none}
use Rattle.addr2line_units.proofs.EntriesPlaceLemmas.{cached_is_not_oom, cached_unless_oom}
use Rattle.addr2line_units.proofs.UnitLinesLemmas.{LinesFollow, lines_are, lines_follow, lines_left, lines_or_stays}
use Rattle.addr2line_units.proofs.UnitViewLemmas.{waiting_is_open}
use Rattle.addr2line_units.specs.EntriesCached.{frames_or}

open_by : {R : Type 0} (d : Sections) (u : UnitRecord) (s : ViewState R) → waits s ≡ true → IsViewOf d u (record { state = s }) → is_open d u (answer_in s) ≡ true
open_by d u states.Undecided w h = cc
open_by d u states.Open w h = ap is_none (waiting_is_open d u states.Open refl h)
open_by d u states.Main w h = cc
open_by d u (states.Unnamed e) w h = cc
open_by d u (states.Answered a) w h = cc

-- a unit whose view waits is open
waiting_stays_open : {R : Type 0} (d : Sections) (u : UnitRecord) (v : UnitView R) → waits v.state ≡ true → IsViewOf d u v → is_open d u (answer_of_view v) ≡ true
waiting_stays_open d u v w h = open_by d u v.state w h

-- of a unit that waits all is known that a lookup asks
waiting_entries : {R : Type 0} (probe : ℕ) (s : ViewState R) (fs : LazyFunctions R) → waits s ≡ true → has_entries_by probe s fs ≡ true
waiting_entries probe states.Undecided fs e = absurd cc
waiting_entries probe states.Open fs e = refl
waiting_entries probe states.Main fs e = absurd cc
waiting_entries probe (states.Unnamed x) fs e = absurd cc
waiting_entries probe (states.Answered a) fs e = absurd cc

known_checks : {R : Type 0} (probe : ℕ) (s : ViewState R) (fs : LazyFunctions R) → has_entries_by probe s fs ≡ true → was_checked s ≡ true
known_checks probe states.Undecided fs h = cc
known_checks probe states.Open fs h = refl
known_checks probe states.Main fs h = refl
known_checks probe (states.Unnamed e) fs h = refl
known_checks probe (states.Answered a) fs h = refl

module _ (scope : Scope) (u : UnitRecord) (language : Option DwLang) (given : Result Lines Error) (answer : Option (Option Sections)) (probe : ℕ) where
  -- the frames in the unit, by its lines
  abbrev frames : FramesResult
  frames = frames_by_lines scope u language given answer probe

  -- an open unit has no frames yet, and asks for no lines
  open_frames : is_open scope.file.sections u answer ≡ true → frames ≡ Ok None
  unfolding frames_by_lines
  open_frames e = ap (λ (b : Bool). if b then Ok None else (frames_by language given probe (function_in scope u answer probe) >>= λ fs. Ok (Some fs))) e

  open_asks : is_open scope.file.sections u answer ≡ true → asks_lines_in scope u answer probe ≡ false
  unfolding asks_lines_in
  open_asks e = ap (λ (b : Bool). not b && is_ok (function_in scope u answer probe)) e

  module _ (closed : is_open scope.file.sections u answer ≡ false) where
    by_function : (r : Result (Option FoundFunction) Error) → function_in scope u answer probe ≡ r → frames ≡ (frames_by language given probe r >>= λ fs. Ok (Some fs))
    unfolding frames_by_lines
    by_function r e = ap (λ (b : Bool). if b then Ok None else (frames_by language given probe (function_in scope u answer probe) >>= λ fs. Ok (Some fs))) closed
        ∙ ap (λ (r : Result (Option FoundFunction) Error). frames_by language given probe r >>= λ fs. Ok (Some fs)) e

    -- lines are asked for where the function has no fault
    closed_asks : (r : Result (Option FoundFunction) Error) → function_in scope u answer probe ≡ r → asks_lines_in scope u answer probe ≡ is_ok r
    unfolding asks_lines_in
    closed_asks r e = ap (λ (b : Bool). not b && is_ok (function_in scope u answer probe)) closed ∙ ap is_ok e

    fault_frames : (e : Error) → function_in scope u answer probe ≡ Err e → frames ≡ Err e
    fault_frames e h = by_function (Err e) h

    module _ (f : Option FoundFunction) (h : function_in scope u answer probe ≡ Ok f) where
      by_lines : (r : Result Lines Error) → given ≡ r → frames ≡ ((r >>= λ table. Ok (found_frames table.files language f (location_at probe table))) >>= λ fs. Ok (Some fs))
      by_lines r e = by_function (Ok f) h ∙ ap (λ (r : Result Lines Error). (r >>= λ table. Ok (found_frames table.files language f (location_at probe table))) >>= λ fs. Ok (Some fs)) e

      lines_fault_frames : (e : Error) → (given >>= λ table. Ok (location_at probe table)) ≡ Err e → frames ≡ Err e
      lines_fault_frames e k = by_cases given refl k
        where
          by_cases : (r : Result Lines Error) → given ≡ r → (r >>= λ table. Ok (location_at probe table)) ≡ Err e → frames ≡ Err e
          by_cases (Ok table) q k = absurd cc
          by_cases (Err y) q k = let same : y ≡ e = cc in by_lines (Err y) q ∙ ap (λ z. Err z) same

      read_frames : (table : Lines) (row : Option Row) → given ≡ Ok table → (given >>= λ t. Ok (location_at probe t)) ≡ Ok (option_map (location_of_row table.files) row)
          → frames ≡ Ok (Some (found_frames table.files language f (option_map (location_of_row table.files) row)))
      read_frames table row right k =
          let at : Ok (location_at probe table) ≡ Ok (option_map (location_of_row table.files) row) = sym (ap (λ (r : Result Lines Error). r >>= λ table. Ok (location_at probe table)) right) ∙ k in
          let same : location_at probe table ≡ option_map (location_of_row table.files) row = cc in
          by_lines (Ok table) right ∙ ap (λ (o : Option Location). Ok (Some (found_frames table.files language f o))) same

      pub lines_frames : (l : LazyLines) (row : Option Row) → given ≡ lines_or scope.file.sections u l → is_uncached l ≡ false → (given >>= λ table. Ok (location_at probe table)) ≡ Ok (option_map (location_of_row (cached_files l)) row)
          → (AreRead l) × (frames ≡ Ok (Some (found_frames (cached_files l) language f (option_map (location_of_row (cached_files l)) row))))
      lines_frames lines.Unread row right cached k = cc
      lines_frames lines.Absent row right cached k = (tt, read_frames no_lines row right k)
      lines_frames (lines.Faulty e) row right cached k = (let no = sym (ap (λ (r : Result Lines Error). r >>= λ table. Ok (location_at probe table)) right) ∙ k in absurd cc)
      lines_frames (lines.Read table) row right cached k = (tt, read_frames (box_value table) row right k)

-- where a lookup takes no memory in a unit, its refusal is the fault of the function
function_alone : {R : Type 0} (shares : Bool) (scope : Scope) (u : UnitRecord) (answer : Option (Option Sections)) (probe : ℕ) (r : LinesCache) (v : EntriesCache R) (e : Error) → AsksNoMemoryIn shares scope u answer probe r v
    → (has_entries probe v ≡ true → exceeds_inline_room (inlined_of_unit scope u answer probe) ≡ false → e ≢ OutOfMemory) → (e ≢ OutOfMemory → function_in scope u answer probe ≡ Err e)
    → (functions_in_take_memory shares scope u answer ≡ false → function_in scope u answer probe ≡ Err e) → function_in scope u answer probe ≡ Err e
function_alone shares scope u answer probe r v e h known gives alone = by_test (functions_in_take_memory shares scope u answer) refl
  where
    by_test : (b : Bool) → functions_in_take_memory shares scope u answer ≡ b → function_in scope u answer probe ≡ Err e
    by_test true t = gives (known (h.functions t) h.few)
    by_test false t = alone t

-- or that of the lines
lines_alone : {R : Type 0} (shares : Bool) (scope : Scope) (u : UnitRecord) (answer : Option (Option Sections)) (probe : ℕ) (r : LinesCache) (v : EntriesCache R) (e : Error) (given : LocationResult) → AsksNoMemoryIn shares scope u answer probe r v
    → asks_lines_in scope u answer probe ≡ true → (is_uncached r.lines ≡ false → e ≢ OutOfMemory) → (e ≢ OutOfMemory → given ≡ Err e) → (lines_take_memory shares u ≡ false → given ≡ Err e) → given ≡ Err e
lines_alone shares scope u answer probe r v e given h asked known gives alone = by_test (lines_take_memory shares u) refl
  where
    by_test : (b : Bool) → lines_take_memory shares u ≡ b → given ≡ Err e
    by_test true t = gives (known (h.lines asked t))
    by_test false t = alone t

-- the function in the view of a unit that is decided
module _ {R : Type 0} (shares : Bool) (scope : Scope) (u : UnitRecord) (probe : ℕ) (old : EntriesCache R) (h : AreEntriesOf scope u old) (decided : is_decided old.view.state ≡ true) where
  abbrev with_functions : LazyFunctions R → EntriesCache R
  with_functions fs = record { view = old.view; functions = fs }

  -- the view has a fault
  pub faulty_view : (x : Error) → verdict scope.file.sections u (first_answer_of old) ≡ Some (Err x) → AfterFunctionIn shares scope u probe (Err x) old old
  faulty_view x is = record {
    places = tt;
    stay = record { answer = refl; view = λ _. refl; functions = functions_stay scope u old.functions };
    within = record { alone = λ n ne. refl; kept = λ _. refl };
    ready = λ ne. fault_entries scope u probe old h decided x is old.functions ∙ cached_unless_oom x ne;
    memory = λ has few. cached_is_not_oom x (sym (fault_entries scope u probe old h decided x is old.functions) ∙ has);
    no_memory = λ none. fault_in scope u probe old h decided x is;
  }

  -- the function is that among the functions of the view
  module _ (inner : Scope) (unit : UnitRecord) (v : IsView scope u probe old h decided inner unit) (result : Result (Option FunctionPlace) Error) (new : LazyFunctions R)
      (gives : ExactlyUnlessOomIf (find_takes_memory shares inner unit probe old.functions && find_takes_memory shares inner unit probe new) (found_in_cache new) result (function_at inner unit probe)) where
    pub function_given : ExactlyUnlessOom (found_in_cache new) result (function_in scope u (first_answer_of old) probe)
    function_given = subst (λ given. ExactlyUnlessOom (found_in_cache new) result given) (sym (function_is_in scope u probe old h decided inner unit v)) (exactly_unless_oom _ _ _ _ gives)

    pub function_after : KeepsFunction inner unit probe result old.functions new → AfterFunctionIn shares scope u probe result old (with_functions new)
    function_after a = record {
      places = a.places;
      stay = record { answer = refl; view = λ _. refl; functions = a.stay };
      within = record {
        alone = a.within;
        kept = λ has. ap with_functions (a.kept (sym (function_entries scope u probe old h decided inner unit v old.functions) ∙ has));
      };
      ready = λ told. function_entries scope u probe old h decided inner unit v new ∙ a.known told;
      memory = λ has few. a.memory (sym (function_entries scope u probe old h decided inner unit v new) ∙ has) (few_in scope u probe old h decided inner unit v few);
      no_memory = λ none. subst (λ given. IfErr result (λ e. given ≡ Err e)) (sym (function_is_in scope u probe old h decided inner unit v))
          (exactly_if_none (find_takes_memory shares inner unit probe old.functions && find_takes_memory shares inner unit probe new) (found_in_cache new) result (function_at inner unit probe)
          (ap (λ b. b && find_takes_memory shares inner unit probe new) (find_takes_none shares inner unit old.functions (functions_right scope u probe old h decided inner unit v) (functions_take_in scope u probe old h decided inner unit v shares none) probe)) gives);
    }

-- the frames of a unit that was looked at
module _ {R : Type 0} (shares : Bool) (scope : Scope) (u : UnitRecord) (probe : ℕ) (was mid : CachedUnit R) (looked : AfterEntries (AfterCheck scope.file.sections u) scope u was mid) (check : KeepsChecked scope u was.entries mid.entries) where
  abbrev answer : Option (Option Sections)
  answer = first_answer_of was.entries

  abbrev given : Result Lines Error
  given = lines_or scope.file.sections u was.lines.lines

  -- it waits
  module _ (waiting : waits mid.entries.view.state ≡ true) where
    open_now : is_open scope.file.sections u answer ≡ true
    open_now = ap (is_open scope.file.sections u) (sym check.stay.answer) ∙ waiting_stays_open scope.file.sections u mid.entries.view waiting check.entries.view

    pub waits_gives : frames_or scope u probe was ≡ Ok None
    waits_gives = open_frames scope u was.lines.lang given answer probe open_now

    pub waits_after : (steps : ℕ) → AfterFramesIn shares scope u probe (Ok found.Open) was mid steps steps
    waits_after steps = record {
      unit = looked.unit;
      lines = inl looked.lines;
      frames = tt;
      stay = check.stay;
      within = record {
        alone = λ n ne. ap (λ (fs : LazyFunctions R). cached_detail (cached_functions fs) n) check.functions;
        kept = λ has. check.kept (known_checks probe was.entries.view.state was.entries.functions has);
      };
      kept = λ _. looked.lines;
      ready = λ _. waiting_entries probe mid.entries.view.state mid.entries.functions waiting;
      known = λ _ asks. absurd (false≢true (sym (open_asks scope u was.lines.lang given answer probe open_now) ∙ asks));
      memory = λ _ _ _ _. tt;
      no_memory = λ _ _. tt;
      raised = omega arith;
    }

  -- it doesn't, and the function was looked for
  module _ (shut : waits mid.entries.view.state ≡ false) (new : CachedUnit R) where
    closed : is_open scope.file.sections u answer ≡ false
    closed = ap (is_open scope.file.sections u) (sym check.stay.answer) ∙ not_open scope u probe mid.entries check.entries (checked_decides mid.entries.view.state check.known shut)

    before : {r : Result (Option FoundFunction) Error} → function_in scope u (first_answer_of mid.entries) probe ≡ r → function_in scope u answer probe ≡ r
    before h = ap (λ a. function_in scope u a probe) (sym check.stay.answer) ∙ h

    few_then : HasFewInlined scope u answer probe → HasFewInlined scope u (first_answer_of mid.entries) probe
    few_then few = ap (λ a. exceeds_inline_room (inlined_of_unit scope u a probe)) check.stay.answer ∙ few

    module _ {result : Result (Option FunctionPlace) Error} (f : AfterFunctionIn shares scope u probe result mid.entries new.entries) where
      within_now : ReadsEntriesOf probe was.entries new.entries
      within_now = record {
        alone = λ n ne. f.within.alone n ne ∙ ap (λ (fs : LazyFunctions R). cached_detail (cached_functions fs) n) check.functions;
        kept = λ has. (let is = check.kept (known_checks probe was.entries.view.state was.entries.functions has) in f.within.kept (ap (has_entries probe) is ∙ has) ∙ is);
      }

      stay_now : StayEntries was.entries new.entries
      stay_now = record {
        answer = f.stay.answer ∙ check.stay.answer;
        view = λ checked. f.stay.view (ap (λ (v : UnitView R). was_checked v.state) (check.stay.view checked) ∙ checked) ∙ check.stay.view checked;
        functions = subst (λ (fs : LazyFunctions R). StayFunctions fs new.entries.functions) check.functions f.stay.functions;
      }

    -- the function is refused
    module _ (e : Error) (found_in : AfterEntries (AfterFunctionIn shares scope u probe (Err e)) scope u mid new) (gives : e ≢ OutOfMemory → function_in scope u (first_answer_of mid.entries) probe ≡ Err e) where
      same_lines : new.lines ≡ was.lines
      same_lines = found_in.lines ∙ looked.lines

      pub no_function_gives : e ≢ OutOfMemory → frames_or scope u probe was ≡ Err e
      no_function_gives ne = fault_frames scope u was.lines.lang given answer probe closed e (before (gives ne))

      pub no_function_after : (steps : ℕ) → AfterFramesIn shares scope u probe (Err e) was new steps steps
      no_function_after steps =
          let f = found_in.entries in
          record {
            unit = found_in.unit;
            lines = inl same_lines;
            frames = tt;
            stay = stay_now f;
            within = within_now f;
            kept = λ _. same_lines;
            ready = f.ready;
            known = λ ne asks. absurd (false≢true (sym (closed_asks scope u was.lines.lang given answer probe closed (Err e) (before (gives ne))) ∙ asks));
            memory = λ has _ few _. f.memory has (few_then few);
            no_memory = λ none _. fault_frames scope u was.lines.lang given answer probe closed e (before
                (function_alone shares scope u (first_answer_of mid.entries) probe new.lines new.entries e (subst (λ a. AsksNoMemoryIn shares scope u a probe new.lines new.entries) (sym check.stay.answer) none) f.memory gives f.no_memory));
            raised = omega arith;
          }

    -- it is found, or there is none
    module _ (p : Option FunctionPlace) (found_in : AfterEntries (AfterFunctionIn shares scope u probe (Ok p)) scope u mid new) (gives : function_in scope u (first_answer_of mid.entries) probe ≡ Ok (found_in_cache new.entries.functions p)) (l : LinesCache) where
      abbrev now : CachedUnit R
      now = record new { lines = l }

      f : AfterFunctionIn shares scope u probe (Ok p) mid.entries new.entries
      f = found_in.entries

      same_then : new.lines ≡ was.lines
      same_then = found_in.lines ∙ looked.lines

      asked : asks_lines_in scope u answer probe ≡ true
      asked = closed_asks scope u was.lines.lang given answer probe closed (Ok (found_in_cache new.entries.functions p)) (before gives)

      unasked : asks_lines_in scope u answer probe ≡ false → l ≡ was.lines
      unasked none = absurd (false≢true (sym none ∙ asked))

      -- the lines are refused
      module _ (e : Error) (after : AfterLinesOf {X = Option Row} shares scope.file.sections u (Err e) new.lines l) (located : e ≢ OutOfMemory → location_or scope.file.sections u probe new.lines.lines ≡ Err e) where
        lines_asked : AfterLinesOf {X = Option Row} shares scope.file.sections u (Err e) was.lines l
        lines_asked = subst (λ (x : LinesCache). AfterLinesOf {X = Option Row} shares scope.file.sections u (Err e) x l) same_then after

        r : LinesFollow {X = Option Row} shares scope.file.sections u (Err e) was.lines l
        r = lines_follow lines_asked

        in_unit : e ≢ OutOfMemory → location_or scope.file.sections u probe was.lines.lines ≡ Err e
        in_unit ne = ap (λ (x : LinesCache). location_or scope.file.sections u probe x.lines) (sym same_then) ∙ located ne

        pub no_lines_gives : e ≢ OutOfMemory → frames_or scope u probe was ≡ Err e
        no_lines_gives ne = lines_fault_frames scope u was.lines.lang given answer probe closed (found_in_cache new.entries.functions p) (before gives) e (in_unit ne)

        pub no_lines_after : {before later : ℕ} → before ≤ later → AfterFramesIn shares scope u probe (Err e) was now before later
        no_lines_after raised = record {
          unit = found_in.unit;
          lines = lines_left lines_asked;
          frames = tt;
          stay = stay_now f;
          within = within_now f;
          kept = unasked;
          ready = λ ne. f.ready tt;
          known = λ ne asks. r.known.0 ne;
          memory = λ has parsed few not_oom. r.memory (parsed asked) not_oom;
          no_memory = λ none not_oom. lines_fault_frames scope u was.lines.lang given answer probe closed (found_in_cache new.entries.functions p) (before gives) e
              (lines_alone shares scope u answer probe l new.entries e (location_or scope.file.sections u probe was.lines.lines) none asked (λ cached. r.memory cached not_oom) in_unit (λ takes. ap (λ (x : Result Lines Error). x >>= λ table. Ok (location_at probe table)) (r.no_memory takes)));
          raised = raised;
        }

      -- the row is found, or there is none
      module _ (row : Option Row) (after : AfterLinesOf shares scope.file.sections u (Ok row) new.lines l) (located : location_or scope.file.sections u probe new.lines.lines ≡ Ok (option_map (location_of_row (cached_files l.lines)) row)) where
        row_asked : AfterLinesOf shares scope.file.sections u (Ok row) was.lines l
        row_asked = subst (λ (x : LinesCache). AfterLinesOf shares scope.file.sections u (Ok row) x l) same_then after

        told : LinesFollow shares scope.file.sections u (Ok row) was.lines l
        told = lines_follow row_asked

        here : (AreRead l.lines) × (frames_or scope u probe was ≡ Ok (Some (found_frames (cached_files l.lines) was.lines.lang (found_in_cache new.entries.functions p) (option_map (location_of_row (cached_files l.lines)) row))))
        here = lines_frames scope u was.lines.lang given answer probe closed (found_in_cache new.entries.functions p) (before gives) l.lines row (lines_or_stays told) told.known
            (ap (λ (x : LinesCache). location_or scope.file.sections u probe x.lines) (sym same_then) ∙ located)

        pub here_gives : frames_or scope u probe was ≡ Ok (frames_of_place l new.entries (found.Here p row))
        here_gives = here.1 ∙ ap (λ language. Ok (Some (found_frames (cached_files l.lines) language (found_in_cache new.entries.functions p) (option_map (location_of_row (cached_files l.lines)) row)))) (sym told.stay.language)

        pub here_after : {before later : ℕ} → before ≤ later → AfterFramesIn shares scope u probe (Ok (found.Here p row)) was now before later
        here_after raised = record {
          unit = found_in.unit;
          lines = lines_left row_asked;
          frames = (f.places, here.0);
          stay = stay_now f;
          within = within_now f;
          kept = unasked;
          ready = λ _. f.ready tt;
          known = λ _ asks. told.known;
          memory = λ _ _ _ _. tt;
          no_memory = λ _ _. tt;
          raised = raised;
        }

-- by lines that are the unit's own these are its frames
pub frames_are_in : {R : Type 0} (scope : Scope) (u : UnitRecord) (probe : ℕ) (c : CachedUnit R) → AreLinesOf scope.file.sections u c.lines.lines → frames_or scope u probe c ≡ frames_in scope (indexed_unit u c.lines) (first_answer_of c.entries) probe
frames_are_in scope u probe c own = ap (λ given. frames_by_lines scope u c.lines.lang given (first_answer_of c.entries) probe) (lines_are scope.file.sections u c.lines.lines own)
