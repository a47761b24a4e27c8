-- What a lookup of frames comes to in a context (on specs/Lookups.antt and specs/AfterLookups.antt).
use Rattle.addr2line.proofs.Common.{◌≡◌, ◌≢◌, ◌⊎◌, ℕ, ◌&&◌, ◌||◌, Bool, true, not, List, [], ◌∷◌, filter, slice_get, Option, Some, None, option_map, Result, Ok, Err, refl, sym, ap, subst, ◌∙◌, IfErr, IfOk, Error, ◌>>=◌, ExactlyUnlessOom, WasNotRefused, Scope, OnFault, Skip, UnitRange, cover, LookupAsks, LookupStop, after_fault, asked_frames, asks_lines_of, frames_of_number, function_offset_of, inlined_at_number, holds_along, or_stop, stop_along, LearnsDetailsAt, knows_at, ParsesOnly, has_parsed, IndexedUnit, FramesResult, UnitsState, asks_no_memory_at, has_all_at, has_few_at, stop_of, FirstAnswers, SplitLoad, load_of_unit, IsContext, as_context, AfterFrames, IsKnownFew, NeedsNoMemory, IsFaultOfAsked, IsLoadOf, lookup_stop}
use Rattle.gimli_read.specs.declared.error.Error.TheVariants.{OutOfMemory}
use Rattle.addr2line_lines.specs.InlineRoom.{exceeds_inline_room}
use Rattle.addr2line_units.specs.declared.frames.Asks.TheVariants as lookups
use Rattle.addr2line_units.specs.UnitsAfter as left
use Rattle.addr2line_units.specs.UnitsAfter.{HasPassedTo}
use Rattle.addr2line_units.specs.IndexCover.{ends_sooner, from_place, range_covers}
use Rattle.addr2line_lines.specs.InOrder.{IsInOrder}
use Rattle.addr2line_lines.proofs.OrderLemmas.{in_order_ordered}
use Rattle.addr2line_units.proofs.IndexLemmas.{ends_order}
use Rattle.addr2line_units.proofs.FramesPassedLemmas.{after_from, passed_from, stop_from}
use Rattle.addr2line.specs.AfterLookups.{HasPassed}
use Rattle.addr2line.proofs.ContextLemmas.{at_made, by_made, of_made, still_context}

-- a lookup that passes over faults has none
passes_step : (n : ℕ) (rest : Result LookupStop Error) (e : Error) (x : FramesResult) → rest ≢ Err e → (after_fault Skip x >>= or_stop n rest) ≢ Err e
passes_step n rest e (Err f) never h = never h
passes_step n rest e (Ok None) never h = cc
passes_step n rest e (Ok (Some [])) never h = never h
passes_step n rest e (Ok (Some (f ∷ fs))) never h = cc

passes_over : (scope : Scope) (units : List IndexedUnit) (answers : FirstAnswers) (probe : ℕ) (ranges : List UnitRange) (e : Error) → stop_along (asked_frames Skip scope units answers probe) ranges ≢ Err e
passes_over scope units answers probe [] e h = cc
passes_over scope units answers probe (r ∷ ranges) e h =
    passes_step r.unit (stop_along (asked_frames Skip scope units answers probe) ranges) e (frames_of_number scope units answers probe r.unit) (passes_over scope units answers probe ranges e) h

-- so a lookup of a unit is refused memory alone
only_oom : (e : Error) {given : Result LookupStop Error} → given ≢ Err e → (e ≢ OutOfMemory → given ≡ Err e) → e ≡ OutOfMemory
only_oom OutOfMemory never h = refl
only_oom e never h = absurd (never (h (λ q. absurd cc)))

pub refused_for_memory : {X : Type 0} (see : X → LookupStop) (u : UnitsState) (ranges : List UnitRange) (faults : OnFault) (probe : ℕ) (r : Result X Error) → faults ≡ Skip → ExactlyUnlessOom see r (stop_of (lookups.Frames faults) probe u ranges) → IfErr r (λ e. e ≡ OutOfMemory)
refused_for_memory see u ranges faults probe (Ok x) p h = tt
refused_for_memory see u ranges faults probe (Err e) p h =
    only_oom e (λ k. passes_over u.scope u.units u.answers probe ranges e (ap (λ f. stop_of (lookups.Frames f) probe u ranges) (sym p) ∙ k)) h

-- a lookup that goes on at a place asks as one along all units that cover the probe
module _ (ranges : List UnitRange) (u : UnitsState) (i : IsContext ranges u) (faults : OnFault) (probe : ℕ) (place : Option UnitRange) (passed : HasPassed faults (as_context u) probe place) where
  cover_up : IsInOrder ends_sooner (cover probe ranges)
  cover_up = in_order_ordered ends_sooner ends_order (filter (range_covers probe) ranges)

  passed_units : HasPassedTo (lookups.Frames faults) probe u (cover probe ranges) place
  passed_units = at_made ranges u i (λ s xs rs. HasPassedTo (lookups.Frames faults) probe (record u { scope = s; units = xs }) (cover probe rs) place) passed

  module _ (now : UnitsState) {X : Type 0} (shares : Bool) (r : Result X Error) (w : left.AfterWalkAlong shares (lookups.Frames faults) probe (from_place place (cover probe ranges)) r u now) where
    pub walked_from : left.AfterWalkAlong shares (lookups.Frames faults) probe (cover probe ranges) r u now
    walked_from = after_from shares faults probe u now r place (cover probe ranges) cover_up passed_units w

    pub stored_from : (see : X → LookupStop) → ExactlyUnlessOom see r (stop_of (lookups.Frames faults) probe u (from_place place (cover probe ranges))) → ExactlyUnlessOom see r (stop_of (lookups.Frames faults) probe u (cover probe ranges))
    stored_from see h = subst (ExactlyUnlessOom see r) (stop_from shares faults probe u now r place (cover probe ranges) cover_up passed_units) h

    has_passed : (next : Option UnitRange) → HasPassedTo (lookups.Frames faults) probe now (from_place place (cover probe ranges)) next → HasPassed faults (as_context now) probe next
    has_passed next more =
        of_made ranges now (still_context ranges u i now w.asked.scope w.asked.units) (λ s xs rs. HasPassedTo (lookups.Frames faults) probe (record now { scope = s; units = xs }) (cover probe rs) next)
        (passed_from shares faults probe u now r place (cover probe ranges) cover_up passed_units w next more)

    pub all_passed : (q : Result (Option UnitRange) Error) → IfOk q (HasPassedTo (lookups.Frames faults) probe now (from_place place (cover probe ranges))) → IfOk q (HasPassed faults (as_context now) probe)
    all_passed (Ok next) h = has_passed next h
    all_passed (Err e) h = tt

-- the load of the unit of a number
pub load_told : (ranges : List UnitRange) (u : UnitsState) → IsContext ranges u → (n : ℕ) (r : Result SplitLoad Error) → IfOk r (λ l. option_map (load_of_unit u.scope.file.sections n) (slice_get u.scope.file.units n) ≡ Some (Ok (Some l))) → IfOk r (λ l. IsLoadOf u.scope.file.sections n l)
load_told ranges u i n (Ok l) h = of_made ranges u i (λ s xs rs. option_map (load_of_unit s.file.sections n) (slice_get s.file.units n) ≡ Some (Ok (Some l))) h
load_told ranges u i n (Err e) h = tt

module _ (ranges : List UnitRange) (u : UnitsState) (i : IsContext ranges u) (faults : OnFault) (probe : ℕ) where
  -- what a lookup comes to
  pub stop_is : (answers : FirstAnswers) → lookup_stop faults u.scope.file.sections answers probe ≡ stop_along (asked_frames faults u.scope u.units answers probe) (cover probe ranges)
  stop_is answers = by_made ranges u i (λ s xs rs. stop_along (asked_frames faults s xs answers probe) (cover probe rs))

  module _ (now : UnitsState) {X : Type 0} (shares : Bool) (r : Result X Error) (w : left.AfterWalkAlong shares (lookups.Frames faults) probe (cover probe ranges) r u now) where
    pub walked_context : IsContext ranges now
    walked_context = still_context ranges u i now w.asked.scope w.asked.units

    -- what is said of the units after a lookup is so of those before it
    as_before : (P : Scope → List IndexedUnit → FirstAnswers → Type 0) → P now.scope now.units now.answers → P u.scope u.units u.answers
    as_before P h = subst (λ a. P u.scope u.units a) w.asked.answers (subst (λ xs. P u.scope xs now.answers) w.asked.units (subst (λ s. P s now.units now.answers) w.asked.scope h))

    as_after : (P : Scope → List IndexedUnit → FirstAnswers → Type 0) → P u.scope u.units u.answers → P now.scope now.units now.answers
    as_after P h = subst (λ a. P now.scope now.units a) (sym w.asked.answers) (subst (λ xs. P now.scope xs u.answers) (sym w.asked.units) (subst (λ s. P s u.units u.answers) (sym w.asked.scope) h))

    pub stop_now : lookup_stop faults now.scope.file.sections now.answers probe ≡ stop_of (lookups.Frames faults) probe u (cover probe ranges)
    stop_now = as_after (λ s xs a. lookup_stop faults s.file.sections a probe ≡ stop_of (lookups.Frames faults) probe u (cover probe ranges)) (stop_is u.answers)

    abbrev all_by : Scope → List IndexedUnit → ℕ → Bool
    all_by s xs n = knows_at now.known probe n && (not (asks_lines_of s xs now.answers probe n) || has_parsed now.parsed n)

    abbrev few_by : Scope → List IndexedUnit → ℕ → Bool
    few_by s xs n = all_by s xs n && not (exceeds_inline_room (inlined_at_number s xs now.answers probe n))

    -- where all is known that a lookup asks for it is refused no memory
    pub walk_memory : IsKnownFew faults (as_context now) probe → WasNotRefused r
    walk_memory few = w.memory (as_before (λ s xs a. holds_along (has_few_at probe now) (asked_frames faults s xs a probe) (cover probe ranges) ≡ true)
        (at_made ranges now walked_context (λ s xs rs. holds_along (few_by s xs) (asked_frames faults s xs now.answers probe) (cover probe rs) ≡ true) few))

    abbrev none_by : Scope → List IndexedUnit → ℕ → Bool
    none_by s xs n = asks_no_memory_at shares probe (record now { scope = s; units = xs }) n

    of_units : (q : Result X Error) → IfErr q (left.IsFaultAlong (lookups.Frames faults) probe u (cover probe ranges)) → IfErr q (IsFaultOfAsked faults u.scope.file.sections u.answers probe)
    of_units (Ok x) h = tt
    of_units (Err e) h = (i.made, i.indexed, of_made ranges u i (λ s xs rs. (n : ℕ) × LookupAsks (asked_frames faults s xs u.answers probe) (cover probe rs) n × (frames_of_number s xs u.answers probe n ≡ Err e)) h i.made i.indexed)

    -- where the lookup takes no memory, a refusal is the fault of a unit that it asks
    pub walk_alone : NeedsNoMemory shares faults (as_context now) probe → IfErr r (IsFaultOfAsked faults u.scope.file.sections u.answers probe)
    walk_alone none = of_units r (w.no_memory (as_before (λ s xs a. holds_along (asks_no_memory_at shares probe now) (asked_frames faults s xs a probe) (cover probe ranges) ≡ true)
        (at_made ranges now walked_context (λ s xs rs. holds_along (none_by s xs) (asked_frames faults s xs now.answers probe) (cover probe rs) ≡ true) none)))

    pub after_frames : AfterFrames faults probe r (as_context u) (as_context now)
    after_frames = record {
      sections = ap (λ (s : Scope). s.file.sections) w.asked.scope;
      answers = w.asked.answers;
      parsed = w.asked.parsed;
      known = w.asked.known;
      only = of_made ranges u i (λ s xs rs. ParsesOnly (λ n. LookupAsks (asked_frames faults s xs u.answers probe) (cover probe rs) n × (asks_lines_of s xs u.answers probe n ≡ true)) u.parsed now.parsed) w.asked.only;
      learns = of_made ranges u i (λ s xs rs. (n : ℕ) → (slice_get now.known n ≡ slice_get u.known n) ⊎ LookupAsks (asked_frames faults s xs u.answers probe) (cover probe rs) n) w.asked.learns;
      details = of_made ranges u i (λ s xs rs. LearnsDetailsAt (function_offset_of s xs u.answers probe) u.known now.known) w.asked.details;
      raised = w.asked.raised;
      ready = λ told. of_made ranges now walked_context (λ s xs rs. holds_along (all_by s xs) (asked_frames faults s xs now.answers probe) (cover probe rs) ≡ true)
          (as_after (λ s xs a. holds_along (has_all_at probe now) (asked_frames faults s xs a probe) (cover probe ranges) ≡ true) (w.ready told));
      memory = λ few ended. walk_memory few;
    }
