-- Nothing that units, their views, lines and functions give is OutOfMemory (on the specs of this crate).
use Rattle.addr2line_units.proofs.Common.{ℕ, List, [], ◌∷◌, map, is_some, slice_get, Option, Some, None, IfSome, IfOk, Result, Ok, Err, Error, UnknownToken, Range, ◌>>=◌, WasNotRefused, Section, IsByBytes, AreByBytes, step, either, value, fault, moved_fault, fault_of_is, are_joined, not_refused, none_refused, UnitHeaderFields, Sections, SupSections, UnitRecord, unit_record_of, all_headers, entries_of, function_offset_at, LineTable, Location, Scope, UnitArange, OnFault, Stop, Skip, UnitRange, ReadingDepth, arange_sets_of, aranges_at, aranges_in, units_of, IndexedUnit, is_type_unit, is_partial, or_attribute_ranges, listed_unit_ranges, listed_in_unit, unless_faulty, unit_of_header, ranged_units, UnitsState, new_units, asked_by, stop_of, FirstAnswers, View, SplitLoad, split_name_of, first_unit, first_unit_of, answered_view, load_by, load_of_unit, verdict_by, verdict, is_open, decided_answer, view_scope, FoundFunction, FrameRecord, function_from, function_at, FramesResult, function_by, function_in, frames_by, frames_in, LookupStop, FindsNothing, answer_of, frames_of_number, after_fault, asked_frames, or_stop, stop_along, stop_at, functions_fault, read_of_functions, read_of_view, read_of_unit, read_of_units, unit_of_token, view_fault, load_result, forget_result, LocationResult, lines_of_unit, location_in, or_first_location, first_location, location_of, all_read, spans_or_fault, spans_in, spans_along, spans_of, all_lines, Asks, asked_of_unit, located_frames, frames_by_lines, unit_lines, sup_sections}
use Rattle.gimli_read.specs.FaultLaws.{NoneWasRefused}
use Rattle.gimli_read.specs.Form.{NamedValue}
use Rattle.gimli.specs.declared.unit.DwoId.{DwoId}
use Rattle.gimli.proofs.FaultLemmas.{all_headers_are, arange_sets_are, dwo_name_is, root_attributes_of_are, taken_in_is, unit_record_is}
use Rattle.addr2line_lines.specs.declared.function.RangeAttributes.{RangeAttributes}
use Rattle.addr2line_lines.specs.RangeLocations.{LocatedSpan, locations_in_range}
use Rattle.addr2line_lines.proofs.FaultLemmas.{read_all_is, optional_string_is, unit_lines_are, with_range_attribute_is, attribute_ranges_are, functions_are, detail_is, details_at_are}
use Rattle.addr2line_units.specs.declared.frames.Asks.TheVariants as lookups
use Rattle.addr2line_units.specs.declared.attributes.UnitAttributes.{UnitAttributes}
use Rattle.addr2line_units.specs.declared.parses.ReadingDepth.TheVariants as depths
use Rattle.addr2line_units.specs.IndexCover.{cover, cover_range}
use Rattle.addr2line_units.specs.Attributes.{no_unit_attributes, with_unit_attribute, unit_attributes}
use Rattle.addr2line_units.specs.UnitsIndex.{UnitIndex, sup_unit_of_header, sup_units, index_units}

-- ---- the units of a file
pub aranges_are : (s : Section) → IsByBytes (aranges_in (arange_sets_of s))
aranges_are s = step (read_all_is (arange_sets_of s) (arange_sets_are s)) (λ all. value)

with_unit_attribute_is : (d : Sections) (u : UnitRecord) (r : UnitAttributes) (a : NamedValue) → IsByBytes (with_unit_attribute d u r a)
unfolding with_unit_attribute
with_unit_attribute_is d u r a = step (with_range_attribute_is d u r.ranges a) (λ ranges. value)

pub unit_attributes_are : (d : Sections) (u : UnitRecord) → IsByBytes (unit_attributes d u)
unit_attributes_are d u =
    step (root_attributes_of_are u) (λ attributes.
    taken_in_is (with_unit_attribute d u) (with_unit_attribute_is d u) no_unit_attributes attributes)

or_ranges_are : (d : Sections) (u : UnitRecord) (a : RangeAttributes) (listed : List Range) → IsByBytes (or_attribute_ranges d u a listed)
or_ranges_are d u a [] = attribute_ranges_are d u a
or_ranges_are d u a (r ∷ listed) = value

pub listed_unit_ranges_are : (d : Sections) (aranges : List UnitArange) (u : UnitRecord) (a : RangeAttributes) → IsByBytes (listed_unit_ranges d aranges u a)
listed_unit_ranges_are d aranges u a = either (is_some a.ranges_offset) (attribute_ranges_are d u a) (or_ranges_are d u a (aranges_at u.header.offset.0 aranges))

listed_in_unit_is : (d : Sections) (aranges : List UnitArange) (u : UnitRecord) → IsByBytes (listed_in_unit d aranges u)
unfolding listed_in_unit
listed_in_unit_is d aranges u = either (is_partial u.header.unit_type) value (step (unit_attributes_are d u) (λ attributes. step (listed_unit_ranges_are d aranges u attributes.ranges) (λ given. value)))

unless_faulty_is : (d : Sections) (aranges : List UnitArange) (r : Result UnitRecord Error) → IsByBytes (unless_faulty d aranges r)
unless_faulty_is d aranges (Err e) = value
unless_faulty_is d aranges (Ok u) = step (step (listed_in_unit_is d aranges u) (λ x. value)) (λ x. value)

pub unit_of_header_is : (d : Sections) (aranges : List UnitArange) (h : UnitHeaderFields) → IsByBytes (unit_of_header d aranges h)
unfolding unit_of_header
unit_of_header_is d aranges h = either (is_type_unit h.unit_type) value (unless_faulty_is d aranges (unit_record_of d h))

units_each : {U : Type 0} (read : UnitHeaderFields → Result (Option U) Error) → ((h : UnitHeaderFields) → IsByBytes (read h)) → (headers : List (Result UnitHeaderFields Error)) → AreByBytes headers → AreByBytes (map (λ h. h >>= read) headers)
units_each read k [] h = tt
units_each read k (r ∷ rs) h = (step h.0 k, units_each read k rs h.1)

units_are : {U : Type 0} (read : UnitHeaderFields → Result (Option U) Error) → ((h : UnitHeaderFields) → IsByBytes (read h)) → (headers : List (Result UnitHeaderFields Error)) → AreByBytes headers → IsByBytes (units_of read headers)
units_are read k headers h = step (read_all_is (map (λ r. r >>= read) headers) (units_each read k headers h)) (λ units. value)

pub ranged_units_are : (d : Sections) → IsByBytes (ranged_units d)
ranged_units_are d = step (aranges_are d.debug_aranges) (λ aranges. units_are (unit_of_header d aranges) (unit_of_header_is d aranges) (all_headers d.debug_info) (all_headers_are d.debug_info))

pub sup_units_are : (sup : Option SupSections) → IsByBytes (sup_units sup)
sup_units_are None = value
sup_units_are (Some s) = units_are (sup_unit_of_header (sup_sections s)) (λ h. value) (all_headers s.debug_info) (all_headers_are s.debug_info)

pub index_units_is : (d : Sections) → IsByBytes (index_units d)
index_units_is d = step (ranged_units_are d) (λ units. step (sup_units_are d.sup) (λ sup. value))

pub new_units_are : (d : Sections) → IsByBytes (new_units d)
new_units_are d = step (ranged_units_are d) (λ units. step (sup_units_are d.sup) (λ sup. value))

-- ---- lines and locations
pub lines_of_unit_are : (d : Sections) (u : IndexedUnit) → IsByBytes (lines_of_unit d u)
lines_of_unit_are d u = unit_lines_are d u.unit

pub location_in_is : (d : Sections) (probe : ℕ) (u : Option IndexedUnit) → IsByBytes (location_in d probe u)
location_in_is d probe None = value
location_in_is d probe (Some u) = step (lines_of_unit_are d u) (λ lines. value)

or_first_location_is : (rest : LocationResult) (location : Option Location) → IsByBytes rest → IsByBytes (or_first_location rest location)
or_first_location_is rest None h = h
or_first_location_is rest (Some l) h = value

pub first_location_is : (d : Sections) (units : List IndexedUnit) (probe : ℕ) (ranges : List UnitRange) → IsByBytes (first_location d units probe ranges)
first_location_is d units probe [] = value
first_location_is d units probe (r ∷ ranges) = step (location_in_is d probe (slice_get units r.unit)) (λ location. or_first_location_is (first_location d units probe ranges) location (first_location_is d units probe ranges))

pub location_of_is : (d : Sections) (probe : ℕ) → IsByBytes (location_of d probe)
location_of_is d probe = step (index_units_is d) (λ m. first_location_is d m.units probe (cover probe m.ranges))

all_read_are : {X : Type 0} (xs : List X) → AreByBytes (all_read xs)
all_read_are [] = tt
all_read_are (x ∷ xs) = (value, all_read_are xs)

spans_or_fault_are : (range : Range) (low high : ℕ) (r : Result LineTable Error) → IsByBytes r → AreByBytes (spans_or_fault range low high r)
spans_or_fault_are range low high (Ok lines) h = all_read_are (locations_in_range lines range low high)
spans_or_fault_are range low high (Err e) h = (moved_fault h, tt)

spans_in_are : (d : Sections) (low high : ℕ) (range : Range) (u : Option IndexedUnit) → AreByBytes (spans_in d low high range u)
spans_in_are d low high range None = tt
spans_in_are d low high range (Some u) = spans_or_fault_are range low high (lines_of_unit d u) (lines_of_unit_are d u)

pub spans_along_are : (d : Sections) (units : List IndexedUnit) (low high : ℕ) (ranges : List UnitRange) → AreByBytes (spans_along d units low high ranges)
spans_along_are d units low high [] = tt
spans_along_are d units low high (r ∷ ranges) =
    are_joined (spans_in d low high r.range (slice_get units r.unit)) (spans_along d units low high ranges)
    (spans_in_are d low high r.range (slice_get units r.unit)) (spans_along_are d units low high ranges)

pub spans_of_are : (d : Sections) (low high : ℕ) → IsByBytes (spans_of d low high)
spans_of_are d low high = step (index_units_is d) (λ m. value)

pub spans_items_are : (d : Sections) (low high : ℕ) → IfOk (spans_of d low high) (λ spans. AreByBytes spans)
spans_items_are d low high = at (index_units d)
  where
    at : (r : Result UnitIndex Error) → IfOk (r >>= λ m. Ok (spans_along d m.units low high (cover_range low high m.ranges))) (λ spans. AreByBytes spans)
    at (Ok m) = spans_along_are d m.units low high (cover_range low high m.ranges)
    at (Err e) = tt

pub spans_unrefused : (d : Sections) (low high : ℕ) → IfOk (spans_of d low high) (λ spans. NoneWasRefused spans)
spans_unrefused d low high = at (spans_of d low high) (spans_items_are d low high)
  where
    at : (r : Result (List (Result LocatedSpan Error)) Error) → IfOk r (λ spans. AreByBytes spans) → IfOk r (λ spans. NoneWasRefused spans)
    at (Ok spans) h = none_refused spans h
    at (Err e) h = tt

lines_each : (d : Sections) (units : List IndexedUnit) → AreByBytes (map (lines_of_unit d) units)
lines_each d [] = tt
lines_each d (u ∷ units) = (lines_of_unit_are d u, lines_each d units)

pub all_lines_are : (d : Sections) (units : List IndexedUnit) → IsByBytes (all_lines d units)
all_lines_are d units = read_all_is (map (lines_of_unit d) units) (lines_each d units)

-- ---- views
pub split_name_is : (d : Sections) (u : UnitRecord) → IsByBytes (split_name_of d u)
unfolding split_name_of
split_name_is d u = step (dwo_name_is u) (λ v. optional_string_is d u v)

first_unit_of_is : (d : Sections) (headers : List (Result UnitHeaderFields Error)) → AreByBytes headers → IsByBytes (first_unit_of (unit_record_of d) headers)
first_unit_of_is d [] h = value
first_unit_of_is d (r ∷ rs) h = step (step h.0 (λ header. unit_record_is d header)) (λ u. value)

pub first_unit_is : (d : Sections) → IsByBytes (first_unit d)
first_unit_is d = first_unit_of_is d (all_headers d.debug_info) (all_headers_are d.debug_info)

pub answered_view_is : (d : Sections) (u : UnitRecord) (given : Option Sections) → IsByBytes (answered_view d u given)
answered_view_is d u None = value
answered_view_is d u (Some split) = step (first_unit_is split) (λ first. value)

load_by_is : (d : Sections) (n : ℕ) (u : UnitRecord) (name : Result (Option Section) Error) (id : Option DwoId) → IsByBytes name → IsByBytes (load_by d n u name id)
load_by_is d n u name None h = value
load_by_is d n u name (Some id) h = step h (λ path. value)

pub load_of_unit_is : (d : Sections) (n : ℕ) (u : UnitRecord) → IsByBytes (load_of_unit d n u)
unfolding load_of_unit
load_of_unit_is d n u = load_by_is d n u (split_name_of d u) u.dwo_id (split_name_is d u)

-- a view, or a fault in its place that is by bytes; or none
abbrev pub IsViewByBytes : Option (Result View Error) → Type 0
IsViewByBytes None = Unit {0}
IsViewByBytes (Some view) = IsByBytes view

verdict_by_is : (d : Sections) (u : UnitRecord) (load : Result (Option SplitLoad) Error) (answer : Option (Option Sections)) → IsByBytes load → IsViewByBytes (verdict_by d u load answer)
verdict_by_is d u (Err e) answer h = moved_fault h
verdict_by_is d u (Ok None) answer h = value
verdict_by_is d u (Ok (Some load)) None h = tt
verdict_by_is d u (Ok (Some load)) (Some given) h = answered_view_is d u given

pub verdict_is : (d : Sections) (u : UnitRecord) (answer : Option (Option Sections)) → IsViewByBytes (verdict d u answer)
verdict_is d u answer = verdict_by_is d u (load_of_unit d 0 u) answer (load_of_unit_is d 0 u)

pub view_not_refused : (v : Option (Result View Error)) → IsViewByBytes v → IfSome v (λ r. WasNotRefused r)
view_not_refused None h = tt
view_not_refused (Some r) h = not_refused h

-- ---- frames
function_from_is : (scope : Scope) (u : UnitRecord) (probe : ℕ) (offset : Option ℕ) → IsByBytes (function_from scope u probe offset)
function_from_is scope u probe None = value
function_from_is scope u probe (Some offset) = step (detail_is scope u offset) (λ detail. value)

pub function_at_is : (scope : Scope) (u : UnitRecord) (probe : ℕ) → IsByBytes (function_at scope u probe)
unfolding function_at
function_at_is scope u probe = step (functions_are scope.file.sections u) (λ functions. function_from_is scope u probe (function_offset_at probe functions))

function_by_is : (scope : Scope) (probe : ℕ) (v : Option (Result View Error)) → IsViewByBytes v → IsByBytes (function_by scope probe v)
function_by_is scope probe None h = value
function_by_is scope probe (Some view) h = step h (λ v. function_at_is (view_scope scope v) v.unit probe)

pub function_in_is : (scope : Scope) (u : UnitRecord) (answer : Option (Option Sections)) (probe : ℕ) → IsByBytes (function_in scope u answer probe)
function_in_is scope u answer probe = function_by_is scope probe (verdict scope.file.sections u answer) (verdict_is scope.file.sections u answer)

frames_by_are : (scope : Scope) (u : IndexedUnit) (probe : ℕ) (found : Result (Option FoundFunction) Error) → IsByBytes found → IsByBytes (frames_by u.language (unit_lines scope.file.sections u.unit) probe found)
frames_by_are scope u probe found h = step h (λ function. step (unit_lines_are scope.file.sections u.unit) (λ lines. value))

pub frames_in_are : (scope : Scope) (u : IndexedUnit) (answer : Option (Option Sections)) (probe : ℕ) → IsByBytes (frames_in scope u answer probe)
unfolding frames_by_lines
frames_in_are scope u answer probe =
    either (is_open scope.file.sections u.unit answer) value
    (step (frames_by_are scope u probe (function_in scope u.unit answer probe) (function_in_is scope u.unit answer probe)) (λ frames. value))

frames_if_are : (scope : Scope) (answer : Option (Option Sections)) (probe : ℕ) (u : Option IndexedUnit) → IsByBytes {A = Option (List FrameRecord)} (elim u [ None ↦ Ok (Some []) | Some u ↦ frames_in scope u answer probe ])
frames_if_are scope answer probe None = value
frames_if_are scope answer probe (Some u) = frames_in_are scope u answer probe

pub frames_of_number_are : (scope : Scope) (units : List IndexedUnit) (answers : FirstAnswers) (probe n : ℕ) → IsByBytes (frames_of_number scope units answers probe n)
frames_of_number_are scope units answers probe n = frames_if_are scope (answer_of answers n) probe (slice_get units n)

after_fault_is : (faults : OnFault) (r : FramesResult) → IsByBytes r → IsByBytes (after_fault faults r)
after_fault_is faults (Ok frames) h = value
after_fault_is Stop (Err e) h = h
after_fault_is Skip (Err e) h = value

pub asked_frames_are : (faults : OnFault) (scope : Scope) (units : List IndexedUnit) (answers : FirstAnswers) (probe n : ℕ) → IsByBytes (asked_frames faults scope units answers probe n)
asked_frames_are faults scope units answers probe n = after_fault_is faults (frames_of_number scope units answers probe n) (frames_of_number_are scope units answers probe n)

or_stop_is : (n : ℕ) (rest : Result LookupStop Error) (frames : Option (List FrameRecord)) → IsByBytes rest → IsByBytes (or_stop n rest frames)
or_stop_is n rest None h = value
or_stop_is n rest (Some []) h = h
or_stop_is n rest (Some (f ∷ frames)) h = value

pub stop_along_is : (frames : ℕ → FramesResult) → ((n : ℕ) → IsByBytes (frames n)) → (ranges : List UnitRange) → IsByBytes (stop_along frames ranges)
stop_along_is frames h [] = value
stop_along_is frames h (r ∷ ranges) = step (h r.unit) (λ found. or_stop_is r.unit (stop_along frames ranges) found (stop_along_is frames h ranges))

located_frames_are : (d : Sections) (units : List IndexedUnit) (probe n : ℕ) → IsByBytes (located_frames d units probe n)
located_frames_are d units probe n = step (location_in_is d probe (slice_get units n)) (λ location. value)

pub asked_of_unit_are : (asks : Asks) (scope : Scope) (units : List IndexedUnit) (answers : FirstAnswers) (probe n : ℕ) → IsByBytes (asked_of_unit asks scope units answers probe n)
asked_of_unit_are lookups.Location scope units answers probe n = located_frames_are scope.file.sections units probe n
asked_of_unit_are (lookups.Frames faults) scope units answers probe n = asked_frames_are faults scope units answers probe n

pub stop_of_is : (asks : Asks) (probe : ℕ) (s : UnitsState) (ranges : List UnitRange) → IsByBytes (stop_of asks probe s ranges)
stop_of_is asks probe s ranges = stop_along_is (asked_by asks probe s) (asked_of_unit_are asks s.scope s.units s.answers probe) ranges

pub stop_at_is : (asks : Asks) (probe : ℕ) (s : UnitsState) (n : ℕ) → IsByBytes (stop_at asks probe s n)
stop_at_is asks probe s n = step (asked_of_unit_are asks s.scope s.units s.answers probe n) (λ found. or_stop_is n (Ok FindsNothing) found value)

-- ---- loads
unit_if_is : (u : Option UnitRecord) → IsByBytes {A = UnitRecord} (elim u [ None ↦ Err UnknownToken | Some u ↦ Ok u ])
unit_if_is None = fault UnknownToken (λ p. cc)
unit_if_is (Some u) = value

pub unit_of_token_is : (us : List UnitRecord) (n : ℕ) → IsByBytes (unit_of_token us n)
unit_of_token_is us n = unit_if_is (slice_get us n)

pub view_fault_is : (v : Option (Result View Error)) → IsViewByBytes v → IsByBytes (view_fault v)
view_fault_is None h = value
view_fault_is (Some view) h = fault_of_is h

pub load_result_is : (d : Sections) (us : List UnitRecord) (answers : FirstAnswers) (n : ℕ) (given : Option Sections) → IsByBytes (load_result d us answers n given)
load_result_is d us answers n given =
    step (unit_of_token_is us n) (λ u. view_fault_is (verdict d u (decided_answer d u (answer_of answers n) given)) (verdict_is d u (decided_answer d u (answer_of answers n) given)))

pub forget_result_is : (us : List UnitRecord) (n : ℕ) → IsByBytes (forget_result us n)
forget_result_is us n = fault_of_is (unit_of_token_is us n)

-- ---- parses of functions
pub functions_fault_is : (scope : Scope) (u : UnitRecord) → IsByBytes (functions_fault scope u)
functions_fault_is scope u = step (functions_are scope.file.sections u) (λ ranges. details_at_are scope u (entries_of ranges))

read_of_functions_is : (depth : ReadingDepth) (scope : Scope) (u : UnitRecord) → IsByBytes (read_of_functions depth scope u)
read_of_functions_is depths.Functions scope u = fault_of_is (functions_are scope.file.sections u)
read_of_functions_is depths.Details scope u = functions_fault_is scope u

read_of_view_is : (depth : ReadingDepth) (scope : Scope) (v : Option (Result View Error)) → IsViewByBytes v → IsByBytes (read_of_view depth scope v)
read_of_view_is depth scope None h = value
read_of_view_is depth scope (Some view) h = step h (λ v. read_of_functions_is depth (view_scope scope v) v.unit)

pub read_of_unit_is : (depth : ReadingDepth) (scope : Scope) (u : UnitRecord) (answer : Option (Option Sections)) → IsByBytes (read_of_unit depth scope u answer)
read_of_unit_is depth scope u answer = read_of_view_is depth scope _ (verdict_is scope.file.sections u (decided_answer scope.file.sections u answer None))

pub read_of_units_is : (depth : ReadingDepth) (scope : Scope) (us : List UnitRecord) (answers : FirstAnswers) → IsByBytes (read_of_units depth scope us answers)
read_of_units_is depth scope [] answers = value
read_of_units_is depth scope (u ∷ us) [] = value
read_of_units_is depth scope (u ∷ us) (answer ∷ answers) = step (read_of_unit_is depth scope u answer) (λ x. read_of_units_is depth scope us answers)
