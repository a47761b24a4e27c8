-- What is known of the entries of units by what is cached of them, as the private functions see it.
use Rattle.std.specs.Prelude.{List, map, Option, Some, None, Result, Ok, Err, box_value, if◌then◌else◌}
use Rattle.addr2line_units.specs.Common.{Error, CachedFunction, FunctionTable}
use Rattle.addr2line_lines.specs.Details.{Detail}
use Rattle.addr2line_units.specs.declared.entries.LazyFunctions.{LazyFunctions}
use Rattle.addr2line_units.specs.declared.entries.LazyFunctions.TheVariants as lazy
use Rattle.addr2line_units.specs.EntriesOwn.{CachedUnit}
use Rattle.addr2line_units.specs.declared.unit.ViewState.{ViewState}
use Rattle.addr2line_units.specs.declared.unit.ViewState.TheVariants as states
use Rattle.addr2line_units.specs.EntriesFunctions.{is_cached_fault, no_functions}
use Rattle.addr2line_units.specs.EntriesKnown.{KnownDetail, NotRead, IsRead, HasFault, KnownFunction, KnownEntries, NothingKnown, AllKnown, FunctionsKnown}

-- the detail of a function
abbrev pub known_detail : Option (Result Detail Error) → KnownDetail
known_detail None = NotRead
known_detail (Some (Ok d)) = IsRead
known_detail (Some (Err e)) = if is_cached_fault e then HasFault else NotRead

-- a function
abbrev pub known_function : CachedFunction → KnownFunction
known_function f = record { offset = f.offset; detail = known_detail f.detail }

-- functions with their details
abbrev pub known_table : FunctionTable → KnownEntries
known_table t = FunctionsKnown t.ranges (map known_function t.functions)

-- a fault that is cached
abbrev pub known_fault : Error → KnownEntries
known_fault e = if is_cached_fault e then AllKnown else NothingKnown

-- the functions of a view
abbrev pub known_functions : {R : Type 0} → LazyFunctions R → KnownEntries
known_functions lazy.Unread = NothingKnown
known_functions lazy.Absent = known_table no_functions
known_functions (lazy.Read t) = known_table (box_value t)
known_functions (lazy.Faulty e) = known_fault e

-- those of the view of an answer, unless it has a fault
abbrev pub known_answer : {R X : Type 0} → Result X Error → LazyFunctions R → KnownEntries
known_answer (Ok x) functions = known_functions functions
known_answer (Err e) functions = known_fault e

-- a unit's view and the functions in it
abbrev pub known_by : {R : Type 0} → ViewState R → LazyFunctions R → KnownEntries
known_by states.Undecided functions = NothingKnown
known_by states.Open functions = AllKnown
known_by states.Main functions = known_functions functions
known_by (states.Unnamed e) functions = known_fault e
known_by (states.Answered a) functions = known_answer a.unit functions

-- the entries of each unit
abbrev pub known_in : {R : Type 0} → List (CachedUnit R) → List KnownEntries
known_in caches = map (λ c. known_by c.entries.view.state c.entries.functions) caches
