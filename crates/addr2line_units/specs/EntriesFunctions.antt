-- What is cached of the functions of a view, as the private functions see it.
-- Own: functions are read when they are first asked for, and cached then, their fault too; so is
-- each detail. OutOfMemory is never cached. Absent are functions only where a view has none.
use Rattle.std.specs.Prelude.{◌≡◌, ◌≢◌, ◌<◌, ℕ, Bool, true, false, [], length, map, Option, Some, None, option_map, unwrap_or, Result, Ok, Err, box_value}
use Rattle.std.specs.List.{AllByRecursion}
use Rattle.addr2line_units.specs.Common.{Error, OutOfMemory, ◌>>=◌, UnitRecord, AreListed, FunctionTable, cached_detail, cached_name, function_place_at, cached_offset_at, entries_of, functions_of, Scope}
use Rattle.addr2line_lines.specs.CachedNames.{AreNamesIn, no_names}
use Rattle.addr2line_lines.specs.Details.{Detail}
use Rattle.addr2line_lines.specs.FoundInlined.{entry_among}
use Rattle.addr2line_lines.specs.FunctionDetails.{AreDetailsOf, IsTableMore, details_at}
use Rattle.addr2line_units.specs.declared.entries.FunctionPlace.{FunctionPlace}
use Rattle.addr2line_units.specs.declared.entries.LazyFunctions.{LazyFunctions}
use Rattle.addr2line_units.specs.declared.entries.LazyFunctions.TheVariants as lazy
use Rattle.addr2line_units.specs.Frames.{FoundFunction}

-- functions are those of a view whose references lead where the scope says, what is cached of each
-- is its detail, or the fault of that, and the names that are cached are those of the view
pub record IsTableOf (scope : Scope) (view : UnitRecord) (t : FunctionTable) : Type 0 where
  pub ranges : functions_of scope.file.sections view ≡ Ok t.ranges
  pub listed : AreListed t
  pub details : AreDetailsOf scope view t
  pub names : AreNamesIn scope view t.names

-- what is cached is the functions of a view with their details, or their fault
abbrev pub AreFunctionsOf : {R : Type 0} → Scope → UnitRecord → LazyFunctions R → Type 0
AreFunctionsOf scope view lazy.Unread = Unit {0}
AreFunctionsOf scope view lazy.Absent = functions_of scope.file.sections view ≡ Ok []
AreFunctionsOf scope view (lazy.Read t) = IsTableOf scope view (box_value t)
AreFunctionsOf scope view (lazy.Faulty e) = functions_of scope.file.sections view ≡ Err e

-- whether the functions were read
abbrev pub were_read : {R : Type 0} → LazyFunctions R → Bool
were_read lazy.Unread = false
were_read _ = true

-- no functions
abbrev pub no_functions : FunctionTable
no_functions = record { ranges = []; functions = []; inlined = []; names = no_names None }

-- the functions that are cached, none before they are read and where they have a fault
abbrev pub cached_functions : {R : Type 0} → LazyFunctions R → FunctionTable
cached_functions (lazy.Read t) = box_value t
cached_functions _ = no_functions

-- their fault, if it is cached
abbrev pub cached_fault : {R : Type 0} → LazyFunctions R → Result (Unit {0}) Error
cached_fault (lazy.Faulty e) = Err e
cached_fault _ = Ok tt

-- what is cached stays, and more details may be
abbrev pub StayFunctions : {R : Type 0} → LazyFunctions R → LazyFunctions R → Type 0
StayFunctions lazy.Unread new = Unit {0}
StayFunctions lazy.Absent new = new ≡ lazy.Absent
StayFunctions (lazy.Read t) (lazy.Read more) = IsTableMore (box_value t) (box_value more)
StayFunctions (lazy.Read t) _ = ⊥
StayFunctions (lazy.Faulty e) new = new ≡ lazy.Faulty e

-- no detail is read but that of the function at the probe
abbrev pub ReadsNoOther : ℕ → FunctionTable → FunctionTable → Type 0
ReadsNoOther probe old new =
    (n : ℕ) → function_place_at probe new ≢ Some n → cached_detail new n ≡ cached_detail old n

-- no detail is read
abbrev pub ReadsNoDetail : FunctionTable → FunctionTable → Type 0
ReadsNoDetail old new = (n : ℕ) → cached_detail new n ≡ cached_detail old n

-- a place is that of a function, and those of its inlined functions are of inlined entries
pub record ArePlacesIn (t : FunctionTable) (p : FunctionPlace) : Type 0 where
  pub function : p.place < length t.functions
  pub inlined : AllByRecursion (λ n. n < length t.inlined) p.inlined.items

-- the function of a place, and the inlined entries of places
abbrev pub function_of_place : FunctionTable → FunctionPlace → FoundFunction
function_of_place t p = record {
  offset = unwrap_or (cached_offset_at t p.place) 0;
  name = cached_name t p.place;
  inlined = map (entry_among t.inlined) p.inlined.items;
}

-- the function of a place that was found, if one was, by what is cached of a view
abbrev pub found_in_cache : {R : Type 0} → LazyFunctions R → Option FunctionPlace
    → Option FoundFunction
found_in_cache f = option_map (function_of_place (cached_functions f))

-- whether a fault is one that is cached: any but OutOfMemory
abbrev pub is_cached_fault : Error → Bool
is_cached_fault OutOfMemory = false
is_cached_fault _ = true

-- whether what is cached of a function is its detail, or a fault that is cached
abbrev pub has_detail : Option (Result Detail Error) → Bool
has_detail None = false
has_detail (Some (Ok d)) = true
has_detail (Some (Err e)) = is_cached_fault e

-- the same of the function of a place, if there is one
abbrev pub has_place : FunctionTable → Option ℕ → Bool
has_place t None = true
has_place t (Some n) = has_detail (cached_detail t n)

-- whether the function at the probe is found by what is cached
abbrev pub has_table : ℕ → FunctionTable → Bool
has_table probe t = has_place t (function_place_at probe t)

-- the same by what is cached of a view: the functions, or their fault
abbrev pub cached_has_function : {R : Type 0} → ℕ → LazyFunctions R → Bool
cached_has_function probe lazy.Unread = false
cached_has_function probe lazy.Absent = true
cached_has_function probe (lazy.Read t) = has_table probe (box_value t)
cached_has_function probe (lazy.Faulty e) = is_cached_fault e

-- the first fault of the functions of a view, and among the details of these
abbrev pub functions_fault : Scope → UnitRecord → Result (Unit {0}) Error
functions_fault scope view = functions_of scope.file.sections view >>= λ ranges.
    details_at scope view (entries_of ranges)
