-- Whether memory may be taken for the functions of a view, by what is cached of them (on
-- specs/EntriesFunctions.antt).
use Rattle.std.specs.Prelude.{ℕ, Bool, true, false, Option, Some, None, Result, box_value}
use Rattle.addr2line_units.specs.Common.{Error, UnitRecord, FunctionTable, Scope, cached_detail, exceeds_inline_room, function_place_at, functions_take_memory, inlined_of_detail}
use Rattle.addr2line_lines.proofs.ReadLemmas.{all_read_once}
use Rattle.addr2line_lines.specs.Details.{Detail}
use Rattle.addr2line_lines.specs.InlinedChain.{inlined_chain}
use Rattle.addr2line_units.specs.declared.entries.LazyFunctions.{LazyFunctions}
use Rattle.addr2line_units.specs.declared.entries.LazyFunctions.TheVariants as lazy

-- whether memory may be taken to find a function by what is cached of it: nothing is, or there are
-- many inlined functions
abbrev pub cached_detail_takes_memory : ℕ → Option (Result Detail Error) → Bool
cached_detail_takes_memory probe None = true
cached_detail_takes_memory probe (Some d) =
    exceeds_inline_room (inlined_chain probe (inlined_of_detail d))

-- the same of the function of a place; where there is none no memory is taken
abbrev pub place_takes_memory : ℕ → FunctionTable → Option ℕ → Bool
place_takes_memory probe t None = false
place_takes_memory probe t (Some n) = cached_detail_takes_memory probe (cached_detail t n)

-- the same of the function at the probe
abbrev pub table_takes_memory : ℕ → FunctionTable → Bool
table_takes_memory probe t = place_takes_memory probe t (function_place_at probe t)

-- whether memory may be taken for the functions of a view, where they weren't read, or for
-- something of those that are cached
abbrev pub cached_takes_memory : {R : Type 0} → Bool → Scope → UnitRecord → (FunctionTable → Bool)
    → LazyFunctions R → Bool
cached_takes_memory shares scope view takes lazy.Unread =
    functions_take_memory shares scope.file.sections view
cached_takes_memory shares scope view takes (lazy.Read t) = takes (box_value t)
cached_takes_memory shares scope view takes _ = false

-- the same to find the function at the probe
abbrev pub find_takes_memory : {R : Type 0} → Bool → Scope → UnitRecord → ℕ → LazyFunctions R
    → Bool
find_takes_memory shares scope view probe f =
    cached_takes_memory shares scope view (table_takes_memory probe) f

-- whether memory may be taken to read the functions of a view with all details
abbrev pub reading_takes_memory : {R : Type 0} → Bool → Scope → UnitRecord → LazyFunctions R → Bool
reading_takes_memory shares scope view f = cached_takes_memory shares scope view
    (λ (t : FunctionTable). (all_read_once scope view t.functions).takes_memory shares) f
