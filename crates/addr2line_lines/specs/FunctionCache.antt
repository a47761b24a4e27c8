-- The functions of a view as they are cached, as the private functions see them.
-- Own: the names, inlined entries and ranges of the details stand in three lists, each function's
-- apart from those of the others, and nothing else stands there.
use Rattle.std.specs.Prelude.{◌≡◌, ℕ, ◌-◌, ◌≤◌, ◌≢◌, ◌⊎◌, List, length, slice_get, sum_by, Option, Some, None, option_and_then, Result, Ok, Err}
use Rattle.std.specs.List.{AllByRecursion}
use Rattle.addr2line_lines.specs.Common.{Error}
use Rattle.addr2line_lines.specs.declared.segments.FunctionAddress.{FunctionAddress}
use Rattle.addr2line_lines.specs.declared.details.FunctionDetail.{FunctionDetail}
use Rattle.addr2line_lines.specs.declared.functions.LazyDetail.{LazyDetail}
use Rattle.addr2line_lines.specs.declared.functions.LazyDetail.TheVariants.{Unread, Read, Faulty}
use Rattle.addr2line_lines.specs.declared.functions.LazyFunction.{LazyFunction}
use Rattle.addr2line_lines.specs.Details.{Detail}
use Rattle.addr2line_lines.specs.FoundFunctions.{AreFunctions, function_offsets}
use Rattle.addr2line_lines.specs.FunctionTable.{CachedFunction}
use Rattle.addr2line_lines.specs.CachedDetails.{IsDetailPlace, CachedDetails, detail_of}

-- what is cached of a function
abbrev pub as_lazy : CachedDetails → LazyDetail → Option (Result Detail Error)
as_lazy d Unread = None
as_lazy d (Read p) = Some (Ok (detail_of d p))
as_lazy d (Faulty e) = Some (Err e)

-- a function
abbrev pub as_function : CachedDetails → LazyFunction → CachedFunction
as_function d f =
    record { offset = f.dw_die_offset.0; detail = as_lazy d f.detail }

-- the place of a detail, if it was read
abbrev pub place_read : LazyDetail → Option FunctionDetail
place_read Unread = None
place_read (Read p) = Some p
place_read (Faulty e) = None

-- the place of the detail of a function, by the function's place, if it was read
abbrev pub read_at : List LazyFunction → ℕ → Option FunctionDetail
read_at functions n =
    option_and_then (λ (f : LazyFunction). place_read f.detail) (slice_get functions n)

-- a place of a detail that was read is one in the lists
abbrev pub HasPlace : CachedDetails → LazyFunction → Type 0
HasPlace d f = (p : FunctionDetail) → f.detail ≡ Read p → IsDetailPlace d p

-- two runs of which neither has an element of the other
abbrev pub RunsAreApart : ℕ → ℕ → ℕ → ℕ → Type 0
RunsAreApart begin end begin' end' = (end ≤ begin') ⊎ (end' ≤ begin)

-- the runs of two details are apart
pub record AreDetailsApart (p q : FunctionDetail) : Type 0 where
  pub name : p.name ≢ q.name
  pub inlined : RunsAreApart p.inlined_begin p.inlined_end q.inlined_begin q.inlined_end
  pub ranges : RunsAreApart p.ranges_begin p.ranges_end q.ranges_begin q.ranges_end

-- a function's number of something, none before its detail is read
abbrev pub size_of : (FunctionDetail → ℕ) → LazyFunction → ℕ
size_of size f = elim f.detail [ Unread ↦ 0 | Read p ↦ size p | Faulty e ↦ 0 ]

-- one for a name
abbrev pub name_size : FunctionDetail → ℕ
name_size p = 1

-- the number of inlined entries
abbrev pub inlined_size : FunctionDetail → ℕ
inlined_size p = p.inlined_end - p.inlined_begin

-- the number of ranges
abbrev pub ranges_size : FunctionDetail → ℕ
ranges_size p = p.ranges_end - p.ranges_begin

-- the details that were read stand in the lists without overlap, and cover them
pub record AreRuns (functions : List LazyFunction) (d : CachedDetails) : Type 0 where
  pub places : AllByRecursion (HasPlace d) functions
  pub apart : (i j : ℕ) → (f g : LazyFunction) → (p q : FunctionDetail) → i ≢ j
      → slice_get functions i ≡ Some f → slice_get functions j ≡ Some g
      → f.detail ≡ Read p → g.detail ≡ Read q → AreDetailsApart p q
  pub names : sum_by (size_of name_size) functions ≡ length d.names
  pub inlined : sum_by (size_of inlined_size) functions ≡ length d.found.entries
  pub ranges : sum_by (size_of ranges_size) functions ≡ length d.found.ranges

-- functions in the order of their entries, the ranges by their places, and the details in the lists
pub record AreCachedFunctions (functions : List LazyFunction) (addresses : List FunctionAddress)
    (d : CachedDetails) : Type 0 where
  pub in_order : AreFunctions (function_offsets functions) addresses
  pub runs : AreRuns functions d
