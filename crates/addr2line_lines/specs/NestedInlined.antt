-- What holds of the chain of inlined entries (DWARF 5, section 3.3.8).
-- Own: its steps are enough; its first entry has no inlined one around it; where the ranges are
-- nested as the entries are, each of its entries is the nearest inlined one around the next, and
-- none that holds the address is left out. The standard doesn't ask for ranges so nested.
use Rattle.std.specs.Prelude.{ℕ, ◌≡◌, ◌+◌, ◌<◌, ◌≤◌, Bool, true, List, [], ◌∷◌, Option, Some, None, Ok, length, slice_get}
use Rattle.std.specs.List.{All, Contains}
use Rattle.addr2line_lines.specs.Common.{Item, UnitRecord}
use Rattle.addr2line_lines.specs.Details.{Detail, detail_at}
use Rattle.addr2line_lines.specs.InlinedEntries.{InlinedEntry, InlinedRange}
use Rattle.addr2line_lines.specs.InlinedChain.{inlined_begin, inlined_chain, inlined_end, inlined_within}
use Rattle.addr2line_lines.specs.ItemsAround.{items_inside_at, nearest_inlined}
use Rattle.addr2line_lines.specs.References.{Scope}
use Rattle.addr2line_lines.specs.Shortest.{holds}

-- more steps than there are ranges give the same chain
abbrev pub ChainIsWhole : Type 0
ChainIsWhole = (n probe : ℕ) (ranges : List InlinedRange) → length ranges ≤ n
    → inlined_within n probe 0 ranges ≡ inlined_chain probe ranges

-- whether a range holds the probe
abbrev pub inlined_holds : ℕ → InlinedRange → Bool
inlined_holds probe x = holds inlined_begin inlined_end probe x

-- some listed range that is around x, as the relation says, holds the probe
pub record IsHeldAround (Around : InlinedRange → InlinedRange → Type 0) (ranges : List InlinedRange)
    (x : InlinedRange) (probe : ℕ) : Type 0 where
  pub outer : InlinedRange
  pub listed : Contains ranges outer
  pub around : Around x outer
  pub holds_it : inlined_holds probe outer ≡ true

-- each address of a range whose entry is inside another is held by a listed range around it
abbrev pub IsHeldByListed : (InlinedRange → InlinedRange → Type 0) → List InlinedRange
    → InlinedRange → Type 0
IsHeldByListed Around ranges x = 0 < x.depth → (probe : ℕ) → inlined_holds probe x ≡ true
    → IsHeldAround Around ranges x probe

-- no other range of the same depth holds an address of z
abbrev pub IsAlone : List InlinedRange → InlinedRange → Type 0
IsAlone ranges z = All (λ x. x.depth ≡ z.depth → (probe : ℕ) → inlined_holds probe x ≡ true
    → inlined_holds probe z ≡ true → x ≡ z) ranges

-- ranges lie within those that are around them, and those of a depth don't overlap
pub record AreNested (Around : InlinedRange → InlinedRange → Type 0) (ranges : List InlinedRange)
    : Type 0 where
  pub within : All (IsHeldByListed Around ranges) ranges
  pub apart : All (IsAlone ranges) ranges

-- each entry is the one around the next
abbrev pub AreInEachOther : (InlinedEntry → InlinedEntry → Type 0) → List InlinedEntry → Type 0
AreInEachOther Around [] = Unit {0}
AreInEachOther Around (x ∷ []) = Unit {0}
AreInEachOther Around (x ∷ y ∷ rest) = Around y x × AreInEachOther Around (y ∷ rest)

-- the chain of nested entries: each is the one around the next, and where no range is empty, each
-- entry that has a range that holds the probe stands at its depth
pub record IsNestedChain (Around : InlinedEntry → InlinedEntry → Type 0)
    (ranges : List InlinedRange) (probe : ℕ) : Type 0 where
  pub next : AreInEachOther Around (inlined_chain probe ranges)
  pub all : All (λ x. inlined_begin x < inlined_end x) ranges
      → All (λ x. inlined_holds probe x ≡ true
      → slice_get (inlined_chain probe ranges) x.depth ≡ Some x.entry) ranges

-- the entry of y is the one around that of x, and its depth is one less
abbrev pub IsOneAround : (InlinedEntry → InlinedEntry → Type 0) → InlinedRange → InlinedRange
    → Type 0
IsOneAround Around x y = Around x.entry y.entry × (y.depth + 1 ≡ x.depth)

-- where ranges are nested so are the entries of the chain, whatever says which is around another
abbrev pub NestedChain : Type 0
NestedChain = (around : InlinedEntry → Option InlinedEntry) (ranges : List InlinedRange)
    (probe : ℕ) → AreNested (IsOneAround (λ x y. around x ≡ Some y)) ranges
    → IsNestedChain (λ x y. around x ≡ Some y) ranges probe

-- y is the nearest inlined entry around x, among the items inside their function
abbrev pub IsNearest : List Item → InlinedEntry → InlinedEntry → Type 0
IsNearest items x y = nearest_inlined x.offset items ≡ Some y.offset

-- where the ranges of a function's inlined entries lie within those of the nearest inlined ones
-- around them, each entry of the chain is the nearest inlined one around the next
abbrev pub NestedInFunction : Type 0
NestedInFunction =
    (scope : Scope) (u : UnitRecord) (offset : ℕ) (items : List Item) (detail : Detail) (probe : ℕ)
    → items_inside_at u offset ≡ Ok items → detail_at scope u offset ≡ Ok detail
    → AreNested (λ x y. IsNearest items x.entry y.entry) detail.inlined
    → IsNestedChain (IsNearest items) detail.inlined probe

-- no inlined entry is around the first one
abbrev pub IsFirstOutermost : List Item → List InlinedEntry → Type 0
IsFirstOutermost items [] = Unit {0}
IsFirstOutermost items (x ∷ rest) = nearest_inlined x.offset items ≡ None

-- the chain of a function's inlined entries begins with one around which there is none
abbrev pub ChainBeginsOutermost : Type 0
ChainBeginsOutermost =
    (scope : Scope) (u : UnitRecord) (offset : ℕ) (items : List Item) (detail : Detail) (probe : ℕ)
    → items_inside_at u offset ≡ Ok items → detail_at scope u offset ≡ Ok detail
    → IsFirstOutermost items (inlined_chain probe detail.inlined)

-- chains of nested ranges, those of a function, and how each begins
pub record NestedInlinedLaws : Type 0 where
  pub chain : NestedChain
  pub nearest : NestedInFunction
  pub first : ChainBeginsOutermost
