-- How the details of functions come to be cached (DWARF 5, section 3.3).
-- Own: the detail of a function is read when it is first asked for, and cached then, its fault too.
-- OutOfMemory is never cached.
use Rattle.std.specs.Prelude.{◌≡◌, ◌≢◌, ◌⊎◌, ℕ, ◌&&◌, Bool, true, not, is_some, List, [], ◌∷◌, slice_get, slice_set, Option, Some, None, unwrap_or, Result, Ok, Err}
use Rattle.std.specs.List.{AllByRecursion, AllZip}
use Rattle.addr2line_lines.specs.Common.{Error, OutOfMemory, Costed, free, ◌>>=◌, fault_of, UnitRecord}
use Rattle.addr2line_lines.specs.CachedNames.{AreNamesMore}
use Rattle.addr2line_lines.specs.CostedSteps.{on_parts}
use Rattle.addr2line_lines.specs.Details.{Detail, detail_at}
use Rattle.addr2line_lines.specs.Grown.{IsGrown}
use Rattle.addr2line_lines.specs.References.{Scope}
use Rattle.addr2line_lines.specs.FunctionTable.{CachedFunction, FunctionTable, AreListed}
use Rattle.addr2line_lines.specs.StoredDetails.{detail_at_cost}

-- the detail of the function of a place is cached too, and nothing else changes, but that more
-- inlined entries, and more names of entries that are referred to, stand after those before
pub record IsWithDetail (n : ℕ) (f : CachedFunction) (detail : Result Detail Error)
    (old new : FunctionTable) : Type 0 where
  pub ranges : new.ranges ≡ old.ranges
  pub functions : new.functions ≡
      slice_set old.functions n (record { offset = f.offset; detail = Some detail })
  pub inlined : IsGrown old.inlined new.inlined
  pub names : AreNamesMore old.names new.names

-- an answer, and the table then: that of the detail, which is cached, its fault too; or
-- OutOfMemory, and the table as before
abbrev pub IsCachedThen : ℕ → CachedFunction → Result Detail Error → FunctionTable
    → Result (Unit {0}) Error → FunctionTable → Type 0
IsCachedThen n f detail old (Ok x) new =
    (fault_of detail ≡ Ok x) × IsWithDetail n f detail old new
IsCachedThen n f detail old (Err e) new =
    (e ≢ OutOfMemory → (fault_of detail ≡ Err e) × IsWithDetail n f detail old new)
    × (e ≡ OutOfMemory → new ≡ old)

-- an answer, and the table then, by what is cached of the function: a cached detail, or its fault,
-- is the answer, and nothing changes
abbrev pub IsReadOnce : Scope → UnitRecord → ℕ → CachedFunction → Option (Result Detail Error)
    → FunctionTable → Result (Unit {0}) Error → FunctionTable → Type 0
IsReadOnce scope u n f (Some detail) old result new = (result ≡ fault_of detail) × (new ≡ old)
IsReadOnce scope u n f None old result new =
    IsCachedThen n f (detail_at scope u f.offset) old result new

-- the same of the function of a place, by the function; past the last one nothing is read
abbrev pub IsReadOf : Scope → UnitRecord → ℕ → Option CachedFunction → FunctionTable
    → Result (Unit {0}) Error → FunctionTable → Type 0
IsReadOf scope u n None old result new = (result ≡ Ok tt) × (new ≡ old)
IsReadOf scope u n (Some f) old result new = IsReadOnce scope u n f f.detail old result new

-- the same of the function of a place
abbrev pub IsReadAt : Scope → UnitRecord → ℕ → FunctionTable → Result (Unit {0}) Error
    → FunctionTable → Type 0
IsReadAt scope u n old result new =
    IsReadOf scope u n (slice_get old.functions n) old result new

-- no detail is cached
abbrev pub AreUnread : FunctionTable → Type 0
AreUnread t = AllByRecursion (λ (f : CachedFunction). f.detail ≡ None) t.functions

-- what is cached of a function is its detail, or the fault of that
abbrev pub IsDetailOf : Scope → UnitRecord → CachedFunction → Type 0
IsDetailOf scope u f =
    (detail : Result Detail Error) → f.detail ≡ Some detail → detail_at scope u f.offset ≡ detail

-- what is cached of each function is so
abbrev pub AreDetailsOf : Scope → UnitRecord → FunctionTable → Type 0
AreDetailsOf scope u t = AllByRecursion (IsDetailOf scope u) t.functions

-- where no detail is cached, what is cached is right for any unit
abbrev pub UnreadAreDetails : Type 0
UnreadAreDetails = (scope : Scope) (u : UnitRecord) (t : FunctionTable) → AreUnread t
    → AreDetailsOf scope u t

-- what is cached stays right where one more detail is read
abbrev pub ReadKeepsDetails : Type 0
ReadKeepsDetails = (scope : Scope) (u : UnitRecord) (n : ℕ) (old new : FunctionTable)
    (result : Result (Unit {0}) Error) → AreDetailsOf scope u old
    → IsReadAt scope u n old result new → AreDetailsOf scope u new

-- the first fault among the details of functions, by where their entries begin
abbrev pub details_at : Scope → UnitRecord → List ℕ → Result (Unit {0}) Error
details_at scope u [] = Ok tt
details_at scope u (offset ∷ offsets) = detail_at scope u offset >>= λ _. details_at scope u offsets

-- the detail of a function, or its fault: what is cached of it, or else what its entries say
abbrev pub detail_once : Scope → UnitRecord → CachedFunction → Result Detail Error
detail_once scope u f = unwrap_or f.detail (detail_at scope u f.offset)

-- whether it can be read; memory may be taken where nothing is cached of it, as its entries say;
-- past the last function nothing is read
abbrev pub read_once : Scope → UnitRecord → Option CachedFunction → Costed (Unit {0})
read_once scope u None = free (Ok tt)
read_once scope u (Some f) = record {
  given = fault_of (detail_once scope u f);
  takes_memory = λ shares. not (is_some f.detail)
      && (on_parts (detail_at_cost scope u f.offset)).takes_memory shares;
}

-- the detail of a function is cached, and where it has no fault, so is what follows; or its fault
-- is, which isn't OutOfMemory
abbrev pub IsCachedToFault : Option (Result Detail Error) → Type 0 → Type 0
IsCachedToFault None rest = ⊥
IsCachedToFault (Some (Ok d)) rest = rest
IsCachedToFault (Some (Err e)) rest = e ≢ OutOfMemory

-- the details of functions are cached in their order, up to the first that has a fault, and that
-- fault too
abbrev pub AreCachedToFault : List CachedFunction → Type 0
AreCachedToFault [] = Unit {0}
AreCachedToFault (f ∷ functions) = IsCachedToFault f.detail (AreCachedToFault functions)

-- a function is the same, and what was cached of it is
pub record IsFunctionMore (f g : CachedFunction) : Type 0 where
  pub offset : g.offset ≡ f.offset
  pub detail : (detail : Result Detail Error) → f.detail ≡ Some detail → g.detail ≡ Some detail

-- what was cached stays cached, and nothing else changes, but that more may be cached
pub record IsTableMore (old new : FunctionTable) : Type 0 where
  pub ranges : new.ranges ≡ old.ranges
  pub functions : AllZip IsFunctionMore old.functions new.functions
  pub inlined : IsGrown old.inlined new.inlined
  pub names : AreNamesMore old.names new.names

-- a function with its detail, or the fault of that, cached
abbrev pub with_detail : Scope → UnitRecord → CachedFunction → CachedFunction
with_detail scope u f = record { offset = f.offset; detail = Some (detail_once scope u f) }

-- after a detail was read: where it has no fault, what is said of the functions behind; else that
-- fault is the answer, and they are as they were
abbrev pub IsReadBehind : Result (Unit {0}) Error → Type 0 → Result (Unit {0}) Error
    → List CachedFunction → List CachedFunction → Type 0
IsReadBehind (Ok x) rest result old new = rest
IsReadBehind (Err e) rest result old new = (result ≡ Err e) × (new ≡ old)

-- the details of functions were read in turn, up to the first fault, which is the answer: those
-- before it are cached then, and that fault; or up to one that memory was refused for, and that
-- takes some: those before it are cached then; the functions behind are as they were
abbrev pub AreReadInTurn : Bool → Scope → UnitRecord → List CachedFunction
    → Result (Unit {0}) Error → List CachedFunction → Type 0
AreReadInTurn shares scope u [] result new = (result ≡ Ok tt) × (new ≡ [])
AreReadInTurn shares scope u (f ∷ old) result new =
    ((result ≡ Err OutOfMemory) × ((read_once scope u (Some f)).takes_memory shares ≡ true)
    × (new ≡ f ∷ old))
    ⊎ ((rest : List CachedFunction) × (new ≡ with_detail scope u f ∷ rest)
    × IsReadBehind (read_once scope u (Some f)).given (AreReadInTurn shares scope u old result rest)
    result old rest)

-- after the details of all functions were read in turn: nothing else changes, but that more inlined
-- entries, and more names of entries that are referred to, stand after those before; where all were
-- cached, up to the first fault, nothing changes
pub record AfterReadingAll (shares : Bool) (scope : Scope) (u : UnitRecord)
    (result : Result (Unit {0}) Error) (old new : FunctionTable) : Type 0 where
  pub ranges : new.ranges ≡ old.ranges
  pub functions : AreReadInTurn shares scope u old.functions result new.functions
  pub inlined : IsGrown old.inlined new.inlined
  pub names : AreNamesMore old.names new.names
  pub same : AreCachedToFault old.functions → new ≡ old

-- the functions stay those that have a range where more is cached
abbrev pub MoreKeepsListed : Type 0
MoreKeepsListed = (old new : FunctionTable) → AreListed old → IsTableMore old new → AreListed new

-- the functions stay those that have a range where one more detail is read
abbrev pub ReadKeepsListed : Type 0
ReadKeepsListed = (scope : Scope) (u : UnitRecord) (n : ℕ) (old new : FunctionTable)
    (result : Result (Unit {0}) Error) → AreListed old → IsReadAt scope u n old result new
    → AreListed new

-- what is cached before details are read, and after
pub record CachedDetailLaws : Type 0 where
  pub unread : UnreadAreDetails
  pub read : ReadKeepsDetails

-- the functions of a table of which details are read, and of one with more details
pub record ListedFunctionLaws : Type 0 where
  pub read : ReadKeepsListed
  pub more : MoreKeepsListed
