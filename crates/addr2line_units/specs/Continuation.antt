-- What a lookup gives that may wait for a split file (DWARF 5, section 7.3.2): a load with the rest
-- of the lookup, or its output.
-- Own: each answer to a load leaves fewer units that wait for one.
use Rattle.std.specs.Prelude.{◌≡◌, ◌<◌, ℕ, suc, IsOk, Option, None, Result}
use Rattle.std.specs.Borrow.{Fml, RattleType, MutBor, GName, follows_so}
use mathlib.Core.Option as maybe
use Rattle.addr2line_units.specs.declared.continuation.LookupResult.{LookupResult}
use Rattle.addr2line_units.specs.declared.continuation.LookupResult.TheVariants.{Load, Output}

-- what is given is an output, and that has no fault
abbrev pub IsOkOutput : {L X E D S : Type 0} → LookupResult L (Result X E) D S → Type 0
IsOkOutput (Load c) = ⊥
IsOkOutput (Output o) = IsOk o

module _ {L O D S : Type 0} where
  -- what holds of a lookup that waits
  abbrev pub IfLoad : LookupResult L O D S → (L → Type 0) → Type 0
  IfLoad (Load c) P = P c
  IfLoad (Output o) P = Unit {0}

  -- what holds of an output
  abbrev pub IfOutput : LookupResult L O D S → (O → Type 0) → Type 0
  IfOutput (Load c) P = Unit {0}
  IfOutput (Output o) P = P o

  -- an output is what answering none to each load may give
  abbrev pub SkipsTo : (L → O → Type 0) → LookupResult L O D S → O → Type 0
  SkipsTo skips (Load c) o = skips c o
  SkipsTo skips (Output p) o = p ≡ o

  -- a lookup resumes with an answer: where it waits again, fewer units wait than before; after
  -- none, what answering none to each later load may give is what that might give before
  pub record Resumes (old : L) (left : L → ℕ) (skips : L → O → Type 0) (answer : Option S)
      (result : LookupResult L O D S) : Type 0 where
    pub shorter : IfLoad result (λ c. left c < left old)
    pub none : answer ≡ None → (o : O) → SkipsTo skips result o → skips old o

  -- how many loads there may still be, where so many units wait at most
  abbrev pub loads_left : (L → ℕ) → LookupResult L O D S → ℕ
  loads_left left (Load c) = suc (left c)
  loads_left left (Output o) = 0

  module _ (name : L → GName) where
    -- the name of the context that a lookup holds which waits
    abbrev pub held : LookupResult L O D S → maybe.Option GName
    held (Load c) = maybe.some (name c)
    held (Output o) = maybe.none

    -- a context stays with a lookup that waits, and once an output is dropped it is such
    abbrev pub rests : (R : RattleType) → MutBor R.Denot → LookupResult L O D S
        → (O → R.Denot → Type 0) → Fml
    rests R s r P = follows_so R R s.ghost_name (held r) (λ w n. IfLoad r (λ _. n ≡ w))
        (λ n. IfOutput r (λ o. P o n))
