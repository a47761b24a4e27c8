-- What holds of a context once what a lookup lent from it is dropped, in the logic of a clause.
use Rattle.std.specs.Prelude.{Bool}
use Rattle.std.specs.Borrow.{RattleType, MutBor, GName, sem}
use Rattle.std.specs.Io.BufRead.{Rests}
use seplogic.Ra.Ura.{Ura}
use base.Logic.{SProp}
use types.Logic.{Logic}
use Rattle.addr2line.specs.Common.{Section, rests}
use Rattle.addr2line_units.specs.declared.continuation.LookupResult.{LookupResult}
use Rattle.addr2line.specs.Context.{ContextState}
use Rattle.addr2line.specs.contracts.context.Context.{the_row}

-- the context that the caller gets back is such
abbrev pub EndsAs : {M : Type 1} {𝓤 : Ura M} → Logic 𝓤 → (R : RattleType) (r : record {
  is_clone : R.Denot → R.Denot → Type 0;
  is_infallible : R.Denot → Type 0;
  section : R.Denot → Section;
  shares : Bool;
}) → MutBor ContextState → (ContextState → Type 0) → SProp 𝓤
EndsAs 𝓛 R r context holds =
    sem 𝓛 (Rests (the_row R (record { section = r.section; shares = r.shares })
    (record { is_clone = r.is_clone; is_infallible = r.is_infallible })) context holds)

-- a lookup that waits holds the context, and once an output is dropped the context is such
abbrev pub RestsAs : {M : Type 1} {𝓤 : Ura M} {L O D S : Type 0} → Logic 𝓤 → (L → GName)
    → (R : RattleType) (r : record {
      is_clone : R.Denot → R.Denot → Type 0;
      is_infallible : R.Denot → Type 0;
      section : R.Denot → Section;
      shares : Bool;
    }) → MutBor ContextState → LookupResult L O D S → (O → ContextState → Type 0) → SProp 𝓤
RestsAs 𝓛 name R r context result holds =
    sem 𝓛 (rests name (the_row R (record { section = r.section; shares = r.shares })
    (record { is_clone = r.is_clone; is_infallible = r.is_infallible })) context result holds)
