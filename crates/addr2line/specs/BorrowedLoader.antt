-- What holds of a loader once what it lent is dropped, in the logic of a clause.
use Rattle.std.specs.Prelude.{Option}
use Rattle.std.specs.Borrow.{Lends, MutBor, RattleType, sem}
use Rattle.std.specs.Io.BufRead.{Rests}
use seplogic.Ra.Ura.{Ura}
use base.Logic.{SProp}
use types.Logic.{Logic}
use Rattle.addr2line.specs.contracts.loader.LoaderOver.{the_row}
use Rattle.addr2line.specs.declared.loader.LoaderOver.{LoaderOver}
use Rattle.addr2line.specs.Files.{Files}
use Rattle.addr2line.specs.Loader.{LoaderState, as_loader}

-- the loader that the caller gets back is such
abbrev pub LoaderEndsAs : {M : Type 1} {𝓤 : Ura M} → Logic 𝓤 → (F : RattleType)
    → (F.Denot → Option Files) → MutBor (LoaderOver F.Denot) → (LoaderState → Type 0) → SProp 𝓤
LoaderEndsAs 𝓛 F files loader holds =
    sem 𝓛 (Rests (the_row F) loader (λ new. holds (as_loader files new)))

-- the loader has the files that the caller leaves
abbrev pub LendsFiles : {M : Type 1} {𝓤 : Ura M} → Logic 𝓤 → (F : RattleType)
    → MutBor (LoaderOver F.Denot) → MutBor F.Denot → SProp 𝓤
LendsFiles 𝓛 F loader lent =
    sem 𝓛 (Lends (the_row F) F loader lent (λ w. record loader.now { files = w }))
