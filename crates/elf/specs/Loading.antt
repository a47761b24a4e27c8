-- What a loading of an ELF file gives, and what an answer has to do with it.
-- A loading gives a value, or the first fault in the order of its steps.
-- Own: the definitions of loadings are written without OutOfMemory, which stands for a refused
-- growth alone; no law says so.
use Rattle.std.specs.Prelude.{◌≡◌, ◌≢◌, Bool, true, Result}
use Rattle.elf.specs.Common.{ExactlyUnless, ExactlyUnlessFor, ExactlyWhere}
use Rattle.gimli_read.specs.Costed.{CostedOr}
use Rattle.elf.specs.declared.error.LoaderError.{LoaderError}
use Rattle.elf.specs.declared.error.LoaderError.TheVariants.{OutOfMemory}

-- a value, or the fault
abbrev pub Loading : Type 0 → Type 0
Loading A = Result A LoaderError

-- the same, and whether memory may be taken for it
abbrev pub CostedLoading : Type 0 → Type 0
CostedLoading A = CostedOr LoaderError A

-- the answer, seen by view, is what is given, or OutOfMemory
abbrev pub LoadsUnlessOom : {X Y : Type 0} → (X → Y) → Loading X → Loading Y → Type 0
LoadsUnlessOom view result given = ExactlyUnless OutOfMemory view result given

-- the answer is what is given, or OutOfMemory, which is an answer only if what is given takes
-- memory
abbrev pub LoadsUnlessOomFor : {X : Type 0} → (Loading X → Bool) → Loading X → Loading X → Type 0
LoadsUnlessOomFor takes result given =
    ExactlyUnlessFor OutOfMemory true takes (λ x. x) result given

-- the answer, seen by view, is what is given, or OutOfMemory where memory may be taken for it;
-- parts of a file share its bytes
abbrev pub LoadsAtCost : {X Y : Type 0} → (X → Y) → Loading X → CostedLoading Y → Type 0
LoadsAtCost view result costed = ExactlyWhere
    (λ _ e. costed.takes_memory true ≡ true → e ≢ OutOfMemory) view result costed.given
