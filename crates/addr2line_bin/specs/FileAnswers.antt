-- What a file answers to the lookups of a run.
-- Own: a lookup may change what its file answers later, as split files are read then; it adds no
-- answer that couldn't have been given before.
use Rattle.std.specs.Prelude.{◌≡◌, ℕ, List, Option, Result}
use Rattle.std.specs.Borrow.{MutBor, RattleType, sem}
use Rattle.std.specs.Io.BufRead.{Rests}
use seplogic.Ra.Ura.{Ura}
use base.Logic.{SProp}
use types.Logic.{Logic}
use Rattle.gimli_read.specs.declared.error.Error.{Error}
use Rattle.gimli_read.specs.declared.range.Range.{Range}
use Rattle.addr2line_bin.specs.Common.{Loading, Location, FrameRecord}
use Rattle.addr2line_lines.specs.RangeLocations.{LocatedSpan}

-- which location or fault may be found at an address, and which frames or fault may be given for
-- it; the name of the symbol at an address; the addresses of a section by its name; and the rows of
-- a range of addresses with the faults among them
pub record FileAnswers : Type 1 where
  pub MayFind : ℕ → Loading (Option Location) → Type 0
  pub MayGive : ℕ → Loading (List FrameRecord) → Type 0
  pub symbol_at : ℕ → Option (List ℕ)
  pub section_at : List ℕ → Option Range
  pub spans_in : ℕ → ℕ → Result (List (Result LocatedSpan Error)) Error

-- what is answered after a lookup could be answered before
pub record StaysAnswered (old new : FileAnswers) : Type 0 where
  pub locations : (address : ℕ) (found : Loading (Option Location)) → new.MayFind address found
      → old.MayFind address found
  pub frames : (address : ℕ) (given : Loading (List FrameRecord)) → new.MayGive address given
      → old.MayGive address given
  pub symbol_at : new.symbol_at ≡ old.symbol_at
  pub section_at : new.section_at ≡ old.section_at
  pub spans_in : new.spans_in ≡ old.spans_in

-- the file that the caller gets back, once what a lookup lent is dropped, stays answered
abbrev pub EndsAnswered : {M : Type 1} {𝓤 : Ura M} → Logic 𝓤 → (F : RattleType)
    → (F.Denot → FileAnswers) → MutBor F.Denot → SProp 𝓤
EndsAnswered 𝓛 F answers file =
    sem 𝓛 (Rests F file (λ new. StaysAnswered (answers file.now) (answers new)))
