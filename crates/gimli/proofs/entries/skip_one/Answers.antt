use Rattle.gimli.proofs.Common.{sym}
use Rattle.gimli.proofs.EntryLemmas.{sized_passed}
use Rattle.gimli.proofs.entries.skip_one.Goals as goal

pub returns-in-Some : goal.returns-in-Some
returns-in-Some g c = record { gives = sized_passed _ _ c.in-Some.size _ _ _ (sym c.in-Some.ensures.gives) (rw c.from.ensures at c.skip.ensures.gives) }
