-- What lookups that wait say (on addr2line's specs/WaitingLookups.antt).
use Rattle.addr2line_c.proofs.Common.{◌≡◌, ℕ, Ok, None, ap, SplitLoad, of_file}
use Rattle.std.specs.Borrow.{MutBor}
use Rattle.addr2line_units.specs.declared.frames.OnFault.TheVariants.{Stop}
use Rattle.addr2line.specs.Context.{ContextState}
use Rattle.addr2line.specs.Lookups.{frames_of_stop}
use Rattle.addr2line.specs.WaitingLookups.{SuspendsIn, frames_of_context}

-- a lookup that waits has no frames yet
pub waits_for_frames : (context : MutBor ContextState) (probe : ℕ) (held : MutBor ContextState)
    (at number : ℕ) (load : SplitLoad) → SuspendsIn Stop context probe held at number load
    → of_file (frames_of_context context.now probe) ≡ Ok None
waits_for_frames context probe held at number load so =
    ap (λ stop. of_file (frames_of_stop stop)) so.2.waits
