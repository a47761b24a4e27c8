-- Calls that add to what was found, as the private functions see them.
use Rattle.std.specs.Prelude.{Bool, Result}
use Rattle.addr2line_lines.specs.Common.{Error, Costed, ExactlyAtCost, ExactlyUnlessOomIf}
use Rattle.addr2line_lines.specs.CostedSteps.{on_parts}

-- a call that moves from a place to another found what is found there after what was found before;
-- OutOfMemory is an answer only if memory may be taken
abbrev pub FindsUnlessOomIf : {P F X : Type 0} → Bool → P → P → F → F → Result X Error
    → (P → F → Result (F × P) Error) → Type 0
FindsUnlessOomIf may from to old new result finding =
    ExactlyUnlessOomIf may (λ _. (new, to)) result (finding from old)

-- the same of a finding with the memory that it takes, which is by parts of the bytes
abbrev pub FindsAtCost : {P F X : Type 0} → Bool → P → P → F → F → Result X Error
    → (P → F → Costed (F × P)) → Type 0
FindsAtCost shares from to old new result finding =
    ExactlyAtCost shares (λ _. (new, to)) result (on_parts (finding from old))
