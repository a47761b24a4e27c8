use Rattle.gimli.proofs.Common.{◌≡◌, ◌-◌, ◌+◌, ℕ, length, take, Abbrev}
use Rattle.std.specs.List.{fold}
use Rattle.gimli.proofs.abbreviations_cache.room_after.Given as goal

abbrev pub invariant-loop-abbreviation : goal.invariant-loop-abbreviation
invariant-loop-abbreviation l =
    l.left ≡ fold (λ (left : ℕ) (a : Abbrev). left - (length a.attributes + 1)) l.fn.room (take l.abbreviation-index l.abbreviation-items)
