use Rattle.std.proofs.Common.{◌≡◌, ◌+◌, ◌≤◌, not, length, take}
use Rattle.std.specs.List.{suffix_len}
use Rattle.rust_v0.specs.Identifiers.{is_underscore}
use Rattle.rust_v0.proofs.identifiers.split_punycode.Given as goal

abbrev pub invariant-loop-at : goal.invariant-loop-at
invariant-loop-at l =
    (l.at ≤ length l.word)
    × (l.at + suffix_len (λ c. not (is_underscore c)) l.word ≡ length l.word + suffix_len (λ c. not (is_underscore c)) (take l.at l.word))

abbrev pub decreases-loop-at : goal.decreases-loop-at
decreases-loop-at l = l.at
