use Rattle.gimli.proofs.Common.{◌≡◌, true, length, is_address_size, aranges_of}
use Rattle.gimli.proofs.aranges.ArangeEntryIter.next.Given as goal

abbrev pub invariant-loop-pair : goal.invariant-loop-pair
invariant-loop-pair l =
    (is_address_size l.self-inside.address_size ≡ true)
    × (l.self-inside.address_size ≡ l.initial.self-inside.address_size)
    × (aranges_of l.self-inside.address_size l.self-inside.input ≡ aranges_of l.initial.self-inside.address_size l.initial.self-inside.input)

abbrev pub decreases-loop-pair : goal.decreases-loop-pair
decreases-loop-pair l = length l.self-inside.input.bytes
