use Rattle.std.proofs.Common.{◌≡◌, ◌+◌, ◌*◌, drop, map, length, false}
use Rattle.rust_v0.specs.Grammar.{part_of}
use Rattle.rust_v0.specs.State.{state_of}
use Rattle.rust_v0.specs.Reads.{bindings, more_items, parts_reading, reads}
use Rattle.rust_v0.proofs.printer.Printer.+read.Given as goal

abbrev pub decreases-read : goal.decreases-read
decreases-read l = 16 * l.levels

abbrev pub decreases-rule : goal.decreases-rule
decreases-rule l = 16 * l.inner + 11

abbrev pub decreases-part : goal.decreases-part
decreases-part l = 16 * l.inner + 10

abbrev pub decreases-nested : goal.decreases-nested
decreases-nested l = 16 * l.inner + 9

abbrev pub decreases-hidden : goal.decreases-hidden
decreases-hidden l = 16 * l.levels + 1

abbrev pub decreases-place : goal.decreases-place
decreases-place l = 16 * l.inner + 2

abbrev pub decreases-reference : goal.decreases-reference
decreases-reference l = 16 * l.inner + 9

abbrev pub decreases-list : goal.decreases-list
decreases-list l = 16 * l.inner + 6

abbrev pub decreases-more : goal.decreases-more
decreases-more l = 16 * l.inner + 5

abbrev pub decreases-item : goal.decreases-item
decreases-item l = 16 * l.inner + 4

abbrev pub decreases-value : goal.decreases-value
decreases-value l = 16 * l.inner + 1

abbrev pub decreases-bounded_trait : goal.decreases-bounded_trait
decreases-bounded_trait l = 16 * l.inner + 3

abbrev pub decreases-bindings : goal.decreases-bindings
decreases-bindings l = 16 * l.inner + 2

abbrev pub decreases-traits : goal.decreases-traits
decreases-traits l = 16 * l.inner + 7

abbrev pub decreases-contents : goal.decreases-contents
decreases-contents l = 16 * l.inner + 7

abbrev pub decreases-returned : goal.decreases-returned
decreases-returned l = 16 * l.inner + 1

abbrev pub invariant-rule-loop-part : goal.invariant-rule-loop-part
invariant-rule-loop-part l =
    parts_reading (reads l.inner) (map part_of (drop l.part-index l.parts)) (state_of l.self)
    ≡ parts_reading (reads l.inner) (map part_of l.parts) (state_of l.initial.self)

abbrev pub invariant-more-loop-turns : goal.invariant-more-loop-turns
invariant-more-loop-turns l =
    more_items (reads l.inner) l.item l.between l.turns (state_of l.self)
    ≡ more_items (reads l.inner) l.item l.between (length l.fn.self.rest.now) (state_of l.fn.self)

abbrev pub decreases-more-loop-turns : goal.decreases-more-loop-turns
decreases-more-loop-turns l = l.turns

abbrev pub invariant-bindings-loop-turns : goal.invariant-bindings-loop-turns
invariant-bindings-loop-turns l =
    bindings (reads l.inner) l.is_after l.is_bound l.turns (state_of l.self)
    ≡ bindings (reads l.inner) l.fn.is_open false (length l.fn.self.rest.now) (state_of l.fn.self)

abbrev pub decreases-bindings-loop-turns : goal.decreases-bindings-loop-turns
decreases-bindings-loop-turns l = l.turns
