-- A whole number that contracts alone see, as it is made: 0, and one more than what was seen.
use Rattle.std.specs.Prelude.{ℕ, ◌+◌}
use Rattle.addr2line_lines.specs.declared.count.Node.{Node}
use Rattle.addr2line_lines.specs.declared.count.Node.TheVariants.{Zero, After}

-- the number of a node
abbrev pub node_number : Node → ℕ
node_number Zero = 0
node_number (After s) = s.value + 1
