-- How many inlined functions at an address take no memory.
-- Own: the number.
use Rattle.std.specs.Prelude.{ℕ, Bool, nat_lt, List, length}

-- the most inlined functions that take no memory
abbrev pub inline_room : ℕ
inline_room = 16

-- whether there are more
abbrev pub exceeds_inline_room : {A : Type 0} → List A → Bool
exceeds_inline_room inlined = nat_lt inline_room (length inlined)
