-- Numbers that may be there, as C gets them.
-- Own: beside a 0 where there is none.
use Rattle.std.specs.Prelude.{ℕ, Option, Some, None}
use Rattle.addr2line_c.specs.declared.parts.NumberPart.{NumberPart}
use Rattle.addr2line_c.specs.declared.parts.OffsetPart.{OffsetPart}

-- a number that may be there
abbrev pub number_part : Option ℕ → NumberPart
number_part None = record { value = 0; is_there = 0 }
number_part (Some n) = record { value = n; is_there = 1 }

-- an offset that may be there
abbrev pub offset_part : Option ℕ → OffsetPart
offset_part None = record { value = 0; is_there = 0 }
offset_part (Some n) = record { value = n; is_there = 1 }
