-- The row of an identifier (DWARF 5, section 7.3.5.3): the slots in which it may stand, one after
-- another, and the first of them that is empty or has it.
-- Own: a search looks at as many slots as there are; where none of them is empty or has the
-- identifier, it finds nothing.
use Rattle.std.specs.Prelude.{ℕ, ◌+◌, ◌*◌, ◌/◌, ◌%◌, ◌^◌, ◌==◌, ◌||◌, bit_or, Bool, List, length, map, slice_index, Option, Some, None, option_and_then, if◌then◌else◌}
use Rattle.std.specs.List.{find, range_with_len}
use Rattle.package.specs.Index.{Index}

-- how far the slots of an identifier are apart: an odd number
abbrev pub step_of : ℕ → ℕ → ℕ
step_of id slot_count = bit_or (id / 2 ^ 32 % slot_count) 1

-- the slot that is looked at for an identifier after n others
unfoldable pub probe : ℕ → ℕ → ℕ → ℕ
probe id slot_count n = (id % slot_count + n * step_of id slot_count) % slot_count

-- all of them in their order
abbrev pub probes : ℕ → ℕ → List ℕ
probes id slot_count = map (probe id slot_count) (range_with_len 0 slot_count)

-- whether a search ends at a slot: it is empty, or has the identifier
abbrev pub ends_at : Index → ℕ → ℕ → Bool
ends_at index id slot = slice_index index.rows slot == 0 || slice_index index.ids slot == id

-- the number of a row, if it is one
abbrev pub row_number : ℕ → Option ℕ
row_number n = if n == 0 then None else Some n

-- the row that a slot leads to, if it isn't empty
abbrev pub row_in_slot : Index → ℕ → Option ℕ
row_in_slot index slot = row_number (slice_index index.rows slot)

-- the row of an identifier, if it has one
abbrev pub row_by_id : Index → ℕ → Option ℕ
row_by_id index id =
    option_and_then (row_in_slot index) (find (ends_at index id) (probes id (length index.ids)))
