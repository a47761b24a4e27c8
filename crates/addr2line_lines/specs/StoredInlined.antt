-- Inlined entries as they are stored, as the private functions see them: their names, and beside
-- each the call with where the entry begins.
-- Own: a call fits in sixteen bytes where the entry's offset has 32 bits, and the index of the
-- file, if there is one, is below the greatest number of 32 bits, which stands for none.
use Rattle.std.specs.Prelude.{ℕ, ◌-◌, ◌^◌, ◌==◌, ◌&&◌, Bool, true, List, [], map, nat_lt, Option, Some, None, option_map, if◌then◌else◌}
use Rattle.std.specs.List.{zip}
use Rattle.std.specs.declared.alloc.Global.{Global}
use Rattle.std.specs.declared.rc.Rc.{Rc}
use Rattle.addr2line_lines.specs.Common.{Section}
use Rattle.addr2line_lines.specs.declared.inlined_functions.InlinedCall.{InlinedCall}
use Rattle.addr2line_lines.specs.declared.inlined_functions.ShortCall.{ShortCall}
use Rattle.addr2line_lines.specs.InlinedEntries.{InlinedEntry}
use Rattle.addr2line_lines.specs.StoredRows.{Width, Short}

-- what stands for no file
abbrev pub no_file : ℕ
no_file = 2 ^ 32 - 1

-- whether the index of a file, if there is one, fits in four bytes
abbrev pub file_fits : Option ℕ → Bool
file_fits None = true
file_fits (Some n) = nat_lt n no_file

-- the index of a file in four bytes, or what stands for none
abbrev pub short_file : Option ℕ → ℕ
short_file None = no_file
short_file (Some n) = n

-- the index of a file that four bytes stand for, if they stand for one
abbrev pub file_of_short : ℕ → Option ℕ
file_of_short n = if n == no_file then None else Some n

-- where an entry begins and the call, for which sixteen bytes stand; they need no base
abbrev pub call_of_short : ℕ → ShortCall → InlinedCall
call_of_short base c = record {
  offset = record { 0 = c.offset };
  call = record { file = file_of_short c.file; line = c.line; column = c.column };
}

-- whether where an entry begins and the call fit in sixteen bytes
abbrev pub call_fits : ℕ → InlinedCall → Bool
call_fits base c = nat_lt c.offset.0 (2 ^ 32) && file_fits c.call.file

-- no base
abbrev pub no_base : InlinedCall → ℕ
no_base c = 0

-- the name of an entry
abbrev pub stored_name : {R : Type 0} → (R → Section) → Rc (Option R) Global → Option Section
stored_name see name = option_map see name.value

-- the inlined entry of a name and a call
abbrev pub entry_of_call : Option Section → InlinedCall → InlinedEntry
entry_of_call name c = record { offset = c.offset.0; name = name; call = c.call }

-- the inlined entries of names and calls side by side
abbrev pub entries_of_calls : List (Option Section) → List InlinedCall → List InlinedEntry
entries_of_calls names calls = map (λ x. entry_of_call x.0 x.1) (zip names calls)

-- the inlined entries that are stored, and how their calls are
pub record StoredInlined : Type 0 where
  pub entries : List InlinedEntry
  pub width : Width

-- before the first one
abbrev pub no_inlined_stored : StoredInlined
no_inlined_stored = record { entries = []; width = Short 0 }
