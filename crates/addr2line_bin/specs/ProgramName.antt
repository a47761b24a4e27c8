-- The name of the program.
-- Own: it is the last part of the path that word 0 is, or `addr2line` where it has none.
use Rattle.std.specs.Prelude.{ℕ, List, codes, unwrap_or, option_and_then, string_bytes}
use Rattle.std.specs.declared.string.String.{String}
use Rattle.std.specs.declared.alloc.Global.{Global}
use Rattle.std.specs.List.{slice_get}
use Rattle.std.specs.Path.{path_file_name}

-- the last part of the path that word 0 is, if it has one
abbrev pub program_name : List (String Global) → List ℕ
program_name words =
    unwrap_or
    (option_and_then (λ w. path_file_name (string_bytes w)) (slice_get words 0))
    (codes "addr2line")
