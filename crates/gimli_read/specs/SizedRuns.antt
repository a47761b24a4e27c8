-- The attributes of an entry in runs, as the private functions see it: values of known sizes, which
-- are passed over together, and after them an attribute of another size (DWARF 5, section 7.5.6).
use Rattle.std.specs.Prelude.{◌≡◌, true, List, [], ◌∷◌, Result, Ok}
use Rattle.gimli_read.specs.declared.abbrev.SizedRun.{SizedRun}
use Rattle.gimli_read.specs.declared.endian.Encoding.{Encoding}
use Rattle.gimli_read.specs.declared.error.Error.{Error}
use Rattle.gimli_read.specs.declared.size.TotalSize.{TotalSize}
use Rattle.gimli_read.specs.Section.{Section}
use Rattle.gimli_read.specs.Reading.{◌>>=◌}
use Rattle.gimli_read.specs.Number.{is_address_size, skipped_at}
use Rattle.gimli_read.specs.Abbreviations.{Specification}
use Rattle.gimli_read.specs.Form.{attributes_at, rest_of}
use Rattle.gimli_read.specs.ValueSize.{total_bytes}
use Rattle.gimli_read.specs.Skip.{rest_after}

-- what is left after a run
abbrev pub run_rest : Encoding → SizedRun → Section → Result Section Error
run_rest encoding run s = rest_after (total_bytes encoding run.size) encoding run.next s

-- what is left after runs
abbrev pub runs_rest : Encoding → List SizedRun → Section → Result Section Error
runs_rest encoding [] s = Ok s
runs_rest encoding (run ∷ runs) s = run_rest encoding run s >>= λ t. runs_rest encoding runs t

-- what is left after runs, and values of known sizes after them
abbrev pub rest_after_runs : Encoding → List SizedRun → TotalSize → Section → Result Section Error
rest_after_runs encoding runs last s =
    runs_rest encoding runs s >>= λ t. rest_of (skipped_at (total_bytes encoding last) t)

-- the runs and what follows them leave what the attributes leave, where addresses can be read
abbrev pub AreRunsOf : List Specification → List SizedRun → TotalSize → Type 0
AreRunsOf xs runs last =
    (encoding : Encoding) (s : Section) → is_address_size encoding.address_size ≡ true
    → rest_after_runs encoding runs last s ≡ rest_of (attributes_at encoding xs s)
