-- What a line program gives (DWARF 5, section 6.2), and what is left of it.
-- Own: OutOfMemory may come in place of the next row only where a file is defined before it.
use Rattle.std.specs.Prelude.{◌≡◌, ◌≢◌, ◌++◌, List, [], ◌∷◌, Option, Some, None, Result, Ok, Err}
use Rattle.gimli_line.specs.Common.{Error, OutOfMemory}
use Rattle.gimli_line.specs.declared.row.LineRow.{LineRow}
use Rattle.gimli_line.specs.Header.{File, Header, Program}
use Rattle.gimli_line.specs.Opcode.{instructions_of, files_in}
use Rattle.gimli_line.specs.Rows.{rows_of}
use Rattle.gimli_line.specs.Ahead.{files_ahead}

-- the header with the files that are defined so far, the rows and at most one fault that are left,
-- the files that are defined before the next of them, and all that are still to be defined
pub record Lines : Type 0 where
  pub header : Header
  pub left : List (Result LineRow Error)
  pub ahead : List File
  pub to_define : List File

-- all that a program gives
abbrev pub lines_of : Program → Lines
lines_of p = record {
  header = p.header;
  left = rows_of p.header.line_encoding (instructions_of p.header p.program);
  ahead = files_ahead p.header.line_encoding [] (instructions_of p.header p.program).items;
  to_define = files_in (instructions_of p.header p.program).items;
}

-- what a call gave of the rows that were left, and which are left: after a refusal none.
-- OutOfMemory may be its answer instead
abbrev pub YieldsUnlessOom : {X : Type 0} → List (Result X Error) → Result (Option X) Error
    → List (Result X Error) → Type 0
YieldsUnlessOom old (Ok None) new = (old ≡ []) × (new ≡ [])
YieldsUnlessOom old (Ok (Some x)) new = old ≡ Ok x ∷ new
YieldsUnlessOom old (Err e) new = (new ≡ []) × (e ≢ OutOfMemory → old ≡ Err e ∷ [])

-- a header with more files
abbrev pub with_files : Header → List File → Header
with_files h files = record h { file_names = h.file_names ++ files }

-- the header has the first of the files ahead, and these are not defined yet
pub record HasDefined (old : Header) (ahead : List File) (new : Header) (rest : List File)
    : Type 0 where
  pub defined : List File
  pub header : new ≡ with_files old defined
  pub ahead_is : ahead ≡ defined ++ rest

-- the header that a refusal leaves has the files ahead: all of them, unless memory was refused for
-- one
pub record DefinesUpTo (old : Header) (ahead : List File) (fault : Error) (new : Header)
    : Type 0 where
  pub rest : List File
  pub some : HasDefined old ahead new rest
  pub all : fault ≢ OutOfMemory → rest ≡ []

-- the header that a call leaves has the files ahead
abbrev pub DefinesAhead : {X : Type 0} → Header → List File → Result X Error → Header → Type 0
DefinesAhead old ahead (Ok x) new = new ≡ with_files old ahead
DefinesAhead old ahead (Err e) new = DefinesUpTo old ahead e new

-- no row, no fault and no file is left
pub record IsOver (lines : Lines) : Type 0 where
  pub left : lines.left ≡ []
  pub ahead : lines.ahead ≡ []
  pub to_define : lines.to_define ≡ []
