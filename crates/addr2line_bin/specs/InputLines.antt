-- The lines of an input.
-- Own: a line ends at a line feed, and a carriage return before it is cut; a line that isn't UTF-8
-- ends the input, and so does the number of lines that 64 bits hold, and a read that fails, unless
-- its fault is of the kind OutOfMemory, as that of a refused growth is.
use Rattle.std.specs.Prelude.{◌≡◌, ◌≢◌, ◌⊎◌, ◌<◌, ◌+◌, ◌-◌, ◌^◌, ℕ, zero, suc, Bool, true, false, List, [], ◌∷◌, length, map, Option, Some, IfSome, IsSomeAnd, Result, Ok, Err, if◌then◌else◌}
use Rattle.std.specs.declared.io.ErrorKind.{ErrorKind}
use Rattle.std.specs.declared.io.ErrorKind.TheVariants.{OutOfMemory}
use Rattle.std.specs.Io.BufRead.{drop_through, ends_with_byte, first_line, strip_last}
use Rattle.std.specs.Io.{StopsAt}
use Rattle.std.specs.Io.KnownBytes.{Consumes, IsAtEnd}
use Rattle.std.specs.Str.{IsUtf8, byte}
use Rattle.addr2line_bin.specs.Address.{address_in}
use Rattle.addr2line_bin.specs.Calls.{ReadCall, ReadTo}
use Rattle.addr2line_bin.specs.Put.{plus}

-- an input: the bytes that are left and how often a line was asked for, where these are known, and
-- the last fault of a read
pub record InputState : Type 0 where
  pub bytes : Option (List ℕ)
  pub reads : Option ℕ
  pub fault : Option ErrorKind

-- a line without its end: a line feed, and a carriage return before it
abbrev pub cut_line : List ℕ → List ℕ
cut_line line = if ends_with_byte (byte "\n") line
    then strip_last (byte "\r") (strip_last (byte "\n") line) else line

-- whether there is a line, by the answer of the read; or its fault
abbrev pub line_answer : Result ℕ ErrorKind → Result Bool ErrorKind
line_answer (Ok zero) = Ok false
line_answer (Ok (suc n)) = Ok true
line_answer (Err kind) = Err kind

-- the line of the bytes that a read took: without its end, unless the read failed
abbrev pub line_of_taken : Result ℕ ErrorKind → List ℕ → List ℕ
line_of_taken (Ok zero) taken = taken
line_of_taken (Ok (suc n)) taken = cut_line taken
line_of_taken (Err kind) taken = taken

-- the calls are one read up to a line feed, which gave this answer and this line
pub record ReadsBy (result : Result Bool ErrorKind) (line : List ℕ) (calls : List ReadCall)
    : Type 0 where
  pub taken : List ℕ
  pub answer : Result ℕ ErrorKind
  pub reads : calls ≡ ReadTo (byte "\n") taken answer ∷ []
  pub gives : result ≡ line_answer answer
  pub left : line ≡ line_of_taken answer taken

-- a fault of a read that counts as the end of the input: any but one of the kind that a refused
-- growth has
abbrev pub EndsInput : Option ErrorKind → Type 0
EndsInput fault = IsSomeAnd fault (λ kind. kind ≢ OutOfMemory)

-- a call takes a line from the bytes that are left, or there are none
abbrev pub TakesLine : Bool → Option (List ℕ) → Option (List ℕ) → List ℕ → Type 0
TakesLine true old new line = IfSome old (λ xs. (0 < length xs) × (line ≡ first_line xs)
    × (new ≡ Some (drop_through (byte "\n") xs)))
TakesLine false old new line = IsAtEnd old

-- a read that failed took bytes of the next line at most, its line feed among them
abbrev pub TakesPart : Option (List ℕ) → Option (List ℕ) → Type 0
TakesPart old new = (part : List ℕ) × Consumes old new part × StopsAt part (byte "\n")

-- the same and no read fails, or there is none since a fault of the read ends the input
abbrev pub ReadsLine : Bool → InputState → InputState → List ℕ → Type 0
ReadsLine true old new line = (new.fault ≡ old.fault) × TakesLine true old.bytes new.bytes line
ReadsLine false old new line =
    ((new.fault ≡ old.fault) × TakesLine false old.bytes new.bytes line)
    ⊎ (EndsInput new.fault × TakesPart old.bytes new.bytes)

-- the lines are the first ones of the bytes, all of UTF-8, and rest is what follows them
abbrev pub StartWith : List ℕ → List (List ℕ) → List ℕ → Type 0
StartWith bytes [] rest = bytes ≡ rest
StartWith bytes (line ∷ lines) rest = (0 < length bytes)
    × (line ≡ first_line bytes) × IsUtf8 line
    × StartWith (drop_through (byte "\n") bytes) lines rest

-- the same where the bytes are known, and what follows the lines is as IsSo says
abbrev pub StartKnown : Option (List ℕ) → List (List ℕ) → (List ℕ → Type 0) → Type 0
StartKnown known lines IsSo =
    IfSome known (λ bytes. (rest : List ℕ) × StartWith bytes lines rest × IsSo rest)

-- the input ends here
abbrev pub IsInputEnd : List ℕ → Type 0
IsInputEnd rest = (rest ≡ []) ⊎ (IsUtf8 (first_line rest) → ⊥)

-- the lines are all of an input: no read failed, and a line was asked for once more
abbrev pub AreAllLines : InputState → InputState → List (List ℕ) → Type 0
AreAllLines old new lines =
    (new.fault ≡ old.fault) × (new.reads ≡ plus old.reads (length lines + 1))
    × StartKnown old.bytes lines IsInputEnd

-- the lines are all before the one at which a read failed, and nothing was asked for after it
abbrev pub AreLinesToFault : InputState → InputState → List (List ℕ) → Type 0
AreLinesToFault old new lines = (new.reads ≡ plus old.reads (length lines + 1))
    × StartKnown old.bytes lines (λ rest. TakesPart (Some rest) new.bytes)

-- the lines are the first ones of an input: no read failed, and nothing behind them was asked for
abbrev pub AreFirstLines : InputState → InputState → List (List ℕ) → Type 0
AreFirstLines old new lines =
    (new.fault ≡ old.fault) × (new.reads ≡ plus old.reads (length lines))
    × StartKnown old.bytes lines (λ rest. new.bytes ≡ Some rest)

-- the lines that were read from an input: all of them; or those up to a read whose fault ends the
-- input; or as many as 64 bits hold
abbrev pub AreLines : InputState → InputState → List (List ℕ) → Type 0
AreLines old new lines = AreAllLines old new lines
    ⊎ ((EndsInput new.fault × AreLinesToFault old new lines)
    ⊎ (AreFirstLines old new lines × (length lines ≡ 2 ^ 64 - 1)))

-- the lines are all before the one for which memory was refused
abbrev pub AreLinesToRefusal : InputState → InputState → List (List ℕ) → Type 0
AreLinesToRefusal old new lines =
    (new.fault ≡ Some OutOfMemory) × AreLinesToFault old new lines

-- the addresses that lines are
abbrev pub line_probes : List (List ℕ) → List (Option ℕ)
line_probes = map address_in
