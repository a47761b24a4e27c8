-- Names of frames that take no memory where they are asked for as they stand in the source.
-- Own: a plain name is shown as the file has it: it is UTF-8, has no legacy text of Rust in its
-- language, and doesn't begin as a v0 name.
use Rattle.std.specs.Prelude.{◌≡◌, None, IfOk, IfSome}
use Rattle.std.specs.List.{AllByRecursion}
use Rattle.std.specs.Str.{IsUtf8}
use Rattle.rust_v0.specs.Name.{without_llvm, without_prefix}
use Rattle.addr2line_units.specs.EntriesFrames.{FramesResult}
use Rattle.addr2line_units.specs.Frames.{FrameRecord, NameRecord}
use Rattle.addr2line_units.specs.FramesLent.{language_text, raw_text}

-- a plain name
pub record IsPlainName (n : NameRecord) : Type 0 where
  pub utf8 : IsUtf8 n.name.bytes
  pub legacy : language_text n ≡ None
  pub v0 : without_prefix (without_llvm (raw_text n)) ≡ None

-- a frame has a plain name, or none
abbrev pub HasPlainName : FrameRecord → Type 0
HasPlainName f = IfSome f.function IsPlainName

-- each of the frames that are given, if there are any, has a plain name, or none
abbrev pub AreNamedPlain : FramesResult → Type 0
AreNamedPlain given = IfOk given (λ found. IfSome found (AllByRecursion HasPlainName))
