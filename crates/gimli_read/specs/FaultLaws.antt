-- No reading gives OutOfMemory: whatever the bytes are, it gives a value or another fault.
-- Own: a refused growth alone answers OutOfMemory, so only where a contract allows it beside what
-- is given.
use Rattle.std.specs.List.{AllByRecursion}
use Rattle.std.specs.Prelude.{ℕ, List, Result}
use Rattle.gimli_read.specs.declared.abbrev.SizedRun.{SizedRun}
use Rattle.gimli_read.specs.declared.endian.Encoding.{Encoding}
use Rattle.gimli_read.specs.declared.endian.Format.{Format}
use Rattle.gimli_read.specs.declared.error.Error.{Error}
use Rattle.gimli_read.specs.declared.size.TotalSize.{TotalSize}
use Rattle.gimli_read.specs.Section.{Section}
use Rattle.gimli_read.specs.Abbrev.{specification_at, specifications_at, declaration_at, front_at, abbreviation_at, table_at}
use Rattle.gimli_read.specs.Abbreviations.{Abbrev, Specification}
use Rattle.gimli_read.specs.Reading.{WasNotRefused}
use Rattle.gimli_read.specs.EncodedValue.{address_or_offset_at}
use Rattle.gimli_read.specs.Form.{direct_at, form_at, value_at, attribute_at, attributes_at}
use Rattle.gimli_read.specs.Leb128.{uleb128_in, sleb128_in, uleb128_at, sleb128_at}
use Rattle.gimli_read.specs.Number.{skipped_at, split_at, fixed_at, signed_byte_at, address_size_at, address_at, offset_at, null_terminated_at, initial_length_at}
use Rattle.gimli_read.specs.SizedRuns.{runs_rest, rest_after_runs}
use Rattle.gimli_read.specs.Skip.{rest_after}

-- none of the answers is OutOfMemory
abbrev pub NoneWasRefused : {X : Type 0} → List (Result X Error) → Type 0
NoneWasRefused answers = AllByRecursion (λ r. WasNotRefused r) answers

-- no reading of a number, of so many bytes or of a text does
pub record NumbersAreNotRefused : Type 0 where
  pub skipped : (n : ℕ) (s : Section) → WasNotRefused (skipped_at n s)
  pub split : (n : ℕ) (s : Section) → WasNotRefused (split_at n s)
  pub fixed : (n : ℕ) (s : Section) → WasNotRefused (fixed_at n s)
  pub signed_byte : (s : Section) → WasNotRefused (signed_byte_at s)
  pub address_size : (s : Section) → WasNotRefused (address_size_at s)
  pub address : (size : ℕ) (s : Section) → WasNotRefused (address_at size s)
  pub offset : (format : Format) (s : Section) → WasNotRefused (offset_at format s)
  pub null_terminated : (s : Section) → WasNotRefused (null_terminated_at s)
  pub initial_length : (s : Section) → WasNotRefused (initial_length_at s)
  pub uleb128_bytes : (bytes : List ℕ) → WasNotRefused (uleb128_in bytes)
  pub sleb128_bytes : (bytes : List ℕ) → WasNotRefused (sleb128_in bytes)
  pub uleb128 : (s : Section) → WasNotRefused (uleb128_at s)
  pub sleb128 : (s : Section) → WasNotRefused (sleb128_at s)

-- no reading of the value of a form does
pub record ValuesAreNotRefused : Type 0 where
  pub address_or_offset : (encoding : Encoding) (s : Section)
      → WasNotRefused (address_or_offset_at encoding s)
  pub direct : (encoding : Encoding) (form : ℕ) (s : Section)
      → WasNotRefused (direct_at encoding form s)
  pub form : (s : Section) → WasNotRefused (form_at s)
  pub value : (encoding : Encoding) (form : ℕ) (s : Section)
      → WasNotRefused (value_at encoding form s)

-- no reading of attributes does, nor does passing over them
pub record AttributesAreNotRefused : Type 0 where
  pub one : (encoding : Encoding) (x : Specification) (s : Section)
      → WasNotRefused (attribute_at encoding x s)
  pub all : (encoding : Encoding) (xs : List Specification) (s : Section)
      → WasNotRefused (attributes_at encoding xs s)
  pub after_bytes : (n : ℕ) (encoding : Encoding) (x : Specification) (s : Section)
      → WasNotRefused (rest_after n encoding x s)
  pub after_runs : (encoding : Encoding) (runs : List SizedRun) (s : Section)
      → WasNotRefused (runs_rest encoding runs s)
  pub after_all : (encoding : Encoding) (runs : List SizedRun) (last : TotalSize) (s : Section)
      → WasNotRefused (rest_after_runs encoding runs last s)

-- no reading of abbreviations does
pub record TablesAreNotRefused : Type 0 where
  pub specification : (s : Section) → WasNotRefused (specification_at s)
  pub specifications : (s : Section) → WasNotRefused (specifications_at s)
  pub declaration : (code : ℕ) (s : Section) → WasNotRefused (declaration_at code s)
  pub front : (s : Section) → WasNotRefused (front_at s)
  pub abbreviation : (table : List Abbrev) (s : Section)
      → WasNotRefused (abbreviation_at table s)
  pub table : (s : Section) → WasNotRefused (table_at s)

-- none of these readings does
pub record ReadingsAreNotRefused : Type 0 where
  pub numbers : NumbersAreNotRefused
  pub values : ValuesAreNotRefused
  pub attributes : AttributesAreNotRefused
  pub tables : TablesAreNotRefused
