-- Abbreviation tables (DWARF 5, section 7.5.3): a finite map from codes to abbreviations.
-- Own: the section's end where a code would stand ends the table too.
-- Own: a repeated code, tag 0, a children byte other than DW_CHILDREN_no and DW_CHILDREN_yes, and
-- exactly one zero in a pair are BadAbbreviation, each at its field.
use Rattle.std.specs.Prelude.{ℕ, zero, Bool, is_ok, suc, ◌+◌, ◌==◌, ◌||◌, ◌&&◌, not, List, [], ◌∷◌, ◌++◌, length, Option, Some, None, is_some, Result, Ok, Err, if◌then◌else◌, ℤ}
use Rattle.gimli_read.specs.declared.constants.DwTag.{DwTag}
use Rattle.gimli_read.specs.declared.error.Error.{Error}
use Rattle.gimli_read.specs.declared.error.Error.TheVariants.{BadAbbreviation, UnexpectedEof}
use Rattle.gimli_read.specs.declared.constants.TheConstants.{CLOSING_CODE, DW_CHILDREN_no, DW_CHILDREN_yes}
use Rattle.gimli_read.specs.declared.constants.TheConstants.DwAt.{DW_AT_null}
use Rattle.gimli_read.specs.declared.constants.TheConstants.DwForm.{DW_FORM_implicit_const, DW_FORM_null}
use Rattle.gimli_read.specs.declared.constants.TheConstants.DwTag.{DW_TAG_null}
use Rattle.gimli_read.specs.Section.{Section}
use Rattle.gimli_read.specs.Reading.{Reading, mapped, ◌>>=◌, refused_if}
use Rattle.gimli_read.specs.Number.{fixed_at}
use Rattle.gimli_read.specs.Leb128.{uleb128_at, sleb128_at}
use Rattle.gimli_read.specs.Run.{collected, run_of}
use Rattle.gimli_read.specs.Abbreviations.{Specification, Abbrev, with_code}

-- the value that an abbreviation itself has, of the form implicit_const
abbrev pub constant_at : ℕ → Section → Reading (Option ℤ)
constant_at form s =
    if form == DW_FORM_implicit_const.0 then mapped Some (sleb128_at s)
    else Ok (None, s)

-- a name, a form and a constant
abbrev pub specified : ℕ → ℕ → Option ℤ → Specification
specified name form constant =
    record { name = record { 0 = name }; form = record { 0 = form }; constant = constant }

-- the pair with which a list of attributes ends
abbrev pub is_null : ℕ → ℕ → Bool
is_null name form = name == DW_AT_null.0 && form == DW_FORM_null.0

-- a pair of which one number at least is that of an end
abbrev pub has_null : ℕ → ℕ → Bool
has_null name form = name == DW_AT_null.0 || form == DW_FORM_null.0

-- a name, a form and the value that stands here, or none where the list ends
unfoldable pub specification_at : Section → Reading (Option Specification)
specification_at s = do
  name ← uleb128_at s
  form ← uleb128_at name.1
  if is_null name.0 form.0 then Ok (None, form.1)
      else if has_null name.0 form.0 then Err BadAbbreviation
      else mapped (λ c. Some (specified name.0 form.0 c)) (constant_at form.0 form.1)

-- the pairs up to the two zeros
abbrev pub specifications_at : Section → Reading (List Specification)
specifications_at s = collected (run_of specification_at s)

-- a byte that tells whether children follow
abbrev pub tells_children : ℕ → Bool
tells_children byte = byte == DW_CHILDREN_no || byte == DW_CHILDREN_yes

-- a tag, and whether children follow
unfoldable pub declaration_head_at : Section → Reading (DwTag × Bool)
declaration_head_at s = do
  tag ← uleb128_at s
  known ← refused_if (tag.0 == DW_TAG_null.0) BadAbbreviation
  children ← fixed_at 1 tag.1
  flag ← refused_if (not (tells_children children.0)) BadAbbreviation
  Ok ((record { 0 = tag.0 }, children.0 == DW_CHILDREN_yes), children.1)

-- an abbreviation of a head and its attributes
abbrev pub coded : ℕ → DwTag × Bool → List Specification → Abbrev
coded code head attributes =
    record { code = code; tag = head.0; has_children = head.1; attributes = attributes }

-- what follows a code
unfoldable pub declaration_at : ℕ → Section → Reading Abbrev
declaration_at code s = do
  head ← declaration_head_at s
  attributes ← specifications_at head.1
  Ok (coded code head.0 attributes.0, attributes.1)

-- a head, and its first pair or the end of its pairs
abbrev pub head_and_pair_at : Section → Reading (Option Specification)
head_and_pair_at s = declaration_head_at s >>= λ head. specification_at head.1

-- the front of a table: a code, a head, and its first pair or the end of its pairs. Only whether it
-- can be read counts: at code 0 the table itself has no fault
unfoldable pub front_at : Section → Reading (Option Specification)
front_at s = do
  code ← uleb128_at s
  coded ← refused_if (code.0 == CLOSING_CODE) BadAbbreviation
  head_and_pair_at code.1

-- whether the front of a table is read: until then no memory is taken
abbrev pub has_front : Section → Bool
has_front s = is_ok (front_at s)

-- a code that the table hasn't, and what follows it; none at code 0 and at the end
unfoldable pub abbreviation_at : List Abbrev → Section → Reading (Option Abbrev)
abbreviation_at table s = if length s.bytes == 0 then Ok (None, s) else do
  code ← uleb128_at s
  if code.0 == CLOSING_CODE then Ok (None, code.1) else do
    new ← refused_if (is_some (with_code code.0 table)) BadAbbreviation
    mapped Some (declaration_at code.0 code.1)

-- the table, if nothing more is read, or what goes on with one more abbreviation
abbrev pub extended : (List Abbrev → Section → Result (List Abbrev) Error) → List Abbrev
    → Option Abbrev → Section → Result (List Abbrev) Error
extended more table None s = Ok table
extended more table (Some a) s = more (table ++ a ∷ []) s

-- the table with at most n more abbreviations
unfoldable pub table_within : ℕ → List Abbrev → Section → Result (List Abbrev) Error
table_within zero table s = Err UnexpectedEof
table_within (suc n) table s =
    abbreviation_at table s >>= λ a. extended (table_within n) table a.0 a.1

-- the table at the front of a section, of which each abbreviation takes a byte at least
abbrev pub table_at : Section → Result (List Abbrev) Error
table_at s = table_within (length s.bytes + 1) [] s
