-- Whether a value holds bytes of its section (DWARF 5, section 7.5.5: a block, an expression and a
-- string are bytes; every other value is a number). Where bytes are shared, only these are counted.
use Rattle.std.specs.Prelude.{Bool, true, false, Result, Ok, Err}
use Rattle.gimli_read.specs.declared.error.Error.{Error}
use Rattle.gimli_read.specs.declared.value.AttributeValue.{AttributeValue}
use Rattle.gimli_read.specs.declared.value.AttributeValue.TheVariants as values
use Rattle.gimli_read.specs.Section.{Section}
use Rattle.gimli_read.specs.Form.{NamedValue, as_value}
use Rattle.gimli_read.specs.Reading.{Reading, ExactlyUnlessOomFor}

-- whether the value holds bytes
abbrev pub holds_bytes : {R : Type 0} → AttributeValue R → Bool
holds_bytes (values.Block x) = true
holds_bytes (values.Exprloc x) = true
holds_bytes (values.String x) = true
holds_bytes _ = false

-- whether a reading gives a value that holds bytes
abbrev pub gives_bytes : Reading (AttributeValue Section) → Bool
gives_bytes (Ok x) = holds_bytes x.0
gives_bytes (Err e) = false

-- whether a reading gives an attribute whose value holds bytes
abbrev pub gives_attribute_bytes : Reading (NamedValue) → Bool
gives_attribute_bytes (Ok x) = holds_bytes x.0.value
gives_attribute_bytes (Err e) = false

-- a call that reads a value; OutOfMemory only for one that holds bytes, where those are shared
abbrev pub ReadsValueUnlessOom : {R : Type 0} → Bool → (R → Section) → R → R
    → Result (AttributeValue R) Error → (Section → Reading (AttributeValue Section)) → Type 0
ReadsValueUnlessOom shares see old new result reading =
    ExactlyUnlessOomFor shares gives_bytes (λ v. (as_value see v, see new)) result
    (reading (see old))
