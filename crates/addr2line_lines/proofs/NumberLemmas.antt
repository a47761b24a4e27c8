-- Numbers among the attributes of inlined entries (on specs/FoundNumbers.antt).
use Rattle.addr2line_lines.proofs.Common.{◌≡◌, ℕ, ◌==◌, ◌||◌, Bool, true, false, Option, Some, None, Result, Ok, refl, ap, subst, ◌∙◌, pos, negsuc, option_or, DW_AT_abstract_origin, DW_AT_high_pc, DW_AT_low_pc, DW_AT_ranges, DW_AT_specification, Error, AttributeValue, UnitOffset, constant_of, ◌>>=◌, Section, Sections, UnitRecord, RangeAttributes, InlinedAttributes, with_call_constant, with_inlined_attribute, is_origin, or_referred_name, with_name, attr_address, with_range_attribute, Scope, referred, or_parts}
use Rattle.gimli_read.specs.declared.constants.DwAt.{DwAt}
use Rattle.gimli_read.specs.declared.number_value.NumberValue.{NumberValue}
use Rattle.gimli_read.specs.declared.number_value.NumberValue.TheVariants as numbers
use Rattle.gimli_read.specs.declared.value.AttributeValue.TheVariants as values
use Rattle.gimli_read.specs.NumberValue.{number_address, number_constant, number_if}
use Rattle.addr2line_lines.specs.FoundAttributes.{is_call}
use Rattle.addr2line_lines.specs.FoundNumbers.{is_number_name, with_range_number}
use Rattle.addr2line_lines.specs.FoundRanges.{is_address_name, is_range_name}
use Rattle.addr2line_lines.proofs.DetailLemmas.{by_one_of, by_range_name, call_taken, name_taken, ranges_taken}
use Rattle.addr2line_lines.proofs.NameLemmas.{within_none}
use Rattle.gimli_read.proofs.AttributeTexts.{attribute_of}
use Rattle.addr2line_lines.proofs.Facts.{or_again}

-- what holds of each value that is a number
by_number : (P : AttributeValue Section → NumberValue → Type 0) → ((x : ℕ) → P (values.Addr x) (numbers.Address x)) → ((x : ℕ) → P (values.Data1 x) (numbers.Constant x)) → ((x : ℕ) → P (values.Data2 x) (numbers.Constant x)) → ((x : ℕ) → P (values.Data4 x) (numbers.Constant x))
    → ((x : ℕ) → P (values.Data8 x) (numbers.Constant x)) → ((x : ℕ) → P (values.Udata x) (numbers.Constant x)) → ((x : ℕ) → P (values.Sdata (pos x)) (numbers.Constant x)) → ((x : UnitOffset) → P (values.UnitRef x) (numbers.UnitRef x)) → (v : AttributeValue Section) (n : NumberValue) → number_if v ≡ Some n → P v n
by_number P a b c d e f g o (values.Addr x) n h = subst (P (values.Addr x)) (let same : numbers.Address x ≡ n = cc in same) (a x)
by_number P a b c d e f g o (values.Data1 x) n h = subst (P (values.Data1 x)) (let same : numbers.Constant x ≡ n = cc in same) (b x)
by_number P a b c d e f g o (values.Data2 x) n h = subst (P (values.Data2 x)) (let same : numbers.Constant x ≡ n = cc in same) (c x)
by_number P a b c d e f g o (values.Data4 x) n h = subst (P (values.Data4 x)) (let same : numbers.Constant x ≡ n = cc in same) (d x)
by_number P a b c d e f g o (values.Data8 x) n h = subst (P (values.Data8 x)) (let same : numbers.Constant x ≡ n = cc in same) (e x)
by_number P a b c d e f g o (values.Udata x) n h = subst (P (values.Udata x)) (let same : numbers.Constant x ≡ n = cc in same) (f x)
by_number P a b c d e f g o (values.Sdata (pos x)) n h = subst (P (values.Sdata (pos x))) (let same : numbers.Constant x ≡ n = cc in same) (g x)
by_number P a b c d e f g o (values.Sdata (negsuc x)) n h = absurd cc
by_number P a b c d e f g o (values.UnitRef x) n h = subst (P (values.UnitRef x)) (let same : numbers.UnitRef x ≡ n = cc in same) (o x)
by_number P a b c d e f g o (values.Block x) n h = absurd cc
by_number P a b c d e f g o (values.Data16 x) n h = absurd cc
by_number P a b c d e f g o (values.Exprloc x) n h = absurd cc
by_number P a b c d e f g o (values.Flag x) n h = absurd cc
by_number P a b c d e f g o (values.SecOffset x) n h = absurd cc
by_number P a b c d e f g o (values.DebugAddrIndex x) n h = absurd cc
by_number P a b c d e f g o (values.DebugInfoRef x) n h = absurd cc
by_number P a b c d e f g o (values.DebugInfoRefSup x) n h = absurd cc
by_number P a b c d e f g o (values.DebugTypesRef x) n h = absurd cc
by_number P a b c d e f g o (values.DebugLocListsIndex x) n h = absurd cc
by_number P a b c d e f g o (values.DebugRngListsIndex x) n h = absurd cc
by_number P a b c d e f g o (values.DebugStrRef x) n h = absurd cc
by_number P a b c d e f g o (values.DebugStrRefSup x) n h = absurd cc
by_number P a b c d e f g o (values.DebugStrOffsetsIndex x) n h = absurd cc
by_number P a b c d e f g o (values.DebugLineStrRef x) n h = absurd cc
by_number P a b c d e f g o (values.String x) n h = absurd cc

-- the constant that the value is
pub as_constant : (v : AttributeValue Section) (n : NumberValue) → number_if v ≡ Some n → constant_of v ≡ number_constant n
as_constant v n h = by_number (λ w m. constant_of w ≡ number_constant m) (λ x. refl) (λ x. refl) (λ x. refl) (λ x. refl) (λ x. refl) (λ x. refl) (λ x. refl) (λ x. refl) v n h

-- the address that it is
as_address : (d : Sections) (u : UnitRecord) (v : AttributeValue Section) (n : NumberValue) → number_if v ≡ Some n → attr_address d u v ≡ Ok (number_address n)
as_address d u v n h = by_number (λ w m. attr_address d u w ≡ Ok (number_address m)) (λ x. refl) (λ x. refl) (λ x. refl) (λ x. refl) (λ x. refl) (λ x. refl) (λ x. refl) (λ x. refl) v n h

-- the name by it, where it is a reference
abbrev pub name_by_number : Scope → UnitRecord → Option Section → NumberValue → Result (Option Section) Error
name_by_number scope u found (numbers.UnitRef offset) = or_referred_name scope u found (values.UnitRef offset)
name_by_number scope u found _ = Ok found

-- where it is none
pub no_reference : (scope : Scope) (u : UnitRecord) (found : Option Section) (n : NumberValue) → ((offset : UnitOffset) → n ≡ numbers.UnitRef offset → ⊥) → name_by_number scope u found n ≡ Ok found
no_reference scope u found (numbers.UnitRef offset) h = absurd (h offset refl)
no_reference scope u found (numbers.Address x) h = refl
no_reference scope u found (numbers.Constant x) h = refl

-- another value refers to no entry
unreferred : (scope : Scope) (u : UnitRecord) (found : Option Section) (v : AttributeValue Section) → referred scope u v ≡ Ok None → or_referred_name scope u found v ≡ Ok found
unreferred scope u (Some name) v h = refl
unreferred scope u None v h = within_none 16 15 scope u v refl h

as_reference : (scope : Scope) (u : UnitRecord) (found : Option Section) (v : AttributeValue Section) (n : NumberValue) → number_if v ≡ Some n → or_referred_name scope u found v ≡ name_by_number scope u found n
as_reference scope u found v n h =
    by_number (λ w m. or_referred_name scope u found w ≡ name_by_number scope u found m) (λ x. unreferred scope u found (values.Addr x) refl) (λ x. unreferred scope u found (values.Data1 x) refl) (λ x. unreferred scope u found (values.Data2 x) refl) (λ x. unreferred scope u found (values.Data4 x) refl)
    (λ x. unreferred scope u found (values.Data8 x) refl) (λ x. unreferred scope u found (values.Udata x) refl) (λ x. unreferred scope u found (values.Sdata (pos x)) refl) (λ x. refl) v n h

-- low_pc or high_pc
pub address_number : (d : Sections) (u : UnitRecord) (r : RangeAttributes) (name : DwAt) (v : AttributeValue Section) (n : NumberValue) → number_if v ≡ Some n → is_address_name name ≡ true → with_range_attribute d u r (attribute_of name v) ≡ Ok (with_range_number r name n)
unfolding with_range_attribute
address_number d u r name v n h is =
    by_one_of DW_AT_low_pc DW_AT_high_pc DW_AT_high_pc (λ k. with_range_attribute d u r (attribute_of k v) ≡ Ok (with_range_number r k n)) (ap with_low address) high high name (or_again (name.0 == DW_AT_low_pc.0) (name.0 == DW_AT_high_pc.0) is)
  where
    address : attr_address d u v ≡ Ok (number_address n)
    address = as_address d u v n h

    with_low : Result (Option ℕ) Error → Result RangeAttributes Error
    with_low a = a >>= λ low. Ok (record r { low_pc = option_or low r.low_pc })

    with_high : Option ℕ → Result (Option ℕ) Error → Result RangeAttributes Error
    with_high size a = a >>= λ high. Ok (record r { high_pc = option_or high r.high_pc; size = option_or size r.size })

    high : with_range_attribute d u r (attribute_of DW_AT_high_pc v) ≡ Ok (with_range_number r DW_AT_high_pc n)
    high = ap (with_high (constant_of v)) address ∙ ap (λ c. with_high c (Ok (number_address n))) (as_constant v n h)

range_number : (d : Sections) (u : UnitRecord) (r : RangeAttributes) (name : DwAt) (v : AttributeValue Section) (n : NumberValue) → number_if v ≡ Some n → is_range_name name ≡ true → is_number_name name ≡ true → with_range_attribute d u r (attribute_of name v) ≡ Ok (with_range_number r name n)
range_number d u r name v n h is number =
    by_range_name (λ k. is_number_name k ≡ true → with_range_attribute d u r (attribute_of k v) ≡ Ok (with_range_number r k n)) (λ _. address_number d u r DW_AT_low_pc v n h refl) (λ _. address_number d u r DW_AT_high_pc v n h refl) (λ no. absurd cc) name is number

-- a name of numbers that is of or_parts a call nor a range is an origin's
origin_is : (name : DwAt) → is_call name ≡ false → is_range_name name ≡ false → is_number_name name ≡ true → is_origin name ≡ true
origin_is name c r h =
    let p = or_parts (name.0 == DW_AT_low_pc.0 || name.0 == DW_AT_high_pc.0) (name.0 == DW_AT_ranges.0) r in
    let q = or_parts (name.0 == DW_AT_low_pc.0) (name.0 == DW_AT_high_pc.0) p.0 in
    last (is_call name) (name.0 == DW_AT_low_pc.0) (name.0 == DW_AT_high_pc.0) (is_origin name) c q.0 q.1 h
  where
    last : (w x y z : Bool) → w ≡ false → x ≡ false → y ≡ false → (w || (x || y) || z) ≡ true → z ≡ true
    last true x y z h k l m = absurd cc
    last false true y z h k l m = absurd cc
    last false false true z h k l m = absurd cc
    last false false false z h k l m = m

origin_name : (scope : Scope) (u : UnitRecord) (found : Option Section) (name : DwAt) (v : AttributeValue Section) → is_origin name ≡ true → with_name scope u found (attribute_of name v) ≡ or_referred_name scope u found v
unfolding with_name
origin_name scope u found name v is =
    by_one_of DW_AT_abstract_origin DW_AT_specification DW_AT_specification (λ k. with_name scope u found (attribute_of k v) ≡ or_referred_name scope u found v) refl refl refl name (or_again (name.0 == DW_AT_abstract_origin.0) (name.0 == DW_AT_specification.0) is)

module _ (scope : Scope) (u : UnitRecord) (x : InlinedAttributes) (name : DwAt) (v : AttributeValue Section) (n : NumberValue) (is : number_if v ≡ Some n) where
  -- a number of a call
  pub call_number : is_call name ≡ true → with_inlined_attribute scope u x (attribute_of name v) ≡ Ok (record { ranges = x.ranges; name = x.name; call = with_call_constant u.header.encoding.version x.call name (number_constant n) })
  call_number c = call_taken scope u x (attribute_of name v) c ∙ ap (λ k. Ok (record { ranges = x.ranges; name = x.name; call = with_call_constant u.header.encoding.version x.call name k })) (as_constant v n is)

  -- a number of a range
  pub ranges_number : is_call name ≡ false → is_range_name name ≡ true → is_number_name name ≡ true → with_inlined_attribute scope u x (attribute_of name v) ≡ Ok (record { ranges = with_range_number x.ranges name n; name = x.name; call = x.call })
  ranges_number c r h =
      ranges_taken scope u x (attribute_of name v) c r
      ∙ ap (λ (given : Result RangeAttributes Error). given >>= λ ranges. Ok (record { ranges = ranges; name = x.name; call = x.call })) (range_number scope.file.sections u x.ranges name v n is r h)

  -- a number of an origin
  pub origin_number : is_call name ≡ false → is_range_name name ≡ false → is_number_name name ≡ true
      → with_inlined_attribute scope u x (attribute_of name v) ≡ (name_by_number scope u x.name n >>= λ named. Ok (record { ranges = x.ranges; name = named; call = x.call }))
  origin_number c r h =
      name_taken scope u x (attribute_of name v) c r
      ∙ ap (λ (given : Result (Option Section) Error). given >>= λ named. Ok (record { ranges = x.ranges; name = named; call = x.call })) (origin_name scope u x.name name v (origin_is name c r h) ∙ as_reference scope u x.name v n is)
