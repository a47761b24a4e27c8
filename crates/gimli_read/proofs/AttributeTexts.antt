-- What is read is the text of an attribute, and each such text is read (on specs/Value.antt).
use Rattle.gimli_read.proofs.Common.{◌≡◌, ℕ, ◌==◌, cond, List, [], ◌++◌, Option, Some, None, Ok, refl, sym, ap, subst, ◌∙◌, inl, inr, eq-eqb, ℤ, eqb-true, eqb-false, ne_eqb, Encoding, DW_FORM_implicit_const, AttributeValue, Specification, Section, Reading, ◌>>=◌, NamedValue, value_at, implicit_of, attribute_at, section_of, IsValue, IsAttributeValue, ReadsAttribute, ReadsAttributeAlone}
use Rattle.gimli_read.specs.declared.endian.RunTimeEndian.{RunTimeEndian}
use Rattle.gimli_read.specs.declared.constants.DwAt.{DwAt}
use Rattle.gimli_read.specs.declared.value.AttributeValue.TheVariants as values
use Rattle.gimli_read.proofs.Steps.{bind_ok, branch_taken, same_rest, same_value}
use Rattle.gimli_read.proofs.ValueTexts.{value_reads, value_alone}

-- an attribute of a name
abbrev pub attribute_of : DwAt → AttributeValue Section → NamedValue
attribute_of name value = record { name = name; value = value }

-- a value that the abbreviation has, and one that is read
abbrev implicit_read : Specification → Section → Reading (NamedValue)
implicit_read x s = implicit_of x.constant >>= λ value. Ok (attribute_of x.name value, s)

abbrev value_read : Encoding → Specification → Section → Reading (NamedValue)
value_read e x s = value_at e x.form.0 s >>= λ value. Ok (attribute_of x.name value.0, value.1)

by_name : (x : Specification) (a : NamedValue) (rest : Section) → a.name ≡ x.name → ◌≡◌ {A = Reading (NamedValue)} (Ok (attribute_of x.name a.value, rest)) (Ok (a, rest))
by_name x a rest h = ap (λ n. Ok (attribute_of n a.value, rest)) (sym h)

valued_reads : (e : Encoding) (order : RunTimeEndian) (x : Specification) (text rest : List ℕ) (a : NamedValue) → a.name ≡ x.name → IsAttributeValue e order x text a.value → attribute_at e x (section_of order (text ++ rest)) ≡ Ok (a, section_of order rest)
unfolding attribute_at
valued_reads e order x text rest a named (inl u) =
    let s = section_of order (text ++ rest) in
    ap (λ b. cond b (implicit_read x s) (value_read e x s)) (eq-eqb _ _ u.0) ∙ ap (λ c. implicit_of c >>= λ value. Ok (attribute_of x.name value, s)) u.2.1 ∙ ap (λ v. Ok (attribute_of x.name v, s)) (sym u.2.2) ∙ ap (λ t. Ok (attribute_of x.name a.value, section_of order (t ++ rest))) u.1 ∙ by_name x a (section_of order rest) named
valued_reads e order x text rest a named (inr u) =
    let s = section_of order (text ++ rest) in
    ap (λ b. cond b (implicit_read x s) (value_read e x s)) (ne_eqb _ _ u.0) ∙ ap (λ r. r >>= λ value. Ok (attribute_of x.name value.0, value.1)) (value_reads e order x.form.0 text rest a.value u.1) ∙ by_name x a (section_of order rest) named

pub attribute_reads : ReadsAttribute
attribute_reads e order x text rest a u = valued_reads e order x text rest a u.named u.valued

implicit_is : (c : Option ℤ) (v : AttributeValue Section) → implicit_of c ≡ Ok v → (z : ℤ) × (c ≡ Some z) × (v ≡ values.Sdata z)
implicit_is None v h = absurd cc
implicit_is (Some z) v h = (z, refl, cc)

pub attribute_alone : ReadsAttributeAlone
unfolding attribute_at
attribute_alone e x s rest a h =
    elim (branch_taken (x.form.0 == DW_FORM_implicit_const.0) (implicit_read x s) (value_read e x s) (Ok (a, rest)) h) [
      | inl c ↦
          let b = bind_ok (implicit_of x.constant) (λ value. Ok (attribute_of x.name value, s)) (a, rest) c.1 in
          let is : attribute_of x.name b.0 ≡ a = same_value (attribute_of x.name b.0, s) (a, rest) b.2 in
          let i = implicit_is x.constant b.0 b.1 in (
            [],
            record {
              named = sym (ap (λ y. y.name) is);
              valued = inl (eqb-true _ _ c.0, refl, (i.0, i.1, sym (ap (λ y. y.value) is) ∙ i.2));
            },
            same_rest (attribute_of x.name b.0, s) (a, rest) b.2,
          )
      | inr c ↦
          let b = bind_ok (value_at e x.form.0 s) (λ value. Ok (attribute_of x.name value.0, value.1)) (a, rest) c.1 in
          let is : attribute_of x.name b.0.0 ≡ a = same_value (attribute_of x.name b.0.0, b.0.1) (a, rest) b.2 in
          let left : b.0.1 ≡ rest = same_rest (attribute_of x.name b.0.0, b.0.1) (a, rest) b.2 in
          let v = value_alone e x.form.0 s b.0.1 b.0.0 b.1 in (
            v.0,
            record {
              named = sym (ap (λ y. y.name) is);
              valued = inr (eqb-false _ _ c.0, subst (IsValue e s.endian x.form.0 v.0) (ap (λ y. y.value) is) v.1);
            },
            v.2 ∙ ap (λ u. section_of u.endian (v.0 ++ u.bytes)) left,
          )
    ]
