-- The attributes of inlined entries and functions, one at a time (on specs/FoundAttributes.antt).
use Rattle.addr2line_lines.proofs.Common.{◌≡◌, ℕ, ◌==◌, ◌||◌, Bool, true, false, cond, List, [], Option, Result, Ok, Err, refl, ap, subst, ◌∙◌, count_by, eqb-true, or_parts, DW_AT_call_column, DW_AT_call_file, DW_AT_call_line, DW_AT_high_pc, DW_AT_low_pc, DW_AT_name, DW_AT_ranges, Error, UnexpectedEof, Abbrev, NamedValue, rest_of, Costed, free, Reading, ◌>>=◌, Exactly, ExactlyUnlessOomIf, Section, attributes_at, UnitRecord, RangeAttributes, Kind, InlinedAttributes, inlined_attributes_of, no_inlined_attributes, with_call, with_inlined_attribute, FoundInlined, with_inlined_found, is_name_attribute, is_linkage_name, is_origin, with_name, gives_a_range, with_range_attribute, Scope}
use Rattle.std.proofs.lemmas.Bool.{cond-false}
use Rattle.gimli_read.specs.declared.constants.DwAt.{DwAt}
use Rattle.gimli_read.specs.Leb128.{uleb128_at, uleb128_in}
use Rattle.gimli_read.specs.Costed as costed
use Rattle.addr2line_lines.specs.declared.inlined.CallSite.{CallSite}
use Rattle.addr2line_lines.specs.FoundItems.{entry_found_at, with_entry_found}
use Rattle.addr2line_lines.specs.CostedSteps.{map_at_cost, stored_if}
use Rattle.addr2line_lines.specs.FoundAttributes.{inlined_attributes_after, is_call, is_inlined_attribute}
use Rattle.addr2line_lines.specs.FoundRanges.{is_range_name}
use Rattle.addr2line_lines.specs.OpenEntries.{is_inlined_kind, is_listed, kind_of}
use Rattle.addr2line_lines.proofs.FoundRanges.{rangeless}

-- what holds of three names holds of each that is one of them
pub by_one_of : (x y z : DwAt) (P : DwAt → Type 0) → P x → P y → P z → (name : DwAt) → (name.0 == x.0 || name.0 == y.0 || name.0 == z.0) ≡ true → P name
by_one_of x y z P at_x at_y at_z name h = by_x (name.0 == x.0) refl h
  where
    same : (other : DwAt) → (name.0 == other.0) ≡ true → P other → P name
    same other e p = subst (λ (n : ℕ). P (record { 0 = n })) (let s : name.0 ≡ other.0 = eqb-true name.0 other.0 e in cc) p

    by_y : (b : Bool) → (name.0 == y.0) ≡ b → (b || name.0 == z.0) ≡ true → P name
    by_y true e h = same y e at_y
    by_y false e h = same z h at_z

    by_x : (b : Bool) → (name.0 == x.0) ≡ b → (b || name.0 == y.0 || name.0 == z.0) ≡ true → P name
    by_x true e h = same x e at_x
    by_x false e h = by_y (name.0 == y.0) refl h

-- what holds of the names of ranges holds of each of them
pub by_range_name : (P : DwAt → Type 0) → P DW_AT_low_pc → P DW_AT_high_pc → P DW_AT_ranges → (name : DwAt) → is_range_name name ≡ true → P name
by_range_name P low high ranges name h = by_one_of DW_AT_low_pc DW_AT_high_pc DW_AT_ranges P low high ranges name h

-- what holds of the names of calls holds of each of them
by_call_name : (P : DwAt → Type 0) → P DW_AT_call_file → P DW_AT_call_line → P DW_AT_call_column → (name : DwAt) → is_call name ≡ true → P name
by_call_name P file line column name h = by_one_of DW_AT_call_file DW_AT_call_line DW_AT_call_column P file line column name h

module _ (scope : Scope) (u : UnitRecord) where
  -- an attribute of the ranges says nothing of the name
  range_nameless : (name : Option Section) (a : NamedValue) → is_range_name a.name ≡ true → with_name scope u name a ≡ Ok name
  unfolding with_name
  range_nameless name a h = by_range_name (λ n. with_name scope u name (record { name = n; value = a.value }) ≡ Ok name) refl refl refl a.name h

  -- an attribute that says nothing of the name
  pub nameless : (name : Option Section) (a : NamedValue) → is_name_attribute a.name ≡ false → with_name scope u name a ≡ Ok name
  unfolding with_name
  nameless name a h =
      let p = or_parts (is_linkage_name a.name || a.name.0 == DW_AT_name.0) (is_origin a.name) h in
      let q = or_parts (is_linkage_name a.name) (a.name.0 == DW_AT_name.0) p.0 in
      cond-false _ _ _ q.0 ∙ cond-false _ _ _ q.1 ∙ cond-false _ _ _ p.1

  -- an attribute that says nothing of the call
  callless : (version : ℕ) (call : CallSite) (a : NamedValue) → is_call a.name ≡ false → with_call version call a ≡ call
  callless version call a h =
      let p = or_parts (a.name.0 == DW_AT_call_file.0 || a.name.0 == DW_AT_call_line.0) (a.name.0 == DW_AT_call_column.0) h in
      let q = or_parts (a.name.0 == DW_AT_call_file.0) (a.name.0 == DW_AT_call_line.0) p.0 in
      cond-false _ _ _ q.0 ∙ cond-false _ _ _ q.1 ∙ cond-false _ _ _ p.1

  abbrev with_call_of : InlinedAttributes → CallSite → Result InlinedAttributes Error
  with_call_of x call = Ok (record { ranges = x.ranges; name = x.name; call = call })

  abbrev with_name_of : InlinedAttributes → NamedValue → RangeAttributes → Result (Option Section) Error → Result InlinedAttributes Error
  with_name_of x a ranges r = r >>= λ name. Ok (record { ranges = ranges; name = name; call = with_call u.header.encoding.version x.call a })

  abbrev with_ranges_of : InlinedAttributes → NamedValue → Result RangeAttributes Error → Result InlinedAttributes Error
  with_ranges_of x a r = r >>= λ ranges. Ok (record { ranges = ranges; name = x.name; call = with_call u.header.encoding.version x.call a })

  -- an attribute of the ranges
  range_attribute : (x : InlinedAttributes) (a : NamedValue) → is_range_name a.name ≡ true → with_inlined_attribute scope u x a ≡ with_ranges_of x a (with_range_attribute scope.file.sections u x.ranges a)
  unfolding with_inlined_attribute
  range_attribute x a h = by_ranges (with_range_attribute scope.file.sections u x.ranges a)
    where
      by_ranges : (r : Result RangeAttributes Error) → (r >>= λ ranges. with_name_of x a ranges (with_name scope u x.name a)) ≡ with_ranges_of x a r
      by_ranges (Ok ranges) = ap (with_name_of x a ranges) (range_nameless x.name a h)
      by_ranges (Err e) = refl

  -- an attribute that says nothing of the ranges
  other_attribute : (x : InlinedAttributes) (a : NamedValue) → is_range_name a.name ≡ false → with_inlined_attribute scope u x a ≡ with_name_of x a x.ranges (with_name scope u x.name a)
  unfolding with_inlined_attribute
  other_attribute x a h = ap (λ r. r >>= λ ranges. with_name_of x a ranges (with_name scope u x.name a)) (rangeless scope.file.sections u x.ranges a h)

  -- an attribute of the call, which alone changes
  pub call_taken : (x : InlinedAttributes) (a : NamedValue) → is_call a.name ≡ true
      → with_inlined_attribute scope u x a ≡ Ok (record { ranges = x.ranges; name = x.name; call = with_call u.header.encoding.version x.call a })
  call_taken x a h =
      other_attribute x a (by_call_name (λ n. is_range_name n ≡ false) refl refl refl a.name h)
      ∙ ap (with_name_of x a x.ranges) (nameless x.name a (by_call_name (λ n. is_name_attribute n ≡ false) refl refl refl a.name h))

  -- an attribute of the ranges, which alone change
  pub ranges_taken : (x : InlinedAttributes) (a : NamedValue) → is_call a.name ≡ false → is_range_name a.name ≡ true
      → with_inlined_attribute scope u x a ≡ (with_range_attribute scope.file.sections u x.ranges a >>= λ ranges. Ok (record { ranges = ranges; name = x.name; call = x.call }))
  ranges_taken x a c h =
      range_attribute x a h ∙ ap (λ (call : CallSite). with_range_attribute scope.file.sections u x.ranges a >>= λ ranges. Ok (record { ranges = ranges; name = x.name; call = call })) (callless u.header.encoding.version x.call a c)

  -- another attribute: the name alone changes
  pub name_taken : (x : InlinedAttributes) (a : NamedValue) → is_call a.name ≡ false → is_range_name a.name ≡ false
      → with_inlined_attribute scope u x a ≡ (with_name scope u x.name a >>= λ name. Ok (record { ranges = x.ranges; name = name; call = x.call }))
  name_taken x a c h =
      other_attribute x a h ∙ ap (λ (call : CallSite). with_name scope u x.name a >>= λ name. Ok (record { ranges = x.ranges; name = name; call = call })) (callless u.header.encoding.version x.call a c)

  -- an attribute that says nothing of an inlined entry
  pub unwanted : (x : InlinedAttributes) (a : NamedValue) → is_inlined_attribute a.name ≡ false → with_inlined_attribute scope u x a ≡ Ok x
  unwanted x a h =
      let p = or_parts (is_range_name a.name || is_name_attribute a.name) (is_call a.name) h in
      let q = or_parts (is_range_name a.name) (is_name_attribute a.name) p.0 in
      other_attribute x a q.0 ∙ ap (with_name_of x a x.ranges) (nameless x.name a q.1) ∙ ap (with_call_of x) (callless u.header.encoding.version x.call a p.1)

-- an entry whose attributes follow
module _ (scope : Scope) (u : UnitRecord) (around : List Kind) (offset : ℕ) (a : Abbrev) (left : Section) (found : FoundInlined) where
  abbrev read_left : Reading (List NamedValue)
  read_left = attributes_at u.header.encoding a.attributes left

  -- what is found of the attributes of a listed entry
  abbrev pub listed_found : InlinedAttributes → Costed FoundInlined
  listed_found y = stored_if (gives_a_range scope.file.sections u y.ranges) (with_inlined_found scope.file.sections u offset (count_by is_inlined_kind around) found y)

  -- that of an entry that is listed or isn't, and what is left
  abbrev entry_read : Bool → Reading (List NamedValue) → Costed (FoundInlined × Section)
  entry_read listed read = costed.◌>>=◌ (free read) (λ x. map_at_cost (λ more. (more, x.1)) (cond {A = Costed FoundInlined} listed (costed.◌>>=◌ (free (inlined_attributes_of scope u x.0)) listed_found) (free (Ok found))))

  listed_is : (listed : Bool) → is_listed (kind_of a) around ≡ listed → entry_found_at scope u around offset a left found ≡ entry_read listed read_left
  listed_is listed h = ap (λ b. entry_read b read_left) h

  pub entry-fault : (f : Error) → is_listed (kind_of a) around ≡ true → inlined_attributes_after scope u (Ok no_inlined_attributes) read_left ≡ Err f → (entry_found_at scope u around offset a left found).given ≡ Err f
  entry-fault f h k = ap (λ c. c.given) (listed_is true h) ∙ by_read read_left k
    where
      by_read : (read : Reading (List NamedValue)) → inlined_attributes_after scope u (Ok no_inlined_attributes) read ≡ Err f → (entry_read true read).given ≡ Err f
      by_read (Ok x) k = ap (λ r. ◌>>=◌ {B = FoundInlined × Section} (r >>= λ y. (listed_found y).given) (λ more. Ok (more, x.1))) k
      by_read (Err g) k = let same : g ≡ f = cc in ap Err same

  pub entry-listed : (x : InlinedAttributes) (rest : Section) → is_listed (kind_of a) around ≡ true → inlined_attributes_after scope u (Ok no_inlined_attributes) read_left ≡ Ok x → rest_of read_left ≡ Ok rest
      → entry_found_at scope u around offset a left found ≡ map_at_cost (λ more. (more, rest)) (listed_found x)
  entry-listed x rest h k l = listed_is true h ∙ by_read read_left k l
    where
      by_read : (read : Reading (List NamedValue)) → inlined_attributes_after scope u (Ok no_inlined_attributes) read ≡ Ok x → rest_of read ≡ Ok rest → entry_read true read ≡ map_at_cost (λ more. (more, rest)) (listed_found x)
      by_read (Ok y) k l =
          ap (λ r. map_at_cost {B = FoundInlined × Section} (λ more. (more, y.1)) (costed.◌>>=◌ (free r) listed_found)) k
          ∙ ap (λ (s : Section). map_at_cost {B = FoundInlined × Section} (λ more. (more, s)) (listed_found x)) (let same : y.1 ≡ rest = cc in same)
      by_read (Err g) k l = absurd cc

  pub entry-other : (may : Bool) (rest : Section) (r : Result (Unit {0}) Error) → is_listed (kind_of a) around ≡ false → Exactly (λ _. rest) r (rest_of read_left)
      → ExactlyUnlessOomIf may (λ _. (found, rest)) r (entry_found_at scope u around offset a left found).given
  entry-other may rest r h k = by_answer r k
    where
      other_is : (read : Reading (List NamedValue)) → (entry_read false read).given ≡ (rest_of read >>= λ s. Ok (found, s))
      other_is (Err f) = refl
      other_is (Ok x) = refl

      whole : (entry_found_at scope u around offset a left found).given ≡ (rest_of read_left >>= λ s. Ok (found, s))
      whole = ap (λ c. c.given) (listed_is false h) ∙ other_is read_left

      by_answer : (r : Result (Unit {0}) Error) → Exactly (λ _. rest) r (rest_of read_left) → ExactlyUnlessOomIf may (λ _. (found, rest)) r (entry_found_at scope u around offset a left found).given
      by_answer (Ok z) k = whole ∙ ap (λ v. ◌>>=◌ {B = FoundInlined × Section} v (λ s. Ok (found, s))) k
      by_answer (Err f) k = λ _. whole ∙ ap (λ v. ◌>>=◌ {B = FoundInlined × Section} v (λ s. Ok (found, s))) k

  -- what is left after an entry is what its attributes leave
  pub entry-rest : (more : FoundInlined) (rest : Section) → (entry_found_at scope u around offset a left found).given ≡ Ok (more, rest) → rest_of read_left ≡ Ok rest
  entry-rest more rest h = by_read read_left h
    where
      by_found : (r : Result FoundInlined Error) (s : Section) → ◌>>=◌ {B = FoundInlined × Section} r (λ m. Ok (m, s)) ≡ Ok (more, rest) → s ≡ rest
      by_found (Ok m) s h = let p : ◌≡◌ {A = FoundInlined × Section} (m, s) (more, rest) = cc in ap (λ x. x.1) p
      by_found (Err f) s h = absurd cc

      by_read : (read : Reading (List NamedValue)) → (entry_read (is_listed (kind_of a) around) read).given ≡ Ok (more, rest) → rest_of read ≡ Ok rest
      by_read (Ok x) h = ap Ok (by_found (with_entry_found scope u around offset found (record { abbreviation = a; attributes = x.0 })).given x.1 h)
      by_read (Err f) h = absurd cc

-- the code of no bytes
pub empty_code : (s : Section) → s.bytes ≡ [] → uleb128_at s ≡ Err UnexpectedEof
unfolding uleb128_in
empty_code s h = ap (λ (b : List ℕ). ◌>>=◌ {B = ℕ × Section} (uleb128_in b) (λ x. Ok (x.0, record s { bytes = x.1 }))) h
