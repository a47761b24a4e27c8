-- The unit of an offset among units in order (on specs/References.antt).
use Rattle.addr2line_lines.proofs.Common.{ℕ, zero, suc, ◌≡◌, ◌+◌, ◌-◌, ◌<◌, ◌≤◌, Bool, true, false, cond, nat_le, nat_lt, leb, List, [], ◌∷◌, length, slice_index_or, option_map, Option, Some, None, Result, Ok, Err, arith, refl, ap, subst, sym, ◌∙◌, All, IsNonDecreasingBy, IsPartitionPoint, nat_tests, Error, NoEntryAtGivenOffset, AttributeValue, UnitOffset, as_value, Section, unit_length, UnitRecord, BeginsAbove, BeginsBy, AreInOrder, EntryPlace, FileRecord, IsBefore, IsFileInOrder, IsScope, Scope, entry_in, entry_in_sup, referred, sup_scope, unit_at, or_right}
use Rattle.gimli_read.specs.declared.value.AttributeValue.TheVariants as values
use Rattle.gimli_read.specs.declared.value.DebugInfoOffset.{DebugInfoOffset}
use Rattle.gimli.specs.Header.{UnitHeaderFields}
use Rattle.gimli.specs.Offsets.{unit_offset_of, valid_in}

-- where a unit begins
abbrev pub unit_begin : UnitRecord → ℕ
unit_begin u = u.header.offset.0

-- of units in order each ends before a later one begins
pub before : (units : List UnitRecord) → AreInOrder units → (i j : ℕ) (d : UnitRecord) → i < j → j < length units → IsBefore (slice_index_or units i d) (slice_index_or units j d)
before [] h i j d lt l = absurd (omega arith)
before (u ∷ us) h i zero d lt l = absurd (omega arith)
before (u ∷ us) h zero (suc j) d lt l = h.0 j d (omega arith)
before (u ∷ us) h (suc i) (suc j) d lt l = before us h.1 i j d (omega arith) (omega arith)

-- units in order begin in order
pub units_rise : (units : List UnitRecord) → AreInOrder units → IsNonDecreasingBy unit_begin units
units_rise units h i j d le l = by_place (nat_lt i j) refl
  where
    by_place : (b : Bool) → nat_lt i j ≡ b → (slice_index_or units i d).header.offset.0 ≤ (slice_index_or units j d).header.offset.0
    by_place true e = let a = before units h i j d (grind (arith, nat_tests)) l in omega arith
    by_place false e =
        let same : i ≡ j = (let u : j ≤ i = grind (arith, nat_tests) in omega arith) in
        let f : (slice_index_or units i d).header.offset.0 ≡ (slice_index_or units j d).header.offset.0 = ap (λ n. (slice_index_or units n d).header.offset.0) same in
        omega arith

-- a unit that begins above an offset doesn't hold it
pub outside_above : (offset : ℕ) (h : UnitHeaderFields) → leb h.offset.0 offset ≡ false → unit_offset_of offset h ≡ None
outside_above offset h e =
    let above : nat_lt offset h.offset.0 ≡ true = grind (arith, nat_tests) in
    ap (λ b. cond b None (valid_in h (offset - h.offset.0))) above

-- nor does one that ends at or below it
pub outside_past : (offset : ℕ) (h : UnitHeaderFields) → h.offset.0 + unit_length h ≤ offset → unit_offset_of offset h ≡ None
outside_past offset h le = ap (λ b. cond b None (valid_in h (offset - h.offset.0))) below ∙ ap (λ b. cond b None (Some (offset - h.offset.0))) (or_right (nat_lt (offset - h.offset.0) h.header_length) _ past)
  where
    below : nat_lt offset h.offset.0 ≡ false
    below = grind (arith, nat_tests)

    past : nat_le (unit_length h) (offset - h.offset.0) ≡ true
    past = let l : unit_length h ≤ offset - h.offset.0 = omega arith in grind (arith, nat_tests)

-- where no unit holds an offset
pub none_at : (offset : ℕ) (units : List UnitRecord) → All (λ u. unit_offset_of offset u.header ≡ None) units → unit_at offset units ≡ None
none_at offset [] h = refl
none_at offset (u ∷ us) h =
    let e : unit_offset_of offset u.header ≡ None = h zero u (omega arith) in
    let more : unit_at offset us ≡ None = none_at offset us (λ k d l. h (suc k) d (omega arith)) in
    ap (λ o. elim o [ None ↦ unit_at offset us | Some inside ↦ Some (u, inside) ]) e ∙ more

-- the unit that alone may hold an offset, and the offset in it
abbrev pub placed : UnitRecord → Option ℕ → Option (UnitRecord × ℕ)
placed u inside = option_map (λ n. (u, n)) inside

-- where only one unit may hold an offset
pub one_at : (offset : ℕ) (units : List UnitRecord) (k : ℕ) (d : UnitRecord) → k < length units
    → ((i : ℕ) → i < k → unit_offset_of offset (slice_index_or units i d).header ≡ None)
    → ((i : ℕ) (d : UnitRecord) → k < i → i < length units → unit_offset_of offset (slice_index_or units i d).header ≡ None)
    → unit_at offset units ≡ placed (slice_index_or units k d) (unit_offset_of offset (slice_index_or units k d).header)
one_at offset [] k d l below above = absurd (omega arith)
one_at offset (u ∷ us) zero d l below above = first (unit_offset_of offset u.header)
  where
    first : (o : Option ℕ) → ◌≡◌ {A = Option (UnitRecord × ℕ)} (elim o [ None ↦ unit_at offset us | Some inside ↦ Some (u, inside) ]) (placed u o)
    first None = none_at offset us (λ k d l. above (suc k) d (omega arith) (omega arith))
    first (Some inside) = refl
one_at offset (u ∷ us) (suc k) d l below above =
    let e : unit_offset_of offset u.header ≡ None = below zero (omega arith) in
    let more = one_at offset us k d (omega arith) (λ i m. below (suc i) (omega arith)) (λ i d m n. above (suc i) d (omega arith) (omega arith)) in
    ap (λ o. elim o [ None ↦ unit_at offset us | Some inside ↦ Some (u, inside) ]) e ∙ more

-- an offset below which no unit begins
pub before_all : (offset begun : ℕ) (units : List UnitRecord) → begun ≡ 0 → IsPartitionPoint (BeginsBy offset) (BeginsAbove offset) units begun → unit_at offset units ≡ None
before_all offset begun units none point = none_at offset units (λ k d l. outside_above offset (slice_index_or units k d).header (point.1 k d (omega arith) l))

-- of units in order only the last that begins at or below an offset can hold it
pub last_begun : (offset begun : ℕ) (units : List UnitRecord) (u : UnitRecord) → AreInOrder units → begun ≤ length units → 0 < begun → IsPartitionPoint (BeginsBy offset) (BeginsAbove offset) units begun
    → slice_index_or units (begun - 1) u ≡ u → unit_at offset units ≡ placed u (unit_offset_of offset u.header)
last_begun offset begun units u h bound some point is = one_at offset units (begun - 1) u (omega arith) below above ∙ ap (λ v. placed v (unit_offset_of offset v.header)) is
  where
    low : (b : ℕ) → leb b offset ≡ true → b ≤ offset
    low b e = grind (arith, nat_tests)

    begins : (slice_index_or units (begun - 1) u).header.offset.0 ≤ offset
    begins = low _ (point.0 (begun - 1) u (omega arith) (omega arith))

    below : (i : ℕ) → i < begun - 1 → unit_offset_of offset (slice_index_or units i u).header ≡ None
    below i m =
        let a = before units h i (begun - 1) u m (omega arith) in
        let b = begins in
        outside_past offset (slice_index_or units i u).header (omega arith)

    above : (i : ℕ) (d : UnitRecord) → begun - 1 < i → i < length units → unit_offset_of offset (slice_index_or units i d).header ≡ None
    above i d m n = outside_above offset (slice_index_or units i d).header (point.1 i d (omega arith) n)

-- a value of another class refers to nothing
pub no_reference : {R : Type 0} (see : R → Section) (s : Scope) (u : UnitRecord) (v : AttributeValue R) → ((x : UnitOffset) → v ≡ values.UnitRef x → ⊥) → ((x : DebugInfoOffset) → v ≡ values.DebugInfoRef x → ⊥) → ((x : DebugInfoOffset) → v ≡ values.DebugInfoRefSup x → ⊥)
    → referred s u (as_value see v) ≡ Ok None
no_reference see s u (values.UnitRef x) a b c = absurd (a x refl)
no_reference see s u (values.DebugInfoRef x) a b c = absurd (b x refl)
no_reference see s u (values.DebugInfoRefSup x) a b c = absurd (c x refl)
no_reference see s u _ a b c = refl

-- the scope of an entry that is found
entry_scope : (s : Scope) (offset : ℕ) (p : EntryPlace) → entry_in s offset ≡ Ok (Some p) → p.scope ≡ s
entry_scope s offset p e = by_cases (unit_at offset s.file.units) e
  where
    by_cases : (o : Option (UnitRecord × ℕ)) → ◌≡◌ {A = Result (Option EntryPlace) Error} (elim o [ None ↦ Err (NoEntryAtGivenOffset offset) | Some x ↦ Ok (Some (record { scope = s; unit = x.0; offset = x.1 })) ]) (Ok (Some p)) → p.scope ≡ s
    by_cases None e = absurd cc
    by_cases (Some x) e = let same : ◌≡◌ {A = EntryPlace} (record { scope = s; unit = x.0; offset = x.1 }) p = cc in ap (λ q. q.scope) (sym same)

-- where units stand in order they do so where a reference leads
sup_in_order : (sup : Option FileRecord) → IsFileInOrder sup → (offset : ℕ) (p : EntryPlace) → entry_in_sup sup offset ≡ Ok (Some p) → IsScope p.scope
sup_in_order None h offset p e = absurd cc
sup_in_order (Some file) h offset p e = subst IsScope (sym (entry_scope (sup_scope file) offset p e)) (record { units = h; sup_units = tt })

pub referred_in_order : (s : Scope) (u : UnitRecord) (v : AttributeValue Section) (p : EntryPlace) → IsScope s → referred s u v ≡ Ok (Some p) → IsScope p.scope
referred_in_order s u (values.UnitRef x) p h e = let same : ◌≡◌ {A = EntryPlace} (record { scope = s; unit = u; offset = x.0 }) p = cc in subst IsScope (ap (λ q. q.scope) same) h
referred_in_order s u (values.DebugInfoRef x) p h e = subst IsScope (sym (entry_scope s x.0 p e)) h
referred_in_order s u (values.DebugInfoRefSup x) p h e = sup_in_order s.sup h.sup_units x.0 p e
referred_in_order s u _ p h e = absurd cc
