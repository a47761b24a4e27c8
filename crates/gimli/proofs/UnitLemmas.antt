-- A unit whose root entry is read has abbreviations, which take memory (on specs/Unit.antt).
use Rattle.gimli.proofs.Common.{◌≡◌, ℕ, ◌==◌, ◌||◌, Bool, true, false, cond, List, [], Option, Some, None, IfOk, Result, Ok, Err, refl, ap, sym, ◌∙◌, or_right, Error, UnknownAbbreviation, Encoding, Section, Reading, ◌>>=◌, uleb128_at, Abbrev, entry_code_at, root_specifications, root_attributes, UnitHeaderFields, Sections, from_offset, UnitRecord, completed_record, unit_by, unit_record_of}
use Rattle.gimli_read.specs.Abbrev.{abbreviation_at, table_at, has_front}
use Rattle.gimli_read.proofs.AbbrevLemmas.{table_ends, table_fault, abbreviation_front}
use Rattle.gimli.specs.Entry.{attributes_at}
use Rattle.gimli.specs.Record.{RootValues, root_values_of}
use Rattle.gimli.specs.UnitMemory.{abbreviations_take_memory, unit_takes_memory}

-- a reading of no value
record NeverOk {A : Type 0} (r : Result A Error) : Type 0 where
  by : IfOk r (λ _. ⊥)

never_bind : {A B : Type 0} {r : Result A Error} (f : A → Result B Error) → NeverOk r → NeverOk (r >>= f)
never_bind {r = Ok x} f h = absurd h.by
never_bind {r = Err e} f h = record { by = tt }

-- the entry of an empty table closes, if one is read
closing_alone : (s : Section) → IfOk (entry_code_at [] s) (λ x. x.0 ≡ None)
unfolding entry_code_at
closing_alone s = at (uleb128_at s)
  where
    at_code : (code : ℕ × Section) (b : Bool) → IfOk {T = Option Abbrev × Section} (cond b (Ok (None, code.1)) (Err UnknownAbbreviation)) (λ x. x.0 ≡ None)
    at_code code true = refl
    at_code code false = tt

    at : (r : Reading ℕ) → IfOk {T = Option Abbrev × Section} (r >>= λ code. cond (code.0 == 0) (Ok (None, code.1)) (Err UnknownAbbreviation)) (λ x. x.0 ≡ None)
    at (Ok code) = at_code code (code.0 == 0)
    at (Err e) = tt

attributes_never : (e : Encoding) (s : Section) → NeverOk (root_attributes e [] s)
unfolding root_attributes
attributes_never e s = at (entry_code_at [] s) (closing_alone s)
  where
    at : (r : Reading (Option Abbrev)) → IfOk r (λ x. x.0 ≡ None)
        → NeverOk (r >>= λ root. root_specifications root.0 >>= λ specifications. attributes_at e specifications root.1 >>= λ attributes. Ok attributes.0)
    at (Ok (None, t)) h = record { by = tt }
    at (Ok (Some a, t)) h = absurd cc
    at (Err d) h = record { by = tt }

-- no root entry is read by an empty table
root_never : (e : Encoding) (s : Section) → NeverOk (root_values_of e [] s)
unfolding root_values_of
root_never e s = never_bind _ (attributes_never e s)

-- abbreviations by which a root entry is read take memory
pub read_root_takes_memory : (e : Encoding) (rest entries : Section) (table : List Abbrev) (root : RootValues) → table_at rest ≡ Ok table → root_values_of e table entries ≡ Ok root → has_front rest ≡ true
read_root_takes_memory e rest entries table root h k = at (abbreviation_at [] rest) refl
  where
    empty : (r : Result RootValues Error) → NeverOk r → r ≡ Ok root → ⊥
    empty (Ok x) n q = n.by
    empty (Err d) n q = absurd cc

    at : (r : Reading (Option Abbrev)) → abbreviation_at [] rest ≡ r → has_front rest ≡ true
    at (Ok (None, t)) p =
        let q : Ok table ≡ Ok [] = sym h ∙ table_ends [] rest t p in
        let is : table ≡ [] = cc in
        absurd (empty (root_values_of e [] entries) (root_never e entries) (ap (λ t. root_values_of e t entries) (sym is) ∙ k))
    at (Ok (Some a, t)) p = abbreviation_front [] rest t a p
    at (Err d) p = absurd (let q : Err d ≡ Ok table = sym (table_fault [] rest d p) ∙ h in cc)

-- what a unit is whose root entry is read, and that memory may be taken for it
pub unit_is : (d : Sections) (header : UnitHeaderFields) (shares : Bool) (rest : Section) (table : List Abbrev) (root : RootValues)
    → from_offset header.debug_abbrev_offset d.debug_abbrev ≡ Ok rest → table_at rest ≡ Ok table → root_values_of header.encoding table header.entries ≡ Ok root
    → (unit_takes_memory shares d header ≡ true) × (unit_record_of d header ≡ completed_record d header table root)
unfolding unit_record_of unit_by
unit_is d header shares rest table root h k l = (
  ap (abbreviations_take_memory shares) h ∙ or_right shares (has_front rest) (read_root_takes_memory header.encoding rest header.entries table root k l),
  ap (λ (r : Result Section Error). (r >>= table_at) >>= λ t. root_values_of header.encoding t header.entries >>= λ v. completed_record d header t v) h
      ∙ ap (λ (r : Result (List Abbrev) Error). r >>= λ t. root_values_of header.encoding t header.entries >>= λ v. completed_record d header t v) k
      ∙ ap (λ (r : Result RootValues Error). r >>= λ v. completed_record d header table v) l,
)

-- so memory may be taken for a unit that is read
pub read_takes_memory : (shares : Bool) (d : Sections) (header : UnitHeaderFields) (u : UnitRecord) → unit_record_of d header ≡ Ok u → unit_takes_memory shares d header ≡ true
unfolding unit_record_of unit_by
read_takes_memory shares d header u h = by_rest (from_offset header.debug_abbrev_offset d.debug_abbrev) refl h
  where
    by_root : (rest : Section) (table : List Abbrev) (r : Result RootValues Error) → from_offset header.debug_abbrev_offset d.debug_abbrev ≡ Ok rest → table_at rest ≡ Ok table → root_values_of header.encoding table header.entries ≡ r
        → (r >>= λ v. completed_record d header table v) ≡ Ok u → unit_takes_memory shares d header ≡ true
    by_root rest table (Err e) a b c p = absurd cc
    by_root rest table (Ok root) a b c p = (unit_is d header shares rest table root a b c).0

    by_table : (rest : Section) (r : Result (List Abbrev) Error) → from_offset header.debug_abbrev_offset d.debug_abbrev ≡ Ok rest → table_at rest ≡ r
        → (r >>= λ t. root_values_of header.encoding t header.entries >>= λ v. completed_record d header t v) ≡ Ok u → unit_takes_memory shares d header ≡ true
    by_table rest (Err e) a b p = absurd cc
    by_table rest (Ok table) a b p = by_root rest table (root_values_of header.encoding table header.entries) a b refl p

    by_rest : (r : Result Section Error) → from_offset header.debug_abbrev_offset d.debug_abbrev ≡ r
        → ((r >>= table_at) >>= λ t. root_values_of header.encoding t header.entries >>= λ v. completed_record d header t v) ≡ Ok u → unit_takes_memory shares d header ≡ true
    by_rest (Err e) a p = absurd cc
    by_rest (Ok rest) a p = by_table rest (table_at rest) a refl p
