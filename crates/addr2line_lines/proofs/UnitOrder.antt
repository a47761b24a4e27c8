-- Units that are read from the headers of a section stand in order (on specs/References.antt).
use Rattle.addr2line_lines.proofs.Common.{ℕ, ◌≡◌, ◌+◌, ◌≤◌, List, [], ◌∷◌, map, Option, Some, None, Result, Ok, Err, arith, refl, ap, subst, sym, ◌∙◌, unwrap_or, All, All-cons, Error, Abbrev, ◌>>=◌, result_map, unit_length, Sections, UnitRecord, completed_record, program_and_low_pc_of, table_from, unit_by, unit_record_of, AreInOrder, IsBefore, read_all}
use Rattle.std.specs.Prelude.{filter_map}
use Rattle.gimli.specs.Header.{UnitHeaderFields}
use Rattle.gimli.specs.HeaderOrder.{AreHeadersInOrder, BeginFrom}
use Rattle.gimli.specs.Record.{RootValues, root_values_of}
use Rattle.addr2line_lines.specs.UnitsOfHeaders.{units_of}

-- a unit that is read has its header
record HasHeader (h : UnitHeaderFields) (r : Result UnitRecord Error) : Type 0 where
  by : (u : UnitRecord) → r ≡ Ok u → u.header ≡ h

header_then : {A : Type 0} {h : UnitHeaderFields} (r : Result A Error) {f : A → Result UnitRecord Error} → ((x : A) → HasHeader h (f x)) → HasHeader h (r >>= f)
header_then (Ok x) k = k x
header_then (Err e) k = record { by = λ u p. absurd cc }

header_is : {h : UnitHeaderFields} {v : UnitRecord} → v.header ≡ h → HasHeader h (Ok v)
header_is {h} {v} e = record { by = λ u p. let same : ◌≡◌ {A = UnitRecord} v u = cc in ap (λ (w : UnitRecord). w.header) (sym same) ∙ e }

completed_header : (d : Sections) (h : UnitHeaderFields) (table : List Abbrev) (root : RootValues) → HasHeader h (completed_record d h table root)
unfolding completed_record
completed_header d h table root =
    header_then (program_and_low_pc_of d h.encoding (unwrap_or root.addr_base 0) root) (λ start. header_is refl)

-- the unit of a header has it
pub record_header : (d : Sections) (h : UnitHeaderFields) (u : UnitRecord) → unit_record_of d h ≡ Ok u → u.header ≡ h
unfolding unit_record_of unit_by
record_header d h u e = (header_then (table_from h.debug_abbrev_offset d.debug_abbrev) (λ table. header_then (root_values_of h.encoding table h.entries) (λ root. completed_header d h table root))).by u e

-- a unit in front of others, if it isn't passed over
abbrev with_unit : {U : Type 0} → Result (Option U) Error → Result (List U) Error → Result (List U) Error
with_unit (Err e) more = Err e
with_unit (Ok None) more = more
with_unit (Ok (Some u)) more = more >>= λ us. Ok (u ∷ us)

units_step : {U : Type 0} (read : UnitHeaderFields → Result (Option U) Error) (h : UnitHeaderFields) (rest : List (Result UnitHeaderFields Error)) → units_of read (Ok h ∷ rest) ≡ with_unit (read h) (units_of read rest)
units_step {U} read h rest = at (read h) (map (λ x. x >>= read) rest)
  where
    kept : List (Option U) → Result (List U) Error
    kept units = Ok (filter_map (λ u. u) units)

    both : (o : Option U) (q : Result (List (Option U)) Error) → (result_map (λ us. o ∷ us) q >>= λ units. kept units) ≡ with_unit (Ok o) (q >>= λ units. kept units)
    both None (Ok us) = refl
    both None (Err e) = refl
    both (Some u) (Ok us) = refl
    both (Some u) (Err e) = refl

    at : (r : Result (Option U) Error) (rs : List (Result (Option U) Error)) → (read_all (r ∷ rs) >>= λ units. kept units) ≡ with_unit r (read_all rs >>= λ units. kept units)
    at (Err e) rs = refl
    at (Ok o) rs = both o (read_all rs)

-- a unit begins at an offset or after it
abbrev BeginsFrom : ℕ → UnitRecord → Type 0
BeginsFrom n u = n ≤ u.header.offset.0

no_units : {U : Type 0} (units : List U) → ◌≡◌ {A = Result (List U) Error} (Ok []) (Ok units) → [] ≡ units
no_units units e = cc

more_units : {U : Type 0} (u : U) (us units : List U) → ◌≡◌ {A = Result (List U) Error} (Ok (u ∷ us)) (Ok units) → (u ∷ us) ≡ units
more_units u us units e = cc

begin_kept : {U : Type 0} (place : U → UnitRecord) (read : UnitHeaderFields → Result (Option U) Error) → ((h : UnitHeaderFields) (x : U) → read h ≡ Ok (Some x) → (place x).header ≡ h)
    → (n : ℕ) (headers : List (Result UnitHeaderFields Error)) (units : List U) → BeginFrom n headers → units_of read headers ≡ Ok units → All (BeginsFrom n) (map place units)
begin_kept place read has n [] units b e = subst (λ us. All (BeginsFrom n) (map place us)) (no_units units e) (λ k d l. absurd (omega arith))
begin_kept place read has n (Err f ∷ rest) units b e = absurd cc
begin_kept {U} place read has n (Ok h ∷ rest) units b e = at (λ us. begin_kept place read has n rest us b.1) (read h) refl (sym (units_step read h rest) ∙ e)
  where
    more : (x : U) → read h ≡ Ok (Some x) → (q : Result (List U) Error) → ((us : List U) → q ≡ Ok us → All (BeginsFrom n) (map place us)) → ◌≡◌ {A = Result (List U) Error} (q >>= λ us. Ok (x ∷ us)) (Ok units) → All (BeginsFrom n) (map place units)
    more x k (Ok us) ih e =
        let same : (place x).header.offset.0 ≡ h.offset.0 = ap (λ (v : UnitHeaderFields). v.offset.0) (has h x k) in
        let le = b.0 in
        subst (λ vs. All (BeginsFrom n) (map place vs)) (more_units x us units e) (All-cons (BeginsFrom n) (place x) (map place us) (omega arith) (ih us refl))
    more x k (Err f) ih e = absurd cc

    at : ((us : List U) → units_of read rest ≡ Ok us → All (BeginsFrom n) (map place us)) → (r : Result (Option U) Error) → read h ≡ r → with_unit r (units_of read rest) ≡ Ok units → All (BeginsFrom n) (map place units)
    at ih (Err f) k e = absurd cc
    at ih (Ok None) k e = ih units e
    at ih (Ok (Some x)) k e = more x k (units_of read rest) ih e

-- units that are read from headers in order stand in order
pub kept_in_order : {U : Type 0} (place : U → UnitRecord) (read : UnitHeaderFields → Result (Option U) Error) → ((h : UnitHeaderFields) (x : U) → read h ≡ Ok (Some x) → (place x).header ≡ h)
    → (headers : List (Result UnitHeaderFields Error)) (units : List U) → AreHeadersInOrder headers → units_of read headers ≡ Ok units → AreInOrder (map place units)
kept_in_order place read has [] units b e = subst (λ us. AreInOrder (map place us)) (no_units units e) tt
kept_in_order place read has (Err f ∷ rest) units b e = absurd cc
kept_in_order {U} place read has (Ok h ∷ rest) units b e =
    at (λ us. kept_in_order place read has rest us b.1) (λ n us. begin_kept place read has n rest us) (read h) refl (sym (units_step read h rest) ∙ e)
  where
    more : (x : U) → read h ≡ Ok (Some x) → (q : Result (List U) Error) → ((us : List U) → q ≡ Ok us → AreInOrder (map place us)) → ((us : List U) → q ≡ Ok us → All (BeginsFrom (h.offset.0 + unit_length h)) (map place us))
        → ◌≡◌ {A = Result (List U) Error} (q >>= λ us. Ok (x ∷ us)) (Ok units) → AreInOrder (map place units)
    more x k (Ok us) ih later e =
        let ends : All (IsBefore (place x)) (map place us) = subst (λ (v : UnitHeaderFields). All (BeginsFrom (v.offset.0 + unit_length v)) (map place us)) (sym (has h x k)) (later us refl) in
        subst (λ vs. AreInOrder (map place vs)) (more_units x us units e) (ends, ih us refl)
    more x k (Err f) ih later e = absurd cc

    at : ((us : List U) → units_of read rest ≡ Ok us → AreInOrder (map place us)) → ((n : ℕ) (us : List U) → BeginFrom n rest → units_of read rest ≡ Ok us → All (BeginsFrom n) (map place us))
        → (r : Result (Option U) Error) → read h ≡ r → with_unit r (units_of read rest) ≡ Ok units → AreInOrder (map place units)
    at ih later (Err f) k e = absurd cc
    at ih later (Ok None) k e = ih units e
    at ih later (Ok (Some x)) k e = more x k (units_of read rest) ih (λ us. later (h.offset.0 + unit_length h) us b.0) e
