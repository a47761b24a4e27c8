-- Units that are read from the headers of a section, one after another.
use Rattle.std.proofs.Common.{◌≡◌, List, [], ◌∷◌, ◌++◌, map, Option, Some, None, Result, Ok, Err, refl, ap, subst, sym, ◌∙◌}
use Rattle.std.specs.Prelude.{filter_map}
use Rattle.gimli_read.specs.declared.error.Error.{Error}
use Rattle.gimli_read.specs.Reading.{◌>>=◌, result_map}
use Rattle.gimli_read.specs.Yields.{next_given}
use Rattle.gimli.specs.Header.{UnitHeaderFields}
use Rattle.gimli.specs.HeaderOrder.{AreHeadersInOrder}
use Rattle.gimli.specs.Sections.{Sections}
use Rattle.gimli.specs.Unit.{UnitRecord, unit_record_of}
use Rattle.addr2line_lines.specs.References.{AreInOrder}
use Rattle.addr2line_lines.specs.Rows.{read_all}
use Rattle.addr2line_lines.specs.UnitsOfHeaders.{units_of}
use Rattle.addr2line_lines.proofs.UnitOrder.{kept_in_order, record_header}

abbrev pub Headers : Type 0
Headers = List (Result UnitHeaderFields Error)

abbrev given : Option UnitHeaderFields → Headers → Result (Option UnitHeaderFields × Headers) Error
given x xs = Ok (x, xs)

same_parts : (x y : Option UnitHeaderFields) (xs ys : Headers) → given x xs ≡ given y ys → (x ≡ y) × (xs ≡ ys)
same_parts x y xs ys h =
    let pairs : ◌≡◌ {A = Option UnitHeaderFields × Headers} (x, xs) (y, ys) = cc in
    (ap (λ (p : Option UnitHeaderFields × Headers). p.0) pairs, ap (λ (p : Option UnitHeaderFields × Headers). p.1) pairs)

same_header : (x y : UnitHeaderFields) → ◌≡◌ {A = Option UnitHeaderFields} (Some x) (Some y) → x ≡ y
same_header x y h = cc

-- a header that is given stands first
pub first_given : (xs : Headers) (x : UnitHeaderFields) (rest : Headers) → next_given xs ≡ given (Some x) rest → xs ≡ Ok x ∷ rest
first_given [] x rest h = absurd (let e = (same_parts None (Some x) [] rest h).0 in cc)
first_given (Ok y ∷ ys) x rest h =
    let same = same_parts (Some y) (Some x) ys rest h in
    let head : y ≡ x = same_header y x same.0 in
    let tail : ys ≡ rest = same.1 in cc
first_given (Err e ∷ ys) x rest h = absurd cc

-- where none is given none is left
pub none_given : (xs rest : Headers) → next_given xs ≡ given None rest → xs ≡ []
none_given [] rest h = refl
none_given (Ok y ∷ ys) rest h = absurd (let e = (same_parts (Some y) None ys rest h).0 in cc)
none_given (Err e ∷ ys) rest h = absurd cc

-- the unit of a header, none of which is passed over
abbrev pub read_of : Sections → UnitHeaderFields → Result (Option UnitRecord) Error
read_of d h = unit_record_of d h >>= λ u. Ok (Some u)

-- the units of all headers are these and those of the headers that are left
abbrev pub AreReadUpTo : Sections → Headers → List UnitRecord → Headers → Type 0
AreReadUpTo d all units left = (us : List UnitRecord) → units_of (read_of d) left ≡ Ok us → units_of (read_of d) all ≡ Ok (units ++ us)

same_headers : (xs ys : Headers) → ◌≡◌ {A = Result Headers Error} (Ok xs) (Ok ys) → xs ≡ ys
same_headers xs ys e = cc

-- before the first unit
pub none_read : (d : Sections) (all left : Headers) (units : List UnitRecord) → units ≡ [] → ◌≡◌ {A = Result Headers Error} (Ok all) (Ok left) → AreReadUpTo d all units left
none_read d all left units none same =
    subst (λ (us : List UnitRecord). AreReadUpTo d all us left) (sym none)
    (subst (λ (hs : Headers). AreReadUpTo d all [] hs) (same_headers all left same) (λ us e. e))

same_units : (us vs : List UnitRecord) → ◌≡◌ {A = Result (List UnitRecord) Error} (Ok us) (Ok vs) → us ≡ vs
same_units us vs e = cc

one_more : (u : UnitRecord) (q : Result (List (Option UnitRecord)) Error) (us : List UnitRecord)
    → ◌≡◌ {A = Result (List UnitRecord) Error} (q >>= λ units. Ok (filter_map (λ x. x) units)) (Ok us)
    → ◌≡◌ {A = Result (List UnitRecord) Error} (result_map (λ xs. Some u ∷ xs) q >>= λ units. Ok (filter_map (λ x. x) units)) (Ok (u ∷ us))
one_more u (Ok xs) us e = ap (λ (vs : List UnitRecord). Ok (u ∷ vs)) (same_units (filter_map (λ x. x) xs) us e)
one_more u (Err f) us e = absurd cc

read_step : (d : Sections) (h : UnitHeaderFields) (u : UnitRecord) (rest : Headers) (us : List UnitRecord) → unit_record_of d h ≡ Ok u → units_of (read_of d) rest ≡ Ok us → units_of (read_of d) (Ok h ∷ rest) ≡ Ok (u ∷ us)
read_step d h u rest us k e = rw k (one_more u (read_all (map (λ x. x >>= read_of d) rest)) us e)

append_assoc : (xs : List UnitRecord) (u : UnitRecord) (us : List UnitRecord) → (xs ++ u ∷ []) ++ us ≡ xs ++ u ∷ us
append_assoc [] u us = refl
append_assoc (x ∷ xs) u us = ap (λ (ys : List UnitRecord). x ∷ ys) (append_assoc xs u us)

append_none : (xs : List UnitRecord) → xs ++ [] ≡ xs
append_none [] = refl
append_none (x ∷ xs) = ap (λ (ys : List UnitRecord). x ∷ ys) (append_none xs)

map_same : (xs : List UnitRecord) → map (λ x. x) xs ≡ xs
map_same [] = refl
map_same (x ∷ xs) = ap (λ (ys : List UnitRecord). x ∷ ys) (map_same xs)

-- one more unit
pub read_more : (d : Sections) (all : Headers) (units : List UnitRecord) (left rest : Headers) (h : UnitHeaderFields) (u : UnitRecord)
    → next_given left ≡ given (Some h) rest → unit_record_of d h ≡ Ok u → AreReadUpTo d all units left → AreReadUpTo d all (units ++ u ∷ []) rest
read_more d all units left rest h u n k before us e =
    let there = subst (λ (xs : Headers). units_of (read_of d) xs ≡ Ok (u ∷ us)) (sym (first_given left h rest n)) (read_step d h u rest us k e) in
    before (u ∷ us) there ∙ ap (λ (vs : List UnitRecord). Ok vs) (sym (append_assoc units u us))

has_header : (d : Sections) (h : UnitHeaderFields) (x : UnitRecord) → read_of d h ≡ Ok (Some x) → x.header ≡ h
has_header d h x e = at (unit_record_of d h) refl e
  where
    same : (u : UnitRecord) → ◌≡◌ {A = Result (Option UnitRecord) Error} (Ok (Some u)) (Ok (Some x)) → u ≡ x
    same u e = cc

    at : (r : Result UnitRecord Error) → unit_record_of d h ≡ r → ◌≡◌ {A = Result (Option UnitRecord) Error} (r >>= λ u. Ok (Some u)) (Ok (Some x)) → x.header ≡ h
    at (Ok u) k e = record_header d h x (k ∙ ap (λ (v : UnitRecord). Ok v) (same u e))
    at (Err f) k e = absurd cc

-- the units of headers in order stand in order
pub read_in_order : (d : Sections) (all : Headers) (units : List UnitRecord) (left rest : Headers) → AreHeadersInOrder all → next_given left ≡ given None rest → AreReadUpTo d all units left → AreInOrder units
read_in_order d all units left rest b n read =
    let ended = subst (λ (xs : Headers). units_of (read_of d) xs ≡ Ok []) (sym (none_given left rest n)) refl in
    let whole = read [] ended ∙ ap (λ (vs : List UnitRecord). Ok vs) (append_none units) in
    subst (λ (vs : List UnitRecord). AreInOrder vs) (map_same units) (kept_in_order (λ u. u) (read_of d) (has_header d) all units b whole)
