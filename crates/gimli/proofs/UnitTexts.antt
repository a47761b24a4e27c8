-- The texts of units, one after another (on specs/ItemLaws.antt).
use Rattle.gimli.proofs.Common.{◌≡◌, ℕ, zero, suc, ◌+◌, ◌-◌, ◌==◌, Bool, true, false, cond, List, [], ◌++◌, length, take, drop, IfOk, Option, Some, None, Result, Ok, Err, refl, sym, ap, subst, ◌∙◌, arith, length-append, append_assoc, AllByRecursion, flat_map, eqb-true, nil_from_length, take-append-drop, IfOk-at_ok, Error, UnknownVersion, Format, Section, is_unknown, is_before_5, Reading, ◌>>=◌, refused_if, address_size_at, fixed_at, offset_at, split_at, initial_length_at, Run, next_of, continued, run_within, UnitHeaderFields, unit_type_at, type_fields_at, fields_4_at, fields_5_at, header_fields_at, unit_header_at, next_header_at, unit_text, UnitsCover, EntriesFollowHeaders}
use Rattle.std.proofs.Math.Seq.{drop-append_seam}
use Rattle.gimli.specs.Entries.{unit_length}
use Rattle.gimli.proofs.FrontLemmas.{IsFront, header_front}

-- a unit begins where its header says
record Begins (offset : ℕ) (r : Result UnitHeaderFields Error) : Type 0 where
  by : IfOk r (λ h. h.offset.0 ≡ offset)

begins_bind : {A : Type 0} {offset : ℕ} (r : Result A Error) {f : A → Result UnitHeaderFields Error} → ((x : A) → Begins offset (f x)) → Begins offset (r >>= f)
begins_bind (Ok x) k = k x
begins_bind (Err e) k = record { by = tt }

begins_if : {offset : ℕ} (b : Bool) {r q : Result UnitHeaderFields Error} → Begins offset r → Begins offset q → Begins offset (cond b r q)
begins_if true h k = h
begins_if false h k = k

fields_5_begin : (offset size : ℕ) (format : Format) (s : Section) → Begins offset (fields_5_at offset size format s)
unfolding fields_5_at
fields_5_begin offset size format s =
    begins_bind (unit_type_at s) (λ a.
    begins_bind (address_size_at a.1) (λ b.
    begins_bind (offset_at format b.1) (λ c.
    begins_bind (type_fields_at format a.0 c.1) (λ d. record { by = refl }))))

fields_4_begin : (offset size : ℕ) (format : Format) (version : ℕ) (s : Section) → Begins offset (fields_4_at offset size format version s)
unfolding fields_4_at
fields_4_begin offset size format version s =
    begins_bind (offset_at format s) (λ a.
    begins_bind (address_size_at a.1) (λ b. record { by = refl }))

fields_begin : (offset size : ℕ) (format : Format) (s : Section) → Begins offset (header_fields_at offset size format s)
unfolding header_fields_at
fields_begin offset size format s =
    begins_bind (fixed_at 2 s) (λ v.
    begins_bind (refused_if (is_unknown v.0) UnknownVersion) (λ _.
    begins_if (is_before_5 v.0) (fields_4_begin offset size format v.0 v.1)
    (fields_5_begin offset size format v.1)))

record BeginsAt (offset : ℕ) (r : Reading UnitHeaderFields) : Type 0 where
  by : IfOk r (λ x. x.0.offset.0 ≡ offset)

begins_then : {A : Type 0} {offset : ℕ} (r : Result A Error) {f : A → Reading UnitHeaderFields} → ((x : A) → BeginsAt offset (f x)) → BeginsAt offset (r >>= f)
begins_then (Ok x) k = k x
begins_then (Err e) k = record { by = tt }

with_rest : {offset : ℕ} (r : Result UnitHeaderFields Error) (t : Section) → Begins offset r → BeginsAt offset (r >>= λ h. Ok (h, t))
with_rest (Ok h) t k = record { by = k.by }
with_rest (Err e) t k = record { by = tt }

header_begins : (section_length : ℕ) (s : Section) → BeginsAt (section_length - length s.bytes) (unit_header_at section_length s)
unfolding unit_header_at
header_begins section_length s =
    begins_then (initial_length_at s) (λ l.
    begins_then (split_at l.0.0 l.1) (λ u.
    with_rest (header_fields_at (section_length - length s.bytes) (length s.bytes - length u.1.bytes) l.0.1 u.0) u.1 (fields_begin (section_length - length s.bytes) (length s.bytes - length u.1.bytes) l.0.1 u.0)))

-- a unit, and what follows it
pub record IsUnitAt (section_length : ℕ) (s t : Section) (h : UnitHeaderFields) : Type 0 where
  pub begins : h.offset.0 ≡ section_length - length s.bytes
  pub front : IsFront s t h

header_is : (section_length : ℕ) (s t : Section) (h : UnitHeaderFields) → unit_header_at section_length s ≡ Ok (h, t) → IsUnitAt section_length s t h
header_is section_length s t h e = record {
  begins = IfOk-at_ok (λ (x : UnitHeaderFields × Section). x.0.offset.0 ≡ section_length - length s.bytes) e (header_begins section_length s).by;
  front = header_front section_length s t h e;
}

abbrev Given : Type 0
Given = Option UnitHeaderFields × Section

given_same : (p q : Given) → ◌≡◌ {A = Result Given Error} (Ok p) (Ok q) → p ≡ q
given_same p q h = cc

-- what the next header says, and that nothing is left where there is none
pub record IsNextUnit (section_length : ℕ) (s : Section) (p : Given) : Type 0 where
  pub unit : (h : UnitHeaderFields) → p.0 ≡ Some h → IsUnitAt section_length s p.1 h
  pub end : p.0 ≡ None → s.bytes ≡ []

pub record NextUnit (section_length : ℕ) (s : Section) (r : Result Given Error) : Type 0 where
  pub by : IfOk r (IsNextUnit section_length s)

pub next_unit : (section_length : ℕ) (s : Section) → NextUnit section_length s (next_header_at section_length s)
unfolding next_header_at
next_unit section_length s = at (length s.bytes == 0) refl
  where
    read : (r : Reading UnitHeaderFields) → unit_header_at section_length s ≡ r → NextUnit section_length s (r >>= λ header. Ok (Some header.0, header.1))
    read (Ok x) e = record { by = record { unit = λ h k. let is : x.0 ≡ h = cc in subst (λ y. IsUnitAt section_length s x.1 y) is (header_is section_length s x.1 x.0 e); end = λ k. absurd cc } }
    read (Err d) e = record { by = tt }

    at : (b : Bool) → (length s.bytes == 0) ≡ b → NextUnit section_length s (cond b (Ok (None, s)) (unit_header_at section_length s >>= λ header. Ok (Some header.0, header.1)))
    at true k = record { by = record { unit = λ h e. absurd cc; end = λ e. nil_from_length s.bytes (eqb-true _ _ k) } }
    at false k = read (unit_header_at section_length s) refl

-- the bytes of a unit are the front of what is left from it on
text_at : (bytes front : List ℕ) (s t : Section) (h : UnitHeaderFields) → bytes ≡ front ++ s.bytes → IsUnitAt (length bytes) s t h → unit_text bytes h ≡ take (unit_length h) s.bytes
text_at bytes front s t h e u =
    let long : length bytes ≡ length front + length s.bytes = ap length e ∙ length-append front s.bytes in
    let place : h.offset.0 ≡ length front = omega (arith, long, u.begins) in
    ap (λ (n : ℕ). take (unit_length h) (drop n bytes)) place ∙ ap (λ (xs : List ℕ). take (unit_length h) (drop (length front) xs)) e ∙ ap (take (unit_length h)) (drop-append_seam front s.bytes)

rest_bytes : (section_length : ℕ) (s t : Section) (h : UnitHeaderFields) → IsUnitAt section_length s t h → t.bytes ≡ drop (unit_length h) s.bytes
rest_bytes section_length s t h u = ap (λ (x : Section). x.bytes) u.front.rest

joined_on : (bytes front : List ℕ) (s t : Section) (h : UnitHeaderFields) → bytes ≡ front ++ s.bytes → IsUnitAt (length bytes) s t h → bytes ≡ (front ++ take (unit_length h) s.bytes) ++ t.bytes
joined_on bytes front s t h e u =
    e ∙ ap (λ (xs : List ℕ). front ++ xs) (sym (take-append-drop (unit_length h) s.bytes) ∙ ap (λ (xs : List ℕ). take (unit_length h) s.bytes ++ xs) (sym (rest_bytes (length bytes) s t h u)))
    ∙ sym (append_assoc front (take (unit_length h) s.bytes) t.bytes)

-- at most n units that stand one after another
abbrev pub headers_within : ℕ → ℕ → Section → Run UnitHeaderFields Section
headers_within section_length n s = run_within (λ t. next_of (next_header_at section_length t)) n s

cover_within : (bytes : List ℕ) (n : ℕ) (front : List ℕ) (s end : Section) → bytes ≡ front ++ s.bytes → (headers_within (length bytes) n s).end ≡ Ok end → flat_map (unit_text bytes) (headers_within (length bytes) n s).items ≡ s.bytes
unfolding run_within
cover_within bytes zero front s end e h = absurd cc
cover_within bytes (suc n) front s end e h = at (λ ahead t. cover_within bytes n ahead t end) (next_header_at (length bytes) s) (next_unit (length bytes) s).by h
  where
    at : ((ahead : List ℕ) (t : Section) → bytes ≡ ahead ++ t.bytes → (headers_within (length bytes) n t).end ≡ Ok end → flat_map (unit_text bytes) (headers_within (length bytes) n t).items ≡ t.bytes)
        → (r : Result Given Error) → IfOk r (IsNextUnit (length bytes) s) → (continued (headers_within (length bytes) n) (next_of r)).end ≡ Ok end → flat_map (unit_text bytes) (continued (headers_within (length bytes) n) (next_of r)).items ≡ s.bytes
    at ih (Err d) k q = absurd cc
    at ih (Ok (None, t)) k q = sym (k.end refl)
    at ih (Ok (Some x, t)) k q =
        let u = k.unit x refl in
        let more = ih (front ++ take (unit_length x) s.bytes) t (joined_on bytes front s t x e u) q in
        ap (λ (xs : List ℕ). xs ++ flat_map (unit_text bytes) (headers_within (length bytes) n t).items) (text_at bytes front s t x e u)
        ∙ ap (λ (xs : List ℕ). take (unit_length x) s.bytes ++ xs) (more ∙ rest_bytes (length bytes) s t x u)
        ∙ take-append-drop (unit_length x) s.bytes

pub units_cover : UnitsCover
units_cover s end h = cover_within s.bytes (length s.bytes + 1) [] s end refl h

entries_within : (bytes : List ℕ) (n : ℕ) (front : List ℕ) (s : Section) → bytes ≡ front ++ s.bytes → AllByRecursion (λ h. h.entries.bytes ≡ drop h.header_length (unit_text bytes h)) (headers_within (length bytes) n s).items
unfolding run_within
entries_within bytes zero front s e = tt
entries_within bytes (suc n) front s e = at (entries_within bytes n) (next_header_at (length bytes) s) (next_unit (length bytes) s).by
  where
    at : ((ahead : List ℕ) (t : Section) → bytes ≡ ahead ++ t.bytes → AllByRecursion (λ h. h.entries.bytes ≡ drop h.header_length (unit_text bytes h)) (headers_within (length bytes) n t).items)
        → (r : Result Given Error) → IfOk r (IsNextUnit (length bytes) s) → AllByRecursion (λ h. h.entries.bytes ≡ drop h.header_length (unit_text bytes h)) (continued (headers_within (length bytes) n) (next_of r)).items
    at ih (Err d) k = tt
    at ih (Ok (None, t)) k = tt
    at ih (Ok (Some x, t)) k =
        let u = k.unit x refl in (
          ap (λ (y : Section). y.bytes) u.front.entries ∙ ap (drop x.header_length) (sym (text_at bytes front s t x e u)),
          ih (front ++ take (unit_length x) s.bytes) t (joined_on bytes front s t x e u),
        )

pub entries_follow_headers : EntriesFollowHeaders
entries_follow_headers s = entries_within s.bytes (length s.bytes + 1) [] s refl
