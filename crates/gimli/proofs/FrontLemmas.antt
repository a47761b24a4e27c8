-- A unit's header and its entries are the bytes at the front of the section (on specs/Header.antt).
use Rattle.gimli.proofs.Common.{◌≡◌, ℕ, ◌+◌, ◌-◌, ◌≤◌, Bool, true, false, cond, not, List, length, take, drop, Option, Some, None, IfOk, Result, Ok, Err, ap, sym, refl, ◌∙◌, arith, ltb, nat_lt, length-drop, drop-drop, drop-take, length-take-le, nat_tests, IfOk-at_ok, Error, UnexpectedEof, UnsupportedAddressSize, UnknownVersion, Format, Section, first, after, is_unknown, is_before_5, Reading, ◌>>=◌, refused_if, number_of, is_address_size, address_size_at, fixed_at, offset_at, skipped_at, split_at, long_length_at, initial_length_at, UnitHeaderFields, unit_type_of, unit_type_at, dwo_id_at, signature_at, type_fields_at, fields_4_at, fields_5_at, header_fields_at, unit_header_at, next_header_at, gives_header, done, guard_ok, ne_eqb}
use Rattle.gimli_read.specs.declared.endian.Format.TheVariants.{Dwarf32, Dwarf64}
use Rattle.gimli.specs.declared.unit.UnitType.{UnitType}
use Rattle.gimli.specs.declared.unit.UnitType.TheVariants.{Compile, TypeUnit, Partial, Skeleton, SplitCompile, SplitType}

-- the second section is what follows some bytes of the first
pub record Follows (s t : Section) : Type 0 where
  pub by : ℕ
  pub within : by ≤ length s.bytes
  pub is : t ≡ after by s

follows_still : (s : Section) → Follows s s
follows_still s = record { by = 0; within = omega arith; is = refl }

follows_then : (s t u : Section) → Follows s t → Follows t u → Follows s u
follows_then s t u h k =
    let len : length t.bytes ≡ length (drop h.by s.bytes) = ap (λ (x : Section). length x.bytes) h.is in
    let inside = k.within in
    record {
      by = h.by + k.by;
      within = omega (arith, h.within, inside, len, length-drop h.by s.bytes);
      is = k.is ∙ ap (after k.by) h.is ∙ ap (λ (xs : List ℕ). record s { bytes = xs }) (drop-drop k.by h.by s.bytes);
    }

-- what a reading leaves follows what it took
record Leaves {A : Type 0} (s : Section) (r : Reading A) : Type 0 where
  by : IfOk r (λ x. Follows s x.1)

leaves_after : {A : Type 0} (s : Section) (n : ℕ) (x : A) → Leaves s (cond (ltb (length s.bytes) n) (Err UnexpectedEof) (Ok (x, after n s)))
leaves_after {A} s n x = at (ltb (length s.bytes) n) refl
  where
    at : (b : Bool) → ltb (length s.bytes) n ≡ b → Leaves {A = A} s (cond b (Err UnexpectedEof) (Ok (x, after n s)))
    at true h = record { by = tt }
    at false h = record { by = record { by = n; within = grind (arith, nat_tests); is = refl } }

leaves_bind : {A B : Type 0} {s : Section} {r : Reading A} {f : A × Section → Reading B} → Leaves s r → ((x : A × Section) → Leaves x.1 (f x)) → Leaves s (r >>= f)
leaves_bind {A} {B} {s} {r = Ok x} {f} h k = on (f x) (k x)
  where
    on : (q : Reading B) → Leaves x.1 q → Leaves s q
    on (Ok y) p = record { by = follows_then s x.1 y.1 h.by p.by }
    on (Err e) p = record { by = tt }
leaves_bind {r = Err e} h k = record { by = tt }

leaves_then : {A B : Type 0} {s : Section} (r : Result A Error) {f : A → Reading B} → ((x : A) → Leaves s (f x)) → Leaves s (r >>= f)
leaves_then (Ok x) k = k x
leaves_then (Err e) k = record { by = tt }

leaves_if : {A : Type 0} {s : Section} (b : Bool) {r q : Reading A} → Leaves s r → Leaves s q → Leaves s (cond b r q)
leaves_if true h k = h
leaves_if false h k = k

leaves_ok : {A : Type 0} {s : Section} {x : A} → Leaves s (Ok (x, s))
leaves_ok {s} = record { by = follows_still s }

leaves_err : {A : Type 0} {s : Section} {e : Error} → Leaves {A = A} s (Err e)
leaves_err = record { by = tt }

fixed_leaves : (n : ℕ) (s : Section) → Leaves s (fixed_at n s)
fixed_leaves n s = leaves_after s n (number_of s.endian n s.bytes)

skipped_leaves : (n : ℕ) (s : Section) → Leaves s (skipped_at n s)
skipped_leaves n s = leaves_after {A = Unit {0}} s n tt

offset_leaves : (format : Format) (s : Section) → Leaves s (offset_at format s)
offset_leaves Dwarf32 s = fixed_leaves 4 s
offset_leaves Dwarf64 s = fixed_leaves 8 s

long_length_leaves : (s : Section) → Leaves s (long_length_at s)
unfolding long_length_at
long_length_leaves s = leaves_bind (fixed_leaves 8 s) (λ x. leaves_ok)

initial_length_leaves : (s : Section) → Leaves s (initial_length_at s)
unfolding initial_length_at
initial_length_leaves s =
    leaves_bind (fixed_leaves 4 s) (λ x. leaves_if (nat_lt x.0 0xfffffff0) leaves_ok (leaves_if (nat_lt x.0 0xffffffff) leaves_err (long_length_leaves x.1)))

address_size_leaves : (s : Section) → Leaves s (address_size_at s)
unfolding address_size_at
address_size_leaves s =
    leaves_bind (fixed_leaves 1 s) (λ x. leaves_then (refused_if (not (is_address_size x.0)) UnsupportedAddressSize) (λ _. leaves_ok))

unit_type_leaves : (s : Section) → Leaves s (unit_type_at s)
unfolding unit_type_at
unit_type_leaves s = leaves_bind (fixed_leaves 1 s) (λ x. leaves_then (unit_type_of x.0) (λ _. leaves_ok))

dwo_id_leaves : (s : Section) → Leaves s (dwo_id_at s)
dwo_id_leaves s = leaves_bind (fixed_leaves 8 s) (λ x. leaves_ok)

signature_leaves : (format : Format) (s : Section) → Leaves s (signature_at format s)
signature_leaves format s = leaves_bind (skipped_leaves 8 s) (λ x. leaves_bind (offset_leaves format x.1) (λ y. leaves_ok))

type_fields_leaves : (format : Format) (type : UnitType) (s : Section) → Leaves s (type_fields_at format type s)
type_fields_leaves format Compile s = leaves_ok
type_fields_leaves format TypeUnit s = signature_leaves format s
type_fields_leaves format Partial s = leaves_ok
type_fields_leaves format Skeleton s = dwo_id_leaves s
type_fields_leaves format SplitCompile s = dwo_id_leaves s
type_fields_leaves format SplitType s = signature_leaves format s

-- the entries follow the header's fields, and the header has what is before them of the unit's size
pub record IsHeaderOf (size : ℕ) (s : Section) (h : UnitHeaderFields) : Type 0 where
  pub follows : Follows s h.entries
  pub long : h.header_length ≡ size - length h.entries.bytes

record Heads (size : ℕ) (s : Section) (r : Result UnitHeaderFields Error) : Type 0 where
  by : IfOk r (IsHeaderOf size s)

heads_bind : {A : Type 0} {size : ℕ} {s : Section} {r : Reading A} {f : A × Section → Result UnitHeaderFields Error} → Leaves s r → ((x : A × Section) → Heads size x.1 (f x)) → Heads size s (r >>= f)
heads_bind {A} {size} {s} {r = Ok x} {f} h k = on (f x) (k x)
  where
    on : (q : Result UnitHeaderFields Error) → Heads size x.1 q → Heads size s q
    on (Ok y) p = record { by = record { follows = follows_then s x.1 y.entries h.by p.by.follows; long = p.by.long } }
    on (Err e) p = record { by = tt }
heads_bind {r = Err e} h k = record { by = tt }

heads_after : {A : Type 0} {size : ℕ} {s : Section} (r : Result A Error) {f : A → Result UnitHeaderFields Error} → ((x : A) → Heads size s (f x)) → Heads size s (r >>= f)
heads_after (Ok x) k = k x
heads_after (Err e) k = record { by = tt }

heads_if : {size : ℕ} {s : Section} (b : Bool) {r q : Result UnitHeaderFields Error} → Heads size s r → Heads size s q → Heads size s (cond b r q)
heads_if true h k = h
heads_if false h k = k

fields_5_heads : (offset size : ℕ) (format : Format) (s : Section) → Heads size s (fields_5_at offset size format s)
unfolding fields_5_at
fields_5_heads offset size format s =
    heads_bind (unit_type_leaves s) (λ a.
    heads_bind (address_size_leaves a.1) (λ b.
    heads_bind (offset_leaves format b.1) (λ c.
    heads_bind (type_fields_leaves format a.0 c.1) (λ d. record { by = record { follows = follows_still d.1; long = refl } }))))

fields_4_heads : (offset size : ℕ) (format : Format) (version : ℕ) (s : Section) → Heads size s (fields_4_at offset size format version s)
unfolding fields_4_at
fields_4_heads offset size format version s =
    heads_bind (offset_leaves format s) (λ a.
    heads_bind (address_size_leaves a.1) (λ b. record { by = record { follows = follows_still b.1; long = refl } }))

fields_heads : (offset size : ℕ) (format : Format) (s : Section) → Heads size s (header_fields_at offset size format s)
unfolding header_fields_at
fields_heads offset size format s =
    heads_bind (fixed_leaves 2 s) (λ v.
    heads_after (refused_if (is_unknown v.0) UnknownVersion) (λ _.
    heads_if (is_before_5 v.0) (fields_4_heads offset size format v.0 v.1)
    (fields_5_heads offset size format v.1)))

-- what is split off, and what is left
pub record IsSplit (n : ℕ) (s u t : Section) : Type 0 where
  pub within : n ≤ length s.bytes
  pub part : u ≡ first n s
  pub rest : t ≡ after n s

split_is : (n : ℕ) (s : Section) → IfOk (split_at n s) (λ x. IsSplit n s x.0 x.1)
split_is n s = at (ltb (length s.bytes) n) refl
  where
    at : (b : Bool) → ltb (length s.bytes) n ≡ b → IfOk {T = Section × Section} (cond b (Err UnexpectedEof) (Ok (first n s, after n s))) (λ x. IsSplit n s x.0 x.1)
    at true h = tt
    at false h = record { within = grind (arith, nat_tests); part = refl; rest = refl }

-- header and entries together are the front of the section
pub record IsFront (s t : Section) (h : UnitHeaderFields) : Type 0 where
  pub within : h.header_length + length h.entries.bytes ≤ length s.bytes
  pub entries : h.entries ≡ after h.header_length (first (h.header_length + length h.entries.bytes) s)
  pub rest : t ≡ after (h.header_length + length h.entries.bytes) s

front_is : (n : ℕ) (s l u t : Section) (h : UnitHeaderFields) → Follows s l → IsSplit n l u t → IsHeaderOf (length s.bytes - length t.bytes) u h → IsFront s t h
front_is n s l u t h fl sp hd =
    let k = fl.by in
    let m = hd.follows.by in
    let len_l : length l.bytes ≡ length (drop k s.bytes) = ap (λ (x : Section). length x.bytes) fl.is in
    let len_u : length u.bytes ≡ length (take n l.bytes) = ap (λ (x : Section). length x.bytes) sp.part in
    let len_t : length t.bytes ≡ length (drop n l.bytes) = ap (λ (x : Section). length x.bytes) sp.rest in
    let len_e : length h.entries.bytes ≡ length (drop m u.bytes) = ap (λ (x : Section). length x.bytes) hd.follows.is in
    let head : h.header_length ≡ k + m = omega (arith, fl.within, sp.within, hd.follows.within, hd.long, len_l, len_u, len_t, len_e, length-drop k s.bytes, length-take-le n l.bytes sp.within, length-drop n l.bytes, length-drop m u.bytes) in
    let whole : h.header_length + length h.entries.bytes ≡ k + n = omega (arith, fl.within, sp.within, hd.follows.within, hd.long, len_l, len_u, len_t, len_e, length-drop k s.bytes, length-take-le n l.bytes sp.within, length-drop n l.bytes, length-drop m u.bytes) in
    let cut : after (k + m) (first (k + n) s) ≡ after m (first n (after k s)) = ap (λ (xs : List ℕ). record s { bytes = xs }) (sym (drop-drop m k (take (k + n) s.bytes)) ∙ ap (drop m) (drop-take k n s.bytes)) in
    record {
      within = omega (arith, whole, fl.within, sp.within, len_l, length-drop k s.bytes);
      entries = hd.follows.is ∙ ap (after m) (sp.part ∙ ap (first n) fl.is) ∙ sym cut ∙ ap (λ (i : ℕ). after i (first (k + n) s)) (sym head) ∙ ap (λ (i : ℕ). after h.header_length (first i s)) (sym whole);
      rest = sp.rest ∙ ap (after n) fl.is ∙ ap (λ (xs : List ℕ). record s { bytes = xs }) (drop-drop n k s.bytes) ∙ ap (λ (i : ℕ). after i s) (sym whole);
    }

record Fronts (s : Section) (r : Reading UnitHeaderFields) : Type 0 where
  by : IfOk r (λ x. IsFront s x.1 x.0)

fronts : (section_length : ℕ) (s : Section) → Fronts s (unit_header_at section_length s)
unfolding unit_header_at
fronts section_length s = from_length (initial_length_at s) (initial_length_leaves s)
  where
    from_fields : (l u t : Section) (n : ℕ) → Follows s l → IsSplit n l u t → (r : Result UnitHeaderFields Error) → Heads (length s.bytes - length t.bytes) u r → Fronts s (r >>= λ h. Ok (h, t))
    from_fields l u t n p q (Ok h) k = record { by = front_is n s l u t h p q k.by }
    from_fields l u t n p q (Err e) k = record { by = tt }

    from_split : (n : ℕ) (format : Format) (l : Section) → Follows s l → (r : Reading Section) → IfOk r (λ x. IsSplit n l x.0 x.1) → Fronts s (r >>= λ u. header_fields_at (section_length - length s.bytes) (length s.bytes - length u.1.bytes) format u.0 >>= λ h. Ok (h, u.1))
    from_split n format l p (Ok u) q = from_fields l u.0 u.1 n p q _ (fields_heads _ _ format u.0)
    from_split n format l p (Err e) q = record { by = tt }

    from_length : (r : Reading (ℕ × Format)) → Leaves s r → Fronts s (r >>= λ l. split_at l.0.0 l.1 >>= λ u. header_fields_at (section_length - length s.bytes) (length s.bytes - length u.1.bytes) l.0.1 u.0 >>= λ h. Ok (h, u.1))
    from_length (Ok l) p = from_split l.0.0 l.0.1 l.1 p.by (split_at l.0.0 l.1) (split_is l.0.0 l.1)
    from_length (Err e) p = record { by = tt }

pub header_front : (section_length : ℕ) (s t : Section) (h : UnitHeaderFields) → unit_header_at section_length s ≡ Ok (h, t) → IsFront s t h
header_front section_length s t h e = IfOk-at_ok (λ (x : UnitHeaderFields × Section). IsFront s x.1 x.0) e (fronts section_length s).by

next_some : (section_length : ℕ) (s t : Section) (h : UnitHeaderFields) → (length s.bytes ≡ 0 → ⊥) → unit_header_at section_length s ≡ Ok (h, t) → next_header_at section_length s ≡ Ok (Some h, t)
unfolding next_header_at
next_some section_length s t h some e =
    ap (λ b. cond b (Ok (None, s)) (unit_header_at section_length s >>= λ x. Ok (Some x.0, x.1))) (ne_eqb _ _ some)
    ∙ ap (λ (r : Reading UnitHeaderFields). r >>= λ x. done {A = Option UnitHeaderFields × Section} (Some x.0, x.1)) e

-- the fault of a header is that of the next one
pub next_refused : (section_length : ℕ) (s : Section) (f : Error) → (length s.bytes ≡ 0 → ⊥) → unit_header_at section_length s ≡ Err f → next_header_at section_length s ≡ Err f
unfolding next_header_at
next_refused section_length s f some e =
    ap (λ b. cond b (Ok (None, s)) (unit_header_at section_length s >>= λ x. Ok (Some x.0, x.1))) (ne_eqb _ _ some)
    ∙ ap (λ (r : Reading UnitHeaderFields). r >>= λ x. done {A = Option UnitHeaderFields × Section} (Some x.0, x.1)) e

-- the whole unit split off, and then its header passed over: its entries are left
pub next_split : (section_length : ℕ) (s t part rest left : Section) (u : Unit {0}) (h : UnitHeaderFields) → (length s.bytes ≡ 0 → ⊥) → unit_header_at section_length s ≡ Ok (h, t)
    → split_at (h.header_length + length h.entries.bytes) s ≡ Ok (part, rest) → skipped_at h.header_length part ≡ Ok (u, left)
    → next_header_at section_length s ≡ Ok (Some (record h { entries = left }), rest)
next_split section_length s t part rest left u h some e split skip =
    let n = h.header_length + length h.entries.bytes in
    let f = header_front section_length s t h e in
    let cut = guard_ok (ltb (length s.bytes) n) UnexpectedEof (first n s, after n s) (part, rest) split in
    let passed = guard_ok (ltb (length part.bytes) h.header_length) UnexpectedEof (tt, after h.header_length part) (u, left) skip in
    let part_is : first n s ≡ part = ap (λ (x : Section × Section). x.0) cut.1 in
    let rest_is : after n s ≡ rest = ap (λ (x : Section × Section). x.1) cut.1 in
    let left_is : after h.header_length part ≡ left = ap (λ (x : Unit {0} × Section). x.1) passed.1 in
    let entries : h.entries ≡ left = f.entries ∙ ap (after h.header_length) part_is ∙ left_is in
    next_some section_length s t h some e
    ∙ ap (λ (x : Section). Ok (Some (record h { entries = x }), t)) entries
    ∙ ap (λ (x : Section). Ok (Some (record h { entries = left }), x)) (f.rest ∙ rest_is)

-- so neither step is refused
pub split_fits : (section_length : ℕ) (s t : Section) (h : UnitHeaderFields) (d : Error) → unit_header_at section_length s ≡ Ok (h, t) → split_at (h.header_length + length h.entries.bytes) s ≡ Err d → ⊥
split_fits section_length s t h d e split = at (ltb (length s.bytes) n) refl split
  where
    n : ℕ
    n = h.header_length + length h.entries.bytes

    at : (b : Bool) → ltb (length s.bytes) n ≡ b → ◌≡◌ {A = Reading Section} (cond b (Err UnexpectedEof) (Ok (first n s, after n s))) (Err d) → ⊥
    at true k _ = absurd (let w = (header_front section_length s t h e).within in grind (arith, nat_tests))
    at false k x = absurd cc

pub gives_some : (section_length : ℕ) (s t : Section) (h : UnitHeaderFields) → (length s.bytes ≡ 0 → ⊥) → unit_header_at section_length s ≡ Ok (h, t) → gives_header (next_header_at section_length s) ≡ true
gives_some section_length s t h some e = ap gives_header (next_some section_length s t h some e)
