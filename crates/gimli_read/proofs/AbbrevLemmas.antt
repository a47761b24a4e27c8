-- What is read of an abbreviation takes bytes (on specs/Abbrev.antt).
use Rattle.gimli_read.proofs.Common.{◌≡◌, ◌≢◌, ◌⊎◌, inl, inr, is_ok, ℕ, zero, suc, ◌+◌, ◌<◌, List, [], ◌∷◌, ◌++◌, length, Option, Some, None, is_some, Result, Ok, Err, Bool, true, false, cond, IfOk, IfSome, not, ◌==◌, refl, ap, sym, ◌∙◌, arith, add-one, DW_FORM_implicit_const, Error, OutOfMemory, BadAbbreviation, Section, Reading, ◌>>=◌, refused_if, uleb128_at, Specification, Abbrev, with_code, HasDistinctCodes, constant_at, coded, is_null, has_null, tells_children, specification_at, specifications_at, declaration_head_at, declaration_at, abbreviation_at, extended, table_within, head_and_pair_at, front_at, has_front}
use Rattle.std.proofs.lemmas.Bool.Decides.{nat_tests}
use Rattle.gimli_read.specs.declared.constants.TheConstants.{CLOSING_CODE}
use Rattle.gimli_read.specs.declared.constants.TheConstants.DwTag.{DW_TAG_null}
use Rattle.gimli_read.proofs.Shorter.{Shorter, shorter_bind, shorter_then, shorter_if, shorter_err, shorter_ok, fixed-shorter, uleb128-shorter, sleb128-shorter, TakesBytes, takes_by, shorter_by}
use Rattle.gimli_read.proofs.Steps.{bind_ok, same_value, end_is_none}
use Rattle.gimli_read.proofs.RunLemmas.{collected-shorter, collected-fault}

constant_shorter : (n : ℕ) (form : ℕ) (s : Section) → length s.bytes < n → Shorter n (constant_at form s)
constant_shorter n form s h = shorter_if (form == DW_FORM_implicit_const.0) (shorter_bind (sleb128-shorter s) (λ c k. shorter_ok (omega arith))) (shorter_ok h)

specification_shorter : (s : Section) → Shorter (length s.bytes) (specification_at s)
unfolding specification_at
specification_shorter s =
    shorter_bind (uleb128-shorter s) (λ n hn. shorter_bind (uleb128-shorter n.1) (λ f hf.
    shorter_if (is_null n.0 f.0) (shorter_ok (omega arith)) (shorter_if (has_null n.0 f.0) shorter_err
    (shorter_bind (constant_shorter (length s.bytes) f.0 f.1 (omega arith)) (λ c hc. shorter_ok hc)))))

pub specification_takes : TakesBytes specification_at
specification_takes = takes_by specification_at specification_shorter

head_shorter : (s : Section) → Shorter (length s.bytes) (declaration_head_at s)
unfolding declaration_head_at
head_shorter s =
    shorter_bind (uleb128-shorter s) (λ t ht. shorter_then (refused_if (t.0 == DW_TAG_null.0) BadAbbreviation) (λ _.
    shorter_bind (fixed-shorter 1 t.1 (omega arith)) (λ c hc. shorter_then (refused_if (not (tells_children c.0)) BadAbbreviation) (λ _. shorter_ok (omega arith)))))

declaration_shorter : (code : ℕ) (s : Section) → Shorter (length s.bytes) (declaration_at code s)
unfolding declaration_at
declaration_shorter code s =
    shorter_bind (head_shorter s) (λ x hx.
    shorter_bind (collected-shorter specification_at specification_shorter (length x.1.bytes + 1) x.1) (λ y hy. shorter_ok (omega arith)))

-- a code, and what follows it
abbrev after_code : List Abbrev → ℕ × Section → Reading (Option Abbrev)
after_code table code = cond (code.0 == CLOSING_CODE) (Ok (None, code.1)) (refused_if (is_some (with_code code.0 table)) BadAbbreviation >>= λ _. declaration_at code.0 code.1 >>= λ a. Ok (Some a.0, a.1))

after_code_shorter : (table : List Abbrev) (s : Section) → Shorter (length s.bytes) (uleb128_at s >>= after_code table)
after_code_shorter table s =
    shorter_bind (uleb128-shorter s) (λ code hc. shorter_if (code.0 == CLOSING_CODE) (shorter_ok hc)
    (shorter_then (refused_if (is_some (with_code code.0 table)) BadAbbreviation) (λ _. shorter_bind (declaration_shorter code.0 code.1) (λ a ha. shorter_ok (omega arith)))))

pub abbreviation_takes : (table : List Abbrev) → TakesBytes (abbreviation_at table)
unfolding abbreviation_at
abbreviation_takes table s = at (length s.bytes == 0)
  where
    out : (r : Reading (Option Abbrev)) → Shorter (length s.bytes) r → IfOk r (λ p. IfSome p.0 (λ _. length p.1.bytes < length s.bytes))
    out (Ok (Some x, t)) k = k.by
    out (Ok (None, t)) k = tt
    out (Err e) k = tt

    at : (b : Bool) → IfOk {T = Option Abbrev × Section} (cond b (Ok (None, s)) (uleb128_at s >>= after_code table)) (λ p. IfSome p.0 (λ _. length p.1.bytes < length s.bytes))
    at true = tt
    at false = out _ (after_code_shorter table s)

-- two ways on that agree on what is shorter
extended_agrees : (table : List Abbrev) (s : Section) (j k : List Abbrev → Section → Result (List Abbrev) Error) → ((u : List Abbrev) (t : Section) → length t.bytes < length s.bytes → j u t ≡ k u t)
    → (r : Reading (Option Abbrev)) → IfOk r (λ p. IfSome p.0 (λ _. length p.1.bytes < length s.bytes)) → (r >>= λ a. extended j table a.0 a.1) ≡ (r >>= λ a. extended k table a.0 a.1)
extended_agrees table s j k same (Err e) h = refl
extended_agrees table s j k same (Ok (None, t)) h = refl
extended_agrees table s j k same (Ok (Some a, t)) h = same (table ++ a ∷ []) t h

table_enough : (n m : ℕ) (table : List Abbrev) (s : Section) → length s.bytes < n → length s.bytes < m → table_within n table s ≡ table_within m table s
unfolding table_within
table_enough zero m table s h k = absurd (omega arith)
table_enough (suc n) zero table s h k = absurd (omega arith)
table_enough (suc n) (suc m) table s h k = extended_agrees table s (table_within n) (table_within m) (λ u t l. table_enough n m u t (omega arith) (omega arith)) (abbreviation_at table s) (abbreviation_takes table s)

-- the table that a section goes on with
abbrev pub table_from : List Abbrev → Section → Result (List Abbrev) Error
table_from table s = table_within (length s.bytes + 1) table s

table_next : (table : List Abbrev) (s : Section) → table_from table s ≡ (abbreviation_at table s >>= λ a. extended table_from table a.0 a.1)
unfolding table_within
table_next table s = ap (λ n. table_within n table s) (add-one (length s.bytes)) ∙ extended_agrees table s (table_within (length s.bytes)) table_from (λ u t l. table_enough (length s.bytes) (length t.bytes + 1) u t l (omega arith)) (abbreviation_at table s) (abbreviation_takes table s)

pub table_fault : (table : List Abbrev) (s : Section) (e : Error) → abbreviation_at table s ≡ Err e → table_from table s ≡ Err e
table_fault table s e h = table_next table s ∙ ap (λ r. r >>= λ a. extended table_from table a.0 a.1) h

pub table_ends : (table : List Abbrev) (s t : Section) → abbreviation_at table s ≡ Ok (None, t) → table_from table s ≡ Ok table
table_ends table s t h = table_next table s ∙ ap (λ r. r >>= λ a. extended table_from table a.0 a.1) h

pub table_more : (table : List Abbrev) (s t : Section) (a : Abbrev) → abbreviation_at table s ≡ Ok (Some a, t) → table_from table s ≡ table_from (table ++ a ∷ []) t
table_more table s t a h = table_next table s ∙ ap (λ r. r >>= λ a. extended table_from table a.0 a.1) h

pub abbreviation_less : (table : List Abbrev) (s t : Section) (a : Abbrev) → abbreviation_at table s ≡ Ok (Some a, t) → length t.bytes < length s.bytes
abbreviation_less table s t a h = shorter_by (abbreviation_at table) (abbreviation_takes table) s a t h

-- ---- distinct codes

-- the last step of an abbreviation
abbrev found_some : Abbrev × Section → Reading (Option Abbrev)
found_some x = Ok (Some x.0, x.1)

-- what follows a code has that code
declaration_code : (code : ℕ) (s : Section) (a : Abbrev) (t : Section) → declaration_at code s ≡ Ok (a, t) → a.code ≡ code
unfolding declaration_at
declaration_code code s a t h =
    let x = bind_ok (declaration_head_at s) (λ x. specifications_at x.1 >>= λ y. Ok (coded code x.0 y.0, y.1)) (a, t) h in
    let y = bind_ok (specifications_at x.0.1) (λ y. Ok (coded code x.0.0 y.0, y.1)) (a, t) x.2 in
    let same : coded code x.0.0 y.0.0 ≡ a = same_value {A = Abbrev} {B = Section} (coded code x.0.0 y.0.0, y.0.1) (a, t) y.2 in
    ap (λ (z : Abbrev). z.code) (sym same)

-- an abbreviation that is read has a code that the table hasn't
pub abbreviation_new : (table : List Abbrev) (s t : Section) (a : Abbrev) → abbreviation_at table s ≡ Ok (Some a, t) → with_code a.code table ≡ None
unfolding abbreviation_at
abbreviation_new table s t a h = at_end (length s.bytes == 0) h
  where
    none : (o : Option Abbrev) → is_some o ≡ false → o ≡ None
    none None e = refl
    none (Some x) e = cc

    same_item : (x : Abbrev) (u : Section) → ◌≡◌ {A = Reading (Option Abbrev)} (Ok (Some x, u)) (Ok (Some a, t)) → x ≡ a
    same_item x u e = let same : Some x ≡ Some a = same_value {A = Option Abbrev} {B = Section} (Some x, u) (Some a, t) e in cc

    at_declaration : (code : ℕ) (r : Reading Abbrev) → ((x : Abbrev) (u : Section) → r ≡ Ok (x, u) → x.code ≡ code) → with_code code table ≡ None → (r >>= found_some) ≡ Ok (Some a, t) → with_code a.code table ≡ None
    at_declaration code (Err e) is n h = cc
    at_declaration code (Ok x) is n h =
        let same : x.0 ≡ a = same_item x.0 x.1 h in
        ap (λ c. with_code c table) (ap (λ (y : Abbrev). y.code) (sym same) ∙ is x.0 x.1 refl) ∙ n

    at_new : (code : ℕ) (u : Section) (b : Bool) → is_some (with_code code table) ≡ b → (refused_if b BadAbbreviation >>= λ _. declaration_at code u >>= found_some) ≡ Ok (Some a, t) → with_code a.code table ≡ None
    at_new code u true e h = cc
    at_new code u false e h = at_declaration code (declaration_at code u) (λ x v k. declaration_code code u x v k) (none (with_code code table) e) h

    at_code : (r : Reading ℕ) → (r >>= after_code table) ≡ Ok (Some a, t) → with_code a.code table ≡ None
    at_code (Err e) h = cc
    at_code (Ok code) h = at_zero (code.0 == CLOSING_CODE) h
      where
        at_zero : (b : Bool) → cond b (Ok (None, code.1)) (refused_if (is_some (with_code code.0 table)) BadAbbreviation >>= λ _. declaration_at code.0 code.1 >>= found_some) ≡ Ok (Some a, t) → with_code a.code table ≡ None
        at_zero true h = absurd (end_is_none a code.1 t h)
        at_zero false h = at_new code.0 code.1 (is_some (with_code code.0 table)) refl h

    at_end : (b : Bool) → cond b (Ok (None, s)) (uleb128_at s >>= after_code table) ≡ Ok (Some a, t) → with_code a.code table ≡ None
    at_end true h = absurd (end_is_none a s t h)
    at_end false h = at_code (uleb128_at s) h

-- a code that neither the table nor one more abbreviation has
missing_still : (c : ℕ) (table : List Abbrev) (a : Abbrev) → with_code c table ≡ None → (a.code == c) ≡ false → with_code c (table ++ a ∷ []) ≡ None
missing_still c [] a k e = ap (λ b. cond b (Some a) None) e
missing_still c (u ∷ us) a k e = pass (u.code == c) k (λ m. missing_still c us a m e)
  where
    pass : (b : Bool) → cond b (Some u) (with_code c us) ≡ None → (with_code c us ≡ None → with_code c (us ++ a ∷ []) ≡ None) → cond b (Some u) (with_code c (us ++ a ∷ [])) ≡ None
    pass true k ih = cc
    pass false k ih = ih k

-- a table with one more code
pub distinct-push : (table : List Abbrev) (a : Abbrev) → HasDistinctCodes table → with_code a.code table ≡ None → HasDistinctCodes (table ++ a ∷ [])
distinct-push [] a d n = (refl, tt)
distinct-push (x ∷ table) a d n = by_cases (λ k. distinct-push table a d.1 k) (x.code == a.code) refl n
  where
    swapped : (m n : ℕ) → (m == n) ≡ false → (n == m) ≡ false
    swapped m n e = grind (arith, nat_tests)

    by_cases : (with_code a.code table ≡ None → HasDistinctCodes (table ++ a ∷ [])) → (b : Bool) → (x.code == a.code) ≡ b → cond b (Some x) (with_code a.code table) ≡ None → HasDistinctCodes ((x ∷ table) ++ a ∷ [])
    by_cases ih true e k = cc
    by_cases ih false e k = (missing_still x.code table a d.0 (swapped x.code a.code e), ih k)

-- ---- memory

-- no step was made yet, or the first one gave a value
abbrev pub IsBegun : {X : Type 0} → (Section → Reading X) → Section → Section → Type 0
IsBegun first start now = (now ≡ start) ⊎ (is_ok (first start) ≡ true)

-- a step that gives a value is the first one, or comes after it
pub begun_by : {X : Type 0} (first : Section → Reading X) (start now : Section) → IsBegun first start now → is_ok (first now) ≡ true → is_ok (first start) ≡ true
begun_by first start now (inl e) h = ap (λ s. is_ok (first s)) (sym e) ∙ h
begun_by first start now (inr k) h = k

-- a refusal of a step, with what it says of memory, is one of the whole
pub step_refused : {X : Type 0} (first : Section → Reading X) (start now : Section) (e : Error) → IsBegun first start now → (is_ok (first start) ≡ true → e ≢ OutOfMemory) → is_ok (first now) ≡ true → e ≢ OutOfMemory
step_refused first start now e b n h = n (begun_by first start now b h)

ok_bind : {A B : Type 0} (r : Result A Error) (f : A → Result B Error) (x : A) → r ≡ Ok x → is_ok (f x) ≡ true → is_ok (r >>= f) ≡ true
ok_bind r f x e h = ap (λ q. is_ok (q >>= f)) e ∙ h

-- items that were collected begin with one that was read
specifications_begun : (s : Section) (x : List Specification × Section) → specifications_at s ≡ Ok x → is_ok (specification_at s) ≡ true
specifications_begun s x h = at (specification_at s) refl
  where
    at : (r : Reading (Option Specification)) → specification_at s ≡ r → is_ok r ≡ true
    at (Ok y) e = refl
    at (Err d) e = absurd (let k : Err d ≡ Ok x = sym (collected-fault specification_at specification_takes s d e) ∙ h in cc)

-- an abbreviation that is read has a front
pub abbreviation_front : (table : List Abbrev) (s t : Section) (a : Abbrev) → abbreviation_at table s ≡ Ok (Some a, t) → has_front s ≡ true
unfolding abbreviation_at declaration_at front_at
abbreviation_front table s t a h = at_end (length s.bytes == 0) h
  where
    at_declaration : (code : ℕ) (u : Section) (r : Reading Abbrev) → declaration_at code u ≡ r → (r >>= found_some) ≡ Ok (Some a, t) → is_ok (head_and_pair_at u) ≡ true
    at_declaration code u (Err e) is h = absurd cc
    at_declaration code u (Ok x) is h =
        let y = bind_ok (declaration_head_at u) (λ y. specifications_at y.1 >>= λ z. Ok (coded code y.0 z.0, z.1)) x is in
        let z = bind_ok (specifications_at y.0.1) (λ z. Ok (coded code y.0.0 z.0, z.1)) x y.2 in
        ok_bind (declaration_head_at u) (λ y. specification_at y.1) y.0 y.1 (specifications_begun y.0.1 z.0 z.1)

    at_new : (code : ℕ) (u : Section) (b : Bool) → (refused_if b BadAbbreviation >>= λ _. declaration_at code u >>= found_some) ≡ Ok (Some a, t) → is_ok (head_and_pair_at u) ≡ true
    at_new code u true h = absurd cc
    at_new code u false h = at_declaration code u (declaration_at code u) refl h

    at_zero : (code : ℕ × Section) (b : Bool) → cond b (Ok (None, code.1)) (refused_if (is_some (with_code code.0 table)) BadAbbreviation >>= λ _. declaration_at code.0 code.1 >>= found_some) ≡ Ok (Some a, t) → is_ok (refused_if b BadAbbreviation >>= λ _. head_and_pair_at code.1) ≡ true
    at_zero code true h = absurd (end_is_none a code.1 t h)
    at_zero code false h = at_new code.0 code.1 (is_some (with_code code.0 table)) h

    at_code : (r : Reading ℕ) → (r >>= after_code table) ≡ Ok (Some a, t) → is_ok (r >>= λ code. refused_if (code.0 == CLOSING_CODE) BadAbbreviation >>= λ _. head_and_pair_at code.1) ≡ true
    at_code (Err e) h = absurd cc
    at_code (Ok code) h = at_zero code (code.0 == CLOSING_CODE) h

    at_end : (b : Bool) → cond b (Ok (None, s)) (uleb128_at s >>= after_code table) ≡ Ok (Some a, t) → has_front s ≡ true
    at_end true h = absurd (end_is_none a s t h)
    at_end false h = at_code (uleb128_at s) h
