-- Values of entries, one by one, and copies (on specs/Tables.antt).
use Rattle.gimli_line.proofs.Common.{◌≡◌, ◌⊎◌, inl, inr, ℕ, ◌+◌, ◌<◌, ◌≤◌, ◌==◌, ◌&&◌, not, true, false, is_ok, Option, Some, List, [], ◌∷◌, ◌++◌, length, map, take, drop, get_or, Ok, Err, refl, sym, ap, ◌∙◌, arith, ne_eqb, take_more, drop_more, drop_all, get_or-map, length-map, Error, Section, Reading, ◌>>=◌, value_at, EntryValues, values_at, with_value}
use Rattle.gimli_read.specs.declared.endian.Encoding.{Encoding}
use Rattle.gimli_read.specs.declared.value.AttributeValue.{AttributeValue}
use Rattle.gimli_line.specs.declared.entry_tables.EntryFormat.{EntryFormat}
use Rattle.gimli_line.specs.Stored.{gives_one, gives_first}

values_step : (e : Encoding) (f : EntryFormat) (fs : List EntryFormat) (entry : EntryValues) (s : Section) → values_at e (f ∷ fs) entry s ≡ (value_at e f.form.0 s >>= λ x. values_at e fs (with_value f.content_type x.0 entry) x.1)
unfolding values_at
values_step e f fs entry s = refl

-- one value more
pub values_more : (e : Encoding) (fs : List EntryFormat) (i : ℕ) (d : EntryFormat) (entry : EntryValues) (s t : Section) (x : AttributeValue Section) → i < length fs → value_at e (get_or fs i d).form.0 s ≡ Ok (x, t)
    → values_at e (drop i fs) entry s ≡ values_at e (drop (i + 1) fs) (with_value (get_or fs i d).content_type x entry) t
values_more e fs i d entry s t x h f =
    ap (λ k. values_at e k entry s) (drop_more fs i d h) ∙ values_step e (get_or fs i d) (drop (i + 1) fs) entry s
    ∙ ap (λ r. r >>= λ y. values_at e (drop (i + 1) fs) (with_value (get_or fs i d).content_type y.0 entry) y.1) f

pub values_fault : (e : Encoding) (fs : List EntryFormat) (i : ℕ) (d : EntryFormat) (entry : EntryValues) (s : Section) (x : Error) → i < length fs → value_at e (get_or fs i d).form.0 s ≡ Err x
    → values_at e (drop i fs) entry s ≡ Err x
values_fault e fs i d entry s x h f =
    ap (λ k. values_at e k entry s) (drop_more fs i d h) ∙ values_step e (get_or fs i d) (drop (i + 1) fs) entry s
    ∙ ap (λ r. r >>= λ y. values_at e (drop (i + 1) fs) (with_value (get_or fs i d).content_type y.0 entry) y.1) f

pub values_end : (e : Encoding) (fs : List EntryFormat) (i : ℕ) (entry : EntryValues) (s : Section) → length fs ≤ i → values_at e (drop i fs) entry s ≡ Ok (entry, s)
unfolding values_at
values_end e fs i entry s h = ap (λ k. values_at e k entry s) (drop_all i fs h)

-- one copy more
pub copied_next : {A : Type 0} (ys xs : List A) (i : ℕ) (x y : A) → i < length xs → x ≡ get_or xs i x → ys ≡ take i xs → x ≡ y → ys ++ y ∷ [] ≡ take (i + 1) xs
copied_next ys xs i x y h is before same =
    ap (λ z. z ++ y ∷ []) before ∙ ap (λ z. take i xs ++ z ∷ []) (sym same ∙ is) ∙ sym (take_more xs i x h)

-- one copy more, seen otherwise
pub copied_more : {A B : Type 0} (f : A → B) (ys : List B) (xs : List A) (i : ℕ) (x : A) (y : B) → i < length xs → x ≡ get_or xs i x → ys ≡ take i (map f xs) → f x ≡ y → ys ++ y ∷ [] ≡ take (i + 1) (map f xs)
copied_more f ys xs i x y h is before same =
    let at : get_or (map f xs) i (f x) ≡ y = get_or-map f xs i x (f x) h ∙ ap f (sym is) ∙ same in
    let k : i < length (map f xs) = omega (arith, h, length-map xs f) in
    ap (λ z. z ++ y ∷ []) before ∙ ap (λ z. take i (map f xs) ++ z ∷ []) (sym at) ∙ sym (take_more (map f xs) i (f x) k)

-- a step that gives one is the first, or comes after it
abbrev pub IsGivenOne : {A : Type 0} → (Section → Reading (Option A)) → Section → Section → Type 0
IsGivenOne first start now = (now ≡ start) ⊎ (gives_one (first start) ≡ true)

pub one_given : {A : Type 0} (first : Section → Reading (Option A)) (start now t : Section) (x : A) → IsGivenOne first start now → first now ≡ Ok (Some x, t) → gives_one (first start) ≡ true
one_given first start now t x (inl e) h = ap (λ s. gives_one (first s)) (sym e) ∙ ap gives_one h
one_given first start now t x (inr k) h = k

-- the first of some things
pub first_given : {A : Type 0} (part : Section → Reading A) (i n : ℕ) (s : Section) → i < n → is_ok (part s) ≡ true → gives_first part n s ≡ true
first_given part i n s h k =
    let some : (n == 0) ≡ false = ne_eqb n 0 (λ e. absurd (omega (arith, h, e))) in
    ap (λ b. not b && is_ok (part s)) some ∙ k
