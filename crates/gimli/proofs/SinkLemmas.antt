-- Attributes that are taken in one after another, or passed over (on specs/TakenAttributes.antt).
use Rattle.gimli.proofs.Common.{◌≡◌, ℕ, ◌+◌, ◌<◌, ◌≤◌, ◌==◌, Bool, true, false, cond, List, drop, get_or, length, Option, Some, None, Result, Ok, Err, refl, ap, subst, sym, ◌∙◌, ℤ, pos, negsuc, at_drop_more, at_drop_all, Encoding, Error, Specification, NamedValue, attribute_at, attributes_at, implicit_of, named_value, rest_of, value_at, Reading, ◌>>=◌, ExactlyUnlessOomIf, Section, IsTakenIn, SaysNothingElse, or_fault, taken_after}
use Rattle.std.specs.Result.{result_err}
use Rattle.gimli_read.specs.declared.constants.DwAt.{DwAt}
use Rattle.gimli_read.specs.declared.constants.TheConstants.DwForm.{DW_FORM_implicit_const}
use Rattle.gimli_read.specs.declared.number_value.NumberValue.{NumberValue}
use Rattle.gimli_read.specs.declared.number_value.NumberValue.TheVariants as numbers
use Rattle.gimli_read.specs.declared.value.AttributeValue.TheVariants as values
use Rattle.gimli_read.specs.NumberValue.{implicit_number, is_number_form, number_at, number_if}
use Rattle.gimli_read.proofs.SizeLemmas.{rests_more}
use Rattle.gimli.proofs.WantedLemmas.{PassesOver, fold_passes}

-- the next one that is passed over, and those after it
pub pass_next : (e : Encoding) (xs : List Specification) (i : ℕ) (x : Specification) (s : Section) (r : Result Section Error) → i < length xs → rest_of (attribute_at e (get_or xs i x) s) ≡ r
    → rest_of (attributes_at e (drop i xs) s) ≡ (r >>= λ t. rest_of (attributes_at e (drop (i + 1) xs) t))
pass_next e xs i x s r h k =
    at_drop_more (λ ys. rest_of (attributes_at e ys s)) xs i x h ∙ rests_more e (get_or xs i x) (drop (i + 1) xs) s ∙ ap (λ (v : Result Section Error). v >>= λ t. rest_of (attributes_at e (drop (i + 1) xs) t)) k

-- after the last
pub rest-end : (e : Encoding) (xs : List Specification) (i : ℕ) (s : Section) → length xs ≤ i → rest_of (attributes_at e (drop i xs) s) ≡ Ok s
unfolding attributes_at
rest-end e xs i s h = at_drop_all (λ ys. rest_of (attributes_at e ys s)) xs i h

none_is_some : (n : NumberValue) (s t : Section) → ◌≡◌ {A = Reading (Option NumberValue)} (Ok (None, s)) (Ok (Some n, t)) → ◌≡◌ {A = Option NumberValue} None (Some n)
none_is_some n s t h = ap (λ (y : Option NumberValue × Section). y.0) (let same : ◌≡◌ {A = Option NumberValue × Section} (None, s) (Some n, t) = cc in same)

-- an attribute whose value was read as a number
pub record ReadAsNumber (given : Reading NamedValue) (left : Section) (n : NumberValue) : Type 0 where
  pub attribute : NamedValue
  pub is : given ≡ Ok (attribute, left)
  pub number : number_if attribute.value ≡ Some n

pub number_read : (e : Encoding) (x : Specification) (s t : Section) (n : NumberValue) → number_at e x s ≡ Ok (Some n, t) → ReadAsNumber (attribute_at e x s) t n
unfolding attribute_at
number_read e x s t n h = by_form (x.form.0 == DW_FORM_implicit_const.0) refl (is_number_form x.form) h
  where
    named_constant : Option ℤ → Reading NamedValue
    named_constant o = implicit_of o >>= λ value. Ok (named_value x value, s)

    by_constant : (o : Option ℤ) → attribute_at e x s ≡ named_constant o → ◌≡◌ {A = Reading (Option NumberValue)} (Ok (implicit_number o, s)) (Ok (Some n, t)) → ReadAsNumber (attribute_at e x s) t n
    by_constant None is h = absurd (let no = none_is_some n s t h in cc)
    by_constant (Some (pos m)) is h =
        let same : ◌≡◌ {A = Option NumberValue × Section} (Some (numbers.Constant m), s) (Some n, t) = cc in
        record { attribute = named_value x (values.Sdata (pos m)); is = is ∙ ap (λ (y : Option NumberValue × Section). Ok (named_value x (values.Sdata (pos m)), y.1)) same; number = ap (λ (y : Option NumberValue × Section). y.0) same }
    by_constant (Some (negsuc m)) is h = absurd (let no = none_is_some n s t h in cc)

    read : (r : Reading NamedValue) → attribute_at e x s ≡ r → ◌≡◌ {A = Reading (Option NumberValue)} (r >>= λ a. Ok (number_if a.0.value, a.1)) (Ok (Some n, t)) → ReadAsNumber (attribute_at e x s) t n
    read (Ok a) is h =
        let same : ◌≡◌ {A = Option NumberValue × Section} (number_if a.0.value, a.1) (Some n, t) = cc in
        record { attribute = a.0; is = is ∙ ap (λ (y : Option NumberValue × Section). Ok (a.0, y.1)) same; number = ap (λ (y : Option NumberValue × Section). y.0) same }
    read (Err f) is h = absurd cc

    by_form : (b : Bool) → (x.form.0 == DW_FORM_implicit_const.0) ≡ b → (c : Bool) → ◌≡◌ {A = Reading (Option NumberValue)} (cond b (Ok (implicit_number x.constant, s)) (cond c (attribute_at e x s >>= λ a. Ok (number_if a.0.value, a.1)) (Ok (None, s)))) (Ok (Some n, t))
        → ReadAsNumber (attribute_at e x s) t n
    by_form true is c h = by_constant x.constant (ap (λ b. cond b (named_constant x.constant) (value_at e x.form.0 s >>= λ v. Ok (named_value x v.0, v.1))) is) h
    by_form false is true h = read (attribute_at e x s) refl h
    by_form false is false h = absurd (let no = none_is_some n s t h in cc)

-- its fault is the attribute's
pub number_fault : (e : Encoding) (x : Specification) (s : Section) (f : Error) → number_at e x s ≡ Err f → attribute_at e x s ≡ Err f
number_fault e x s f h = by_form (x.form.0 == DW_FORM_implicit_const.0) (is_number_form x.form) h
  where
    read : (r : Reading NamedValue) → ◌≡◌ {A = Reading (Option NumberValue)} (r >>= λ a. Ok (number_if a.0.value, a.1)) (Err f) → r ≡ Err f
    read (Ok a) h = absurd cc
    read (Err g) h = let same : g ≡ f = cc in ap Err same

    by_form : (b c : Bool) → ◌≡◌ {A = Reading (Option NumberValue)} (cond b (Ok (implicit_number x.constant, s)) (cond c (attribute_at e x s >>= λ a. Ok (number_if a.0.value, a.1)) (Ok (None, s)))) (Err f) → attribute_at e x s ≡ Err f
    by_form true c h = absurd cc
    by_form false true h = read (attribute_at e x s) h
    by_form false false h = absurd cc

-- what is found after an answer, or its fault
pub or_its_fault : {X Y : Type 0} (may : Bool) (view : X → Y) (found : X) (result : Result (Unit {0}) Error) (given : Result Y Error) → ExactlyUnlessOomIf may (λ _. view found) result given → ExactlyUnlessOomIf may view (or_fault found (result_err result)) given
or_its_fault may view found (Ok x) given h = h
or_its_fault may view found (Err e) given h = h

-- an answer after one more attribute
pub taken : {X Y : Type 0} (may : Bool) (view : X → Y) (more : Y → Result Y Error) (found next : Result X Error) (given : Result Y Error) → ExactlyUnlessOomIf may view found given → IsTakenIn may view more found next → ExactlyUnlessOomIf may view next (given >>= more)
taken may view more (Ok x) next given h t = subst (λ g. ExactlyUnlessOomIf may view next (g >>= more)) (sym h) t
taken may view more (Err e) next given h t = subst (λ r. ExactlyUnlessOomIf may view r (given >>= more)) (sym t) (λ k. ap (λ g. g >>= more) (h k))

-- attributes that aren't asked for are passed over
pub taken_passes : {Y : Type 0} (e : Encoding) (wanted : DwAt → Bool) (more : Y → NamedValue → Result Y Error) → SaysNothingElse wanted more → (said : Result Y Error)
    → PassesOver e wanted (λ xs left. taken_after more said (attributes_at e xs left)) (λ xs a. taken_after more (said >>= λ y. more y a.0) (attributes_at e xs a.1)) (λ _. said)
taken_passes {Y = Y} e wanted more else said = fold_passes e wanted (λ y a. y >>= λ x. more x a) (λ r. r) same said
  where
    same : (y : Result Y Error) (a : NamedValue) → wanted a.name ≡ false → (y >>= λ x. more x a) ≡ y
    same (Ok y) a h = else y a h
    same (Err f) a h = refl
