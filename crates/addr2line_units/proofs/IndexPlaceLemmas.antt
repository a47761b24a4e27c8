-- Ranges in order, before a place and from it on (on specs/IndexCover.antt).
use Rattle.addr2line_units.proofs.Common.{ℕ, ◌≡◌, ◌≤◌, ◌-◌, Bool, true, false, cond, not, List, [], ◌∷◌, ◌++◌, Option, Some, None, map, filter, length, take, drop, get_or, arith, ◌∙◌, ap, sym, subst, refl, zero, suc, AllByRecursion, IsPartitionPoint, IsInOrder, UnitRange}
use Rattle.std.proofs.lemmas.List.Elements.{All-from_recursion}
use Rattle.std.specs.List.Sorted.{IsPartitionedBy}
use Rattle.addr2line_units.specs.declared.index.IndexedRange.{IndexedRange}
use Rattle.addr2line_units.specs.IndexCover.{before_place, ends_sooner, from_place, is_before, is_from}
use Rattle.addr2line_units.specs.IndexLeastBegins.{AreOrdered, range_begins_by, unit_range_of}
use Rattle.addr2line_units.proofs.Facts.{never, rest_is}
use Rattle.addr2line_units.proofs.IndexLemmas.{ends_order, filter_ordered, filter_swap}
use Rattle.addr2line_units.proofs.IndexLeastBeginLemmas.{of_ordered}

-- what stands behind a range that isn't before a place isn't before it either
later_from : (place x : UnitRange) (xs : List UnitRange) → AllByRecursion (λ y. ends_sooner y x ≡ false) xs → is_before place x ≡ false → AllByRecursion (λ y. is_before place y ≡ false) xs
later_from place x [] all e = tt
later_from place x (y ∷ ys) all e = (ends_order.chain y x place all.0 e, later_from place x ys all.1 e)

none_before : (place : UnitRange) (xs : List UnitRange) → AllByRecursion (λ y. is_before place y ≡ false) xs → filter (is_before place) xs ≡ []
none_before place [] all = refl
none_before place (x ∷ xs) all = ap (λ b. cond b (x ∷ filter (is_before place) xs) (filter (is_before place) xs)) all.0 ∙ none_before place xs all.1

all_from : (place : UnitRange) (xs : List UnitRange) → AllByRecursion (λ y. is_before place y ≡ false) xs → filter (is_from place) xs ≡ xs
all_from place [] all = refl
all_from place (x ∷ xs) all = ap (λ b. cond (not b) (x ∷ filter (is_from place) xs) (filter (is_from place) xs)) all.0 ∙ ap (λ ys. x ∷ ys) (all_from place xs all.1)

-- ranges in order are those before a place and those from it on
first_parted : (place x : UnitRange) (xs : List UnitRange) → AllByRecursion (λ y. ends_sooner y x ≡ false) xs → filter (is_before place) xs ++ filter (is_from place) xs ≡ xs → (b : Bool) → is_before place x ≡ b
    → cond b (x ∷ filter (is_before place) xs) (filter (is_before place) xs) ++ cond (not b) (x ∷ filter (is_from place) xs) (filter (is_from place) xs) ≡ x ∷ xs
first_parted place x xs up rest true e = ap (λ ys. x ∷ ys) rest
first_parted place x xs up rest false e =
    let later = later_from place x xs up e in
    ap (λ ys. ys ++ (x ∷ filter (is_from place) xs)) (none_before place xs later) ∙ ap (λ ys. x ∷ ys) (all_from place xs later)

parted_by : (place : UnitRange) (xs : List UnitRange) → IsInOrder ends_sooner xs → filter (is_before place) xs ++ filter (is_from place) xs ≡ xs
parted_by place [] up = refl
parted_by place (x ∷ xs) up = first_parted place x xs up.0 (parted_by place xs up.1) (is_before place x) refl

pub parted : (place : Option UnitRange) (xs : List UnitRange) → IsInOrder ends_sooner xs → before_place place xs ++ from_place place xs ≡ xs
parted None xs up = refl
parted (Some place) xs up = parted_by place xs up

-- what is so of ranges that stand before one of them is so of those before its place
module _ (P : UnitRange → Type 0) (place : UnitRange) where
  pub up_to : (before rest : List UnitRange) → IsInOrder ends_sooner (before ++ (place ∷ rest)) → AllByRecursion P before → AllByRecursion P (filter (is_before place) (before ++ (place ∷ rest)))
  up_to [] rest up all = subst (AllByRecursion P) (sym (none_before place (place ∷ rest) (same, later_from place place rest up.0 same))) tt
    where
      not_both : (b : Bool) → is_before place place ≡ b → b ≡ false
      not_both true e = sym e ∙ ends_order.one_way place place e
      not_both false e = refl

      same : is_before place place ≡ false
      same = not_both (is_before place place) refl
  up_to (x ∷ before) rest up all = step (is_before place x) (up_to before rest up.1 all.1)
    where
      step : (b : Bool) → AllByRecursion P (filter (is_before place) (before ++ (place ∷ rest))) → AllByRecursion P (cond b (x ∷ filter (is_before place) (before ++ (place ∷ rest))) (filter (is_before place) (before ++ (place ∷ rest))))
      step true rest = (all.0, rest)
      step false rest = rest

-- what is so of the ranges before a first place, and of those from it on before a second, is so of
-- those before the second
module _ (P : UnitRange → Type 0) (place : UnitRange) where
  before_more : (x : UnitRange) (xs : List UnitRange) (b : Bool) → P x → AllByRecursion P (filter (is_before place) xs) → AllByRecursion P (cond b (x ∷ filter (is_before place) xs) (filter (is_before place) xs))
  before_more x xs true p rest = (p, rest)
  before_more x xs false p rest = rest

  before_too : (x : UnitRange) (xs ys : List UnitRange) (b : Bool) → AllByRecursion P (cond b (x ∷ filter (is_before place) ys) (filter (is_before place) ys)) → (AllByRecursion P (filter (is_before place) ys) → AllByRecursion P (filter (is_before place) xs))
      → AllByRecursion P (cond b (x ∷ filter (is_before place) xs) (filter (is_before place) xs))
  before_too x xs ys true h rest = (h.0, rest h.1)
  before_too x xs ys false h rest = rest h

  before_first : (first x : UnitRange) (xs : List UnitRange) (b : Bool) → AllByRecursion P (cond b (x ∷ filter (is_before first) xs) (filter (is_before first) xs)) → AllByRecursion P (filter (is_before place) (cond (not b) (x ∷ filter (is_from first) xs) (filter (is_from first) xs)))
      → (AllByRecursion P (filter (is_before first) xs) → AllByRecursion P (filter (is_before place) (filter (is_from first) xs)) → AllByRecursion P (filter (is_before place) xs))
      → AllByRecursion P (cond (is_before place x) (x ∷ filter (is_before place) xs) (filter (is_before place) xs))
  before_first first x xs true all more rest = before_more x xs (is_before place x) all.0 (rest all.1 more)
  before_first first x xs false all more rest = before_too x xs (filter (is_from first) xs) (is_before place x) more (rest all)

  both_before : (first : UnitRange) (xs : List UnitRange) → AllByRecursion P (filter (is_before first) xs) → AllByRecursion P (filter (is_before place) (filter (is_from first) xs)) → AllByRecursion P (filter (is_before place) xs)
  both_before first [] all more = tt
  both_before first (x ∷ xs) all more = before_first first x xs (is_before first x) all more (both_before first xs)

pub before_both : (P : UnitRange → Type 0) (first place : Option UnitRange) (xs : List UnitRange) → AllByRecursion P (before_place first xs) → AllByRecursion P (before_place place (from_place first xs)) → AllByRecursion P (before_place place xs)
before_both P first None xs all more = tt
before_both P None (Some place) xs all more = more
before_both P (Some first) (Some place) xs all more = both_before P place first xs all more

-- ---- the ranges of a search

-- the ranges that a search has left stand in order
pub left_ordered : (last : ℕ) (xs : List IndexedRange) → AreOrdered xs → IsInOrder ends_sooner (filter (range_begins_by last) (map unit_range_of xs))
left_ordered last xs e = filter_ordered ends_sooner ends_order (range_begins_by last) (map unit_range_of xs) (of_ordered xs e)

-- whether a range of the table stands before a place
abbrev pub stands_before : UnitRange → IndexedRange → Bool
stands_before place y = is_before place y.unit_range

-- what stands behind a range that isn't before a place, in a table
table_from : (place x : UnitRange) (xs : List IndexedRange) → AllByRecursion (λ y. ends_sooner y x ≡ false) (map unit_range_of xs) → is_before place x ≡ false → AllByRecursion (λ y. stands_before place y ≡ false) xs
table_from place x [] all e = tt
table_from place x (y ∷ ys) all e = (ends_order.chain y.unit_range x place all.0 e, table_from place x ys all.1 e)

-- a table in order is parted by a place
pub table_parted : (place : UnitRange) (xs : List IndexedRange) → IsInOrder ends_sooner (map unit_range_of xs) → IsPartitionedBy (stands_before place) xs
table_parted place [] up i j d le l h = absurd (omega arith)
table_parted place (x ∷ xs) up zero zero d le l h = h
table_parted place (x ∷ xs) up zero (suc j) d le l h = step (is_before place x.unit_range) refl
  where
    step : (b : Bool) → is_before place x.unit_range ≡ b → b ≡ true
    step true e = refl
    step false e = sym (All-from_recursion (λ y. stands_before place y ≡ false) xs (table_from place x.unit_range xs up.0 e) j d (omega arith)) ∙ h
table_parted place (x ∷ xs) up (suc i) zero d le l h = absurd (omega arith)
table_parted place (x ∷ xs) up (suc i) (suc j) d le l h = table_parted place xs up.1 i j d (omega arith) (omega arith) h

-- from the first range on that isn't before a place stand those from the place on
from_point : (place : UnitRange) (xs : List IndexedRange) (n : ℕ) → n ≤ length xs → IsPartitionPoint (λ y. stands_before place y ≡ true) (λ y. stands_before place y ≡ false) xs n
    → map unit_range_of (drop n xs) ≡ filter (is_from place) (map unit_range_of xs)
from_point place [] zero le h = refl
from_point place [] (suc n) le h = refl
from_point place (x ∷ xs) zero le h =
    ap (λ ys. x.unit_range ∷ ys) (from_point place xs zero (omega arith) ((λ k d from l. absurd (omega arith)), (λ k d from l. h.1 (suc k) d (omega arith) (omega arith))))
    ∙ sym (ap (λ b. cond (not b) (x.unit_range ∷ filter (is_from place) (map unit_range_of xs)) (filter (is_from place) (map unit_range_of xs))) (h.1 0 x (omega arith) (omega arith)))
from_point place (x ∷ xs) (suc n) le h =
    from_point place xs n (omega arith) ((λ k d from l. h.0 (suc k) d (omega arith) (omega arith)), (λ k d from l. h.1 (suc k) d (omega arith) (omega arith)))
    ∙ sym (ap (λ b. cond (not b) (x.unit_range ∷ filter (is_from place) (map unit_range_of xs)) (filter (is_from place) (map unit_range_of xs))) (h.0 0 x (omega arith) (omega arith)))

-- what a search has left once it has passed over the ranges before a place
pub skipped : (place : UnitRange) (last n : ℕ) (xs ys : List IndexedRange) → ys ≡ xs → n ≤ length xs → IsPartitionPoint (λ y. stands_before place y ≡ true) (λ y. stands_before place y ≡ false) xs n
    → filter (range_begins_by last) (map unit_range_of (take (length ys - n) (drop n ys))) ≡ filter (is_from place) (filter (range_begins_by last) (map unit_range_of xs))
skipped place last n xs ys e le h =
    ap (λ zs. filter (range_begins_by last) (map unit_range_of zs)) (rest_is n ys xs e)
    ∙ ap (filter (range_begins_by last)) (from_point place xs n le h)
    ∙ filter_swap ends_sooner ends_order (is_from place) (range_begins_by last) (map unit_range_of xs)
