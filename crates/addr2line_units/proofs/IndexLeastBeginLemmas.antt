-- Least begins beside ranges (on specs/IndexLeastBegins.antt).
use Rattle.addr2line_units.proofs.Common.{ℕ, ◌≡◌, ◌-◌, ◌<◌, ◌≤◌, Bool, true, false, cond, ◌&&◌, nat_le, nat_lt, nat_cmp, leb, min, List, [], ◌∷◌, ◌++◌, Result, Ok, map, length, take, drop, reverse, arith, ◌∙◌, ap, sym, subst, refl, zero, suc, AllByRecursion, IsNonDecreasingBy, IsPartitionPoint, nat_tests, Error, IsInOrder, in_order, in_order_ordered, in_order_ties, one_order, UnitRange}
use Rattle.std.specs.List.{filter}
use Rattle.std.specs.Ordering.{is_lt, ordering_then}
use Rattle.addr2line_lines.proofs.SeekLemmas.{Up, non_decreasing}
use Rattle.addr2line_lines.specs.LastAddress.{last_address}
use Rattle.addr2line_units.specs.declared.index.IndexedRange.{IndexedRange}
use Rattle.addr2line_units.specs.IndexCover.{ends_sooner}
use Rattle.addr2line_units.specs.IndexLeastBegins.{AreIndexed, AreLeastBegins, AreOrdered, EndFits, range_begins_by, is_between, least_begin, unit_range_of, with_least_begins}
use Rattle.addr2line_units.proofs.IndexLemmas.{ends_order}
use Rattle.addr2line_units.proofs.Facts.{rest_is}
use Rattle.addr2line_lines.proofs.Facts.{ok_is}

-- the ranges that were taken from the end, and what was made of them
pub record IsMade (all left : List UnitRange) (made : List IndexedRange) (least : ℕ) : Type 0 where
  pub taken : List UnitRange
  pub all_are : left ++ taken ≡ all
  pub made_are : made ≡ reverse (with_least_begins taken)
  pub least_is : least ≡ least_begin taken
  pub fit : AllByRecursion EndFits taken

-- what stands beside ranges with their least begins
pub ranges_beside : (ranges : List UnitRange) → map unit_range_of (with_least_begins ranges) ≡ ranges
ranges_beside [] = refl
ranges_beside (r ∷ ranges) = ap (λ xs. r ∷ xs) (ranges_beside ranges)

-- the least begins of later ranges are right where those of all are
pub later_least : (x : IndexedRange) (xs : List IndexedRange) → AreLeastBegins (x ∷ xs) → AreLeastBegins xs
later_least x xs h = cc

pub dropped_least : (n : ℕ) (xs : List IndexedRange) → AreLeastBegins xs → AreLeastBegins (drop n xs)
dropped_least zero xs h = h
dropped_least (suc n) [] h = h
dropped_least (suc n) (x ∷ xs) h = dropped_least n xs (later_least x xs h)

-- ranges in order are what putting them in order gives
pub as_ordered : (xs : List IndexedRange) → IsInOrder ends_sooner (map unit_range_of xs) → AreOrdered xs
as_ordered xs up = one_order ends_sooner ends_order _ _ (in_order_ordered ends_sooner ends_order (map unit_range_of xs)) up (λ z. in_order_ties ends_sooner ends_order z (map unit_range_of xs))

pub of_ordered : (xs : List IndexedRange) → AreOrdered xs → IsInOrder ends_sooner (map unit_range_of xs)
of_ordered xs e = subst (IsInOrder ends_sooner) e (in_order_ordered ends_sooner ends_order (map unit_range_of xs))

-- so are later ones
pub later_ordered : (x : IndexedRange) (xs : List IndexedRange) → AreOrdered (x ∷ xs) → AreOrdered xs
later_ordered x xs e = as_ordered xs (of_ordered (x ∷ xs) e).1

dropped_up : (n : ℕ) (xs : List IndexedRange) → IsInOrder ends_sooner (map unit_range_of xs) → IsInOrder ends_sooner (map unit_range_of (drop n xs))
dropped_up zero xs up = up
dropped_up (suc n) [] up = up
dropped_up (suc n) (x ∷ xs) up = dropped_up n xs up.1

pub dropped_ordered : (n : ℕ) (xs : List IndexedRange) → IsInOrder ends_sooner (map unit_range_of xs) → AreOrdered (drop n xs)
dropped_ordered n xs up = as_ordered (drop n xs) (dropped_up n xs up)

-- where the least begin is past the last address of a search, none begins at or below it
none_by : (last : ℕ) (ranges : List UnitRange) → last < least_begin ranges → filter (range_begins_by last) ranges ≡ []
none_by last [] h = refl
none_by last (r ∷ ranges) h =
    ap (λ b. cond b (r ∷ filter (range_begins_by last) ranges) (filter (range_begins_by last) ranges)) (late r.range.begin (least_begin ranges) h) ∙ none_by last ranges (rest r.range.begin (least_begin ranges) h)
  where
    late : (b m : ℕ) → last < min m b → nat_le b last ≡ false
    late b m l = grind (arith, nat_tests)

    rest : (b m : ℕ) → last < min m b → last < m
    rest b m l = omega arith

pub all_late : (last : ℕ) (x : IndexedRange) (xs : List IndexedRange) → AreLeastBegins (x ∷ xs) → last < x.least_begin → filter (range_begins_by last) (map unit_range_of (x ∷ xs)) ≡ []
all_late last x xs least h =
    let is : x.least_begin ≡ least_begin (map unit_range_of (x ∷ xs)) = ap (first_least x.least_begin) least in
    none_by last (map unit_range_of (x ∷ xs)) (omega arith)
  where
    first_least : ℕ → List IndexedRange → ℕ
    first_least d [] = d
    first_least d (y ∷ ys) = y.least_begin

-- in order the ends don't fall
later_ends : (x : UnitRange) (xs : List IndexedRange) → AllByRecursion (λ y. ends_sooner y x ≡ false) (map unit_range_of xs) → AllByRecursion (λ (y : IndexedRange). x.range.end ≤ y.unit_range.range.end) xs
later_ends x [] all = tt
later_ends x (y ∷ ys) all = (of_numbers y.unit_range.range.end y.unit_range.unit y.unit_range.range.begin x.range.end x.unit x.range.begin all.0, later_ends x ys all.1)
  where
    of_numbers : (a b c d e f : ℕ) → is_lt (ordering_then (nat_cmp a d) (ordering_then (nat_cmp b e) (nat_cmp c f))) ≡ false → d ≤ a
    of_numbers a b c d e f h = grind (arith, nat_tests)

ends_up : (xs : List IndexedRange) → IsInOrder ends_sooner (map unit_range_of xs) → Up (λ (y : IndexedRange). y.unit_range.range.end) xs
ends_up [] up = tt
ends_up (x ∷ xs) up = (later_ends x.unit_range xs up.0, ends_up xs up.1)

abbrev pub EndsRise : List IndexedRange → Type 0
EndsRise xs = IsNonDecreasingBy (λ (y : IndexedRange). y.unit_range.range.end) xs

pub ends_rise : (xs : List IndexedRange) → IsInOrder ends_sooner (map unit_range_of xs) → EndsRise xs
ends_rise xs up = non_decreasing (λ (y : IndexedRange). y.unit_range.range.end) xs (ends_up xs up)

-- whether a range ends at or below low
abbrev pub ends_by : ℕ → IndexedRange → Bool
ends_by low y = leb y.unit_range.range.end low

-- from the first range on that ends past low, those that begin at or below the last address
from_point : (low last : ℕ) (xs : List IndexedRange) (n : ℕ) → n ≤ length xs → IsPartitionPoint (λ y. ends_by low y ≡ true) (λ y. ends_by low y ≡ false) xs n
    → filter (range_begins_by last) (map unit_range_of (drop n xs)) ≡ filter (is_between low last) (map unit_range_of xs)
from_point low last [] zero le h = refl
from_point low last [] (suc n) le h = refl
from_point low last (x ∷ xs) zero le h =
    ap (λ ys. cond (range_begins_by last x.unit_range) (x.unit_range ∷ ys) ys) (from_point low last xs zero (omega arith) ((λ k d from l. absurd (omega arith)), (λ k d from l. h.1 (suc k) d (omega arith) (omega arith))))
    ∙ sym (ap (λ b. cond b (x.unit_range ∷ filter (is_between low last) (map unit_range_of xs)) (filter (is_between low last) (map unit_range_of xs))) (past x.unit_range.range.begin x.unit_range.range.end (h.1 0 x (omega arith) (omega arith))))
  where
    past : (b e : ℕ) → leb e low ≡ false → (nat_lt low e && nat_le b last) ≡ nat_le b last
    past b e l = grind (arith, nat_tests)
from_point low last (x ∷ xs) (suc n) le h =
    from_point low last xs n (omega arith) ((λ k d from l. h.0 (suc k) d (omega arith) (omega arith)), (λ k d from l. h.1 (suc k) d (omega arith) (omega arith)))
    ∙ sym (ap (λ b. cond b (x.unit_range ∷ filter (is_between low last) (map unit_range_of xs)) (filter (is_between low last) (map unit_range_of xs))) (before x.unit_range.range.begin x.unit_range.range.end (h.0 0 x (omega arith) (omega arith))))
  where
    before : (b e : ℕ) → leb e low ≡ true → (nat_lt low e && nat_le b last) ≡ false
    before b e l = grind (arith, nat_tests)

pub found_from : (low last : ℕ) (items xs ys : List IndexedRange) (n : ℕ) → xs ≡ items → ys ≡ items → n ≤ length xs → IsPartitionPoint (λ y. ends_by low y ≡ true) (λ y. ends_by low y ≡ false) xs n
    → filter (range_begins_by last) (map unit_range_of (take (length ys - n) (drop n ys))) ≡ filter (is_between low last) (map unit_range_of items)
found_from low last items xs ys n e f le h =
    ap (λ zs. filter (range_begins_by last) (map unit_range_of zs)) (rest_is n ys items f)
    ∙ ap (λ zs. filter (range_begins_by last) (map unit_range_of (drop n zs))) (sym e)
    ∙ from_point low last xs n le h
    ∙ ap (λ zs. filter (is_between low last) (map unit_range_of zs)) e

-- the table of ranges that were put in order
pub given_is : (listed ordered : List UnitRange) (made : List IndexedRange) → ordered ≡ in_order ends_sooner listed → ◌≡◌ {A = Result (List IndexedRange) Error} (Ok (with_least_begins ordered)) (Ok made) → in_order ends_sooner listed ≡ map unit_range_of made
given_is listed ordered made e h = sym e ∙ sym (ranges_beside ordered) ∙ sym (ap (map unit_range_of) (sym (ok_is _ _ h)))

pub indexed_is : (listed ordered : List UnitRange) (made : List IndexedRange) → ordered ≡ in_order ends_sooner listed → ◌≡◌ {A = Result (List IndexedRange) Error} (Ok (with_least_begins ordered)) (Ok made) → AllByRecursion EndFits ordered → AreIndexed listed made
indexed_is listed ordered made e h fit =
    let is = given_is listed ordered made e h in
    record {
      sorted = sym is;
      ordered = subst (IsInOrder ends_sooner) is (in_order_ordered ends_sooner ends_order listed);
      least = sym (ok_is _ _ h) ∙ ap with_least_begins (e ∙ is);
      fit = subst (AllByRecursion EndFits) (e ∙ is) fit;
    }

-- no range ends past the greatest address
pub none_past_greatest : (low last : ℕ) → low ≡ last_address → (ranges : List UnitRange) → AllByRecursion EndFits ranges → filter (is_between low last) ranges ≡ []
none_past_greatest low last e [] fit = refl
none_past_greatest low last e (r ∷ ranges) fit =
    ap (λ b. cond b (r ∷ filter (is_between low last) ranges) (filter (is_between low last) ranges)) (of_numbers r.range.begin r.range.end fit.0) ∙ none_past_greatest low last e ranges fit.1
  where
    of_numbers : (b d : ℕ) → d ≤ last_address → (nat_lt low d && nat_le b last) ≡ false
    of_numbers b d h = grind (arith, nat_tests)
