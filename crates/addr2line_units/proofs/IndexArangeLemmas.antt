-- The ranges that `.debug_aranges` lists, in order, and set by set (on specs/IndexAranges.antt
-- and specs/UnitsMemory.antt).
use Rattle.addr2line_units.proofs.Common.{ℕ, ◌≡◌, ◌≤◌, Bool, true, false, cond, not, ◌&&◌, ◌==◌, nat_cmp, leb, ltb, zero, suc, List, [], ◌∷◌, length, take, drop, arith, ◌∙◌, ap, sym, refl, filter, AllByRecursion, IsPartitionPoint, ties, nat_tests, ranks_by, filter_agree, in_order, IsInOrder, in_order_ties, UnitArange, is_arange_of, offset_sooner, ◌++◌, Costed, Err, Error, Ok, Result, stored_aranges_in, append_assoc, free, nat_lt, or_left, or_right, set_aranges, subst, result_map, read_all, aranges_in}
use Rattle.std.specs.Prelude.{flat_map}
use Rattle.gimli.specs.Aranges.{ArangeSet}
use Rattle.gimli_read.specs.Costed.{◌>>=◌}
use Rattle.gimli_read.specs.Reading as reading
use Rattle.addr2line_units.proofs.UnitsMemoryLemmas.{IsRestOf, made_takes}
use Rattle.std.proofs.lemmas.Map.Keys.{ge_from_not_lt}
use Rattle.std.specs.Cmp.{IsStrictWeakOrder}
use Rattle.std.specs.Ordering.{is_lt}
use Rattle.std.proofs.lemmas.Cmp.{nat_cmp_total}
use Rattle.addr2line_lines.proofs.SeekLemmas.{Up}

-- by the offset of the unit is an order
pub offset_order : IsStrictWeakOrder offset_sooner
offset_order = ranks_by nat_cmp_total (λ (a : UnitArange). a.unit_offset.0)

-- those of one unit are the same before and after they are put in order
pub same_of_unit : (offset : ℕ) (listed : List UnitArange) → filter (is_arange_of offset) (in_order offset_sooner listed) ≡ filter (is_arange_of offset) listed
same_of_unit offset listed =
    let probe : UnitArange = record { unit_offset = record { 0 = offset }; range = record { begin = 0; end = 0 } } in
    filter_agree (is_arange_of offset) (ties offset_sooner probe) (λ a. of_numbers offset a.unit_offset.0) (in_order offset_sooner listed)
    ∙ in_order_ties offset_sooner offset_order probe listed
    ∙ sym (filter_agree (is_arange_of offset) (ties offset_sooner probe) (λ a. of_numbers offset a.unit_offset.0) listed)
  where
    of_numbers : (m n : ℕ) → (n == m) ≡ (not (is_lt (nat_cmp m n)) && not (is_lt (nat_cmp n m)))
    of_numbers m n = grind (arith, nat_tests)

-- the offset of the unit
abbrev pub offset_of : UnitArange → ℕ
offset_of a = a.unit_offset.0

-- in order the offsets don't fall
later_offsets : (x : UnitArange) (xs : List UnitArange) → AllByRecursion (λ y. offset_sooner y x ≡ false) xs → AllByRecursion (λ y. offset_of x ≤ offset_of y) xs
later_offsets x [] all = tt
later_offsets x (y ∷ ys) all = (ge_from_not_lt (offset_of y) (offset_of x) all.0, later_offsets x ys all.1)

pub offsets_up : (xs : List UnitArange) → IsInOrder offset_sooner xs → Up offset_of xs
offsets_up [] up = tt
offsets_up (x ∷ xs) up = (later_offsets x xs up.0, offsets_up xs up.1)

pub dropped_up : (n : ℕ) (xs : List UnitArange) → Up offset_of xs → Up offset_of (drop n xs)
dropped_up zero xs up = up
dropped_up (suc n) [] up = up
dropped_up (suc n) (x ∷ xs) up = dropped_up n xs up.1

-- whether the offset is below that of a unit, or not past it
abbrev pub is_below : ℕ → UnitArange → Bool
is_below offset a = ltb (offset_of a) offset

abbrev pub is_up_to : ℕ → UnitArange → Bool
is_up_to offset a = leb (offset_of a) offset

-- from the point on none is below
pub none_below : (offset : ℕ) (xs : List UnitArange) (n : ℕ) → n ≤ length xs → IsPartitionPoint (λ y. is_below offset y ≡ true) (λ y. is_below offset y ≡ false) xs n
    → AllByRecursion (λ y. is_below offset y ≡ false) (drop n xs)
none_below offset [] zero le h = tt
none_below offset [] (suc n) le h = tt
none_below offset (x ∷ xs) zero le h = (h.1 0 x (omega arith) (omega arith), none_below offset xs zero (omega arith) ((λ k d from l. absurd (omega arith)), (λ k d from l. h.1 (suc k) d (omega arith) (omega arith))))
none_below offset (x ∷ xs) (suc n) le h = none_below offset xs n (omega arith) ((λ k d from l. h.0 (suc k) d (omega arith) (omega arith)), (λ k d from l. h.1 (suc k) d (omega arith) (omega arith)))

-- what stands before the point belongs to no such unit
pub from_point : (offset : ℕ) (xs : List UnitArange) (n : ℕ) → n ≤ length xs → IsPartitionPoint (λ y. is_below offset y ≡ true) (λ y. is_below offset y ≡ false) xs n
    → filter (is_arange_of offset) (drop n xs) ≡ filter (is_arange_of offset) xs
from_point offset xs zero le h = refl
from_point offset [] (suc n) le h = refl
from_point offset (x ∷ xs) (suc n) le h =
    from_point offset xs n (omega arith) ((λ k d from l. h.0 (suc k) d (omega arith) (omega arith)), (λ k d from l. h.1 (suc k) d (omega arith) (omega arith)))
    ∙ sym (ap (λ b. cond b (x ∷ filter (is_arange_of offset) xs) (filter (is_arange_of offset) xs)) (before (offset_of x) (h.0 0 x (omega arith) (omega arith))))
  where
    before : (a : ℕ) → ltb a offset ≡ true → (a == offset) ≡ false
    before a l = grind (arith, nat_tests)

-- of those that are not below, the ones up to the point belong to the unit
pub up_to_point : (offset : ℕ) (xs : List UnitArange) (n : ℕ) → n ≤ length xs → AllByRecursion (λ y. is_below offset y ≡ false) xs
    → IsPartitionPoint (λ y. is_up_to offset y ≡ true) (λ y. is_up_to offset y ≡ false) xs n → take n xs ≡ filter (is_arange_of offset) xs
up_to_point offset [] zero le all h = refl
up_to_point offset [] (suc n) le all h = refl
up_to_point offset (x ∷ xs) zero le all h =
    up_to_point offset xs zero (omega arith) all.1 ((λ k d from l. absurd (omega arith)), (λ k d from l. h.1 (suc k) d (omega arith) (omega arith)))
    ∙ sym (ap (λ b. cond b (x ∷ filter (is_arange_of offset) xs) (filter (is_arange_of offset) xs)) (past (offset_of x) (h.1 0 x (omega arith) (omega arith))))
  where
    past : (a : ℕ) → leb a offset ≡ false → (a == offset) ≡ false
    past a l = grind (arith, nat_tests)
up_to_point offset (x ∷ xs) (suc n) le all h =
    ap (λ ys. x ∷ ys) (up_to_point offset xs n (omega arith) all.1 ((λ k d from l. h.0 (suc k) d (omega arith) (omega arith)), (λ k d from l. h.1 (suc k) d (omega arith) (omega arith))))
    ∙ sym (ap (λ b. cond b (x ∷ filter (is_arange_of offset) xs) (filter (is_arange_of offset) xs)) (same (offset_of x) (h.0 0 x (omega arith) (omega arith)) all.0))
  where
    same : (a : ℕ) → leb a offset ≡ true → ltb a offset ≡ false → (a == offset) ≡ true
    same a l m = grind (arith, nat_tests)

-- the ranges of the first set that is left, and those of the sets after it
module _ (shares : Bool) (before : List UnitArange) (left rest : List (Result ArangeSet Error)) (s : ArangeSet) (is : left ≡ Ok s ∷ rest) where
  abbrev all : List UnitArange → List (Result ArangeSet Error) → Costed (List UnitArange)
  all items sets = stored_aranges_in sets >>= λ more. free (Ok (items ++ more))

  pub set_takes : nat_lt 0 (length (set_aranges s)) ≡ true → (all before left).takes_memory shares ≡ true
  set_takes e = ap (λ sets. (all before sets).takes_memory shares) is ∙ or_left _ _ (or_left _ _ e)

  pub set_step : IsRestOf shares (all (before ++ set_aranges s) rest) (all before left)
  set_step = subst (λ sets. IsRestOf shares (all (before ++ set_aranges s) rest) (all before sets)) (sym is) (record {
    gives = by (stored_aranges_in rest).given;
    takes = λ t. or_left _ _ (or_right (nat_lt 0 (length (set_aranges s))) _ (or_left _ _ (made_takes _ _ t)));
  })
    where
      by : (r : Result (List UnitArange) Error) → reading.◌>>=◌ r (λ more. Ok ((before ++ set_aranges s) ++ more)) ≡ reading.◌>>=◌ (reading.◌>>=◌ r (λ more. Ok (set_aranges s ++ more))) (λ more. Ok (before ++ more))
      by (Ok more) = ap (λ xs. Ok xs) (append_assoc before (set_aranges s) more)
      by (Err e) = refl

-- ranges that are read set by set are those of the sets
pub aranges_given : (sets : List (Result ArangeSet Error)) → (stored_aranges_in sets).given ≡ aranges_in sets
aranges_given [] = refl
aranges_given (Err e ∷ sets) = refl
aranges_given (Ok s ∷ sets) =
    ap (λ r. reading.◌>>=◌ r (λ more. Ok (set_aranges s ++ more))) (aranges_given sets) ∙ of_all (read_all sets)
  where
    of_all : (r : Result (List ArangeSet) Error) → reading.◌>>=◌ (reading.◌>>=◌ r (λ all. Ok (flat_map set_aranges all))) (λ more. Ok (set_aranges s ++ more)) ≡ reading.◌>>=◌ (result_map (λ xs. s ∷ xs) r) (λ all. Ok (flat_map set_aranges all))
    of_all (Ok all) = refl
    of_all (Err e) = refl
