-- No slot is looked at twice (on specs/Search.antt and specs/SearchLaws.antt).
use Rattle.package.proofs.Common.{◌≡◌, ◌∙◌, ◌⊎◌, inl, inr, ℕ, zero, suc, ◌+◌, ◌-◌, ◌*◌, ◌/◌, ◌%◌, ◌^◌, ◌==◌, ◌<◌, ◌≤◌, true, ap, sym, arith, cases_lt, probe, step_of}
use Rattle.std.specs.Prelude.{bit_or, count_ones}
use Rattle.std.specs.Int.{is_power_of_two}
use Rattle.std.specs.Int.Count.{ones_step}
use Rattle.std.proofs.Math.Nat.{add-mul, div-add-mod', mul_right_comm, mul_assoc, pow-suc, suc-mul}
use Rattle.std.proofs.lemmas.Bool.{and_parts, cases_eq, eqb-true, or_cases}
use Rattle.std.proofs.lemmas.Nat.{and_mask, and_or_self, mul-mod, ones_le_self, zero_from_ones}
use Rattle.package.specs.Index.{is_slot_count}
use Rattle.package.specs.SearchLaws.{LooksOnce}

-- a number with one bit is a power of two
power_of_one : (fuel n : ℕ) → n ≤ fuel → count_ones n ≡ 1 → (k : ℕ) × (n ≡ 2 ^ k)
power_of_one zero n l one = absurd (omega (arith, ones_le_self n))
power_of_one (suc fuel) n l one = by (λ m h. power_of_one fuel (n / 2) m h) (cases_eq (n % 2) 0)
  where
    step : count_ones n ≡ n % 2 + count_ones (n / 2)
    step = ones_step n

    by : (n / 2 ≤ fuel → count_ones (n / 2) ≡ 1 → (k : ℕ) × (n / 2 ≡ 2 ^ k)) → (n % 2 ≡ 0) ⊎ (n % 2 ≡ 0 → ⊥) → (k : ℕ) × (n ≡ 2 ^ k)
    by halved (inl even) =
        let some = ones_le_self n in
        let both = step in
        let half = halved (omega arith) (omega arith) in
        let twice = pow-suc 2 half.0 in
        let is = half.1 in
        (suc half.0, omega arith)
    by halved (inr odd) =
        let both = step in
        let none : n / 2 ≡ 0 = zero_from_ones (n / 2) (omega arith) in
        (0, omega arith)

-- a step is odd
step-odd : (n : ℕ) → bit_or n 1 % 2 ≡ 1
step-odd n = sym (and_mask (bit_or n 1) 1) ∙ and_or_self 1 n

-- twice a multiple of a power of two
doubled : (d e r k : ℕ) → d ≡ e * 2 → e ≡ r * 2 ^ k → d ≡ r * 2 ^ suc k
doubled d e r k twice is = twice ∙ ap (λ (x : ℕ). x * 2) is ∙ mul_assoc r (2 ^ k) 2 ∙ ap (λ (x : ℕ). r * x) (sym (pow-suc 2 k))

-- what a power of two divides after an odd factor, it divides before
before_odd : (k d s q : ℕ) → s % 2 ≡ 1 → d * s ≡ q * 2 ^ k → (r : ℕ) × (d ≡ r * 2 ^ k)
before_odd zero d s q odd is = (d, omega arith)
before_odd (suc k) d s q odd is =
    let all : d * s ≡ q * 2 ^ k * 2 = is ∙ ap (λ (x : ℕ). q * x) (pow-suc 2 k) ∙ sym (mul_assoc q (2 ^ k) 2) in
    let last : (d * s) % 2 ≡ (d % 2 * 1) % 2 = mul-mod d s 2 ∙ ap (λ (x : ℕ). (d % 2 * x) % 2) odd in
    let even : d ≡ d / 2 * 2 = omega arith in
    let halves : d * s ≡ d / 2 * s * 2 = ap (λ (x : ℕ). x * s) even ∙ mul_right_comm (d / 2) 2 s in
    let rest = before_odd k (d / 2) s q odd (omega arith) in
    let r = rest.0 in
    let half : d / 2 ≡ r * 2 ^ k = rest.1 in
    (r, doubled d (d / 2) r k even half)

-- numbers that leave the same of n are multiples of it apart
apart : (x y n : ℕ) → x ≤ y → x % n ≡ y % n → (q : ℕ) × (y ≡ x + q * n)
apart x y n l same = by (cases_lt (y / n) (x / n))
  where
    first : x / n * n + x % n ≡ x
    first = div-add-mod' x n

    second : y / n * n + y % n ≡ y
    second = div-add-mod' y n

    by : (y / n < x / n) ⊎ (x / n ≤ y / n) → (q : ℕ) × (y ≡ x + q * n)
    by (inl m) =
        let d = x / n - y / n in
        let sum : x / n * n ≡ y / n * n + d * n = ap (λ (z : ℕ). z * n) (let e : x / n ≡ y / n + d = omega arith in e) ∙ add-mul (y / n) d n in
        (0, omega arith)
    by (inr m) =
        let d = y / n - x / n in
        let sum : y / n * n ≡ x / n * n + d * n = ap (λ (z : ℕ). z * n) (let e : y / n ≡ x / n + d = omega arith in e) ∙ add-mul (x / n) d n in
        (d, omega arith)

-- a multiple below n is 0
none_below : (r n : ℕ) → r * n < n → r * n ≡ 0
none_below zero n l = omega arith
none_below (suc r) n l = absurd (omega (arith, suc-mul r n))

-- less than a power of two that divides it after an odd factor
small_is_none : (k n d s q : ℕ) → n ≡ 2 ^ k → s % 2 ≡ 1 → d * s ≡ q * n → d < n → d ≡ 0
small_is_none k n d s q power odd product l =
    let whole = before_odd k d s q odd (product ∙ ap (λ (x : ℕ). q * x) power) in
    by whole.0 (whole.1 ∙ ap (λ (x : ℕ). whole.0 * x) (sym power))
  where
    by : (r : ℕ) → d ≡ r * n → d ≡ 0
    by r multiple = multiple ∙ none_below r n (omega arith)

-- two probes that meet are one, where the second isn't the earlier
meets : (k id n i j : ℕ) → n ≡ 2 ^ k → i ≤ j → j < n → probe id n i ≡ probe id n j → i ≡ j
unfolding probe
meets k id n i j power l m same =
    let sum : j * step_of id n ≡ i * step_of id n + (j - i) * step_of id n = ap (λ (x : ℕ). x * step_of id n) (let e : j ≡ i + (j - i) = omega arith in e) ∙ add-mul i (j - i) (step_of id n) in
    by (apart (id % n + i * step_of id n) (id % n + j * step_of id n) n (omega arith) same) sum
  where
    by : (q : ℕ) × (id % n + j * step_of id n ≡ id % n + i * step_of id n + q * n) → j * step_of id n ≡ i * step_of id n + (j - i) * step_of id n → i ≡ j
    by far sum =
        let is = far.1 in
        let none = small_is_none k n (j - i) (step_of id n) far.0 power (step-odd (id / 2 ^ 32 % n)) (omega arith) (omega arith) in
        omega arith

-- where there may be so many slots
pub looks_once : (id unit_count slot_count : ℕ) → is_slot_count unit_count slot_count ≡ true → LooksOnce id slot_count
looks_once id unit_count slot_count may i j l m same = by (or_cases (slot_count == 0) (is_power_of_two slot_count) (and_parts _ _ may).0)
  where
    by_power : (k : ℕ) × (slot_count ≡ 2 ^ k) → i ≡ j
    by_power p = by_order (cases_lt j i)
      where
        by_order : (j < i) ⊎ (i ≤ j) → i ≡ j
        by_order (inl b) = sym (meets p.0 id slot_count j i p.1 (omega arith) l (sym same))
        by_order (inr b) = meets p.0 id slot_count i j p.1 b m same

    by : ((slot_count == 0) ≡ true) ⊎ (is_power_of_two slot_count ≡ true) → i ≡ j
    by (inl none) = absurd (omega (arith, eqb-true slot_count 0 none))
    by (inr one) = by_power (power_of_one slot_count slot_count (omega arith) (eqb-true _ _ one))
