-- The slots of an identifier, one after another (on specs/Search.antt).
use Rattle.package.proofs.Common.{◌≡◌, ◌∙◌, ℕ, ◌+◌, ◌<◌, ◌≤◌, ◌==◌, ◌⊎◌, inl, inr, Bool, true, false, cond, List, ◌∷◌, length, get_or, map, Option, Some, None, refl, ap, sym, arith, slice_index, cases_lt, eq-eqb, ne_eqb, or_from, or_left, or_right, get_or-map-range_with_len, length-map-range_with_len, find, range_with_len, Index, ends_at, probe, probes, row_in_slot, row_number, row_by_id}
use Rattle.std.specs.Prelude.{option_and_then}
use Rattle.std.proofs.lemmas.List.Recursion.{found_at, found_nowhere}

-- the search for an identifier ends at none of the first n slots that are looked at
pub record NoneEnds (index : Index) (id slot_count n : ℕ) : Type 0 where
  pub by : (k : ℕ) → k < n → ends_at index id (probe id slot_count k) ≡ false

pub none_at_first : (index : Index) (id slot_count : ℕ) → NoneEnds index id slot_count 0
none_at_first index id slot_count = record { by = λ k l. absurd (omega arith) }

-- what is made of the first element that passes
first_made : (p : ℕ → Bool) (make : ℕ → Option ℕ) (x : ℕ) (xs : List ℕ) → option_and_then make (find p (x ∷ xs)) ≡ cond (p x) (make x) (option_and_then make (find p xs))
first_made p make x xs = by (p x)
  where
    by : (b : Bool) → option_and_then make (cond b (Some x) (find p xs)) ≡ cond b (make x) (option_and_then make (find p xs))
    by true = refl
    by false = refl

-- the same of a list of the values of a function
value_at : (f : ℕ → ℕ) (count k : ℕ) → k < count → get_or (map f (range_with_len 0 count)) k 0 ≡ f k
value_at f count k l = get_or-map-range_with_len f 0 count k k 0 l (omega arith)

first_value : (p : ℕ → Bool) (make : ℕ → Option ℕ) (f : ℕ → ℕ) (count i : ℕ) → i < count → ((k : ℕ) → k < i → p (f k) ≡ false) → p (f i) ≡ true → option_and_then make (find p (map f (range_with_len 0 count))) ≡ make (f i)
first_value p make f count i l before here =
    let size = length-map-range_with_len f 0 count in
    found_at (λ xs. option_and_then make (find p xs)) p make None refl (first_made p make) (map f (range_with_len 0 count)) i 0 (omega arith)
    (λ k m. ap p (value_at f count k (omega arith)) ∙ before k m) (ap p (value_at f count i l) ∙ here)
    ∙ ap make (value_at f count i l)

no_value : (p : ℕ → Bool) (make : ℕ → Option ℕ) (f : ℕ → ℕ) (count : ℕ) → ((k : ℕ) → k < count → p (f k) ≡ false) → option_and_then make (find p (map f (range_with_len 0 count))) ≡ None
no_value p make f count none =
    let size = length-map-range_with_len f 0 count in
    found_nowhere (λ xs. option_and_then make (find p xs)) p make None refl (first_made p make) (map f (range_with_len 0 count)) 0
    (λ k m. let l : k < count = omega arith in ap p (value_at f count k l) ∙ none k l)

-- a slot that is looked at: it comes after n others, and has these numbers
pub record LooksAt (index : Index) (id slot_count n slot row : ℕ) : Type 0 where
  pub slots : slot_count ≡ length index.ids
  pub within : n < slot_count
  pub before : NoneEnds index id slot_count n
  pub place : slot ≡ probe id slot_count n
  pub has : row ≡ slice_index index.rows slot

module _ (index : Index) (id slot_count n slot number : ℕ) (at : LooksAt index id slot_count n slot number) where
  row_there : slice_index index.rows (probe id slot_count n) ≡ number
  row_there = ap (slice_index index.rows) (sym at.place) ∙ sym at.has

  -- the row of the identifier, where the search ends
  ended : ends_at index id (probe id slot_count n) ≡ true → row_number number ≡ row_by_id index id
  ended ends =
      ap row_number (sym row_there)
      ∙ sym (first_value (ends_at index id) (row_in_slot index) (probe id slot_count) slot_count n at.within at.before.by ends)
      ∙ ap (λ (count : ℕ). option_and_then (row_in_slot index) (find (ends_at index id) (probes id count))) at.slots

  -- it ends at an empty slot
  pub ends_empty : number ≡ 0 → ◌≡◌ {A = Option ℕ} None (row_by_id index id)
  ends_empty empty =
      ap row_number (sym empty)
      ∙ ended (or_left (slice_index index.rows (probe id slot_count n) == 0) (slice_index index.ids (probe id slot_count n) == id) (eq-eqb _ _ (row_there ∙ empty)))

  -- it ends at a slot that has the identifier
  pub ends_found : (number ≡ 0 → ⊥) → (found : ℕ) → found ≡ slice_index index.ids slot → found ≡ id → Some number ≡ row_by_id index id
  ends_found some found there is =
      sym (ap (λ (b : Bool). cond b None (Some number)) (ne_eqb number 0 some))
      ∙ ended (or_right (slice_index index.rows (probe id slot_count n) == 0) (slice_index index.ids (probe id slot_count n) == id)
      (eq-eqb _ _ (ap (slice_index index.ids) (sym at.place) ∙ sym there ∙ is)))

  -- and at no other one
  goes_on : (number ≡ 0 → ⊥) → (found : ℕ) → found ≡ slice_index index.ids slot → (found ≡ id → ⊥) → ends_at index id (probe id slot_count n) ≡ false
  goes_on some found there other = or_from (slice_index index.rows (probe id slot_count n) == 0) (slice_index index.ids (probe id slot_count n) == id)
      (ne_eqb _ _ (λ e. some (sym row_there ∙ e))) (ne_eqb _ _ (λ e. other (there ∙ ap (slice_index index.ids) at.place ∙ e)))

  pub one_more : (number ≡ 0 → ⊥) → (found : ℕ) → found ≡ slice_index index.ids slot → (found ≡ id → ⊥) → NoneEnds index id slot_count (n + 1)
  one_more some found there other = record { by = λ k l. below k l (cases_lt k n) }
    where
      below : (k : ℕ) → k < n + 1 → (k < n) ⊎ (n ≤ k) → ends_at index id (probe id slot_count k) ≡ false
      below k l (inl m) = at.before.by k m
      below k l (inr m) =
          let same : k ≡ n = omega arith in
          ap (λ (j : ℕ). ends_at index id (probe id slot_count j)) same ∙ goes_on some found there other

-- it ends nowhere
pub never_ends : (index : Index) (id slot_count n : ℕ) → slot_count ≡ length index.ids → slot_count ≤ n → NoneEnds index id slot_count n → ◌≡◌ {A = Option ℕ} None (row_by_id index id)
never_ends index id slot_count n slots all none =
    sym (no_value (ends_at index id) (row_in_slot index) (probe id slot_count) slot_count (λ k l. none.by k (omega arith)))
    ∙ ap (λ (count : ℕ). option_and_then (row_in_slot index) (find (ends_at index id) (probes id count))) slots
