-- A range beside all others is picked where it holds the probe (on specs/Pick.antt).
use Rattle.addr2line_lines.proofs.Common.{ℕ, ◌≡◌, ◌<◌, ◌≤◌, ◌⊎◌, ◌&&◌, ◌==◌, true, cond, List, [], ◌∷◌, length, slice_index_or, Some, None, zero, suc, arith, inl, inr, ◌∙◌, ap, subst, refl, AllByRecursion, nat_tests, recursion_from_All, last, if_past, IsDisjoint, LoneIsPicked, In, In-passes, All-passing, lt-ltb}
use Rattle.std.specs.List.{filter}
use Rattle.std.specs.Option.{option_and_then}
use Rattle.addr2line_lines.proofs.PickLemmas.{IsBefore, same_ends, counting_is}
use Rattle.addr2line_lines.proofs.Facts.{both_same}

module _ {X : Type 0} where
  pub from_contains : (xs : List X) (z : X) (k : ℕ) → k < length xs → slice_index_or xs k z ≡ z → In z xs
  from_contains [] z k l e = absurd (omega arith)
  from_contains (x ∷ xs) z zero l e = inl e
  from_contains (x ∷ xs) z (suc k) l e = inr (from_contains xs z k (omega arith) e)

  all_same : (ys : List X) (z : X) → AllByRecursion (λ y. y ≡ z) ys → (ys ≡ []) ⊎ (last ys ≡ Some z)
  all_same [] z all = inl refl
  all_same (y ∷ []) z all = inr (ap Some all.0)
  all_same (y ∷ w ∷ ys) z all = elim (all_same (w ∷ ys) z all.1) [ inl e ↦ absurd cc | inr h ↦ inr h ]

  last_same : (ys : List X) (z : X) → AllByRecursion (λ y. y ≡ z) ys → In z ys → last ys ≡ Some z
  last_same ys z all i = elim (all_same ys z all) [ inl e ↦ absurd (subst (In z) e i) | inr h ↦ h ]

module _ {X : Type 0} (begin end : X → ℕ) where
  -- a range is z, or lies beside it
  abbrev ItOrBeside : X → X → Type 0
  ItOrBeside z x = (x ≡ z) ⊎ IsDisjoint begin end z x

  not_other : (z x : X) → begin z < end z → same_ends begin end z x ≡ true → ItOrBeside z x → x ≡ z
  not_other z x some t h =
      elim h [
        | inl e ↦ e
        | inr b ↦ absurd (apart (begin x) (end x) (begin z) (end z) some t b)
      ]
    where
      apart : (a b c d : ℕ) → c < d → (a == c && b == d) ≡ true → (a < b) × ((b ≤ c) ⊎ (d ≤ a)) → ⊥
      apart a b c d l e k = grind (arith, nat_tests)

  past_or_before : (probe : ℕ) (z x : X) → probe < end z → ItOrBeside z x → (probe < begin x) ⊎ IsBefore begin end z x
  past_or_before probe z x l h =
      elim h [
        | inl e ↦ inr (inr (ap begin e, (let f : end x ≡ end z = ap end e in omega arith)))
        | inr b ↦ sides b.0 b.1
      ]
    where
      sides : begin x < end x → (end x ≤ begin z) ⊎ (end z ≤ begin x) → (probe < begin x) ⊎ IsBefore begin end z x
      sides some s = elim s [ inl low ↦ inr (inl (omega arith)) | inr high ↦ inl (omega arith) ]

  pub lone_is_picked : LoneIsPicked begin end
  lone_is_picked probe xs z c low l all =
      let i = from_contains xs z c.0 c.1 c.2 in
      let only = All-passing (ItOrBeside z) (λ x. x ≡ z) (same_ends begin end z) (λ x t h. not_other z x (omega arith) t h) xs all in
      let is = last_same (filter (same_ends begin end z) xs) z (recursion_from_All (λ x. x ≡ z) (filter (same_ends begin end z) xs) only) (In-passes (same_ends begin end z) xs z i (both_same (begin z) (end z))) in
      ap (option_and_then (if_past end probe)) (counting_is begin end probe xs z (λ k d h. past_or_before probe z _ l (all k d h)) low is) ∙ ap (λ b. cond b (Some z) None) (lt-ltb probe (end z) l)
