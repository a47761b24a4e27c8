-- What is cached of a function is what a call that reads it again gives (on
-- specs/FunctionDetails.antt).
use Rattle.addr2line_lines.proofs.Common.{◌≡◌, ℕ, ◌≤◌, List, length, map, slice_get, Option, Some, None, Result, Ok, refl, ap, sym, subst, ◌∙◌, slice_get-map, slice_get_past, Error, UnitRecord, LazyFunction, Detail, as_function, fault_of, CachedFunction, FunctionTable, CachedDetails, Scope}
use Rattle.std.specs.Option.{option_map}
use Rattle.addr2line_lines.specs.FunctionDetails.{IsReadAt, IsReadOf, IsReadOnce}
use Rattle.addr2line_lines.proofs.ReadLemmas.{read_fault}

-- past the last function there is none
pub none_at : (d : CachedDetails) (fs : List LazyFunction) (n : ℕ) → length fs ≤ n → slice_get (map (as_function d) fs) n ≡ None
none_at d fs n l = slice_get-map (as_function d) fs n ∙ ap (option_map (as_function d)) (slice_get_past fs n l)

-- a function of a place
pub some_at : (d : CachedDetails) (fs : List LazyFunction) (n : ℕ) (f : LazyFunction) → slice_get fs n ≡ Some f → slice_get (map (as_function d) fs) n ≡ Some (as_function d f)
some_at d fs n f e = slice_get-map (as_function d) fs n ∙ ap (option_map (as_function d)) e

module _ (scope : Scope) (u : UnitRecord) (n : ℕ) (t : FunctionTable) where
  -- where there is no function nothing is read
  pub read_past : slice_get t.functions n ≡ None → IsReadAt scope u n t (Ok (tt {0})) t
  read_past e = subst (λ o. IsReadOf scope u n o t (Ok tt) t) (sym e) (refl, refl)

  -- what is cached is given again
  pub read_again : (f : CachedFunction) (v : Result Detail Error) → slice_get t.functions n ≡ Some f → f.detail ≡ Some v → IsReadAt scope u n t (fault_of v) t
  read_again f v e h = subst (λ o. IsReadOf scope u n o t (fault_of v) t) (sym e) (subst (λ w. IsReadOnce scope u n f w t (fault_of v) t) (sym h) (refl, refl))

  -- and it is the fault that is told
  pub fault_again : (f : CachedFunction) (v : Result Detail Error) → slice_get t.functions n ≡ Some f → f.detail ≡ Some v → read_fault scope u (slice_get t.functions n) ≡ fault_of v
  fault_again f v e h = ap (read_fault scope u) e ∙ by_detail f.offset f.detail h
    where
      by_detail : (offset : ℕ) (o : Option (Result Detail Error)) → o ≡ Some v → read_fault scope u (Some (record { offset = offset; detail = o })) ≡ fault_of v
      by_detail offset o k = ap (λ w. read_fault scope u (Some (record { offset = offset; detail = w }))) k
