-- Marks of LLVM in a name.
use Rattle.std.proofs.Common.{◌≡◌, ◌∙◌, ◌≤◌, ◌<◌, ◌+◌, ℕ, zero, suc, true, false, List, [], ◌∷◌, ◌++◌, take, drop, length, ap, sym, refl, arith, add-one, take-append-drop}
use Rattle.std.proofs.Math.ListN.{drop_of_length-le}
use Rattle.std.proofs.lemmas.Bool.{eq-eqb, ne_eqb}
use Rattle.std.specs.Prelude.{◌&&◌, nat_eq, if◌then◌else◌}
use Rattle.std.specs.List.{list_all, starts_with}
use Rattle.memchr.specs.Find.{Nowhere, Passes, is_byte}
use Rattle.rust_v0.specs.Name.{llvm_mark, is_llvm_byte, without_llvm}

-- no mark at a place
mark_after : (name : List ℕ) (i : ℕ) → i < length name → starts_with nat_eq (drop i name) llvm_mark ≡ false
    → take i name ++ without_llvm (drop i name) ≡ take (suc i) name ++ without_llvm (drop (suc i) name)
mark_after [] i lt apart = absurd (omega arith)
mark_after (b ∷ bs) zero lt apart = ap (λ q. if q then (if list_all is_llvm_byte (drop (length llvm_mark) (b ∷ bs)) then [] else b ∷ bs) else b ∷ without_llvm bs) apart
mark_after (b ∷ bs) (suc i) lt apart = ap (λ s. b ∷ s) (mark_after bs i (omega arith) apart)

pub mark_more : (name : List ℕ) (i : ℕ) → i < length name → starts_with nat_eq (drop i name) llvm_mark ≡ false
    → take i name ++ without_llvm (drop i name) ≡ take (i + 1) name ++ without_llvm (drop (i + 1) name)
mark_more name i lt apart = rw add-one (mark_after name i lt apart)

-- a mark at a place
pub mark_found : (bytes : List ℕ) → starts_with nat_eq bytes llvm_mark ≡ true
    → without_llvm bytes ≡ (if list_all is_llvm_byte (drop (length llvm_mark) bytes) then [] else bytes)
mark_found [] here = cc
mark_found (b ∷ bs) here = ap (λ q. if q then (if list_all is_llvm_byte (drop (length llvm_mark) (b ∷ bs)) then [] else b ∷ bs) else b ∷ without_llvm bs) here

-- a name without a mark before its end stays whole
pub whole_name : (name : List ℕ) (at : ℕ) → length name ≤ at → take at name ++ without_llvm (drop at name) ≡ without_llvm name → name ≡ without_llvm name
whole_name name at past e =
    let none : drop at name ≡ [] = drop_of_length-le name past in
    sym (take-append-drop at name) ∙ ap (λ rest. take at name ++ rest) none ∙ ap (λ rest. take at name ++ without_llvm rest) (sym none) ∙ e

-- a name without a dot has no mark
pub no_mark : (name : List ℕ) → Nowhere (Passes (is_byte 46) name) 0 (length name) → name ≡ without_llvm name
no_mark [] none = refl
no_mark (b ∷ bs) none =
    let other : nat_eq 46 b ≡ false = ne_eqb 46 b (λ e. none 0 (omega arith) (omega arith) (eq-eqb b 46 (sym e))) in
    let apart : starts_with nat_eq (b ∷ bs) llvm_mark ≡ false = ap (λ q. q && starts_with nat_eq bs (drop 1 llvm_mark)) other in
    ap (λ rest. b ∷ rest) (no_mark bs (λ k from below. none (suc k) (omega arith) (omega (arith, below))))
    ∙ sym (ap (λ q. if q then (if list_all is_llvm_byte (drop (length llvm_mark) (b ∷ bs)) then [] else b ∷ bs) else b ∷ without_llvm bs) apart)
