-- Lists of which items were read.
use Rattle.addr2line_lines.proofs.Common.{◌≡◌, true, List, [], ◌∷◌, ◌++◌, map, Some, None, Result, Ok, Err, OnOk, refl, ap, ◌∙◌, Error, result_map, begins_well, read_all}
use Rattle.gimli_read.specs.Yields.{Yields}

-- what holds anyway holds where there is a value
pub on_ok : {X : Type 0} (P : Type 0) (r : Result X Error) → P → OnOk r P
on_ok P (Ok x) h = h
on_ok P (Err e) h = tt

-- what was left, by what a call gave of it
module _ {X : Type 0} where
  pub one_left : (old new : List (Result X Error)) (x : X) → Yields old (Ok (Some x)) new → old ≡ Ok x ∷ new
  one_left [] new x y = let e = y.0 in cc
  one_left (Ok z ∷ rest) new x y = let e = y.0 in let k = y.1 in cc
  one_left (Err e ∷ rest) new x y = let e = y.0 in cc

  pub fault_left : (old new : List (Result X Error)) (e : Error) → Yields old (Err e) new → read_all old ≡ Err e
  fault_left [] new e y = let k = y.0 in cc
  fault_left (Ok z ∷ rest) new e y = let k = y.0 in cc
  fault_left (Err d ∷ rest) new e y = let k = y.0 in cc

  pub none_left : (old new : List (Result X Error)) → Yields old (Ok None) new → old ≡ []
  none_left [] new y = refl
  none_left (Ok z ∷ rest) new y = let k = y.0 in cc
  none_left (Err d ∷ rest) new y = let k = y.0 in cc

-- a list of which the first items were read
module _ {X E : Type 0} where
  pub read_after : (xs : List X) (rest : List (Result X E)) → read_all (map Ok xs ++ rest) ≡ result_map (λ ys. xs ++ ys) (read_all rest)
  read_after [] rest = same (read_all rest)
    where
      same : (r : Result (List X) E) → r ≡ result_map (λ ys. ys) r
      same (Ok ys) = refl
      same (Err e) = refl
  read_after (x ∷ xs) rest = ap (result_map (λ ys. x ∷ ys)) (read_after xs rest) ∙ same (read_all rest)
    where
      same : (r : Result (List X) E) → result_map (λ ys. x ∷ ys) (result_map (λ ys. xs ++ ys) r) ≡ result_map (λ ys. x ∷ xs ++ ys) r
      same (Ok ys) = refl
      same (Err e) = refl

  pub begins_with_one : (xs : List X) (x : X) (rest : List (Result X E)) → begins_well {E = E} (Ok (map Ok xs ++ Ok x ∷ rest)) ≡ true
  begins_with_one [] x rest = refl
  begins_with_one (y ∷ xs) x rest = refl
