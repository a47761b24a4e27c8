-- The rows of a line program as rows that come one at a time.
use Rattle.addr2line_lines.proofs.Common.{◌≡◌, List, [], ◌∷◌, Option, Some, None, Result, Ok, Err, IfOk, refl, ap, sym, subst, Error, OutOfMemory, LineRow, rows_before, NeverFalls, result_map, read_all}
use Rattle.gimli_read.specs.Yields.{Yields}
use Rattle.gimli_line.specs.Lines.{YieldsUnlessOom}

-- rows that are given unless memory is refused
pub yields_given : {X : Type 0} (old new : List (Result X Error)) (r : Result (Option X) Error) → YieldsUnlessOom old r new → (r ≡ Err OutOfMemory → ⊥) → Yields old r new
yields_given {X} old new (Ok None) y h = none old y.0
  where
    none : (xs : List (Result X Error)) → xs ≡ [] → Yields xs (Ok None) new
    none [] e = (refl, y.1)
    none (x ∷ xs) e = cc
yields_given {X} old new (Ok (Some x)) y h = some old y
  where
    some : (xs : List (Result X Error)) → xs ≡ Ok x ∷ new → Yields xs (Ok (Some x)) new
    some [] e = cc
    some (Ok y ∷ xs) e = let a : y ≡ x = cc in let b : xs ≡ new = cc in (ap (λ z. Ok (Some z)) (cc), cc)
    some (Err d ∷ xs) e = cc
yields_given {X} old new (Err e) y h = fault old (y.1 (λ k. h (ap Err k)))
  where
    fault : (xs : List (Result X Error)) → xs ≡ Err e ∷ [] → Yields xs (Err e) new
    fault [] k = cc
    fault (Ok z ∷ xs) k = cc
    fault (Err d ∷ xs) k = let a : e ≡ d = cc in (ap Err a, y.0)

-- all rows are those before the fault, where there is none
all_before : (rows : List (Result LineRow Error)) → IfOk (read_all rows) (λ xs. xs ≡ rows_before rows)
all_before [] = refl
all_before (Ok x ∷ rest) = more (read_all rest) (all_before rest)
  where
    more : (r : Result (List LineRow) Error) → IfOk r (λ xs. xs ≡ rows_before rest) → IfOk (result_map (λ xs. x ∷ xs) r) (λ xs. xs ≡ x ∷ rows_before rest)
    more (Ok xs) e = ap (λ ys. x ∷ ys) e
    more (Err e) k = tt
all_before (Err e ∷ rest) = tt

pub falls_nowhere : (rows : List (Result LineRow Error)) → NeverFalls (rows_before rows) → IfOk (read_all rows) NeverFalls
falls_nowhere rows n = at (read_all rows) (all_before rows)
  where
    at : (r : Result (List LineRow) Error) → IfOk r (λ xs. xs ≡ rows_before rows) → IfOk r NeverFalls
    at (Ok xs) e = let P : List LineRow → Type 0 = λ ys. NeverFalls ys in subst P (sym e) n
    at (Err e) k = tt
