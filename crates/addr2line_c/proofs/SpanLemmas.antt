-- Rows that are given one by one (on specs/RangeLookup.antt of addr2line_units).
use Rattle.addr2line_c.proofs.Common.{◌≡◌, ◌∷◌, List, [], Option, Some, None, option_map, Result, Ok, Err, refl, Error, result_map}
use Rattle.std.specs.Result.{result_transpose}
use Rattle.addr2line_units.specs.LocationsRange.{YieldsOn}

-- a row or a fault that was given was the first that was left
pub yields_first : {X Y : Type 0} (see : X → Y) (spans : List (Result Y Error)) (r : Result (Option X) Error)
    (left : List (Result Y Error)) (span : Result X Error)
    → YieldsOn spans (result_map (option_map see) r) left → result_transpose r ≡ Some span
    → spans ≡ result_map see span ∷ left
yields_first see spans (Ok None) left span y is = absurd cc
yields_first see [] (Ok (Some x)) left span y is = let f = y.0 in absurd cc
yields_first see (Ok z ∷ rest) (Ok (Some x)) left span y is = let f = y.0 in let l = y.1 in cc
yields_first see (Err e ∷ rest) (Ok (Some x)) left span y is = let f = y.0 in absurd cc
yields_first see [] (Err e) left span y is = let f = y.0 in absurd cc
yields_first see (Ok z ∷ rest) (Err e) left span y is = let f = y.0 in absurd cc
yields_first see (Err d ∷ rest) (Err e) left span y is = let f = y.0 in let l = y.1 in cc

-- where none was given, none was left
pub yields_none : {X Y : Type 0} (see : X → Y) (spans : List (Result Y Error)) (r : Result (Option X) Error)
    (left : List (Result Y Error))
    → YieldsOn spans (result_map (option_map see) r) left → result_transpose r ≡ None → spans ≡ []
yields_none see [] r left y is = refl
yields_none see (s ∷ rest) (Ok (Some x)) left y is = absurd cc
yields_none see (Ok z ∷ rest) (Ok None) left y is = let f = y.0 in absurd cc
yields_none see (Err e ∷ rest) (Ok None) left y is = let f = y.0 in absurd cc
yields_none see (s ∷ rest) (Err e) left y is = absurd cc
