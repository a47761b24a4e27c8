-- Steps with the memory that they take, and the units of headers, one after another (on
-- specs/UnitsMemory.antt, UnitsOfHeaders of addr2line_lines and Costed of gimli_read).
use Rattle.addr2line_units.proofs.Common.{◌≡◌, ◌≢◌, ◌∙◌, ◌||◌, Bool, true, false, List, [], ◌∷◌, ◌++◌, Option, option_to_list, Result, Ok, Err, refl, sym, ap, subst, Error, OutOfMemory, Costed, free, takes_memory_after, UnitHeaderFields, put_to, stored_units_of, or_left, filter_map, map, None, Some, result_map, read_all, units_of}
use Rattle.std.proofs.Math.Bool.{or-true}
use Rattle.gimli_read.specs.Costed.{◌>>=◌, by_stored}
use Rattle.gimli_read.specs.Reading as reading

pub then_takes : {A : Type 0} (before : Bool) (given : Result A Error) (takes : A → Bool) (x : A) → given ≡ Ok x → takes x ≡ true → (before || takes_memory_after given takes) ≡ true
then_takes before given takes x e t = ap (λ r. before || takes_memory_after r takes) e ∙ ap (λ b. before || b) t ∙ or-true before

-- nothing is taken to make something of a value
pub made_takes : {A : Type 0} (before : Bool) (given : Result A Error) → (before || takes_memory_after given (λ x. false)) ≡ true → before ≡ true
made_takes true given e = refl
made_takes false (Ok x) e = e
made_takes false (Err f) e = e

-- what is left gives what the whole gives, and takes memory only where the whole does
pub record IsRestOf {A : Type 0} (shares : Bool) (rest whole : Costed A) : Type 0 where
  pub gives : rest.given ≡ whole.given
  pub takes : rest.takes_memory shares ≡ true → whole.takes_memory shares ≡ true

pub rest_of_rest : {A : Type 0} {shares : Bool} {a b c : Costed A} → IsRestOf shares a b → IsRestOf shares b c → IsRestOf shares a c
rest_of_rest p q = record { gives = p.gives ∙ q.gives; takes = λ t. q.takes (p.takes t) }

-- what gives the same as a plain reading is that reading, with its memory
pub rest_of_plain : {A : Type 0} (shares : Bool) (c : Costed A) (given : Result A Error) → c.given ≡ given → IsRestOf shares c (by_stored c given)
rest_of_plain shares c given e = record { gives = e; takes = λ t. t }

-- a fault of what is left is one of the whole
pub fault_of_rest : {A : Type 0} (shares : Bool) (rest whole : Costed A) (e : Error) → IsRestOf shares rest whole
    → ((rest.takes_memory shares ≡ true → e ≢ OutOfMemory) → rest.given ≡ Err e) → (whole.takes_memory shares ≡ true → e ≢ OutOfMemory) → whole.given ≡ Err e
fault_of_rest shares rest whole e i h may = sym i.gives ∙ h (λ t. may (i.takes t))

-- what is put to nothing
pub put_to_nothing : {Y : Type 0} (shares : Bool) (c : Costed (List Y)) → IsRestOf shares (c >>= λ ys. free (Ok ([] ++ ys))) c
put_to_nothing {Y} shares c = record { gives = same c.given; takes = λ t. made_takes _ _ t }
  where
    same : (r : Result (List Y) Error) → reading.◌>>=◌ r (λ ys. Ok ys) ≡ r
    same (Ok ys) = refl
    same (Err e) = refl

-- memory may be taken for units where readers share their bytes
pub shared_take : {U : Type 0} (shares : Bool) (read : UnitHeaderFields → Costed (Option U)) (headers : List (Result UnitHeaderFields Error)) → shares ≡ true → (stored_units_of read headers).takes_memory shares ≡ true
shared_take shares read [] e = e
shared_take shares read (header ∷ headers) e = or_left _ _ (or_left shares _ e)

-- the unit of the first header that is left, and of those after it
module _ {U S : Type 0} (shares : Bool) (read : UnitHeaderFields → Costed (Option U)) (put : S → List U → S) (s : S) (left rest : List (Result UnitHeaderFields Error)) (h : UnitHeaderFields) (is : left ≡ Ok h ∷ rest) where
  abbrev all : S → List (Result UnitHeaderFields Error) → Costed S
  all t headers = stored_units_of read headers >>= λ us. free (Ok (put t us))

  abbrev one : Costed S
  one = put_to put s (read h)

  abbrev from : Result (Option U) Error → Result S Error
  from unit = reading.◌>>=◌ (reading.◌>>=◌ unit (λ u. reading.◌>>=◌ (stored_units_of read rest).given (λ us. Ok (option_to_list u ++ us)))) (λ us. Ok (put s us))

  pub unit_step : (t : S) → ((us vs : List U) → put s (us ++ vs) ≡ put (put s us) vs) → one.given ≡ Ok t → IsRestOf shares (all t rest) (all s left)
  unit_step t law e = subst (λ headers. IsRestOf shares (all t rest) (all s headers)) (sym is) (of_unit (read h).given refl e)
    where
      of_rest : (us : List U) (q : Result (List U) Error) → reading.◌>>=◌ q (λ vs. Ok (put (put s us) vs)) ≡ reading.◌>>=◌ (reading.◌>>=◌ q (λ vs. Ok (us ++ vs))) (λ vs. Ok (put s vs))
      of_rest us (Ok vs) = ap Ok (sym (law us vs))
      of_rest us (Err f) = refl

      of_unit : (r : Result (Option U) Error) → (read h).given ≡ r → reading.◌>>=◌ r (λ unit. Ok (put s (option_to_list unit))) ≡ Ok t → IsRestOf shares (all t rest) (all s (Ok h ∷ rest))
      of_unit (Err f) same k = absurd cc
      of_unit (Ok unit) same k =
          let put_is : put s (option_to_list unit) ≡ t = cc in
          record {
            gives = ap (λ u. (all u rest).given) (sym put_is) ∙ of_rest (option_to_list unit) (stored_units_of read rest).given ∙ sym (ap from same);
            takes = λ k. or_left _ _ (then_takes _ _ _ unit same (or_left _ _ (made_takes _ _ k)));
          }

  pub unit_fault : (e : Error) → ((one.takes_memory shares ≡ true → e ≢ OutOfMemory) → one.given ≡ Err e) → ((all s left).takes_memory shares ≡ true → e ≢ OutOfMemory) → (all s left).given ≡ Err e
  unit_fault e k = subst (λ headers. ((all s headers).takes_memory shares ≡ true → e ≢ OutOfMemory) → (all s headers).given ≡ Err e) (sym is) (λ may.
      of_unit (read h).given refl (k (λ t. may (or_left _ _ (or_left _ _ (then_takes shares (Ok h) (λ x. (read x).takes_memory shares) h refl (made_takes _ _ t)))))))
    where
      of_unit : (r : Result (Option U) Error) → (read h).given ≡ r → reading.◌>>=◌ r (λ unit. Ok (put s (option_to_list unit))) ≡ Err e → (all s (Ok h ∷ rest)).given ≡ Err e
      of_unit (Ok unit) same q = absurd cc
      of_unit (Err f) same q = let fault_is : f ≡ e = cc in ap from same ∙ ap (λ g. Err g) fault_is

-- units that are read one after another are the units of the headers
module _ {U : Type 0} (read : UnitHeaderFields → Costed (Option U)) where
  abbrev counted : Result (List (Option U)) Error → Result (List U) Error
  counted units = reading.◌>>=◌ units (λ us. Ok (filter_map (λ u. u) us))

  pub units_given : (headers : List (Result UnitHeaderFields Error)) → (stored_units_of read headers).given ≡ units_of (λ h. (read h).given) headers
  units_given [] = refl
  units_given (Err e ∷ headers) = refl
  units_given (Ok h ∷ headers) =
      ap (λ q. reading.◌>>=◌ (read h).given (λ unit. reading.◌>>=◌ q (λ us. Ok (option_to_list unit ++ us)))) (units_given headers)
      ∙ of_unit (read h).given (map (λ x. reading.◌>>=◌ x (λ y. (read y).given)) headers)
    where
      of_both : (u : Option U) (q : Result (List (Option U)) Error) → reading.◌>>=◌ (counted q) (λ us. Ok (option_to_list u ++ us)) ≡ counted (result_map (λ us. u ∷ us) q)
      of_both u (Err e) = refl
      of_both None (Ok us) = refl
      of_both (Some u) (Ok us) = refl

      of_unit : (r : Result (Option U) Error) (rs : List (Result (Option U) Error)) → reading.◌>>=◌ r (λ unit. reading.◌>>=◌ (counted (read_all rs)) (λ us. Ok (option_to_list unit ++ us))) ≡ counted (read_all (r ∷ rs))
      of_unit (Err e) rs = refl
      of_unit (Ok u) rs = of_both u (read_all rs)
