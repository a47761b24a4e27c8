-- The units of a section stand one after another (on specs/HeaderOrder.antt).
use Rattle.gimli.proofs.Common.{ℕ, zero, suc, ◌≡◌, ◌+◌, ◌-◌, ◌≤◌, List, [], ◌∷◌, length, drop, Option, Some, None, IfOk, Result, Ok, Err, arith, refl, ap, length-drop, Error, Section, continued, listed, listed_with, next_of, run_within, UnitHeaderFields, next_header_at}
use Rattle.gimli.specs.Entries.{unit_length}
use Rattle.gimli.specs.HeaderOrder.{AreHeadersInOrder, BeginFrom, HeadersInOrder}
use Rattle.gimli.proofs.UnitTexts.{IsNextUnit, IsUnitAt, headers_within, next_unit}

-- what begins after an offset begins after a lesser one
pub begin_later : (n m : ℕ) (headers : List (Result UnitHeaderFields Error)) → n ≤ m → BeginFrom m headers → BeginFrom n headers
begin_later n m [] le h = tt
begin_later n m (Ok x ∷ headers) le h = ((let l = h.0 in omega arith), begin_later n m headers le h.1)
begin_later n m (Err e ∷ headers) le h = (tt, begin_later n m headers le h.1)

-- units in order, from an offset on
record AreFrom (offset : ℕ) (headers : List (Result UnitHeaderFields Error)) : Type 0 where
  begin : BeginFrom offset headers
  order : AreHeadersInOrder headers

-- a unit in front of those that follow it
one_more : (section_length : ℕ) (s t : Section) (x : UnitHeaderFields) (headers : List (Result UnitHeaderFields Error)) → length s.bytes ≤ section_length → IsUnitAt section_length s t x
    → AreFrom (section_length - length t.bytes) headers → AreFrom (section_length - length s.bytes) (Ok x ∷ headers)
one_more section_length s t x headers le u more =
    let within = u.front.within in
    let begins = u.begins in
    let rest : length t.bytes ≡ length (drop (unit_length x) s.bytes) = ap (λ (y : Section). length y.bytes) u.front.rest in
    let count = length-drop (unit_length x) s.bytes in
    let end : x.offset.0 + unit_length x ≤ section_length - length t.bytes = omega arith in
    let later : section_length - length s.bytes ≤ section_length - length t.bytes = omega arith in
    record {
      begin = (omega arith, begin_later _ _ headers later more.begin);
      order = (begin_later _ _ headers end more.begin, more.order);
    }

in_order_within : (section_length n : ℕ) (s : Section) → length s.bytes ≤ section_length → AreFrom (section_length - length s.bytes) (listed (headers_within section_length n s))
unfolding run_within listed_with
in_order_within section_length zero s le = record { begin = (tt, tt); order = (tt, tt) }
in_order_within section_length (suc n) s le = at (in_order_within section_length n) (next_header_at section_length s) (next_unit section_length s).by
  where
    at : ((t : Section) → length t.bytes ≤ section_length → AreFrom (section_length - length t.bytes) (listed (headers_within section_length n t)))
        → (r : Result (Option UnitHeaderFields × Section) Error) → IfOk r (IsNextUnit section_length s) → AreFrom (section_length - length s.bytes) (listed (continued (headers_within section_length n) (next_of r)))
    at ih (Err d) k = record { begin = (tt, tt); order = (tt, tt) }
    at ih (Ok (None, t)) k = record { begin = tt; order = tt }
    at ih (Ok (Some x, t)) k =
        let u = k.unit x refl in
        let rest : length t.bytes ≡ length (drop (unit_length x) s.bytes) = ap (λ (y : Section). length y.bytes) u.front.rest in
        let count = length-drop (unit_length x) s.bytes in
        one_more section_length s t x (listed (headers_within section_length n t)) le u (ih t (omega arith))

pub headers_in_order : HeadersInOrder
headers_in_order s = (in_order_within (length s.bytes) (length s.bytes + 1) s (omega arith)).order
