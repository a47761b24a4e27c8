-- Sizes in a usual unit (on specs/ValueSize.antt).
use Rattle.gimli_read.proofs.Common.{◌≡◌, ℕ, ◌+◌, ◌==◌, ◌&&◌, Bool, true, false, cond, nat_lt, Some, refl, ap, ◌∙◌, arith, eqb-true, ltb-true, and_parts, common_steps, Encoding, is_address_size, offset_size, bytes_of, counted_bytes, is_usual, AddsCounted, AddsSize}
use Rattle.gimli_read.specs.declared.size.TheConstants.{USUAL}
use Rattle.gimli_read.specs.declared.size.TotalSize.{TotalSize}
use Rattle.gimli_read.specs.declared.size.ValueSize.{ValueSize}
use Rattle.gimli_read.specs.declared.size.ValueSize.TheVariants as sizes

-- a value has the same bytes in all usual units
usual_bytes : (e : Encoding) (size : ValueSize) → is_usual e ≡ true → bytes_of e size ≡ bytes_of USUAL size
usual_bytes e size h = at size
  where
    split : ((e.address_size == 8 && nat_lt 2 e.version) ≡ true) × (offset_size e.format == 4 ≡ true)
    split = and_parts (e.address_size == 8 && nat_lt 2 e.version) (offset_size e.format == 4) h

    front : (e.address_size == 8 ≡ true) × (nat_lt 2 e.version ≡ true)
    front = and_parts (e.address_size == 8) (nat_lt 2 e.version) split.0

    eight : e.address_size ≡ 8
    eight = eqb-true _ _ front.0

    four : offset_size e.format ≡ 4
    four = eqb-true _ _ split.1

    later : e.version == 2 ≡ false
    later = let l = ltb-true 2 e.version front.1 in grind (arith, common_steps, l)

    at : (size : ValueSize) → bytes_of e size ≡ bytes_of USUAL size
    at (sizes.Bytes n) = refl
    at sizes.Address = rw eight refl
    at sizes.Offset = ap Some four
    at sizes.AddressOrOffset = rw later (ap Some four)
    at sizes.Number = refl
    at sizes.Block = refl
    at sizes.Text = refl
    at sizes.Other = refl

-- an address of a usual unit has a size that can be read
pub usual_address : (e : Encoding) → is_usual e ≡ true → is_address_size e.address_size ≡ true
usual_address e h =
    let split = and_parts (e.address_size == 8 && nat_lt 2 e.version) (offset_size e.format == 4) h in
    let eight : e.address_size ≡ 8 = eqb-true _ _ (and_parts (e.address_size == 8) (nat_lt 2 e.version) split.0).0 in
    rw eight refl

-- a total is another with a value, if its parts are
pub adds_size : (size : ValueSize) (old new : TotalSize) (n : ℕ) → bytes_of USUAL size ≡ Some n → new.usual ≡ old.usual + n → AddsCounted size old.counted new.counted → AddsSize size old new
adds_size size old new n a b h e v = at (is_usual e) refl
  where
    at : (c : Bool) → is_usual e ≡ c → (k : ℕ) × (bytes_of e size ≡ Some k) × (cond (is_usual e) new.usual (counted_bytes e new.counted) ≡ cond (is_usual e) old.usual (counted_bytes e old.counted) + k)
    at true u = rw u (n, usual_bytes e size u ∙ a, b)
    at false u = rw u (h e v)
