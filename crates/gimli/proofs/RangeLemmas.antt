-- Range lists, one entry on (on specs/RangeListEntries.antt and specs/Ranges.antt).
use Rattle.gimli.proofs.Common.{◌≡◌, ℕ, ◌+◌, ◌-◌, ◌*◌, ◌^◌, ◌%◌, ◌==◌, bit_and, true, List, [], ◌∷◌, length, Option, Some, None, Result, Ok, Err, ap, sym, ◌∙◌, arith, Error, Encoding, is_before_5, Section, Reading, mapped, is_address_size, address_at, uleb128_at, Run, next_of, continued, Shorter, TakesBytes, takes_by, shorter_bind, shorter_if, shorter_ok, shorter_err, fixed-shorter, uleb128-shorter, address-shorter, sum_of_size, range_of_entry, with_range_first, ranges_of_entries, ranges_from, Sections, UnitRecord}
use Rattle.std.proofs.lemmas.Nat.{and_mask}
use lib.Pow.{mod-mod-pow}
use Rattle.gimli_read.specs.declared.range.Range.{Range}
use Rattle.gimli_read.proofs.RunLemmas.{run_of-step}
use Rattle.gimli.specs.declared.constants.TheConstants.{DW_RLE_end_of_list, DW_RLE_base_addressx, DW_RLE_startx_endx, DW_RLE_startx_length, DW_RLE_offset_pair, DW_RLE_base_address, DW_RLE_start_end, DW_RLE_start_length}
use Rattle.gimli.specs.declared.rnglists.RangeListEntry.{RangeListEntry}
use Rattle.gimli.specs.declared.rnglists.RangeListEntry.TheVariants.{BaseAddressx, StartxEndx, StartxLength, OffsetPair, BaseAddress, StartEnd, StartLength}
use Rattle.gimli_line.specs.AddressSize.{greatest_address}
use Rattle.gimli_line.proofs.Limits.{size_small}
use Rattle.gimli.specs.RangeListEntries.{entry_of_two, rnglists_fields_at, rnglists_entry_at, ranges_entry_at, range_list_entry_at, range_list_entries}

-- a sum of 64 bits and all ones
masked : (n j k : ℕ) → j + k ≡ 64 → bit_and (n % 2 ^ 64) (2 ^ k - 1) ≡ n % 2 ^ k
masked n j k h =
    let wide : n % 2 ^ 64 ≡ n % 2 ^ (j + k) = ap (λ w. n % 2 ^ w) (sym h) in
    and_mask (n % 2 ^ 64) k ∙ ap (λ m. m % 2 ^ k) wide ∙ mod-mod-pow n j k

pub masked_sum : (size a b : ℕ) → is_address_size size ≡ true → bit_and ((a + b) % 2 ^ 64) (greatest_address size) ≡ sum_of_size size a b
masked_sum size a b h = let l = size_small size h in masked (a + b) (64 - 8 * size) (8 * size) (omega arith)

one_shorter : (make : ℕ → RangeListEntry) (field : Section → Reading ℕ) → ((s : Section) → Shorter (length s.bytes) (field s)) → (s : Section) → Shorter (length s.bytes) (mapped make (field s))
one_shorter make field h s = shorter_bind (h s) (λ x k. shorter_ok k)

two_shorter : (make : ℕ → ℕ → RangeListEntry) (first second : Section → Reading ℕ) → ((s : Section) → Shorter (length s.bytes) (first s)) → ((s : Section) → Shorter (length s.bytes) (second s))
    → (s : Section) → Shorter (length s.bytes) (entry_of_two make first second s)
two_shorter make first second h k s = shorter_bind (h s) (λ x l. shorter_bind (k x.1) (λ y m. shorter_ok (omega (arith, l, m))))

fields_shorter : (size kind : ℕ) (s : Section) → Shorter (length s.bytes) (rnglists_fields_at size kind s)
unfolding rnglists_fields_at
fields_shorter size kind s =
    shorter_if (kind == DW_RLE_base_addressx) (one_shorter BaseAddressx uleb128_at uleb128-shorter s)
    (shorter_if (kind == DW_RLE_startx_endx) (two_shorter StartxEndx uleb128_at uleb128_at uleb128-shorter uleb128-shorter s)
    (shorter_if (kind == DW_RLE_startx_length) (two_shorter StartxLength uleb128_at uleb128_at uleb128-shorter uleb128-shorter s)
    (shorter_if (kind == DW_RLE_offset_pair) (two_shorter OffsetPair uleb128_at uleb128_at uleb128-shorter uleb128-shorter s)
    (shorter_if (kind == DW_RLE_base_address) (one_shorter BaseAddress (address_at size) (address-shorter size) s)
    (shorter_if (kind == DW_RLE_start_end) (two_shorter StartEnd (address_at size) (address_at size) (address-shorter size) (address-shorter size) s)
    (shorter_if (kind == DW_RLE_start_length) (two_shorter StartLength (address_at size) uleb128_at (address-shorter size) uleb128-shorter s) shorter_err))))))

rnglists_entry_shorter : (size : ℕ) (s : Section) → Shorter (length s.bytes) (rnglists_entry_at size s)
unfolding rnglists_entry_at
rnglists_entry_shorter size s =
    shorter_bind (fixed-shorter 1 s (omega arith)) (λ kind h.
    shorter_if (kind.0 == DW_RLE_end_of_list) (shorter_ok h)
    (shorter_bind (fields_shorter size kind.0 kind.1) (λ x k. shorter_ok (omega (arith, h, k)))))

ranges_entry_shorter : (size : ℕ) (s : Section) → Shorter (length s.bytes) (ranges_entry_at size s)
unfolding ranges_entry_at
ranges_entry_shorter size s =
    shorter_bind (address-shorter size s) (λ x h. shorter_bind (address-shorter size x.1) (λ y k. shorter_ok (omega (arith, h, k))))

entry_shorter : (encoding : Encoding) (s : Section) → Shorter (length s.bytes) (range_list_entry_at encoding s)
unfolding range_list_entry_at
entry_shorter encoding s =
    shorter_if (is_before_5 encoding.version) (ranges_entry_shorter encoding.address_size s) (rnglists_entry_shorter encoding.address_size s)

pub entry_takes : (encoding : Encoding) → TakesBytes (range_list_entry_at encoding)
entry_takes encoding = takes_by (range_list_entry_at encoding) (entry_shorter encoding)

-- the ranges of a run of entries
abbrev ranges_in : Sections → UnitRecord → ℕ → Run RangeListEntry Section → List (Result Range Error)
ranges_in d u base run = ranges_of_entries d u base run.items run.end

from_step : (d : Sections) (u : UnitRecord) (base : ℕ) (s : Section) (r : Reading (Option RangeListEntry)) → range_list_entry_at u.header.encoding s ≡ r
    → ranges_from d u base s ≡ ranges_in d u base (continued (range_list_entries u.header.encoding) (next_of r))
from_step d u base s r h =
    ap (ranges_in d u base)
    (run_of-step (range_list_entry_at u.header.encoding) (entry_takes u.header.encoding) s ∙ ap (λ q. continued (range_list_entries u.header.encoding) (next_of q)) h)

pub from_end : (d : Sections) (u : UnitRecord) (base : ℕ) (s t : Section) → range_list_entry_at u.header.encoding s ≡ Ok (None, t) → ranges_from d u base s ≡ []
unfolding ranges_of_entries
from_end d u base s t h = from_step d u base s (Ok (None, t)) h

pub from_fault : (d : Sections) (u : UnitRecord) (base : ℕ) (s : Section) (e : Error) → range_list_entry_at u.header.encoding s ≡ Err e → ranges_from d u base s ≡ Err e ∷ []
unfolding ranges_of_entries
from_fault d u base s e h = from_step d u base s (Err e) h

from_entry : (d : Sections) (u : UnitRecord) (base : ℕ) (s t : Section) (x : RangeListEntry) (r : Result (Option Range × ℕ) Error)
    → range_list_entry_at u.header.encoding s ≡ Ok (Some x, t) → range_of_entry d u base x ≡ r → ranges_from d u base s ≡ with_range_first r (λ b. ranges_from d u b t)
unfolding ranges_of_entries
from_entry d u base s t x r h k = from_step d u base s (Ok (Some x, t)) h ∙ ap (λ q. with_range_first q (λ b. ranges_from d u b t)) k

-- an entry that moves the base, or whose range is passed over
pub from_none : (d : Sections) (u : UnitRecord) (base new : ℕ) (s t : Section) (x : RangeListEntry)
    → range_list_entry_at u.header.encoding s ≡ Ok (Some x, t) → range_of_entry d u base x ≡ Ok (None, new) → ranges_from d u base s ≡ ranges_from d u new t
from_none d u base new s t x h k = from_entry d u base s t x (Ok (None, new)) h k

-- an entry of a range
pub from_range : (d : Sections) (u : UnitRecord) (base new : ℕ) (s t : Section) (x : RangeListEntry) (range : Range)
    → range_list_entry_at u.header.encoding s ≡ Ok (Some x, t) → range_of_entry d u base x ≡ Ok (Some range, new) → ranges_from d u base s ≡ Ok range ∷ ranges_from d u new t
from_range d u base new s t x range h k = from_entry d u base s t x (Ok (Some range, new)) h k

-- an entry of a faulty index
pub from_index : (d : Sections) (u : UnitRecord) (base : ℕ) (s t : Section) (x : RangeListEntry) (e : Error)
    → range_list_entry_at u.header.encoding s ≡ Ok (Some x, t) → range_of_entry d u base x ≡ Err e → ranges_from d u base s ≡ Err e ∷ []
from_index d u base s t x e h k = from_entry d u base s t x (Err e) h k
