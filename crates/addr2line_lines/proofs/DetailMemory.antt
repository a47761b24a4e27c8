-- Where memory is taken for the details of a function (on specs/StoredDetails.antt).
use Rattle.addr2line_lines.proofs.Common.{◌≡◌, ℕ, ◌<◌, ◌++◌, true, false, List, [], ◌∷◌, append-nil, length, map, Option, Result, Ok, Err, refl, ap, subst, sym, ◌∙◌, arith, Error, Range, Costed, free, Section, Sections, UnitRecord, RangeAttributes, InlinedFunctionAddress, Detail, WholeEntry, inlined_in_at_cost, detail_at, stored_detail_at, detail_at_cost, whole_entry_at, FoundInlined, inlined_address, with_inlined_ranges, InlinedRange, name_of, attribute_ranges, gives_a_range, Scope, Bool}
use Rattle.gimli_read.specs.Reading as reading
use Rattle.addr2line_lines.specs.CostedSteps.{map_at_cost, then_room_if}
use Rattle.addr2line_lines.specs.FoundDetails.{detail_found_at}
use Rattle.addr2line_lines.proofs.CostLemmas.{AgreesGiven, TakesIfRead, map_takes, next_takes, room_takes}
use Rattle.addr2line_lines.proofs.DetailOrder.{IsFrom, detail_agrees, detail_made}
use Rattle.addr2line_lines.proofs.FunctionMemory.{listed_well}
use Rattle.addr2line_lines.proofs.WholeEntries.{detail_of}

-- whether memory may be taken for the details of a function, where readers don't share their bytes
abbrev pub detail_takes_memory : Scope → UnitRecord → ℕ → Bool
detail_takes_memory scope u offset = (detail_at_cost scope u offset).takes_memory false

-- where ranges are added, the attributes give one
pub pushed_well : (d : Sections) (u : UnitRecord) (a : RangeAttributes) (depth function : ℕ) (old new : List InlinedFunctionAddress) → with_inlined_ranges d u a depth function old ≡ Ok new → length old < length new → gives_a_range d u a ≡ true
pushed_well d u a depth function old new e l = by_ranges (attribute_ranges d u a) refl e
  where
    by_ranges : (r : Result (List Range) Error) → attribute_ranges d u a ≡ r → reading.◌>>=◌ r (λ ranges. Ok (old ++ map (inlined_address depth function) ranges)) ≡ Ok new → gives_a_range d u a ≡ true
    by_ranges (Ok []) q h = let same : old ++ [] ≡ new = cc in let m : length old ≡ length new = ap length (sym (append-nil old) ∙ same) in absurd (omega arith)
    by_ranges (Ok (x ∷ ranges)) q h = listed_well d u a x ranges q
    by_ranges (Err f) q h = absurd cc

module _ (scope : Scope) (u : UnitRecord) (offset : ℕ) where
  -- the details are stored
  detail_takes : TakesIfRead (detail_at_cost scope u offset)
  unfolding detail_at stored_detail_at
  detail_takes =
      next_takes (free (whole_entry_at u offset)) (detail_of scope u offset) (λ x. next_takes (free (name_of scope u x.entry.attributes)) (named x) (λ name. map_takes (made name) (then_room_if true (inlined_in_at_cost scope u x.inside)) (room_takes (inlined_in_at_cost scope u x.inside))))
    where
      made : Option Section → List InlinedRange → Detail
      made name inlined = record { name = name; inlined = inlined }

      named : WholeEntry → Option Section → Costed Detail
      named x name = map_at_cost (made name) (then_room_if true (inlined_in_at_cost scope u x.inside))

  -- so memory may be taken where they are found
  pub found_takes : (found : FoundInlined) (x : Option Section × FoundInlined) → (detail_found_at scope u offset found).given ≡ Ok x → detail_takes_memory scope u offset ≡ true
  found_takes found x h = detail_takes (detail_made scope u offset found x) false (subst (AgreesGiven (detail_made scope u offset found) (IsFrom scope u offset found) (detail_at scope u offset)) h (detail_agrees scope u offset found).given).0
