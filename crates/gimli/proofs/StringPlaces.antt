-- The string of a value by where it stands (on specs/StringPlaces.antt).
use Rattle.gimli.proofs.Common.{◌≡◌, ℕ, Bool, Option, Some, None, Result, Ok, Err, refl, ap, ◌∙◌, Error, Format, AttributeValue, Section, ◌>>=◌, fault_of, offset_size, Sections, SupSections, indexed_number, string_at, string_of, string_takes_memory, sup_string_at}
use Rattle.gimli_read.specs.declared.value.AttributeValue.TheVariants as values
use Rattle.gimli.specs.declared.text.StringPlace.{StringPlace}
use Rattle.gimli.specs.declared.text.StringPlace.TheVariants.{InValue, InSection}
use Rattle.gimli.specs.StringPlaces.{string_place_of, sup_strings}

-- the string at a place
abbrev by_place : StringPlace Section Section → Result Section Error
by_place (InValue s) = Ok s
by_place (InSection s offset) = string_at offset s

in_sup : (offset : ℕ) (sup : Option SupSections) → sup_string_at offset sup ≡ ((sup_strings sup >>= λ strings. Ok (InSection strings offset)) >>= by_place)
in_sup offset None = refl
in_sup offset (Some sup) = refl

by_index : (s : Section) (r : Result ℕ Error) → (r >>= λ offset. string_at offset s) ≡ ((r >>= λ offset. Ok (InSection s offset)) >>= by_place)
by_index s (Ok offset) = refl
by_index s (Err e) = refl

placed : (d : Sections) (format : Format) (base : ℕ) (v : AttributeValue Section) → string_of d format base v ≡ (string_place_of d format base v >>= by_place)
unfolding string_of string_place_of
placed d format base (values.String s) = refl
placed d format base (values.DebugStrRef offset) = refl
placed d format base (values.DebugLineStrRef offset) = refl
placed d format base (values.DebugStrRefSup offset) = in_sup offset d.sup
placed d format base (values.DebugStrOffsetsIndex index) = by_index d.debug_str (indexed_number (offset_size format) base index d.debug_str_offsets)
placed d format base _ = refl

-- a string in a section
pub string_there : (d : Sections) (format : Format) (base : ℕ) (v : AttributeValue Section) (s : Section) (offset : ℕ) → string_place_of d format base v ≡ Ok (InSection s offset) → string_of d format base v ≡ string_at offset s
string_there d format base v s offset h = placed d format base v ∙ ap (λ r. r >>= by_place) h

-- a string in its value
pub string_here : (d : Sections) (format : Format) (base : ℕ) (v : AttributeValue Section) (s : Section) → string_place_of d format base v ≡ Ok (InValue s) → string_of d format base v ≡ Ok s
string_here d format base v s h = placed d format base v ∙ ap (λ r. r >>= by_place) h

-- the fault of the place is that of the string
pub string_unplaced : (d : Sections) (format : Format) (base : ℕ) (v : AttributeValue Section) (e : Error) → string_place_of d format base v ≡ Err e → string_of d format base v ≡ Err e
string_unplaced d format base v e h = placed d format base v ∙ ap (λ r. r >>= by_place) h

-- a string in a section takes memory where bytes are shared
pub there_takes : (d : Sections) (format : Format) (base : ℕ) (v : AttributeValue Section) (s : Section) (offset : ℕ) (shares : Bool) → string_place_of d format base v ≡ Ok (InSection s offset) → string_takes_memory shares v ≡ shares
unfolding string_place_of
there_takes d format base (values.String t) s offset shares h = absurd cc
there_takes d format base _ s offset shares h = refl

-- the fault of the place is the string's fault
pub fault_unplaced : (d : Sections) (format : Format) (base : ℕ) (v : AttributeValue Section) (e : Error) → string_place_of d format base v ≡ Err e → fault_of (string_of d format base v) ≡ Err e
fault_unplaced d format base v e h = ap fault_of (string_unplaced d format base v e h)
