-- At which places of a string table texts in UTF-8 begin, as the private functions see it.
use Rattle.std.specs.List.{list_all}
use Rattle.std.specs.Prelude.{◌≡◌, ℕ, ◌-◌, ◌<◌, ◌≤◌, ◌==◌, ◌&&◌, Bool, true, false, List, [], ◌∷◌, Option, Some, None, length, take, drop, get_or, is_some, option_and_then}
use Rattle.std.specs.Str.{IsUtf8}
use Rattle.std.specs.Char.{is_ascii}
use Rattle.elf.specs.SectionBytes.{front_text}
use Rattle.elf.specs.Symbols.{utf8_from}
use Rattle.elf.specs.declared.text_starts.TextStarts.{TextStarts}
use Rattle.elf.specs.declared.text_starts.TextStarts.TheVariants.{Everywhere, Marked}

-- whether a text in UTF-8 is at the front; it may be empty
abbrev pub begins_text : List ℕ → Bool
begins_text bytes = is_some (option_and_then utf8_from (front_text bytes))

-- whether a text in UTF-8 begins, for each place
abbrev pub text_starts : List ℕ → List Bool
text_starts [] = []
text_starts (b ∷ bytes) = begins_text (b ∷ bytes) ∷ text_starts bytes

-- whether a table is ASCII alone and its last byte is zero, so that a text begins at each place
abbrev pub is_ascii_table : List ℕ → Bool
is_ascii_table table = (get_or table (length table - 1) 1 == 0) && list_all is_ascii table

-- whether a text begins at a place, by what was found of all places
abbrev pub begins_at : TextStarts → ℕ → Bool
begins_at Everywhere place = true
begins_at (Marked v) place = get_or v.items place false

-- that is so of each place of a table
abbrev pub AreStarts : List ℕ → TextStarts → Type 0
AreStarts table starts =
    (k : ℕ) → k < length table → begins_at starts k ≡ begins_text (drop k table)

-- the text at the front: the part of it after as many bytes as the distance is UTF-8, and no longer
-- part of its end is
pub record TextAfter (bytes : List ℕ) (distance : ℕ) (text : List ℕ) : Type 0 where
  pub is_text : front_text bytes ≡ Some text
  pub in_bytes : distance ≤ length bytes
  pub in_text : distance ≤ length text
  pub front : take distance bytes ≡ take distance text
  pub starts : IsUtf8 (drop distance text)
  pub none_before : (k : ℕ) → k < distance → ¬ (IsUtf8 (drop k text))

-- the distance of the nearest text in UTF-8 that ends at the next zero byte; none without a zero
-- byte
abbrev pub IsTextDistance : List ℕ → Option ℕ → Type 0
IsTextDistance bytes None = front_text bytes ≡ None
IsTextDistance bytes (Some distance) = (text : List ℕ) × TextAfter bytes distance text
