-- Texts in a buffer: one after another, with a zero after each, named by offset and length.
use Rattle.std.specs.Prelude.{◌≡◌, ◌++◌, ◌∷◌, ◌+◌, ℕ, List, [], Option, Some, None, drop, flat_map, length, take}
use Rattle.addr2line_c.specs.declared.parts.TextPart.{TextPart}
use Rattle.addr2line_c.specs.Filled.{saturated}

-- texts one after another, with a zero after each
abbrev pub zero_ended : List (List ℕ) → List ℕ
zero_ended texts = flat_map (λ (text : List ℕ). text ++ 0 ∷ []) texts

-- a text that may be there, as a list
abbrev pub optional_text : Option (List ℕ) → List (List ℕ)
optional_text None = []
optional_text (Some text) = text ∷ []

-- where a text stands that follows others, if it is there
abbrev pub text_after : List (List ℕ) → Option (List ℕ) → TextPart
text_after before None = record { offset = 0; length = 0; is_there = 0 }
text_after before (Some text) =
    record { offset = saturated (length (zero_ended before)); length = length text; is_there = 1 }

-- a part names this text, which stands in the buffer with a zero after it, or says that there is
-- none
abbrev pub NamesText : List ℕ → TextPart → Option (List ℕ) → Type 0
NamesText buffer part None = part ≡ record { offset = 0; length = 0; is_there = 0 }
NamesText buffer part (Some text) = (part.is_there ≡ 1) × (part.length ≡ length text)
    × (take (length text + 1) (drop part.offset buffer) ≡ text ++ 0 ∷ [])
