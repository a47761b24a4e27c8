-- Pieces of a file in order, as the search for one of them sees them.
use Rattle.std.specs.Prelude.{ℕ, ◌≤◌, ◌<◌, List, [], ◌∷◌}
use Rattle.elf.specs.declared.image.Piece.{Piece}
use Rattle.elf.specs.FileImage.{ArePiecesInOrder, piece_end}

-- the pieces stand one after another from some place of a file on
abbrev pub AreInOrder : ℕ → List Piece → Type 0
AreInOrder len ps = (at : ℕ) × ArePiecesInOrder at len ps

-- each piece ends before a place
abbrev pub AllEndBefore : ℕ → List Piece → Type 0
AllEndBefore end [] = Unit {0}
AllEndBefore end (p ∷ ps) = (piece_end p < end) × AllEndBefore end ps

-- no piece does
abbrev pub NoneEndsBefore : ℕ → List Piece → Type 0
NoneEndsBefore end [] = Unit {0}
NoneEndsBefore end (p ∷ ps) = (end ≤ piece_end p) × NoneEndsBefore end ps
