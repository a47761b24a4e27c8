-- The bytes of a file of which only some pieces were read.
-- Own: zeros stand for the bytes that no piece has.
use Rattle.std.specs.List.{find, list_all}
use Rattle.std.specs.Prelude.{◌≡◌, ℕ, ◌+◌, ◌-◌, ◌≤◌, ◌&&◌, Bool, true, cond, List, [], ◌∷◌, ◌++◌, Option, None, Some, drop, is_some, length, map, nat_le, replicate, take}
use Rattle.gimli_read.specs.declared.endian.RunTimeEndian.TheVariants.{Little}
use Rattle.gimli_read.specs.declared.range.Range.{Range}
use Rattle.elf.specs.declared.image.Piece.{Piece}

-- a file, as far as it was read: its length, and its pieces in order
pub record Image : Type 0 where
  pub len : ℕ
  pub pieces : List Piece

-- where a piece ends
abbrev pub piece_end : Piece → ℕ
piece_end p = p.start + length p.bytes.bytes

-- the bytes from a place of a file on: those of the pieces from there, and zeros between and after
-- them
abbrev pub bytes_from : ℕ → ℕ → List Piece → List ℕ
bytes_from at len [] = replicate (len - at) 0
bytes_from at len (p ∷ pieces) =
    (replicate (p.start - at) 0 ++ p.bytes.bytes) ++ bytes_from (piece_end p) len pieces

-- the pieces stand one after another from a place on, and none passes the file's end
abbrev pub ArePiecesInOrder : ℕ → ℕ → List Piece → Type 0
ArePiecesInOrder at len [] = at ≤ len
ArePiecesInOrder at len (p ∷ pieces) = (at ≤ p.start) × ArePiecesInOrder (piece_end p) len pieces

-- the bytes of the file
unfoldable pub image_bytes : Image → List ℕ
image_bytes image = bytes_from 0 image.len image.pieces

-- whether a piece has the n bytes at a place
abbrev pub piece_holds : ℕ → ℕ → Piece → Bool
piece_holds at n p = nat_le p.start at && nat_le (at + n) (piece_end p)

-- a piece has the n bytes of a file at a place
pub record HasPart (at n : ℕ) (image : Image) (p : Piece) : Type 0 where
  pub held : piece_holds at n p ≡ true
  pub part : take n (drop (at - p.start) p.bytes.bytes) ≡ take n (drop at (image_bytes image))
  pub len : length (take n (drop at (image_bytes image))) ≡ n

-- whether one piece has the n bytes at a place
abbrev pub is_held : ℕ → ℕ → Image → Bool
is_held at n image = is_some (find (piece_holds at n) image.pieces)

-- one piece has any bytes of the file that stand side by side
abbrev pub IsWhole : Image → Type 0
IsWhole image = (at n : ℕ) → at + n ≤ length (image_bytes image) → is_held at n image ≡ true

-- the pieces are those of a file: it has the same length, and the same bytes where one piece stands
pub record Shows (image : Image) (bytes : List ℕ) : Type 0 where
  pub len : length (image_bytes image) ≡ length bytes
  pub same : (at n : ℕ) → is_held at n image ≡ true
      → take n (drop at (image_bytes image)) ≡ take n (drop at bytes)

-- a piece has bytes of a file, at their place
abbrev pub IsPieceOf : List ℕ → Piece → Type 0
IsPieceOf bytes p = p.bytes.bytes ≡ take (length p.bytes.bytes) (drop p.start bytes)

-- each piece does
abbrev pub ArePiecesOf : List ℕ → List Piece → Type 0
ArePiecesOf bytes [] = Unit {0}
ArePiecesOf bytes (p ∷ pieces) = IsPieceOf bytes p × ArePiecesOf bytes pieces

-- the n bytes at a place of a file, none where it ends before
abbrev pub part_at : List ℕ → ℕ → ℕ → Option (List ℕ)
part_at bytes at n = cond (nat_le (at + n) (length bytes)) (Some (take n (drop at bytes))) None

-- whether a range of places is in a file
abbrev pub is_range_of : List ℕ → Range → Bool
is_range_of bytes r = nat_le r.begin r.end && nat_le r.end (length bytes)

-- the piece of a file in a range of places
abbrev pub piece_in : List ℕ → Range → Piece
piece_in bytes r = record {
  start = r.begin;
  bytes = record { bytes = take (r.end - r.begin) (drop r.begin bytes); endian = Little };
}

-- the same, none where the range isn't in the file
abbrev pub piece_at : List ℕ → Range → Option Piece
piece_at bytes r = cond (is_range_of bytes r) (Some (piece_in bytes r)) None

-- the pieces in ranges of places, none where one of them isn't in the file
abbrev pub pieces_at : List ℕ → List Range → Option (List Piece)
pieces_at bytes rs = cond (list_all (is_range_of bytes) rs) (Some (map (piece_in bytes) rs)) None

-- the file of which ranges of places are read
abbrev pub image_in : List ℕ → List Range → Image
image_in bytes rs = record { len = length bytes; pieces = map (piece_in bytes) rs }

-- ranges of places stand in a file, in order, and there is at least one
pub record AreRangesOf (bytes : List ℕ) (rs : List Range) : Type 0 where
  pub some : 1 ≤ length rs
  pub within : list_all (is_range_of bytes) rs ≡ true
  pub in_order : ArePiecesInOrder 0 (length bytes) (map (piece_in bytes) rs)
