-- The search for a piece by halves (on specs/Pieces.antt).
use Rattle.elf.proofs.Common.{◌≡◌, ◌∙◌, ℕ, zero, suc, ◌+◌, ◌≤◌, ◌<◌, ◌&&◌, Bool, true, false, cond, List, [], ◌∷◌, Option, Some, None, length, take, drop, get_or, nat_le, ap, arith, refl, sym, subst, find, nat_tests, take_all, Piece, ArePiecesInOrder, piece_end, piece_holds}
use Rattle.elf.specs.Pieces.{AllEndBefore, NoneEndsBefore}
use Rattle.elf.proofs.ImageLemmas.{filled}

-- pieces in order end behind the place where they begin
ends_after : (at len i : ℕ) (ps : List Piece) (p : Piece) → ArePiecesInOrder at len ps → i < length ps → p ≡ get_or ps i p → at ≤ piece_end p
ends_after at len i [] p o l is = absurd (omega arith)
ends_after at len zero (q ∷ ps) p o l is =
    let e : piece_end p ≡ piece_end q = ap piece_end is in
    let before = o.0 in
    omega (arith, e, before)
ends_after at len (suc i) (q ∷ ps) p o l is =
    let rest = ends_after (piece_end q) len i ps p o.1 (omega arith) is in
    let before = o.0 in
    omega (arith, rest, before)

-- a piece that ends before a place, and those before it
pub before_to : (at len end i : ℕ) (ps : List Piece) (p : Piece) → ArePiecesInOrder at len ps → i < length ps → p ≡ get_or ps i p → piece_end p < end → AllEndBefore end (take (suc i) ps)
before_to at len end i [] p o l is h = absurd (omega arith)
before_to at len end zero (q ∷ ps) p o l is h =
    let e : piece_end p ≡ piece_end q = ap piece_end is in
    (omega (arith, e, h), tt)
before_to at len end (suc i) (q ∷ ps) p o l is h =
    let rest = ends_after (piece_end q) len i ps p o.1 (omega arith) is in
    (omega (arith, rest, h), before_to (piece_end q) len end i ps p o.1 (omega arith) is h)

-- pieces behind a place
all_after : (at len end : ℕ) (ps : List Piece) → ArePiecesInOrder at len ps → end ≤ at → NoneEndsBefore end ps
all_after at len end [] o h = tt
all_after at len end (q ∷ ps) o h =
    let before = o.0 in
    let e : end ≤ piece_end q = omega (arith, h, before) in
    (e, all_after (piece_end q) len end ps o.1 e)

-- a piece that doesn't end before a place, and those after it
pub after_from : (at len end i : ℕ) (ps : List Piece) (p : Piece) → ArePiecesInOrder at len ps → i < length ps → p ≡ get_or ps i p → end ≤ piece_end p → NoneEndsBefore end (drop i ps)
after_from at len end i [] p o l is h = absurd (omega arith)
after_from at len end zero (q ∷ ps) p o l is h =
    let e : piece_end p ≡ piece_end q = ap piece_end is in
    let k : end ≤ piece_end q = omega (arith, e, h) in
    (k, all_after (piece_end q) len end ps o.1 k)
after_from at len end (suc i) (q ∷ ps) p o l is h = after_from (piece_end q) len end i ps p o.1 (omega arith) is h

-- a piece that ends before the bytes do
short_holds : (s n : ℕ) (q : Piece) → piece_end q < s + n → piece_holds s n q ≡ false
short_holds s n q h =
    let t : nat_le (s + n) (piece_end q) ≡ false = grind (arith, nat_tests) in
    ap (λ b. nat_le q.start s && b) t ∙ and_none (nat_le q.start s)
  where
    and_none : (b : Bool) → b && false ≡ false
    and_none true = refl
    and_none false = refl

-- pieces behind the bytes
none_holds : (at len s n : ℕ) (ps : List Piece) → ArePiecesInOrder at len ps → s < at → find (piece_holds s n) ps ≡ None
none_holds at len s n [] o h = refl
none_holds at len s n (q ∷ ps) o h =
    let before = o.0 in
    let t : nat_le q.start s ≡ false = grind (arith, nat_tests) in
    let f : piece_holds s n q ≡ false = ap (λ b. b && nat_le (s + n) (piece_end q)) t in
    ap (λ b. cond b (Some q) (find (piece_holds s n) ps)) f ∙ none_holds (piece_end q) len s n ps o.1 (omega (arith, before, h))

-- where all pieces end before the bytes do
pub found_past : (s n k : ℕ) (ps : List Piece) → length ps ≤ k → AllEndBefore (s + n) (take k ps) → None ≡ find (piece_holds s n) ps
found_past s n k ps l h = sym (each ps (subst (AllEndBefore (s + n)) (take_all k ps l) h))
  where
    each : (qs : List Piece) → AllEndBefore (s + n) qs → find (piece_holds s n) qs ≡ None
    each [] a = refl
    each (q ∷ qs) a = ap (λ b. cond b (Some q) (find (piece_holds s n) qs)) (short_holds s n q a.0) ∙ each qs a.1

-- the first piece that doesn't end before them
pub found_at : (at len s n k : ℕ) (ps : List Piece) (p : Piece) → ArePiecesInOrder at len ps → k < length ps → p ≡ get_or ps k p → AllEndBefore (s + n) (take k ps) → NoneEndsBefore (s + n) (drop k ps) → find (piece_holds s n) ps ≡ cond (piece_holds s n p) (Some p) None
found_at at len s n k [] p o l is before after = absurd (omega arith)
found_at at len s n zero (q ∷ ps) p o l is before after = by (piece_holds s n q) refl
  where
    by : (b : Bool) → piece_holds s n q ≡ b → cond (piece_holds s n q) (Some q) (find (piece_holds s n) ps) ≡ cond (piece_holds s n p) (Some p) None
    by true t = rw is (rw t refl)
    by false t =
        let ends = after.0 in
        let begins : s < q.start = grind (arith, nat_tests) in
        let none = none_holds (piece_end q) len s n ps o.1 (omega (arith, begins)) in
        rw is (rw t none)
found_at at len s n (suc k) (q ∷ ps) p o l is before after =
    ap (λ b. cond b (Some q) (find (piece_holds s n) ps)) (short_holds s n q before.0) ∙ found_at (piece_end q) len s n k ps p o.1 (omega arith) is before.1 after

-- behind the last piece
pub none_past : (end k : ℕ) (ps : List Piece) → length ps ≤ k → NoneEndsBefore end (drop k ps)
none_past end zero [] l = tt
none_past end (suc k) [] l = tt
none_past end zero (p ∷ ps) l = absurd (omega arith)
none_past end (suc k) (p ∷ ps) l = none_past end k ps (omega arith)

-- no piece passes the file's end
pub none_within : (at len s n : ℕ) (ps : List Piece) → ArePiecesInOrder at len ps → len < s + n → None ≡ find (piece_holds s n) ps
none_within at len s n [] o h = refl
none_within at len s n (q ∷ ps) o h =
    let ends = (filled (piece_end q) len ps o.1).0 in
    sym (ap (λ b. cond b (Some q) (find (piece_holds s n) ps)) (short_holds s n q (omega (arith, ends, h))) ∙ sym (none_within (piece_end q) len s n ps o.1 h))
