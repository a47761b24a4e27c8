-- What the pieces of a file say of its bytes (on specs/FileImage.antt).
use Rattle.elf.proofs.Common.{◌≡◌, ◌∙◌, ℕ, zero, suc, ◌⊎◌, inl, inr, ◌+◌, ◌-◌, ◌≤◌, ◌<◌, Bool, true, false, cond, List, [], ◌∷◌, ◌++◌, Option, Some, None, length, map, take, drop, get_or, replicate, set, is_some, option_map, ap, append-nil, arith, refl, sym, subst, IfSome, find, list_all, cases_lt, nat_tests, drop-drop, drop-take, drop_more, take-take, get_or-drop, take_more, take_more_set, drop-append-le, take-append-le, length-append, length-replicate, length-drop, length-take-le, get_or_append_left, get_or-append_right, RunTimeEndian, Piece, Image, HasPart, IsWhole, ArePiecesInOrder, bytes_from, piece_holds, image_bytes, is_held, piece_end, ArePiecesOf, IsPieceOf, Shows, is_range_of, piece_in, pieces_at, layout_number_at}
use Rattle.std.proofs.Math.Seq.{drop-append-add}
use Rattle.byteorder.specs.Endian.{big_from, little_from}
use Rattle.byteorder.specs.Numbers.{big_from-take, little_from-take}
use Rattle.gimli_read.specs.declared.endian.RunTimeEndian.TheVariants.{Little, Big}
use Rattle.gimli_read.specs.Number.{number_of}
use Rattle.gimli_read.specs.declared.range.Range.{Range}

-- where a piece stands that has n bytes at s, behind a place at
pub record Stands (at s n : ℕ) (p : Piece) : Type 0 where
  pub after : at ≤ p.start
  pub begins : p.start ≤ s
  pub ends : s + n ≤ piece_end p

holds_is : (s n : ℕ) (p : Piece) → piece_holds s n p ≡ true → (p.start ≤ s) × (s + n ≤ piece_end p)
holds_is s n p h = (grind (arith, nat_tests), grind (arith, nat_tests))

-- the pieces and the gaps between them fill the file
pub filled : (at len : ℕ) (ps : List Piece) → ArePiecesInOrder at len ps → (at ≤ len) × (length (bytes_from at len ps) ≡ len - at)
filled at len [] o = (o, length-replicate {A = ℕ} (len - at) 0)
filled at len (p ∷ ps) o =
    let rest = filled (piece_end p) len ps o.1 in
    let whole = length-append (replicate (p.start - at) 0 ++ p.bytes.bytes) (bytes_from (piece_end p) len ps) in
    let front = length-append (replicate (p.start - at) 0) p.bytes.bytes in
    let gap = length-replicate {A = ℕ} (p.start - at) 0 in
    let after = rest.0 in
    let size = rest.1 in
    let before = o.0 in
    (omega (arith, before, after), omega (arith, whole, front, gap, size, before, after))

-- the next of the pieces in order follows a place, within the file
pub next_in_order : (at len i : ℕ) (ps : List Piece) (p : Piece) → i < length ps → p ≡ get_or ps i p → ArePiecesInOrder at len (drop i ps) → (at ≤ p.start) × (piece_end p ≤ len)
next_in_order at len i ps p lt is o =
    let Ordered : List Piece → Type 0 = λ (qs : List Piece). ArePiecesInOrder at len qs in
    let here : Ordered (p ∷ drop (i + 1) ps) = subst Ordered (drop_more ps i p lt ∙ ap (λ (q : Piece). q ∷ drop (i + 1) ps) (sym is)) o in
    (here.0, (filled (piece_end p) len (drop (i + 1) ps) here.1).0)

-- the bytes that a piece has are those of the file
part_of : (at s n : ℕ) (zs own rest : List ℕ) (start : ℕ) → length zs ≡ start - at → at ≤ start → start ≤ s → s + n ≤ start + length own
    → take n (drop (s - at) ((zs ++ own) ++ rest)) ≡ take n (drop (s - start) own)
part_of at s n zs own rest start size after begins ends =
    let front = length-append zs own in
    let inside : s - at ≤ length (zs ++ own) = omega (arith, front, size, after, begins, ends) in
    let place : s - at ≡ length zs + (s - start) = omega (arith, size, after, begins) in
    let cut : drop (s - at) ((zs ++ own) ++ rest) ≡ drop (s - start) own ++ rest =
    drop-append-le (s - at) (zs ++ own) rest inside ∙ ap (λ k. drop k (zs ++ own) ++ rest) place ∙ ap (λ xs. xs ++ rest) (drop-append-add zs own (s - start)) in
    let left = length-drop (s - start) own in
    ap (take n) cut ∙ take-append-le n (drop (s - start) own) rest (omega (arith, left, begins, ends))

-- what follows a piece
behind : (at s : ℕ) (front rest : List ℕ) (end : ℕ) → length front ≡ end - at → at ≤ end → end ≤ s → drop (s - at) (front ++ rest) ≡ drop (s - end) rest
behind at s front rest end size after begins =
    let place : s - at ≡ length front + (s - end) = omega (arith, size, after, begins) in
    ap (λ k. drop k (front ++ rest)) place ∙ drop-append-add front rest (s - end)

-- the piece that is found has its bytes
pub found_part : (at len s n : ℕ) (ps : List Piece) (p : Piece) → ArePiecesInOrder at len ps → find (piece_holds s n) ps ≡ Some p
    → Stands at s n p × (take n (drop (s - at) (bytes_from at len ps)) ≡ take n (drop (s - p.start) p.bytes.bytes))
found_part at len s n [] p o e = absurd cc
found_part at len s n (q ∷ ps) p o e = by_cases (piece_holds s n q) refl (λ r. found_part (piece_end q) len s n ps p o.1 r)
  where
    by_cases : (b : Bool) → piece_holds s n q ≡ b → (find (piece_holds s n) ps ≡ Some p → Stands (piece_end q) s n p × (take n (drop (s - piece_end q) (bytes_from (piece_end q) len ps)) ≡ take n (drop (s - p.start) p.bytes.bytes)))
        → Stands at s n p × (take n (drop (s - at) (bytes_from at len (q ∷ ps))) ≡ take n (drop (s - p.start) p.bytes.bytes))
    by_cases true h next =
        let same : q ≡ p = cc in
        let held = holds_is s n q h in
        let part = part_of at s n (replicate (q.start - at) 0) q.bytes.bytes (bytes_from (piece_end q) len ps) q.start (length-replicate {A = ℕ} (q.start - at) 0) o.0 held.0 held.1 in
        subst (λ x. Stands at s n x × (take n (drop (s - at) (bytes_from at len (q ∷ ps))) ≡ take n (drop (s - x.start) x.bytes.bytes))) same
        (record { after = o.0; begins = held.0; ends = held.1 }, part)
    by_cases false h next =
        let rest : find (piece_holds s n) ps ≡ Some p = cc in
        let there = next rest in
        let after = there.0.after in
        let begins = there.0.begins in
        let before = o.0 in
        let front = length-append (replicate (q.start - at) 0) q.bytes.bytes in
        let gap = length-replicate {A = ℕ} (q.start - at) 0 in
        let back = behind at s (replicate (q.start - at) 0 ++ q.bytes.bytes) (bytes_from (piece_end q) len ps) (piece_end q) (omega (arith, front, gap, before)) (omega (arith, before)) (omega (arith, after, begins)) in
        (record { after = omega (arith, after, before); begins = there.0.begins; ends = there.0.ends }, ap (take n) back ∙ there.1)

zero_at : (n k : ℕ) → get_or {A = ℕ} (replicate n 0) k 0 ≡ 0
zero_at zero k = refl
zero_at (suc n) zero = refl
zero_at (suc n) (suc k) = zero_at n k

-- where no piece has a byte, it is zero
pub zero_outside : (at len s : ℕ) (ps : List Piece) → ArePiecesInOrder at len ps → at ≤ s → find (piece_holds s 1) ps ≡ None → get_or (bytes_from at len ps) (s - at) 0 ≡ 0
zero_outside at len s [] o begins e = zero_at (len - at) (s - at)
zero_outside at len s (q ∷ ps) o begins e = by_cases (piece_holds s 1 q) refl (λ r b. zero_outside (piece_end q) len s ps o.1 b r)
  where
    zeros : List ℕ
    zeros = replicate (q.start - at) 0

    rest : List ℕ
    rest = bytes_from (piece_end q) len ps

    by_place : (find (piece_holds s 1) ps ≡ None) → piece_holds s 1 q ≡ false → (find (piece_holds s 1) ps ≡ None → piece_end q ≤ s → get_or rest (s - piece_end q) 0 ≡ 0)
        → (s < q.start) ⊎ (q.start ≤ s) → get_or ((zeros ++ q.bytes.bytes) ++ rest) (s - at) 0 ≡ 0
    by_place none h next (inl l) =
        let gap = length-replicate {A = ℕ} (q.start - at) 0 in
        let front = length-append zeros q.bytes.bytes in
        get_or_append_left (zeros ++ q.bytes.bytes) rest 0 (s - at) (omega (arith, gap, front, l, begins)) ∙ get_or_append_left zeros q.bytes.bytes 0 (s - at) (omega (arith, gap, l, begins)) ∙ zero_at (q.start - at) (s - at)
    by_place none h next (inr l) =
        let gap = length-replicate {A = ℕ} (q.start - at) 0 in
        let front = length-append zeros q.bytes.bytes in
        let before = o.0 in
        let past : piece_end q ≤ s = grind (arith, nat_tests) in
        let place : (s - at) - (piece_end q - at) ≡ s - piece_end q = omega (arith, past, before) in
        get_or-append_right (zeros ++ q.bytes.bytes) rest (piece_end q - at) (s - at) 0 (omega (arith, gap, front, before)) (omega (arith, past, before)) ∙ ap (λ k. get_or rest k 0) place ∙ next none past

    by_cases : (b : Bool) → piece_holds s 1 q ≡ b → (find (piece_holds s 1) ps ≡ None → piece_end q ≤ s → get_or rest (s - piece_end q) 0 ≡ 0)
        → get_or ((zeros ++ q.bytes.bytes) ++ rest) (s - at) 0 ≡ 0
    by_cases true h next = absurd cc
    by_cases false h next = by_place (ap (λ (b : Bool). cond b (Some q) (find (piece_holds s 1) ps)) (sym h) ∙ e) h next (cases_lt s q.start)

-- the bytes of a file are as many as its length says
pub bytes_length : (i : Image) → ArePiecesInOrder 0 i.len i.pieces → length (image_bytes i) ≡ i.len
unfolding image_bytes
bytes_length i o =
    let same : i.len - 0 ≡ i.len = omega arith in
    (filled 0 i.len i.pieces o).1 ∙ same

-- the piece that is found has its bytes
pub has_part : (i : Image) (s n : ℕ) (p : Piece) → ArePiecesInOrder 0 i.len i.pieces → find (piece_holds s n) i.pieces ≡ Some p → HasPart s n i p
unfolding image_bytes
has_part i s n p o e =
    let there = found_part 0 i.len s n i.pieces p o e in
    let begins = there.0.begins in
    let ends = there.0.ends in
    let left = length-drop (s - p.start) p.bytes.bytes in
    let same : s - 0 ≡ s = omega arith in
    let part = ap (λ k. take n (drop k (bytes_from 0 i.len i.pieces))) (sym same) ∙ there.1 in
    record {
      held = grind (arith, nat_tests);
      part = sym part;
      len = ap length part ∙ length-take-le n (drop (s - p.start) p.bytes.bytes) (omega (arith, begins, ends, left));
    }

-- a byte that no piece has
pub not_held : (i : Image) (s : ℕ) → ArePiecesInOrder 0 i.len i.pieces → find (piece_holds s 1) i.pieces ≡ None → get_or (image_bytes i) s 0 ≡ 0
unfolding image_bytes
not_held i s o e =
    let same : s ≡ s - 0 = omega arith in
    ap (λ k. get_or (bytes_from 0 i.len i.pieces) k 0) same ∙ zero_outside 0 i.len s i.pieces o (omega arith) e

-- a piece that has all bytes of a file
pub whole_image : (p : Piece) (len : ℕ) → p.start ≡ 0 → len ≡ length p.bytes.bytes
    → (image_bytes (record { len = len; pieces = p ∷ [] }) ≡ p.bytes.bytes) × IsWhole (record { len = len; pieces = p ∷ [] })
unfolding image_bytes
whole_image p len start size =
    let none : p.start - 0 ≡ 0 = omega (arith, start) in
    let rest : len - piece_end p ≡ 0 = omega (arith, start, size) in
    let all : bytes_from 0 len (p ∷ []) ≡ p.bytes.bytes =
    ap (λ n. (replicate n 0 ++ p.bytes.bytes) ++ replicate (len - piece_end p) 0) none ∙ ap (λ n. p.bytes.bytes ++ replicate n 0) rest ∙ append-nil p.bytes.bytes in
    (all, λ at n h. held at n (rw all at h))
  where
    held : (at n : ℕ) → at + n ≤ length p.bytes.bytes → is_held at n (record { len = len; pieces = p ∷ [] }) ≡ true
    held at n h =
        let t : piece_holds at n p ≡ true = grind (arith, nat_tests) in
        ap (λ (b : Bool). is_some (cond b (Some p) None)) t

-- what the answer to the search for a piece says
pub piece_found : {X : Type 0} (see : X → Piece) (i : Image) (s n : ℕ) (r : Option X) → ArePiecesInOrder 0 i.len i.pieces → option_map see r ≡ find (piece_holds s n) i.pieces
    → IfSome r (λ p. HasPart s n i (see p)) × (is_some r ≡ is_held s n i) × (r ≡ None → n ≡ 1 → get_or (image_bytes i) s 0 ≡ 0)
piece_found see i s n None o e = (
  tt,
  ap is_some e,
  λ none one.
      let N : ℕ → Type 0 = λ k. None ≡ find (piece_holds s k) i.pieces in
      not_held i s o (sym (subst N one e)),
)
piece_found see i s n (Some x) o e = (has_part i s n (see x) o (sym e), ap is_some e, λ none one. absurd cc)

-- a number is that of its bytes alone
pub number_of_shown : (o : RunTimeEndian) (n : ℕ) (xs ys : List ℕ) → take n xs ≡ take n ys → number_of o n xs ≡ number_of o n ys
number_of_shown Little n xs ys e = sym (little_from-take 0 n n xs (omega arith)) ∙ ap (little_from 0 n) e ∙ little_from-take 0 n n ys (omega arith)
number_of_shown Big n xs ys e = sym (big_from-take 0 n n xs (omega arith)) ∙ ap (big_from 0 n) e ∙ big_from-take 0 n n ys (omega arith)

-- the number at a place of a file, by bytes that begin as those of the file do there
pub number_shown : (o : RunTimeEndian) (base at n start : ℕ) (shown bytes : List ℕ) → start ≡ base + at → take n shown ≡ take n (drop start bytes)
    → layout_number_at o 0 n shown ≡ layout_number_at o at n (drop base bytes)
unfolding layout_number_at
number_shown o base at n start shown bytes place e =
    let there = ap (λ k. take n (drop k bytes)) place ∙ sym (ap (take n) (drop-drop at base bytes)) in
    number_of_shown o n shown (drop at (drop base bytes)) (e ∙ there)

-- one more byte is gathered
pub one_more : (shown bytes : List ℕ) (start i b place : ℕ) → i < length shown → start + i < length bytes → place ≡ start + i → b ≡ get_or bytes place 0
    → take i shown ≡ take i (drop start bytes) → take (i + 1) (set shown i b) ≡ take (i + 1) (drop start bytes)
one_more shown bytes start i b place room inside at is e =
    let left = length-drop start bytes in
    let there : b ≡ get_or (drop start bytes) i 0 = is ∙ ap (λ k. get_or bytes k 0) at ∙ sym (get_or-drop start bytes i 0) in
    take_more_set shown i b room ∙ ap (λ xs. xs ++ b ∷ []) e ∙ ap (λ x. take i (drop start bytes) ++ x ∷ []) there ∙ sym (take_more (drop start bytes) i 0 (omega (arith, inside, left)))

-- the piece that is found is one of them
found_of : (bytes : List ℕ) (s n : ℕ) (ps : List Piece) (p : Piece) → ArePiecesOf bytes ps → find (piece_holds s n) ps ≡ Some p → IsPieceOf bytes p
found_of bytes s n [] p h e = absurd cc
found_of bytes s n (q ∷ ps) p h e = by_cases (piece_holds s n q) refl (λ r. found_of bytes s n ps p h.1 r)
  where
    by_cases : (b : Bool) → piece_holds s n q ≡ b → (find (piece_holds s n) ps ≡ Some p → IsPieceOf bytes p) → IsPieceOf bytes p
    by_cases true t next = let same : q ≡ p = cc in subst (IsPieceOf bytes) same h.0
    by_cases false t next = next cc

-- a part of a piece is the same part of the file
part_same : (bytes own : List ℕ) (start s n : ℕ) → own ≡ take (length own) (drop start bytes) → start ≤ s → s + n ≤ start + length own → take n (drop (s - start) own) ≡ take n (drop s bytes)
part_same bytes own start s n is begins ends =
    let k = s - start in
    let m = length own in
    let fits : k + (m - k) ≡ m = omega (arith, begins, ends) in
    let place : start + k ≡ s = omega (arith, begins) in
    let cut : drop k own ≡ take (m - k) (drop s bytes) =
    ap (drop k) is ∙ ap (λ j. drop k (take j (drop start bytes))) (sym fits) ∙ drop-take k (m - k) (drop start bytes) ∙ ap (take (m - k)) (drop-drop k start bytes) ∙ ap (λ j. take (m - k) (drop j bytes)) place in
    ap (take n) cut ∙ take-take n (m - k) (drop s bytes) (omega (arith, begins, ends))

-- pieces of a file show it
pub pieces_show : (len : ℕ) (ps : List Piece) (bytes : List ℕ) → ArePiecesInOrder 0 len ps → len ≡ length bytes → ArePiecesOf bytes ps → Shows (record { len = len; pieces = ps }) bytes
pieces_show len ps bytes o size are =
    let i : Image = record { len = len; pieces = ps } in
    record { len = bytes_length i o ∙ size; same = λ s n h. by_search i s n (find (piece_holds s n) ps) refl h }
  where
    by_search : (i : Image) (s n : ℕ) (r : Option Piece) → find (piece_holds s n) ps ≡ r → is_some (find (piece_holds s n) ps) ≡ true
        → take n (drop s (image_bytes (record { len = len; pieces = ps }))) ≡ take n (drop s bytes)
    by_search i s n None e h = absurd cc
    by_search i s n (Some p) e h =
        let has = has_part (record { len = len; pieces = ps }) s n p o e in
        let held = holds_is s n p has.held in
        sym has.part ∙ part_same bytes p.bytes.bytes p.start s n (found_of bytes s n ps p are e) held.0 held.1

-- the first piece and the others
pub first_and_rest : (ps : List Piece) (first : Piece) → first ≡ get_or ps 0 first → 0 < length ps → first ∷ drop 1 ps ≡ ps
first_and_rest [] first e h = absurd (omega (arith, h))
first_and_rest (p ∷ ps) first e h = ap (λ q. q ∷ ps) e

-- what is taken of a list is as many items of it as were taken
taken : (n : ℕ) (xs : List ℕ) → take n xs ≡ take (length (take n xs)) xs
taken zero xs = refl
taken (suc n) [] = refl
taken (suc n) (x ∷ xs) = ap (λ ys. x ∷ ys) (taken n xs)

-- the pieces in ranges of a file have its bytes
pub pieces_in_are : (bytes : List ℕ) (rs : List Range) → ArePiecesOf bytes (map (piece_in bytes) rs)
pieces_in_are bytes [] = tt
pieces_in_are bytes (r ∷ rs) = (taken (r.end - r.begin) (drop r.begin bytes), pieces_in_are bytes rs)

pub pieces_at_are : (bytes : List ℕ) (rs : List Range) (ps : List Piece) → pieces_at bytes rs ≡ Some ps → ArePiecesOf bytes ps
pieces_at_are bytes rs ps e = by_cases (list_all (is_range_of bytes) rs) e
  where
    by_cases : (b : Bool) → cond b (Some (map (piece_in bytes) rs)) None ≡ Some ps → ArePiecesOf bytes ps
    by_cases true e = let same : map (piece_in bytes) rs ≡ ps = cc in subst (ArePiecesOf bytes) same (pieces_in_are bytes rs)
    by_cases false e = absurd cc
