-- What is read is the text of a number, and each such text is read (on specs/Value.antt).
use Rattle.gimli_read.proofs.Common.{◌≡◌, ℕ, suc, false, ltb, List, [], ◌∷◌, ◌++◌, length, take, drop, Ok, refl, sym, ap, ◌∙◌, arith, le-ltb, ltb-false, length-append, take-append-drop, UnexpectedEof, Section, after, number_of, fixed_at, low_first, high_first, number_in, section_of, IsTextAndRest, ReadsFixed, ReadsFixedAlone}
use Rattle.std.proofs.lemmas.List.{length-take, append_assoc}
use Rattle.std.proofs.Math.Seq.{get_or-append_seam, drop-append_seam}
use Rattle.byteorder.specs.Endian.{big_from, little_from}
use Rattle.gimli_read.specs.declared.endian.RunTimeEndian.{RunTimeEndian}
use Rattle.gimli_read.specs.declared.endian.RunTimeEndian.TheVariants.{Little, Big}
use Rattle.gimli_read.proofs.Steps.{guard_ok}

low_read : (front text rest : List ℕ) → little_from (length front) (length text) (front ++ (text ++ rest)) ≡ low_first text
low_read front [] rest = refl
low_read front (b ∷ text) rest =
    let long : length (front ++ b ∷ []) ≡ suc (length front) = omega (arith, length-append front (b ∷ [])) in
    let joined : (front ++ b ∷ []) ++ (text ++ rest) ≡ front ++ (b ∷ (text ++ rest)) = append_assoc front (b ∷ []) (text ++ rest) in
    let h : little_from (suc (length front)) (length text) (front ++ (b ∷ (text ++ rest))) ≡ low_first text = rw (long, joined) at (low_read (front ++ b ∷ []) text rest) in
    rw (get_or-append_seam front b (text ++ rest) 0, h) refl

high_read : (front text rest : List ℕ) → big_from (length front) (length text) (front ++ (text ++ rest)) ≡ high_first text
high_read front [] rest = refl
high_read front (b ∷ text) rest =
    let long : length (front ++ b ∷ []) ≡ suc (length front) = omega (arith, length-append front (b ∷ [])) in
    let joined : (front ++ b ∷ []) ++ (text ++ rest) ≡ front ++ (b ∷ (text ++ rest)) = append_assoc front (b ∷ []) (text ++ rest) in
    let h : big_from (suc (length front)) (length text) (front ++ (b ∷ (text ++ rest))) ≡ high_first text = rw (long, joined) at (high_read (front ++ b ∷ []) text rest) in
    rw (get_or-append_seam front b (text ++ rest) 0, h) refl

number_read : (order : RunTimeEndian) (text rest : List ℕ) → number_of order (length text) (text ++ rest) ≡ number_in order text
number_read Little text rest = low_read [] text rest
number_read Big text rest = high_read [] text rest

pub not_short : (text rest : List ℕ) → ltb (length (text ++ rest)) (length text) ≡ false
not_short text rest = le-ltb _ _ (omega (arith, length-append text rest))

fixed_whole : (order : RunTimeEndian) (text rest : List ℕ) → fixed_at (length text) (section_of order (text ++ rest)) ≡ Ok (number_in order text, section_of order rest)
fixed_whole order text rest = rw (not_short text rest, number_read order text rest, drop-append_seam text rest) refl

pub fixed_reads : ReadsFixed
fixed_reads order n x text rest u = ap (λ k. fixed_at k (section_of order (text ++ rest))) (sym u.long) ∙ fixed_whole order text rest ∙ ap (λ y. Ok (y, section_of order rest)) (sym u.value)

pub cut_at : (n : ℕ) (s rest : Section) → after n s ≡ rest → IsTextAndRest s (take n s.bytes) rest
cut_at n s rest e = sym (ap (λ t. section_of t.endian (take n s.bytes ++ t.bytes)) (sym e) ∙ ap (section_of s.endian) (take-append-drop n s.bytes))

pub take_long : (n : ℕ) (bytes : List ℕ) → ltb (length bytes) n ≡ false → length (take n bytes) ≡ n
take_long n bytes h = omega (arith, length-take n bytes, ltb-false _ _ h)

pub fixed_alone : ReadsFixedAlone
fixed_alone n x s rest e =
    let p = guard_ok (ltb (length s.bytes) n) UnexpectedEof (number_of s.endian n s.bytes, after n s) (x, rest) e in
    let long = take_long n s.bytes p.0 in
    let v : number_of s.endian n s.bytes ≡ x = ap (λ (q : ℕ × Section). q.0) p.1 in
    let r : after n s ≡ rest = ap (λ (q : ℕ × Section). q.1) p.1 in
    let is : number_of s.endian n s.bytes ≡ number_in s.endian (take n s.bytes) = sym (ap (λ b. number_of s.endian n b) (take-append-drop n s.bytes)) ∙ ap (λ k. number_of s.endian k (take n s.bytes ++ drop n s.bytes)) (sym long) ∙ number_read s.endian (take n s.bytes) (drop n s.bytes) in
    (take n s.bytes, record { long = long; value = sym v ∙ is }, cut_at n s rest r)
