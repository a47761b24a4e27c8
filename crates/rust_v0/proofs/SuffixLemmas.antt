-- Suffixes are ASCII.
use Rattle.std.proofs.Common.{◌≡◌, ℕ, Bool, List, [], ◌∷◌, true, refl, arith}
use Rattle.std.specs.Prelude.{◌&&◌}
use Rattle.std.specs.Char.{is_ascii, is_ascii_graphic}
use Rattle.std.specs.List.{list_all}
use Rattle.std.proofs.lemmas.Bool.Decides.{nat_tests}
use Rattle.rust_v0.specs.Name.{is_suffix}

one_graphic : (b : ℕ) → is_ascii_graphic b ≡ true → is_ascii b ≡ true
one_graphic b h = grind (arith, nat_tests)

first_graphic : (b : ℕ) (bs : List ℕ) → list_all is_ascii_graphic (b ∷ bs) ≡ true → is_ascii_graphic b ≡ true
first_graphic b bs h = grind (arith, nat_tests)

others_graphic : (b : ℕ) (bs : List ℕ) → list_all is_ascii_graphic (b ∷ bs) ≡ true → list_all is_ascii_graphic bs ≡ true
others_graphic b bs h = grind (arith, nat_tests)

both_ascii : (b : ℕ) (bs : List ℕ) → is_ascii b ≡ true → list_all is_ascii bs ≡ true → list_all is_ascii (b ∷ bs) ≡ true
both_ascii b bs h t = grind (arith, nat_tests)

graphic_ascii : (bs : List ℕ) → list_all is_ascii_graphic bs ≡ true → list_all is_ascii bs ≡ true
graphic_ascii [] h = refl
graphic_ascii (b ∷ bs) h = both_ascii b bs (one_graphic b (first_graphic b bs h)) (graphic_ascii bs (others_graphic b bs h))

second_part : (p q : Bool) → (p && q) ≡ true → q ≡ true
second_part p q h = grind (arith, nat_tests)

pub suffix_ascii : (text : List ℕ) → is_suffix text ≡ true → list_all is_ascii text ≡ true
suffix_ascii [] h = refl
suffix_ascii (b ∷ bs) h = graphic_ascii (b ∷ bs) (second_part _ _ h)
