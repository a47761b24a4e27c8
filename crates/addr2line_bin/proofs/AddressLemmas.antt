-- Texts that are added one after another, and what a format with a width writes.
use Rattle.addr2line_bin.proofs.Common.{◌≡◌, ◌∙◌, ◌-◌, ◌^◌, ◌++◌, ℕ, List, [], length, replicate, false, refl, ap, append-nil, append_assoc, arith, byte}
use Rattle.std.specs.Fmt.{char_count, digits, format_spec, padded_integral}
use Rattle.addr2line_bin.specs.AddressTexts.{wide_hex}

wide_number : (numeral : List ℕ) → padded_integral (format_spec 32 0 4 16 (2 ^ 64 - 1)) false [] numeral ≡ replicate (16 - length numeral) (byte "0") ++ numeral
unfolding padded_integral char_count
wide_number numeral =
    let none : 16 - length numeral - 0 - 0 ≡ 16 - length numeral = omega arith in
    rw (none, append-nil numeral) refl

pub wide_digits : (n : ℕ) → padded_integral (format_spec 32 0 4 16 (2 ^ 64 - 1)) false [] (digits 16 false n) ≡ wide_hex n
wide_digits n = wide_number (digits 16 false n)

-- three texts, one after the other
pub three_texts : (t0 a t1 b t2 t3 c : List ℕ) → t1 ≡ t0 ++ a → t2 ≡ t1 ++ b → t3 ≡ t2 ++ c → t3 ≡ t0 ++ (a ++ (b ++ c))
three_texts t0 a t1 b t2 t3 c p q r =
    r ∙ ap (λ t. t ++ c) (q ∙ ap (λ t. t ++ b) p) ∙ append_assoc (t0 ++ a) b c ∙ append_assoc t0 a (b ++ c)
