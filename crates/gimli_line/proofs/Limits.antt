-- Address sizes (on specs/AddressSize.antt).
use Rattle.gimli_line.proofs.Common.{◌≡◌, ℕ, ◌≤◌, true, arith, nat_tests, is_address_size}

pub size_small : (n : ℕ) → is_address_size n ≡ true → n ≤ 8
size_small n h = grind (arith, nat_tests)
