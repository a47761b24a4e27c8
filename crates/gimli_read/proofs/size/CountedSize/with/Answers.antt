use Rattle.gimli_read.proofs.Common.{◌≡◌, ◌+◌, refl, arith, offset_size, address_or_offset_bytes}
use Rattle.gimli_read.proofs.SizeLemmas.{address_known, either_known, more_addresses, more_offsets, more_of_either}
use Rattle.gimli_read.proofs.size.CountedSize.with.Goals as goal

pub returns-in_ok-total-in-Address : goal.returns-in_ok-total-in-Address
returns-in_ok-total-in-Address c =
    let is : c.in_ok-total-in-Address.field-0 ≡ c.args.self.addresses + 1 = grind (arith, c.in_ok-total-in-Address.ensures) in
    record { found = λ e v. (e.address_size, rw c.in-Address.is (address_known e v), more_addresses e c.args.self _ is) }

pub returns-in_ok-total-in-Offset : goal.returns-in_ok-total-in-Offset
returns-in_ok-total-in-Offset c =
    let is : c.in_ok-total-in-Offset.field-0 ≡ c.args.self.offsets + 1 = grind (arith, c.in_ok-total-in-Offset.ensures) in
    record { found = λ e v. (offset_size e.format, rw c.in-Offset.is refl, more_offsets e c.args.self _ is) }

pub returns-in_ok-total-in-AddressOrOffset : goal.returns-in_ok-total-in-AddressOrOffset
returns-in_ok-total-in-AddressOrOffset c =
    let is : c.in_ok-total-in-AddressOrOffset.field-0 ≡ c.args.self.addresses_or_offsets + 1 = grind (arith, c.in_ok-total-in-AddressOrOffset.ensures) in
    record { found = λ e v. (address_or_offset_bytes e, rw c.in-AddressOrOffset.is (either_known e v), more_of_either e c.args.self _ is) }
