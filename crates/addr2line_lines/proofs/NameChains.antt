-- What chains of entries give (on specs/NameChains.antt).
use Rattle.addr2line_lines.proofs.Common.{ℕ, ◌≡◌, ◌+◌, ◌-◌, List, [], ◌∷◌, length, Option, Some, None, Result, Ok, arith, ap, refl, ◌∙◌, Error, Section, name_within, EntryPlace}
use Rattle.addr2line_lines.specs.NameChains.{ChainGivesName, IsChain, LongChainGivesNone, Reference}
use Rattle.addr2line_lines.proofs.NameLemmas.{within_place, within_zero}

-- the name by a reference, and at most n - 1 more
abbrev from_reference : ℕ → Reference → Result (Option Section) Error
from_reference n r = name_within n r.scope r.unit r.value

-- after a chain fewer entries are left to visit
after_chain : (m n : ℕ) (from to : Reference) (places : List EntryPlace) → IsChain from places to → m ≡ length places + n → from_reference m from ≡ from_reference n to
after_chain m n from to [] h e = ap (λ r. from_reference m r) h ∙ ap (λ k. from_reference k to) (let same : m ≡ n = omega arith in same)
after_chain m n from to (place ∷ places) h e =
    within_place m (length places + n) from.scope from.unit from.value place _ (omega arith) h.1.0 h.1.1
    ∙ after_chain (length places + n) n (record { scope = place.scope; unit = place.unit; value = h.0 }) to places h.2 refl

pub chain_gives_name : ChainGivesName
chain_gives_name from to places place found name h l leads named =
    after_chain 16 (16 - length places) from to places h (omega arith)
    ∙ within_place (16 - length places) (16 - length places - 1) to.scope to.unit to.value place _ (omega arith) leads.0 leads.1
    ∙ ap (λ o. elim o [ Some x ↦ Ok (Some x) | None ↦ elim found.origin [ None ↦ Ok None | Some next ↦ name_within (16 - length places - 1) place.scope place.unit next ] ]) named

pub long_chain_gives_none : LongChainGivesNone
long_chain_gives_none from to places h l = after_chain 16 0 from to places h (omega arith) ∙ within_zero to.scope to.unit to.value 0 refl
