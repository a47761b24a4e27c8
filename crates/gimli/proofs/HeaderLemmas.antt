-- A unit's header takes a byte at least (on specs/Header.antt).
use Rattle.gimli.proofs.Common.{◌≡◌, ℕ, [], length, Option, Ok, Err, refl, ap, arith, Error, Section, Reading, Shorter, shorter_bind, shorter_then, shorter_ok, initial_length-shorter, split-shorter, UnitHeaderFields, unit_header_at, next_header_at, headers_left, gives_header}
use Rattle.gimli_read.specs.Yields.{next_given}
use Rattle.gimli.proofs.UpToEnd.{end_gives, end_refuses, end_is_empty}

header_shorter : (section_length : ℕ) (s : Section) → Shorter (length s.bytes) (unit_header_at section_length s)
unfolding unit_header_at
header_shorter section_length s =
    shorter_bind (initial_length-shorter s) (λ n h. shorter_bind (split-shorter n.0.0 n.1) (λ u k.
    shorter_then _ (λ x. shorter_ok (omega arith))))

-- what one reading takes from the headers that are left
pub next_gives : (section_length : ℕ) (s t : Section) (o : Option UnitHeaderFields) → next_header_at section_length s ≡ Ok (o, t) → next_given (headers_left section_length s) ≡ Ok (o, headers_left section_length t)
unfolding next_header_at
next_gives section_length s t o e = end_gives (unit_header_at section_length) (header_shorter section_length) s t o e

pub next_refuses : (section_length : ℕ) (s : Section) (d : Error) → next_header_at section_length s ≡ Err d → next_given (headers_left section_length s) ≡ Err d
unfolding next_header_at
next_refuses section_length s d e = end_refuses (unit_header_at section_length) (header_shorter section_length) s d e

-- nothing is left of no bytes
pub none_left : (section_length : ℕ) (s : Section) → length s.bytes ≡ 0 → headers_left section_length s ≡ []
unfolding next_header_at
none_left section_length s e = end_is_empty (unit_header_at section_length) (header_shorter section_length) s e

-- a header is given where one is read
pub given_alike : (section_length : ℕ) (s : Section) → gives_header (next_given (headers_left section_length s)) ≡ gives_header (next_header_at section_length s)
given_alike section_length s = at (next_header_at section_length s) refl
  where
    at : (r : Reading (Option UnitHeaderFields)) → next_header_at section_length s ≡ r → gives_header (next_given (headers_left section_length s)) ≡ gives_header r
    at (Ok (o, t)) h = ap gives_header (next_gives section_length s t o h)
    at (Err e) h = ap gives_header (next_refuses section_length s e h)
