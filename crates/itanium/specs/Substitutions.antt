-- What stands for something that was read before: substitutions, and template parameters.
-- Source: Itanium C++ ABI, 5.1 (Compression: <substitution>) and 5.1.5 (<template-param>).
-- Own: one level of template parameters, those of the encoding's own name; inside the type of a
-- conversion there are none.
use Rattle.std.specs.Prelude.{ℕ, slice_get, if◌then◌else◌, None, option_map, codes}
use Rattle.std.specs.Char.{is_ascii_digit}
use Rattle.itanium.specs.Tree.{Tree, Abbreviation, abbreviated}
use Rattle.itanium.specs.Tables.{abbreviations}
use Rattle.itanium.specs.Reading.{Reading, ◌>>=◌, give, by_table, if_at, entered}
use Rattle.itanium.specs.Identifiers.{counted, decimal_base, is_seq_digit, seq_base, tagged_name}

-- a name of `std`; with ABI tags it is a component of its own
unfoldable pub abbreviation : Abbreviation → Reading Tree
abbreviation name = if_at (codes "B")
    (entered (tagged_name (abbreviated name))) (give (abbreviated name))

-- the component of a number
unfoldable pub component : ℕ → Reading Tree
component n = λ s. option_map (λ tree. (tree, s)) (slice_get s.components n)

-- <substitution>, behind its `S`
unfoldable pub substitution : Reading Tree
substitution = by_table abbreviations abbreviation (do
  n ← counted seq_base is_seq_digit
  component n)

-- what the template parameter of a number stands for
unfoldable pub parameter : ℕ → Reading Tree
parameter n = λ s.
    if s.is_conversion then None else option_map (λ tree. (tree, s)) (slice_get s.arguments n)

-- <template-param>, behind its `T`
unfoldable pub template_param : Reading Tree
template_param = do
  n ← counted decimal_base is_ascii_digit
  parameter n
