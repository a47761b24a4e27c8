-- What C gets for symbols and sections.
use Rattle.std.specs.Prelude.{◌≡◌, ◌∷◌, ◌≤◌, ℕ, List, [], Some, length}
use Rattle.elf.specs.Symbols.{NamedAddress}
use Rattle.gimli_read.specs.declared.range.Range.{Range}
use Rattle.addr2line_c.specs.declared.symbols.WrittenSymbol.{WrittenSymbol}
use Rattle.addr2line_c.specs.Filled.{IsFilled}
use Rattle.addr2line_c.specs.Texts.{NamesText, zero_ended, text_after}

-- this symbol is written, with its name
pub record IsWrittenSymbol (out : WrittenSymbol) (buffer : List ℕ) (needed : ℕ) (s : NamedAddress)
    : Type 0 where
  pub parts : out ≡ record { address = s.address; name = text_after [] (Some s.name) }
  pub texts : IsFilled needed buffer (zero_ended (s.name ∷ []))
  pub named : length (zero_ended (s.name ∷ [])) ≤ length buffer
      → NamesText buffer out.name (Some s.name)

-- this range is written
abbrev pub IsWrittenRange : ℕ → ℕ → Range → Type 0
IsWrittenRange begin end r = (begin ≡ r.begin) × (end ≡ r.end)
