-- The sorted table of symbols, as the private functions see it.
use Rattle.std.specs.Prelude.{◌≡◌, ℕ, Bool, true, false, List, nat_le}
use Rattle.std.specs.Ordering.{is_lt, nat_cmp, ordering_then}
use Rattle.std.specs.List.Sorted.{IsSortedBy, IsStableBy}
use Rattle.elf.specs.declared.symbol.SymbolEntry.{SymbolEntry}
use Rattle.elf.specs.Symbols.{preference}

-- whether a comes before b: by the address, then by the preference
abbrev pub precedes : SymbolEntry → SymbolEntry → Bool
precedes a b = is_lt
    (ordering_then (nat_cmp a.address b.address) (nat_cmp (preference a) (preference b)))

-- the table is the symbols in that order, those that tie in the order of the file
pub record IsSymbolTable (symbols table : List SymbolEntry) : Type 0 where
  pub sorted : IsSortedBy precedes table
  pub stable : IsStableBy precedes symbols table

-- the symbol is at or below the probe
abbrev pub IsBelow : ℕ → SymbolEntry → Type 0
IsBelow probe e = nat_le e.address probe ≡ true

-- the symbol is above the probe
abbrev pub IsAbove : ℕ → SymbolEntry → Type 0
IsAbove probe e = nat_le e.address probe ≡ false
