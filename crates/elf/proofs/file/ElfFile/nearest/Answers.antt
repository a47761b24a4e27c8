use Rattle.elf.proofs.Common.{◌∙◌, ℕ, List, ap, subst, sym, SymbolEntry, image_bytes, layout_of, string_table_in, ObjectFile, nearest_symbol, symbols_of, symbol_names_number, symbol_bytes, usable_in, IsSymbolTable}
use Rattle.elf.proofs.file.ElfFile.nearest.Goals as goal

pub returns : goal.returns
returns c =
    let f = c.self.inside in
    let bytes = image_bytes f.file in
    let sections = f.sections.items in
    let tables = c.self.invariant.tables in
    let named : List ℕ → List SymbolEntry = λ names. usable_in f.endian (layout_of f.class) names (symbol_bytes bytes sections) in
    let symbols = named (string_table_in bytes sections (symbol_names_number sections)) in
    let P : List SymbolEntry → Type 0 = λ (t : List SymbolEntry). IsSymbolTable symbols t in
    let N : List ℕ → Type 0 = λ names. IsSymbolTable (named names) f.symbols.items in
    let is = subst N tables.symbol_names_are tables.symbols in
    record { gives = c.nearest_in.ensures.found symbols (subst P (sym c.deref.ensures.value) is) ∙ ap (λ (v : ObjectFile). nearest_symbol c.args.probe (symbols_of v)) c.self.view_is }
