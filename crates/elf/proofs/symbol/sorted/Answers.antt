use Rattle.elf.proofs.Common.{rules, ℕ, subst, List, SymbolEntry, preference, IsSymbolTable}
use Rattle.std.proofs.lemmas.List.Sorted.{answers_always}
use Rattle.elf.proofs.symbol.sorted.Goals as goal

pub returns : goal.returns
returns c =
    let key : SymbolEntry → ℕ × ℕ = λ e. (e.address, preference e) in
    let in_order : IsSymbolTable c.in_ok-all.all.items c.sort_by_key.new.self.items = record {
      sorted = c.in_ok-sort_by_key.ensures.sorted key (answers_always _ _ _ (λ f a r g h. search rules));
      stable = c.in_ok-sort_by_key.ensures.stable key (answers_always _ _ _ (λ f a r g h. search rules));
    } in
    let P : List SymbolEntry → Type 0 = λ (xs : List SymbolEntry). IsSymbolTable xs c.sort_by_key.new.self.items in
    record { gives = subst P c.in_ok-all.ensures.gives in_order; none = search rules }
