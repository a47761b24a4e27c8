-- Things of one size that stand one after another (on specs/Header.antt and specs/Symbols.antt).
use Rattle.elf.proofs.Common.{◌≡◌, ◌∙◌, ◌≤◌, ◌+◌, ◌*◌, ℕ, suc, Bool, true, false, cond, List, [], ◌∷◌, ◌++◌, drop, filter, refl, sym, ap, arith, append-nil, append_assoc, RunTimeEndian, SectionHeader, SymbolEntry, section_in, sections_in, symbol_entry_in, entries_in}
use Rattle.std.proofs.lemmas.List.Elements.{filter-append}
use Rattle.elf.specs.declared.layout.Layout.{Layout}

-- room for the things that are left, once one is read
pub room_next : (n k size a b : ℕ) → n ≡ suc k → n * size ≤ a → b + size ≡ a → k * size ≤ b
room_next n k size a b is room more =
    let all : suc k * size ≤ a = rw is at room in omega (arith, all, more)

-- room for the first of them
pub room_first : (n k size a : ℕ) → n ≡ suc k → n * size ≤ a → size ≤ a
room_first n k size a is room =
    let all : suc k * size ≤ a = rw is at room in omega (arith, all)

-- the same by places
pub room_after : (n k size at place len : ℕ) → n ≡ suc k → at + n * size ≤ len → place ≡ at + size → place + k * size ≤ len
room_after n k size at place len is room next =
    let all : at + suc k * size ≤ len = rw is at room in omega (arith, all, next)

-- one more section header
pub sections_next : (o : RunTimeEndian) (l : Layout) (n k : ℕ) (rest after : List ℕ) (read more all : List SectionHeader) (s : SectionHeader) → n ≡ suc k
    → read ++ sections_in o l n rest ≡ all → after ≡ drop l.section_size rest → more ≡ read ++ s ∷ [] → s ≡ section_in o l rest → more ++ sections_in o l k after ≡ all
sections_next o l n k rest after read more all s is done cut pushed head =
    let step : read ++ (section_in o l rest ∷ sections_in o l k (drop l.section_size rest)) ≡ all = rw is at done in
    rw (pushed, cut, head) (append_assoc read (section_in o l rest ∷ []) (sections_in o l k (drop l.section_size rest)) ∙ step)

-- all section headers
pub sections_end : (o : RunTimeEndian) (l : Layout) (n : ℕ) (rest : List ℕ) (read all : List SectionHeader) → n ≡ 0 → read ++ sections_in o l n rest ≡ all → read ≡ all
sections_end o l n rest read all is done = sym (append-nil read) ∙ (rw is at done)

-- one more entry
pub entries_next : (o : RunTimeEndian) (l : Layout) (p : SymbolEntry → Bool) (n k : ℕ) (rest after : List ℕ) (read more all : List SymbolEntry) (e : SymbolEntry) → n ≡ suc k
    → read ++ filter p (entries_in o l n rest) ≡ all → after ≡ drop l.symbol_size rest → more ≡ read ++ filter p (e ∷ []) → e ≡ symbol_entry_in o l rest → more ++ filter p (entries_in o l k after) ≡ all
entries_next o l p n k rest after read more all e is done cut pushed head =
    let left = entries_in o l k (drop l.symbol_size rest) in
    let step : read ++ filter p ((symbol_entry_in o l rest ∷ []) ++ left) ≡ all = rw is at done in
    let apart : read ++ (filter p (symbol_entry_in o l rest ∷ []) ++ filter p left) ≡ all = rw (filter-append p (symbol_entry_in o l rest ∷ []) left) at step in
    rw (pushed, cut, head) (append_assoc read (filter p (symbol_entry_in o l rest ∷ [])) (filter p left) ∙ apart)

-- all entries
pub entries_end : (o : RunTimeEndian) (l : Layout) (p : SymbolEntry → Bool) (n : ℕ) (rest : List ℕ) (read all : List SymbolEntry) → n ≡ 0 → read ++ filter p (entries_in o l n rest) ≡ all → read ≡ all
entries_end o l p n rest read all is done = sym (append-nil read) ∙ (rw is at done)

cons_of : {A : Type 0} (xs : List A) (a : A) (ys : List A) → xs ++ a ∷ ys ≡ [] → ⊥
cons_of [] a ys e = absurd cc
cons_of (x ∷ xs) a ys e = absurd cc

not_first : (p : SymbolEntry → Bool) (x : SymbolEntry) (xs read : List SymbolEntry) → read ++ filter p (x ∷ xs) ≡ [] → p x ≡ false
not_first p x xs read e = by (p x) refl
  where
    by : (b : Bool) → p x ≡ b → p x ≡ false
    by false q = q
    by true q = absurd (let f : filter p (x ∷ xs) ≡ x ∷ filter p xs = ap (λ b. cond b (x ∷ filter p xs) (filter p xs)) q in cons_of read x (filter p xs) (ap (λ ys. read ++ ys) (sym f) ∙ e))

-- where none is asked for, the next one isn't
pub entries_none : (o : RunTimeEndian) (l : Layout) (p : SymbolEntry → Bool) (n k : ℕ) (rest : List ℕ) (read all : List SymbolEntry) (e : SymbolEntry) → n ≡ suc k
    → read ++ filter p (entries_in o l n rest) ≡ all → e ≡ symbol_entry_in o l rest → all ≡ [] → p e ≡ false
entries_none o l p n k rest read all e is done head none =
    let step : read ++ filter p (symbol_entry_in o l rest ∷ entries_in o l k (drop l.symbol_size rest)) ≡ all = rw is at done in
    ap p head ∙ not_first p (symbol_entry_in o l rest) (entries_in o l k (drop l.symbol_size rest)) read (step ∙ none)
