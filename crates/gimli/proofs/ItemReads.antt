-- Each list of items whose texts are the bytes is what is read (on specs/ItemLaws.antt).
use Rattle.gimli.proofs.Common.{◌≡◌, ◌≢◌, ℕ, zero, suc, add-one, ◌+◌, ◌<◌, ◌≤◌, ◌==◌, cond, List, [], ◌∷◌, ◌++◌, length, Option, Some, None, Result, Ok, Err, refl, sym, ap, subst, ◌∙◌, arith, ℤ, length-append, append_assoc, IsOk, ne_eqb, Error, Encoding, Section, Reading, ◌>>=◌, IsUleb128, uleb128_at, Abbrev, Specification, with_code, NamedValue, attribute_at, attributes_at, Run, cons, EntryUnit, depth_after_entry, depth_after_closing, Entry, Item, depth_after, depth_behind, item_at, items_after, items_from, items_within, EntryCursor, entry_abbreviation_at, items_left, next_item_at, AreAttributes, IsEntryText, AreItems, ItemsAlone, offset_of}
use Rattle.gimli_read.specs.declared.endian.RunTimeEndian.{RunTimeEndian}
use Rattle.gimli_read.specs.Value.{section_of}
use Rattle.gimli_read.proofs.Leb128Texts.{uleb128_reads}
use Rattle.gimli_read.proofs.AttributeTexts.{attribute_reads}
use Rattle.gimli.proofs.CursorLemmas.{abbreviation_is, item_from, item_is, item_here, item_of_next, item_refused, opening_entry}
use Rattle.gimli.proofs.ItemTexts.{item_text}

-- the text of an item has a byte at least
pub text_some : (unit : EntryUnit) (order : RunTimeEndian) (o : Option Entry) (text : List ℕ) → IsEntryText unit order o text → 0 < length text
text_some unit order None text h = h.0.some
text_some unit order (Some e) text h =
    let some = h.4.0.some in
    let long : length text ≡ length (h.1 ++ h.2) = ap (λ (xs : List ℕ). length xs) h.3 in
    omega (arith, some, long, length-append h.1 h.2)

-- an item takes a byte at least
pub item_takes : (unit : EntryUnit) (depth : ℤ) (s rest : Section) (x : Item) → item_at unit depth s ≡ Ok (Some x, rest) → length rest.bytes < length s.bytes
item_takes unit depth s rest x e =
    let h = item_text unit depth s rest x e in
    let some = text_some unit s.endian x.entry h.text h.is in
    let whole : length s.bytes ≡ length (h.text ++ rest.bytes) = ap (λ (u : Section). length u.bytes) h.rest in
    omega (arith, some, whole, length-append h.text rest.bytes)

-- what follows an item that was read matters alone
after_same : (j k : ℤ → Section → Run Item Section) (r : Reading (Option Item)) → ((x : Item) (t : Section) → r ≡ Ok (Some x, t) → j (depth_after x) t ≡ k (depth_after x) t) → items_after j r ≡ items_after k r
after_same j k (Err e) h = refl
after_same j k (Ok (None, t)) h = refl
after_same j k (Ok (Some x, t)) h = ap (cons x) (h x t refl)

-- with enough of them their number doesn't matter
items_enough : (unit : EntryUnit) (n m : ℕ) (depth : ℤ) (s : Section) → length s.bytes < n → length s.bytes < m → items_within unit n depth s ≡ items_within unit m depth s
unfolding items_within
items_enough unit zero m depth s h k = absurd (omega arith)
items_enough unit (suc n) zero depth s h k = absurd (omega arith)
items_enough unit (suc n) (suc m) depth s h k = after_same (items_within unit n) (items_within unit m) (item_at unit depth s)
    (λ x t e. let l = item_takes unit depth s t x e in items_enough unit n m (depth_after x) t (omega (arith, l, h)) (omega (arith, l, k)))

-- the items from here on are the first of them, and those after it
pub items_step : (unit : EntryUnit) (depth : ℤ) (s : Section) → items_from unit depth s ≡ items_after (items_from unit) (item_at unit depth s)
unfolding items_within
items_step unit depth s = ap (λ n. items_within unit n depth s) (add-one (length s.bytes)) ∙ after_same (items_within unit (length s.bytes)) (items_from unit) (item_at unit depth s)
    (λ x t e. let l = item_takes unit depth s t x e in items_enough unit (length s.bytes) (length t.bytes + 1) (depth_after x) t l (omega arith))

-- the items from a place on, one at a time
pub items_more : (unit : EntryUnit) (c d : EntryCursor) (x : Item) → next_item_at unit c ≡ Ok (Some x, d) → items_left unit c ≡ cons x (items_left unit d)
items_more unit c d x h =
    let i = item_of_next unit c d (Some x) h in
    items_step unit c.depth c.left ∙ ap (items_after (items_from unit)) i.0 ∙ ap (λ z. cons x (items_from unit z d.left)) (sym i.1)

pub items_end : (unit : EntryUnit) (c d : EntryCursor) → next_item_at unit c ≡ Ok (None, d) → items_left unit c ≡ record { items = []; end = Ok d.left }
items_end unit c d h = items_step unit c.depth c.left ∙ ap (items_after (items_from unit)) (item_of_next unit c d None h).0

pub items_fault : (unit : EntryUnit) (c : EntryCursor) (e : Error) → next_item_at unit c ≡ Err e → items_left unit c ≡ record { items = []; end = Err e }
items_fault unit c e h = items_step unit c.depth c.left ∙ ap (items_after (items_from unit)) (item_refused unit c e h)

code_read : (order : RunTimeEndian) (text rest : List ℕ) (n : ℕ) → IsUleb128 text n → uleb128_at (section_of order (text ++ rest)) ≡ Ok (n, section_of order rest)
code_read order text rest n u = ap (λ r. r >>= λ y. Ok (y.0, section_of order y.1)) (uleb128_reads text rest n u)

attributes_read : (e : Encoding) (order : RunTimeEndian) (xs : List Specification) (text rest : List ℕ) (attributes : List NamedValue) → AreAttributes e order xs text attributes
    → attributes_at e xs (section_of order (text ++ rest)) ≡ Ok (attributes, section_of order rest)
unfolding attributes_at
attributes_read e order [] text rest [] h = ap (λ (t : List ℕ). Ok ([], section_of order (t ++ rest))) h
attributes_read e order [] text rest (a ∷ more) h = absurd h
attributes_read e order (x ∷ xs) text rest [] h = absurd h
attributes_read e order (x ∷ xs) text rest (a ∷ more) h =
    let s = section_of order (h.0 ++ (h.1 ++ rest)) in
    let is : section_of order (text ++ rest) ≡ s = ap (λ (t : List ℕ). section_of order (t ++ rest)) h.2 ∙ ap (section_of order) (append_assoc h.0 h.1 rest) in
    ap (λ (u : Section). attribute_at e x u >>= λ b. attributes_at e xs b.1 >>= λ bs. Ok (b.0 ∷ bs.0, bs.1)) is
    ∙ ap (λ (r : Reading NamedValue). r >>= λ b. attributes_at e xs b.1 >>= λ bs. Ok (b.0 ∷ bs.0, bs.1)) (attribute_reads e order x h.0 (h.1 ++ rest) a h.3)
    ∙ ap (λ (r : Reading (List NamedValue)). r >>= λ bs. Ok (a ∷ bs.0, bs.1)) (attributes_read e order xs h.1 rest more h.4)

next_coded : (unit : EntryUnit) (c : EntryCursor) → (length c.left.bytes ≡ 0 → ⊥) → next_item_at unit c ≡ (entry_abbreviation_at unit.abbreviations c >>= λ x. item_from unit c x)
next_coded unit c h = item_is unit c ∙ ap (λ b. cond b (Ok (None, c)) (entry_abbreviation_at unit.abbreviations c >>= λ x. item_from unit c x)) (ne_eqb _ _ h)

closing_read : (table : List Abbrev) (c : EntryCursor) (t : Section) → uleb128_at c.left ≡ Ok (0, t) → entry_abbreviation_at table c ≡ Ok (None, record { left = t; depth = depth_after_closing c.depth })
closing_read table c t h = abbreviation_is table c ∙ ap (λ (r : Reading ℕ). r >>= λ code. cond {A = Result (Option Abbrev × EntryCursor) Error} (code.0 == 0) (Ok (None, record { left = code.1; depth = depth_after_closing c.depth })) (opening_entry (with_code code.0 table) (record { left = code.1; depth = c.depth }))) h

abbreviation_read : (table : List Abbrev) (c : EntryCursor) (t : Section) (code : ℕ) (a : Abbrev) → uleb128_at c.left ≡ Ok (code, t) → code ≢ 0 → with_code code table ≡ Some a
    → entry_abbreviation_at table c ≡ Ok (Some a, record { left = t; depth = depth_after_entry a.has_children c.depth })
abbreviation_read table c t code a h n w =
    abbreviation_is table c
    ∙ ap (λ (r : Reading ℕ). r >>= λ code. cond {A = Result (Option Abbrev × EntryCursor) Error} (code.0 == 0) (Ok (None, record { left = code.1; depth = depth_after_closing c.depth })) (opening_entry (with_code code.0 table) (record { left = code.1; depth = c.depth }))) h
    ∙ ap (λ b. cond {A = Result (Option Abbrev × EntryCursor) Error} b (Ok (None, record { left = t; depth = depth_after_closing c.depth })) (opening_entry (with_code code table) (record { left = t; depth = c.depth }))) (ne_eqb _ _ n)
    ∙ ap (λ o. opening_entry o (record { left = t; depth = c.depth })) w

-- a place whose bytes begin with a text
abbrev at_text : RunTimeEndian → List ℕ → ℤ → EntryCursor
at_text order bytes depth = record { left = section_of order bytes; depth = depth }

item_read : (unit : EntryUnit) (order : RunTimeEndian) (depth : ℤ) (text rest : List ℕ) (o : Option Entry) → IsEntryText unit order o text
    → next_item_at unit (at_text order (text ++ rest) depth) ≡ Ok (Some (item_here unit (at_text order (text ++ rest) depth) o), at_text order rest (depth_behind o depth))
item_read unit order depth text rest o h = next_coded unit c some ∙ at o h
  where
    c : EntryCursor
    c = at_text order (text ++ rest) depth

    some : length (text ++ rest) ≡ 0 → ⊥
    some k = absurd (let t = text_some unit order o text h in omega (arith, t, k, length-append text rest))

    at : (p : Option Entry) → IsEntryText unit order p text → (entry_abbreviation_at unit.abbreviations c >>= λ x. item_from unit c x) ≡ Ok (Some (item_here unit c p), at_text order rest (depth_behind p depth))
    at None u = ap (λ (r : Result (Option Abbrev × EntryCursor) Error). r >>= λ x. item_from unit c x) (closing_read unit.abbreviations c (section_of order rest) (code_read order text rest 0 u))
    at (Some e) u =
        let t = section_of order (u.2 ++ rest) in
        let is : section_of order (text ++ rest) ≡ section_of order (u.1 ++ (u.2 ++ rest)) = ap (λ (xs : List ℕ). section_of order (xs ++ rest)) u.3 ∙ ap (section_of order) (append_assoc u.1 u.2 rest) in
        let code : uleb128_at (section_of order (text ++ rest)) ≡ Ok (u.0, t) = ap uleb128_at is ∙ code_read order u.1 (u.2 ++ rest) u.0 u.4 in
        ap (λ (r : Result (Option Abbrev × EntryCursor) Error). r >>= λ x. item_from unit c x) (abbreviation_read unit.abbreviations c t u.0 e.abbreviation code u.5 u.6)
        ∙ ap (λ (r : Reading (List NamedValue)). r >>= λ x. Ok (Some (item_here unit c (Some (record { abbreviation = e.abbreviation; attributes = x.0 }))), record { left = x.1; depth = depth_after_entry e.abbreviation.has_children depth })) (attributes_read unit.encoding order e.abbreviation.attributes u.2 rest e.attributes u.7)

empty_ends : (unit : EntryUnit) (c : EntryCursor) → c.left.bytes ≡ [] → next_item_at unit c ≡ Ok (None, c)
empty_ends unit c h = item_is unit c ∙ ap (λ (xs : List ℕ). cond (length xs == 0) (Ok (None, c)) (entry_abbreviation_at unit.abbreviations c >>= λ x. item_from unit c x)) h

alone_at : (unit : EntryUnit) (c : EntryCursor) (items : List Item) → length c.left.bytes ≤ unit.length → AreItems unit c.left.endian (offset_of unit c.left) c.depth items c.left.bytes
    → ((items_left unit c).items ≡ items) × IsOk (items_left unit c).end
alone_at unit c [] l h = let e = items_end unit c c (empty_ends unit c h) in (ap (λ r. r.items) e, subst (λ (r : Run Item Section). IsOk r.end) (sym e) refl)
alone_at unit c (x ∷ xs) l h =
    let d = at_text c.left.endian h.1 (depth_after x) in
    let place : c ≡ at_text c.left.endian (h.0 ++ h.1) c.depth = ap (λ (bytes : List ℕ). at_text c.left.endian bytes c.depth) h.2 in
    let item : item_here unit c x.entry ≡ x = ap (λ (n : ℕ). record { offset = n; depth = c.depth; entry = x.entry }) (sym h.4) ∙ ap (λ (z : ℤ). record { offset = x.offset; depth = z; entry = x.entry }) (sym h.5) in
    let read : next_item_at unit c ≡ Ok (Some x, d) =
    ap (next_item_at unit) place ∙ item_read unit c.left.endian c.depth h.0 h.1 x.entry h.3
    ∙ ap (λ (b : EntryCursor). Ok (Some (item_here unit b x.entry), at_text c.left.endian h.1 (depth_behind x.entry c.depth))) (sym place)
    ∙ ap (λ (z : ℤ). Ok (Some (item_here unit c x.entry), at_text c.left.endian h.1 (depth_behind x.entry z))) (sym h.5)
    ∙ ap (λ (y : Item). Ok (Some y, d)) item
    in
    let whole : length c.left.bytes ≡ length (h.0 ++ h.1) = ap (λ (bs : List ℕ). length bs) h.2 in
    let long = length-append h.0 h.1 in
    let within : length h.1 ≤ unit.length = omega (arith, l, whole, long) in
    let next : offset_of unit c.left + length h.0 ≡ offset_of unit d.left = omega (arith, l, whole, long) in
    let rest = subst (λ (n : ℕ). AreItems unit c.left.endian n (depth_after x) xs h.1) next h.6 in
    let ih = alone_at unit d xs within rest in
    let e = items_more unit c d x read in
    (ap (λ r. r.items) e ∙ ap (λ (ys : List Item). x ∷ ys) ih.0, subst (λ (r : Run Item Section). IsOk r.end) (sym e) ih.1)

pub items_alone : ItemsAlone
items_alone unit depth s items l h = alone_at unit (record { left = s; depth = depth }) items l h
