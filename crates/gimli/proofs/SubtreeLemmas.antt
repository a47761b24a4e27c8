-- Where subtrees end (on specs/ItemLaws.antt).
use Rattle.gimli.proofs.Common.{◌≡◌, ℕ, zero, suc, ◌+◌, Bool, true, false, cond, List, [], ◌∷◌, length, Option, Some, None, Result, Ok, Err, refl, sym, ap, subst, arith, ℤ, pos, negsuc, Error, UnexpectedEof, Reading, ◌>>=◌, Run, cons, Section, EntryUnit, Entry, Item, depth_after, depth_behind, item_at, items_after, items_inside, items_within, Closes, SubtreesClose}
use Rattle.std.specs.Prelude.{int_lt, ◌+ℤ◌}
use Rattle.std.proofs.lemmas.Int.{ints}
use Rattle.gimli.proofs.ItemLemmas.{depth_is, less}

equal : (a b : ℤ) → int_lt a b ≡ false → int_lt b a ≡ false → b ≡ a
equal a b h k = grind (arith, ints)

one_less : (depth z : ℤ) → int_lt depth z ≡ true → int_lt (z +ℤ negsuc 0) depth ≡ false
one_less depth z h = grind (arith, ints)

one_more : (depth z : ℤ) → int_lt depth z ≡ true → int_lt (z +ℤ pos 1) depth ≡ false
one_more depth z h = grind (arith, ints)

no_less : (depth z : ℤ) → int_lt depth z ≡ true → int_lt z depth ≡ false
no_less depth z h = grind (arith, ints)

one_above : (z : ℤ) → int_lt (z +ℤ pos 1) z ≡ false
one_above z = grind (arith, ints)

not_itself : (z : ℤ) → int_lt z z ≡ false
not_itself z = grind (arith, ints)

-- what an item inside is goes no lower than the subtree
not_lower : (depth z : ℤ) (o : Option Entry) → int_lt depth z ≡ true → int_lt (depth_behind o z) depth ≡ false
not_lower depth z None h = one_less depth z h
not_lower depth z (Some e) h = at e.abbreviation.has_children
  where
    at : (b : Bool) → int_lt (cond b (z +ℤ pos 1) z) depth ≡ false
    at true = one_more depth z h
    at false = no_less depth z h

-- an entry goes no lower than it lies
entry_not_lower : (z : ℤ) (e : Entry) → int_lt (depth_behind (Some e) z) z ≡ false
entry_not_lower z e = at e.abbreviation.has_children
  where
    at : (b : Bool) → int_lt (cond b (z +ℤ pos 1) z) z ≡ false
    at true = one_above z
    at false = not_itself z

-- the items inside close
abbrev Closed : {Z : Type 0} → ℤ → ℤ → Run Item Z → Type 0
Closed depth now r = Closes depth now r (items_inside depth now r.items r.end).items (items_inside depth now r.items r.end).end

none_closes : {Z : Type 0} (depth now : ℤ) (end : Result Z Error) → int_lt now depth ≡ false → Closed depth now (record { items = []; end = end })
none_closes {Z} depth now end h = at (int_lt depth now) refl end
  where
    at : (b : Bool) → int_lt depth now ≡ b → (end : Result Z Error)
        → Closes depth now (record { items = []; end = end }) (cond {A = Run Item (Unit {0})} b (record { items = []; end = end >>= λ z. Err UnexpectedEof }) (record { items = []; end = Ok tt })).items
        (cond {A = Run Item (Unit {0})} b (record { items = []; end = end >>= λ z. Err UnexpectedEof }) (record { items = []; end = Ok tt })).end
    at true k (Ok z) = (refl, less depth now k, refl)
    at true k (Err e) = (refl, less depth now k, refl)
    at false k end = ([], refl, equal depth now k h)

closes_within : (unit : EntryUnit) (depth : ℤ) (n : ℕ) (now : ℤ) (s : Section) → int_lt now depth ≡ false → Closed depth now (items_within unit n now s)
unfolding items_within
closes_within unit depth zero now s low = none_closes {Z = Section} depth now (Err UnexpectedEof) low
closes_within unit depth (suc n) now s low = at (closes_within unit depth n) (item_at unit now s) (λ x t h. depth_is unit now s t x h)
  where
    wider : (x : Item) (r : Run Item Section) (items : List Item) (end : Result (Unit {0}) Error) → Closes depth (depth_after x) r items end → Closes depth now (cons x r) (x ∷ items) end
    wider x r items (Ok u) h = (h.0, ap (λ (l : List Item). x ∷ l) h.1, h.2)
    wider x r items (Err e) h = (ap (λ (l : List Item). x ∷ l) h.0, h.1, h.2)

    more : ((z : ℤ) (t : Section) → int_lt z depth ≡ false → Closed depth z (items_within unit n z t)) → (x : Item) (t : Section) → x.depth ≡ now → (b : Bool) → int_lt depth now ≡ b
        → let r = items_within unit n (depth_after x) t in Closes depth now (cons x r) (cond {A = Run Item (Unit {0})} b (cons x (items_inside depth (depth_after x) r.items r.end)) (record { items = []; end = Ok tt })).items
        (cond {A = Run Item (Unit {0})} b (cons x (items_inside depth (depth_after x) r.items r.end)) (record { items = []; end = Ok tt })).end
    more ih x t h true k =
        let high : int_lt depth x.depth ≡ true = subst (λ z. int_lt depth z ≡ true) (sym h) k in
        wider x (items_within unit n (depth_after x) t) _ _ (ih (depth_after x) t (not_lower depth x.depth x.entry high))
    more ih x t h false k = (x ∷ (items_within unit n (depth_after x) t).items, refl, equal depth now k low)

    at : ((z : ℤ) (t : Section) → int_lt z depth ≡ false → Closed depth z (items_within unit n z t)) → (r : Reading (Option Item)) → ((x : Item) (t : Section) → r ≡ Ok (Some x, t) → x.depth ≡ now) → Closed depth now (items_after (items_within unit n) r)
    at ih (Err e) h = none_closes {Z = Section} depth now (Err e) low
    at ih (Ok (None, t)) h = none_closes {Z = Section} depth now (Ok t) low
    at ih (Ok (Some x, t)) h = more ih x t (h x t refl) (int_lt depth now) refl

pub subtrees_close : SubtreesClose
subtrees_close unit depth s rest x e h is =
    let low : int_lt (depth_after x) x.depth ≡ false = subst (λ o. int_lt (depth_behind o x.depth) x.depth ≡ false) (sym is) (entry_not_lower x.depth e) in
    closes_within unit x.depth (length rest.bytes + 1) (depth_after x) rest low
