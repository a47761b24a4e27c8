-- Items, one at a time, and subtrees (on specs/Items.antt).
use Rattle.gimli.proofs.Common.{◌≡◌, ℕ, zero, suc, ◌+◌, ◌==◌, Bool, true, false, cond, List, [], length, IfOk, Option, Some, None, Result, Ok, Err, refl, sym, ap, subst, arith, ℤ, ◌<ℤ◌, AllByRecursion, Error, UnexpectedEof, Section, Reading, ◌>>=◌, uleb128_at, Abbrev, with_code, NamedValue, attributes_at, Run, cons, EntryUnit, depth_after_entry, depth_after_closing, Item, depth_after, item_at, items_after, items_inside, items_within, EntryCursor, entry_abbreviation_at, next_item_at, SubtreesLieDeeper}
use Rattle.std.specs.Prelude.{int_lt}
use Rattle.std.proofs.lemmas.Int.{ints}
use Rattle.gimli.proofs.CursorLemmas.{abbreviation_is, item_from, item_is, item_here, next_of_item, opening_entry}

-- an item that is read lies at the depth where it begins, and the next one at the depth after it
pub record IsNext (start following : EntryCursor) (x : Item) : Type 0 where
  pub depth : x.depth ≡ start.depth
  pub after : following.depth ≡ depth_after x

record Nexts (start : EntryCursor) (r : Result (Option Item × EntryCursor) Error) : Type 0 where
  by : (x : Item) (c : EntryCursor) → r ≡ Ok (Some x, c) → IsNext start c x

-- a code that is read, and the depth after it
abbrev Opened : EntryCursor → Option Abbrev × EntryCursor → Type 0
Opened start x = elim x.0 [ None ↦ x.1.depth ≡ depth_after_closing start.depth | Some a ↦ x.1.depth ≡ depth_after_entry a.has_children start.depth ]

opened : (table : List Abbrev) (start : EntryCursor) → IfOk (entry_abbreviation_at table start) (Opened start)
opened table start = subst (λ r. IfOk r (Opened start)) (sym (abbreviation_is table start)) (at (uleb128_at start.left))
  where
    found : (o : Option Abbrev) (t : Section) → IfOk (opening_entry o (record { left = t; depth = start.depth })) (Opened start)
    found None t = tt
    found (Some a) t = refl

    picked : (code : ℕ × Section) (b : Bool) → IfOk {T = Option Abbrev × EntryCursor} (cond b (Ok (None, record { left = code.1; depth = depth_after_closing start.depth })) (opening_entry (with_code code.0 table) (record { left = code.1; depth = start.depth }))) (Opened start)
    picked code true = refl
    picked code false = found (with_code code.0 table) code.1

    at : (r : Reading ℕ) → IfOk {T = Option Abbrev × EntryCursor} (r >>= λ code. cond (code.0 == 0) (Ok (None, record { left = code.1; depth = depth_after_closing start.depth })) (opening_entry (with_code code.0 table) (record { left = code.1; depth = start.depth }))) (Opened start)
    at (Ok code) = picked code (code.0 == 0)
    at (Err e) = tt

-- no item where there is one
not_some : (x : Item) (c d : EntryCursor) → ◌≡◌ {A = Result (Option Item × EntryCursor) Error} (Ok (None, c)) (Ok (Some x, d)) → ⊥
not_some x c d h =
    let pairs : ◌≡◌ {A = Option Item × EntryCursor} (None, c) (Some x, d) = cc in
    let first : None ≡ Some x = ap (λ (p : Option Item × EntryCursor). p.0) pairs in
    cc

nexts : (unit : EntryUnit) (start : EntryCursor) → Nexts start (next_item_at unit start)
nexts unit start = subst (Nexts start) (sym (item_is unit start)) (at (length start.left.bytes == 0) (entry_abbreviation_at unit.abbreviations start) (opened unit.abbreviations start))
  where
    same_item : (x : Item) (c : EntryCursor) (y : Item) (d : EntryCursor) → ◌≡◌ {A = Result (Option Item × EntryCursor) Error} (Ok (Some y, d)) (Ok (Some x, c)) → IsNext start d y → IsNext start c x
    same_item x c y d h n =
        let pairs : ◌≡◌ {A = Option Item × EntryCursor} (Some y, d) (Some x, c) = cc in
        let first : Some y ≡ Some x = ap (λ (p : Option Item × EntryCursor). p.0) pairs in
        let is : y ≡ x = cc in
        let to : d ≡ c = ap (λ (p : Option Item × EntryCursor). p.1) pairs in
        subst (λ z. IsNext start c z) is (subst (λ z. IsNext start z y) to n)

    read : (a : Abbrev) (cursor : EntryCursor) → cursor.depth ≡ depth_after_entry a.has_children start.depth → (r : Reading (List NamedValue))
        → Nexts start (r >>= λ x. Ok (Some (item_here unit start (Some (record { abbreviation = a; attributes = x.0 }))), record { left = x.1; depth = cursor.depth }))
    read a cursor h (Ok x) = record { by = λ y c k. same_item y c (item_here unit start (Some (record { abbreviation = a; attributes = x.0 }))) (record { left = x.1; depth = cursor.depth }) k (record { depth = refl; after = h }) }
    read a cursor h (Err e) = record { by = λ y c k. absurd cc }

    coded : (r : Result (Option Abbrev × EntryCursor) Error) → IfOk r (Opened start) → Nexts start (r >>= λ x. item_from unit start x)
    coded (Ok (None, cursor)) h = record { by = λ y c k. same_item y c (item_here unit start None) cursor k (record { depth = refl; after = h }) }
    coded (Ok (Some a, cursor)) h = read a cursor h (attributes_at unit.encoding a.attributes cursor.left)
    coded (Err e) h = record { by = λ y c k. absurd cc }

    at : (b : Bool) (r : Result (Option Abbrev × EntryCursor) Error) → IfOk r (Opened start) → Nexts start (cond b (Ok (None, start)) (r >>= λ x. item_from unit start x))
    at true r h = record { by = λ y c k. absurd (not_some y start c k) }
    at false r h = coded r h

pub next_is : (unit : EntryUnit) (start following : EntryCursor) (x : Item) → next_item_at unit start ≡ Ok (Some x, following) → IsNext start following x
next_is unit start following x h = (nexts unit start).by x following h

pub less : (a b : ℤ) → int_lt a b ≡ true → a <ℤ b
less a b h = grind (arith, ints)

-- an item that is read lies at the depth where the reading begins
pub depth_is : (unit : EntryUnit) (depth : ℤ) (s rest : Section) (x : Item) → item_at unit depth s ≡ Ok (Some x, rest) → x.depth ≡ depth
depth_is unit depth s rest x h = (next_is unit (record { left = s; depth = depth }) (record { left = rest; depth = depth_after x }) x (next_of_item unit depth s rest (Some x) h)).depth

-- those inside lie deeper
abbrev AreDeeper : ℤ → ℤ → Run Item Section → Type 0
AreDeeper depth now r = AllByRecursion (λ y. depth <ℤ y.depth) (items_inside depth now r.items r.end).items

none_deeper : (depth now : ℤ) (end : Result Section Error) → AllByRecursion (λ y. depth <ℤ y.depth) (items_inside depth now [] end).items
none_deeper depth now end = at (int_lt depth now)
  where
    at : (b : Bool) → AllByRecursion (λ y. depth <ℤ y.depth) (cond {A = Run Item (Unit {0})} b (record { items = []; end = end >>= λ z. Err UnexpectedEof }) (record { items = []; end = Ok tt })).items
    at true = tt
    at false = tt

deeper_within : (unit : EntryUnit) (depth : ℤ) (n : ℕ) (now : ℤ) (s : Section) → AreDeeper depth now (items_within unit n now s)
unfolding items_within
deeper_within unit depth zero now s = none_deeper depth now (Err UnexpectedEof)
deeper_within unit depth (suc n) now s = at (deeper_within unit depth n) (item_at unit now s) (λ x t h. depth_is unit now s t x h)
  where
    more : ((z : ℤ) (t : Section) → AreDeeper depth z (items_within unit n z t)) → (x : Item) (t : Section) → x.depth ≡ now → (b : Bool) → int_lt depth now ≡ b
        → AllByRecursion (λ y. depth <ℤ y.depth) (cond {A = Run Item (Unit {0})} b (cons x (items_inside depth (depth_after x) (items_within unit n (depth_after x) t).items (items_within unit n (depth_after x) t).end)) (record { items = []; end = Ok tt })).items
    more ih x t h true k = (subst (λ z. depth <ℤ z) (sym h) (less depth now k), ih (depth_after x) t)
    more ih x t h false k = tt

    at : ((z : ℤ) (t : Section) → AreDeeper depth z (items_within unit n z t)) → (r : Reading (Option Item)) → ((x : Item) (t : Section) → r ≡ Ok (Some x, t) → x.depth ≡ now) → AreDeeper depth now (items_after (items_within unit n) r)
    at ih (Err e) h = none_deeper depth now (Err e)
    at ih (Ok (None, t)) h = none_deeper depth now (Ok t)
    at ih (Ok (Some x, t)) h = more ih x t (h x t refl) (int_lt depth now) refl

pub subtrees_lie_deeper : SubtreesLieDeeper
subtrees_lie_deeper unit depth s rest x h = deeper_within unit x.depth (length rest.bytes + 1) (depth_after x) rest
