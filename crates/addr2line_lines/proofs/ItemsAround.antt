-- The items around an item (on specs/ItemsAround.antt).
use Rattle.addr2line_lines.proofs.Common.{◌≡◌, ℕ, zero, suc, ◌+◌, ◌-◌, ◌<◌, ◌≤◌, ◌==◌, Bool, true, false, cond, drop, filter, List, [], ◌∷◌, ◌++◌, length, Option, Some, None, Result, Ok, Err, is_ok, refl, sym, ap, subst, ◌∙◌, arith, ℤ, pos, negsuc, append-nil, append_assoc, length-append, length-drop, nat_lt, ◌&&◌, count_by, int_lt, ◌+ℤ◌, All, AllByRecursion, cons_option, length-filter, All-append, All-from_recursion, All-map, Error, NoEntryAtGivenOffset, OffsetOutOfBounds, UnexpectedEof, Range, Abbrev, Reading, ◌>>=◌, Run, cons, fold_run, Section, entry_bytes_from, entry_unit, unit_length, EntryUnit, Entry, Item, depth_after, depth_behind, item_at, items_after, items_at, items_from, items_inside, items_within, offset_of, subtree_of, UnitRecord, Detail, PlacedItem, WholeEntry, detail_at, first_whole, inlined_in, is_in_function, open_after, placed_items, whole_entry_at, with_inlined, with_inlined_entry, InlinedRange, inlined_attributes_of, inlined_entry, inlined_ranges, is_inlined, name_of, attribute_ranges, Scope, or_left, text_some}
use Rattle.std.proofs.Math.Seq.{drop-nil}
use Rattle.std.specs.Cmp.{both_ways}
use Rattle.std.specs.Prelude.{find}
use Rattle.std.specs.Option.{option_map}
use Rattle.std.proofs.lemmas.Int.{ints}
use Rattle.gimli_read.specs.Section.{after as section_after}
use Rattle.gimli_read.proofs.Steps.{bind_ok, same_value}
use Rattle.gimli.proofs.ItemTexts.{item_text}
use Rattle.addr2line_lines.specs.ItemsAround.{DepthsAreNumbers, InsideIsRead, OpenAreAround, abbreviations_of, have_item, inlined_depth, is_inlined_item, items_around, items_inside_at, nearest_inlined}
use Rattle.addr2line_lines.proofs.Facts.{not_above, not_below, not_itself, or_false}

-- items one after another: each lies at the depth after the one before, and begins after it
abbrev pub IsWalk : ℕ → ℤ → List Item → Type 0
IsWalk low now [] = Unit {0}
IsWalk low now (x ∷ xs) = (low ≤ x.offset) × (x.depth ≡ now) × IsWalk (x.offset + 1) (depth_after x) xs

-- an item of a walk begins no lower than the walk
no_lower : (low : ℕ) (now : ℤ) (front rest : List Item) (x : Item) → IsWalk low now (front ++ x ∷ rest) → low ≤ x.offset
no_lower low now [] rest x w = w.0
no_lower low now (y ∷ front) rest x w = let l = no_lower (y.offset + 1) (depth_after y) front rest x w.2 in let m = w.0 in omega arith

-- the items of a run that are inside
abbrev inside : {Z : Type 0} → ℤ → ℤ → List Item → Result Z Error → List Item
inside depth now xs end = (items_inside depth now xs end).items

module _ {Z : Type 0} (depth : ℤ) (end : Result Z Error) where
  inside_none : (now : ℤ) → inside depth now [] end ≡ []
  inside_none now = by_test (int_lt depth now)
    where
      by_test : (b : Bool) → (cond {A = Run Item (Unit {0})} b (record { items = []; end = end >>= λ z. Err UnexpectedEof }) (record { items = []; end = Ok tt })).items ≡ []
      by_test true = refl
      by_test false = refl

  -- a front of a walk is a walk
  inside_walks : (low : ℕ) (now t : ℤ) (xs : List Item) → IsWalk low now xs → IsWalk low now (inside depth t xs end)
  inside_walks low now t [] w = subst (IsWalk low now) (sym (inside_none t)) tt
  inside_walks low now t (x ∷ xs) w = by_test (int_lt depth t) (inside_walks (x.offset + 1) (depth_after x) (depth_after x) xs w.2)
    where
      by_test : (b : Bool) → IsWalk (x.offset + 1) (depth_after x) (inside depth (depth_after x) xs end)
          → IsWalk low now (cond {A = Run Item (Unit {0})} b (cons x (items_inside depth (depth_after x) xs end)) (record { items = []; end = Ok tt })).items
      by_test true rest = (w.0, w.1, rest)
      by_test false rest = tt

  -- no item of a walk begins below it
  none_inside : (offset low : ℕ) (now t : ℤ) (xs : List Item) → offset < low → IsWalk low now xs → have_item offset (inside depth t xs end) ≡ false
  none_inside offset low now t [] l w = ap (have_item offset) (inside_none t)
  none_inside offset low now t (x ∷ xs) l w =
      by_test (int_lt depth t) (none_inside offset (x.offset + 1) (depth_after x) (depth_after x) xs (let m = w.0 in omega arith) w.2)
    where
      by_test : (b : Bool) → have_item offset (inside depth (depth_after x) xs end) ≡ false
          → have_item offset (cond {A = Run Item (Unit {0})} b (cons x (items_inside depth (depth_after x) xs end)) (record { items = []; end = Ok tt })).items ≡ false
      by_test true rest = or_false (x.offset == offset) _ (not_above x.offset offset (let m = w.0 in omega arith)) ∙ rest
      by_test false rest = refl

-- how many closing entries among items end lists of children that began before them
unmatched_after : Option Entry → ℕ → ℕ
unmatched_after None n = suc n
unmatched_after (Some e) n = cond e.abbreviation.has_children (elim n [ zero ↦ zero | suc m ↦ m ]) n

unmatched : List Item → ℕ
unmatched [] = zero
unmatched (y ∷ ys) = unmatched_after y.entry (unmatched ys)

less_closing : (d now : ℤ) (n : ℕ) → int_lt (d +ℤ pos n) (now +ℤ negsuc 0) ≡ int_lt (d +ℤ pos (suc n)) now
less_closing d now n = both_ways _ _ (λ h. grind (arith, ints)) (λ h. grind (arith, ints))

less_opening_none : (d now : ℤ) → int_lt d now ≡ true → int_lt (d +ℤ pos 0) (now +ℤ pos 1) ≡ int_lt (d +ℤ pos 0) now
less_opening_none d now l = both_ways _ _ (λ h. grind (arith, ints)) (λ h. grind (arith, ints))

less_opening : (d now : ℤ) (n : ℕ) → int_lt (d +ℤ pos (suc n)) (now +ℤ pos 1) ≡ int_lt (d +ℤ pos n) now
less_opening d now n = both_ways _ _ (λ h. grind (arith, ints)) (λ h. grind (arith, ints))

less_more : (d now : ℤ) (n : ℕ) → int_lt d now ≡ false → int_lt (d +ℤ pos n) now ≡ false
less_more d now n h = grind (arith, ints)

less_none : (d now : ℤ) → int_lt d now ≡ true → int_lt (d +ℤ pos 0) now ≡ true
less_none d now h = grind (arith, ints)

-- what one more item changes
less_behind : (d now : ℤ) (o : Option Entry) (n : ℕ) → int_lt d now ≡ true → int_lt (d +ℤ pos n) (depth_behind o now) ≡ int_lt (d +ℤ pos (unmatched_after o n)) now
unfolding unmatched_after
less_behind d now None n l = less_closing d now n
less_behind d now (Some e) n l = by_children e.abbreviation.has_children n
  where
    by_children : (b : Bool) (n : ℕ) → int_lt (d +ℤ pos n) (cond b (now +ℤ pos 1) now) ≡ int_lt (d +ℤ pos (cond b (elim n [ zero ↦ zero | suc m ↦ m ]) n)) now
    by_children true zero = less_opening_none d now l
    by_children true (suc n) = less_opening d now n
    by_children false n = refl

module _ {Z : Type 0} (d : ℤ) (end : Result Z Error) where
  -- an item is inside where no more lists of children end before it than are open
  is_inside : (low : ℕ) (now : ℤ) (front rest : List Item) (x : Item) → IsWalk low now (front ++ x ∷ rest)
      → have_item x.offset (inside d now (front ++ x ∷ rest) end) ≡ int_lt (d +ℤ pos (unmatched front)) now
  unfolding unmatched
  is_inside low now [] rest x w = by_test (int_lt d now) refl
    where
      by_test : (b : Bool) → int_lt d now ≡ b
          → have_item x.offset (cond {A = Run Item (Unit {0})} b (cons x (items_inside d (depth_after x) rest end)) (record { items = []; end = Ok tt })).items ≡ int_lt (d +ℤ pos 0) now
      by_test true e = or_left (x.offset == x.offset) _ (not_itself x.offset) ∙ sym (less_none d now e)
      by_test false e = sym (less_more d now 0 e)
  is_inside low now (y ∷ front) rest x w = by_test (int_lt d now) refl (is_inside (y.offset + 1) (depth_after y) front rest x w.2)
    where
      before : y.offset < x.offset
      before = let l = no_lower (y.offset + 1) (depth_after y) front rest x w.2 in omega arith

      by_test : (b : Bool) → int_lt d now ≡ b
          → have_item x.offset (inside d (depth_after y) (front ++ x ∷ rest) end) ≡ int_lt (d +ℤ pos (unmatched front)) (depth_after y)
          → have_item x.offset (cond {A = Run Item (Unit {0})} b (cons y (items_inside d (depth_after y) (front ++ x ∷ rest) end)) (record { items = []; end = Ok tt })).items
          ≡ int_lt (d +ℤ pos (unmatched_after y.entry (unmatched front))) now
      by_test true e rest_is =
          or_false (y.offset == x.offset) _ (not_below y.offset x.offset before) ∙ rest_is
          ∙ ap (λ z. int_lt (d +ℤ pos (unmatched front)) (depth_behind y.entry z)) w.1 ∙ less_behind d now y.entry (unmatched front) e
      by_test false e rest_is = sym (less_more d now (unmatched_after y.entry (unmatched front)) e)

-- the items that are open after one more, of which the first is the innermost
abbrev without_innermost : List Item → List Item
without_innermost [] = []
without_innermost (y ∷ ys) = ys

abbrev opened : Option Entry → Item → List Item → List Item
opened None y up = without_innermost up
opened (Some e) y up = cond e.abbreviation.has_children (y ∷ up) up

-- after items
opened_after : List Item → List Item → List Item
opened_after up [] = up
opened_after up (y ∷ ys) = opened_after (opened y.entry y up) ys

opened_last : (up front : List Item) (x : Item) → opened_after up (front ++ x ∷ []) ≡ opened x.entry x (opened_after up front)
unfolding opened_after
opened_last up [] x = refl
opened_last up (y ∷ front) x = opened_last (opened y.entry y up) front x

-- no item of a walk is around what begins below it
none_around : (offset low : ℕ) (now : ℤ) (xs : List Item) → offset < low → IsWalk low now xs → items_around offset xs ≡ []
none_around offset low now [] l w = refl
none_around offset low now (x ∷ xs) l w =
    let m : offset < x.offset + 1 = (let k = w.0 in omega arith) in
    ap (λ b. cond b (items_around offset xs ++ x ∷ []) (items_around offset xs)) (none_inside {Z = Unit {0}} x.depth (Ok tt) offset (x.offset + 1) (depth_after x) (depth_after x) xs m w.2)
    ∙ none_around offset (x.offset + 1) (depth_after x) xs m w.2

one_more : (d : ℤ) → int_lt (d +ℤ pos 0) (d +ℤ pos 1) ≡ true
one_more d = grind (arith, ints)

no_more : (d : ℤ) (n : ℕ) → int_lt (d +ℤ pos (suc n)) (d +ℤ pos 1) ≡ false
no_more d n = grind (arith, ints)

no_less : (d : ℤ) (n : ℕ) → int_lt (d +ℤ pos n) (d +ℤ negsuc 0) ≡ false
no_less d n = grind (arith, ints)

no_less_same : (d : ℤ) (n : ℕ) → int_lt (d +ℤ pos n) d ≡ false
no_less_same d n = grind (arith, ints)

-- of the items that are open those that were open before stay up to the lists of children that ended
still_open : (o : Option Entry) (y : Item) (d : ℤ) (inner up : List Item) (n : ℕ)
    → inner ++ drop n (opened o y up) ≡ cond (int_lt (d +ℤ pos n) (depth_behind o d)) (inner ++ y ∷ []) inner ++ drop (unmatched_after o n) up
unfolding unmatched_after
still_open None y d inner up n =
    ap (λ ys. inner ++ ys) (dropped up) ∙ ap (λ b. cond b (inner ++ y ∷ []) inner ++ drop (suc n) up) (sym (no_less d n))
  where
    dropped : (ys : List Item) → drop n (without_innermost ys) ≡ drop (suc n) ys
    dropped [] = drop-nil n
    dropped (z ∷ ys) = refl
still_open (Some e) y d inner up n = by_children e.abbreviation.has_children n
  where
    by_children : (b : Bool) (n : ℕ)
        → inner ++ drop n (cond b (y ∷ up) up) ≡ cond (int_lt (d +ℤ pos n) (cond b (d +ℤ pos 1) d)) (inner ++ y ∷ []) inner ++ drop (cond b (elim n [ zero ↦ zero | suc m ↦ m ]) n) up
    by_children true zero = sym (append_assoc inner (y ∷ []) up) ∙ ap (λ b. cond b (inner ++ y ∷ []) inner ++ up) (sym (one_more d))
    by_children true (suc n) = ap (λ b. cond b (inner ++ y ∷ []) inner ++ drop n up) (sym (no_more d n))
    by_children false n = ap (λ b. cond b (inner ++ y ∷ []) inner ++ drop n up) (sym (no_less_same d n))

-- what is open before an item is what is around it, and what of the items before is still open
open_is : (low : ℕ) (now : ℤ) (front rest : List Item) (x : Item) (up : List Item) → IsWalk low now (front ++ x ∷ rest)
    → opened_after up front ≡ items_around x.offset (front ++ x ∷ rest) ++ drop (unmatched front) up
unfolding opened_after unmatched
open_is low now [] rest x up w =
    let l : x.offset < x.offset + 1 = omega arith in
    ap (λ (ys : List Item). ys ++ up)
    (sym (ap (λ b. cond b (items_around x.offset rest ++ x ∷ []) (items_around x.offset rest)) (none_inside {Z = Unit {0}} x.depth (Ok tt) x.offset (x.offset + 1) (depth_after x) (depth_after x) rest l w.2)
    ∙ none_around x.offset (x.offset + 1) (depth_after x) rest l w.2))
open_is low now (y ∷ front) rest x up w =
    let inner = items_around x.offset (front ++ x ∷ rest) in
    open_is (y.offset + 1) (depth_after y) front rest x (opened y.entry y up) w.2
    ∙ still_open y.entry y y.depth inner up (unmatched front)
    ∙ ap (λ b. cond b (inner ++ y ∷ []) inner ++ drop (unmatched_after y.entry (unmatched front)) up)
    (sym (is_inside {Z = Unit {0}} y.depth (Ok tt) (y.offset + 1) (depth_after y) front rest x w.2))

open_is_around : (low : ℕ) (now : ℤ) (front rest : List Item) (x : Item) → IsWalk low now (front ++ x ∷ rest)
    → opened_after [] front ≡ items_around x.offset (front ++ x ∷ rest)
open_is_around low now front rest x w =
    open_is low now front rest x [] w ∙ ap (λ ys. items_around x.offset (front ++ x ∷ rest) ++ ys) (drop-nil (unmatched front)) ∙ append-nil (items_around x.offset (front ++ x ∷ rest))

-- each of the items that are open is an entry, and those after it are the ones around it
abbrev pub AreOpen : List Item → List Item → Type 0
AreOpen items [] = Unit {0}
AreOpen items (z ∷ up) = (items_around z.offset items ≡ up) × (e : Entry) × (z.entry ≡ Some e) × AreOpen items up

-- what is open stays so after one more item
stay_open : (items up : List Item) (x : Item) → AreOpen items up → items_around x.offset items ≡ up → AreOpen items (opened x.entry x up)
stay_open items up x h here = by_entry x.entry refl
  where
    ended : (ys : List Item) → AreOpen items ys → AreOpen items (without_innermost ys)
    ended [] h = tt
    ended (y ∷ ys) h = h.3

    by_children : (e : Entry) → x.entry ≡ Some e → (b : Bool) → AreOpen items (cond b (x ∷ up) up)
    by_children e is true = (here, e, is, h)
    by_children e is false = h

    by_entry : (o : Option Entry) → x.entry ≡ o → AreOpen items (opened o x up)
    by_entry None is = ended up h
    by_entry (Some e) is = by_children e is e.abbreviation.has_children

-- the abbreviations that are open are those of the items that are
same_open : (items up : List Item) (x : Item) → AreOpen items up → open_after (abbreviations_of up) x ≡ abbreviations_of (opened x.entry x up)
same_open items up x h = by_entry x.entry refl
  where
    ended : (ys : List Item) → AreOpen items ys → open_after (abbreviations_of ys) (record { offset = x.offset; depth = x.depth; entry = None }) ≡ abbreviations_of (without_innermost ys)
    ended [] k = refl
    ended (y ∷ ys) k = ap (λ o. open_after (cons_option (option_map (λ (e : Entry). e.abbreviation) o) (abbreviations_of ys)) (record { offset = x.offset; depth = x.depth; entry = None })) k.2

    by_children : (e : Entry) → x.entry ≡ Some e → (b : Bool) → cond b (e.abbreviation ∷ abbreviations_of up) (abbreviations_of up) ≡ abbreviations_of (cond b (x ∷ up) up)
    by_children e is true = ap (λ o. cons_option (option_map (λ (f : Entry). f.abbreviation) o) (abbreviations_of up)) (sym is)
    by_children e is false = refl

    by_entry : (o : Option Entry) → x.entry ≡ o → open_after (abbreviations_of up) (record { offset = x.offset; depth = x.depth; entry = o }) ≡ abbreviations_of (opened o x up)
    by_entry None is = ended up h
    by_entry (Some e) is = by_children e is e.abbreviation.has_children

-- what is open before an item is what is around it
pub record IsPlaced (items : List Item) (x : PlacedItem) : Type 0 where
  pub around : x.around ≡ abbreviations_of (items_around x.item.offset items)
  pub opens : AreOpen items (items_around x.item.offset items)

placed_from : (low : ℕ) (now : ℤ) (items front rest up : List Item) → IsWalk low now items → front ++ rest ≡ items → opened_after [] front ≡ up → AreOpen items up
    → AllByRecursion (IsPlaced items) (placed_items (abbreviations_of up) rest)
placed_from low now items front [] up w whole is h = tt
placed_from low now items front (x ∷ rest) up w whole is h =
    let here : up ≡ items_around x.offset items =
    sym is ∙ open_is_around low now front rest x (subst (IsWalk low now) (sym whole) w) ∙ ap (items_around x.offset) whole in
    let first : IsPlaced items (record { item = x; around = abbreviations_of up }) = record { around = ap abbreviations_of here; opens = subst (AreOpen items) here h } in
    let more = placed_from low now items (front ++ x ∷ []) rest (opened x.entry x up) w (append_assoc front (x ∷ []) rest ∙ whole) (opened_last [] front x ∙ ap (opened x.entry x) is) (stay_open items up x h (sym here)) in
    (first, subst (λ abbreviations. AllByRecursion (IsPlaced items) (placed_items abbreviations rest)) (sym (same_open items up x h)) more)

all_placed : (low : ℕ) (now : ℤ) (items : List Item) → IsWalk low now items → AllByRecursion (IsPlaced items) (placed_items [] items)
unfolding opened_after
all_placed low now items w = placed_from low now items [] items [] w refl refl tt

-- the items that are read of a unit are a walk
walk_within : (unit : EntryUnit) (n : ℕ) (depth : ℤ) (s : Section) → length s.bytes ≤ unit.length → IsWalk (offset_of unit s) depth (items_within unit n depth s).items
unfolding items_within
walk_within unit zero depth s l = tt
walk_within unit (suc n) depth s l = at (walk_within unit n) (item_at unit depth s) refl
  where
    lower : (m k : ℕ) (now : ℤ) (xs : List Item) → m ≤ k → IsWalk k now xs → IsWalk m now xs
    lower m k now [] l w = tt
    lower m k now (x ∷ xs) l w = ((let h = w.0 in omega arith), w.1, w.2)

    at : ((z : ℤ) (rest : Section) → length rest.bytes ≤ unit.length → IsWalk (offset_of unit rest) z (items_within unit n z rest).items)
        → (r : Reading (Option Item)) → item_at unit depth s ≡ r → IsWalk (offset_of unit s) depth (items_after (items_within unit n) r).items
    at ih (Err e) h = tt
    at ih (Ok (None, rest)) h = tt
    at ih (Ok (Some x, rest)) h =
        let t = item_text unit depth s rest x h in
        let some = text_some unit s.endian x.entry t.text t.is in
        let whole : length s.bytes ≡ length (t.text ++ rest.bytes) = ap (λ (u : Section). length u.bytes) t.rest in
        let long = length-append t.text rest.bytes in
        let begins = t.offset in
        let left : length rest.bytes ≤ unit.length = omega arith in
        let next : x.offset + 1 ≤ offset_of unit rest = omega arith in
        (omega arith, t.depth, lower (x.offset + 1) (offset_of unit rest) (depth_after x) (items_within unit n (depth_after x) rest).items next (ih (depth_after x) rest left))

-- no more bytes are left of a unit than it has
left_in_unit : (u : UnitRecord) (offset : ℕ) (s : Section) → entry_bytes_from u.header (Some offset) ≡ Ok s → length s.bytes ≤ unit_length u.header
left_in_unit u offset s h = few (nat_lt offset u.header.header_length) (nat_lt offset (unit_length u.header)) h
  where
    few : (b c : Bool) → cond {A = Result Section Error} b (Err OffsetOutOfBounds) (cond c (Ok (section_after (offset - u.header.header_length) u.header.entries)) (Err OffsetOutOfBounds)) ≡ Ok s → length s.bytes ≤ unit_length u.header
    few true c e = absurd cc
    few false false e = absurd cc
    few false true e =
        let same : section_after (offset - u.header.header_length) u.header.entries ≡ s = cc in
        let long : length s.bytes ≡ length u.header.entries.bytes - (offset - u.header.header_length) = ap (λ (t : Section). length t.bytes) (sym same) ∙ length-drop (offset - u.header.header_length) u.header.entries.bytes in
        omega arith

-- the items of a unit from an offset on are a walk, and so are those inside an entry
record IsSomeWalk (items : List Item) : Type 0 where
  low : ℕ
  now : ℤ
  walk : IsWalk low now items

walk_from : (u : UnitRecord) (offset : ℕ) → IsSomeWalk (items_at u offset).items
walk_from u offset = by_bytes (entry_bytes_from u.header (Some offset)) refl
  where
    unit : EntryUnit
    unit = entry_unit u.header u.abbreviations

    items : Result Section Error → Run Item Section
    items r = elim r [ Ok s ↦ items_from unit (pos 0) s | Err e ↦ record { items = []; end = Err e } ]

    by_bytes : (r : Result Section Error) → entry_bytes_from u.header (Some offset) ≡ r → IsSomeWalk (items r).items
    by_bytes (Ok s) h = record { low = offset_of unit s; now = pos 0; walk = walk_within unit (length s.bytes + 1) (pos 0) s (left_in_unit u offset s h) }
    by_bytes (Err e) h = record { low = 0; now = pos 0; walk = tt }

walk_in : (offset low : ℕ) (now : ℤ) (items : List Item) (end : Result Section Error) (x : WholeEntry) → IsWalk low now items → first_whole offset items end ≡ Ok x → IsSomeWalk x.inside.items
walk_in offset low now [] (Ok z) x w h = absurd cc
walk_in offset low now [] (Err e) x w h = absurd cc
walk_in offset low now (y ∷ ys) end x w h = by_entry y.entry h
  where
    inside_it : Run Item (Unit {0})
    inside_it = subtree_of y (record { items = ys; end = end })

    by_entry : (o : Option Entry) → ◌≡◌ {A = Result WholeEntry Error} (elim o [ None ↦ Err (NoEntryAtGivenOffset offset) | Some e ↦ Ok (record { entry = e; inside = inside_it }) ]) (Ok x) → IsSomeWalk x.inside.items
    by_entry None e = absurd cc
    by_entry (Some f) e =
        let same : ◌≡◌ {A = WholeEntry} (record { entry = f; inside = inside_it }) x = cc in
        subst (λ (v : WholeEntry). IsSomeWalk v.inside.items) same
        (record { low = y.offset + 1; now = depth_after y; walk = inside_walks y.depth end (y.offset + 1) (depth_after y) (depth_after y) ys w.2 })

inside_walk : (u : UnitRecord) (offset : ℕ) (items : List Item) → items_inside_at u offset ≡ Ok items → IsSomeWalk items
inside_walk u offset items h =
    let a = bind_ok (whole_entry_at u offset) (λ x. Ok x.inside.items) items h in
    let same : a.0.inside.items ≡ items = (let e = a.2 in cc) in
    let w = walk_from u offset in
    subst IsSomeWalk same (walk_in offset w.low w.now (items_at u offset).items (items_at u offset).end a.0 w.walk a.1)

placed_inside : (u : UnitRecord) (offset : ℕ) (items : List Item) → items_inside_at u offset ≡ Ok items → AllByRecursion (IsPlaced items) (placed_items [] items)
placed_inside u offset items h = let w = inside_walk u offset items h in all_placed w.low w.now items w.walk

pub open_are_around : OpenAreAround
open_are_around u offset items h = λ k d l. (All-from_recursion (IsPlaced items) (placed_items [] items) (placed_inside u offset items h) k d l).around

-- an entry is inlined where its abbreviation is one of an inlined entry
same_length : (up : List Item) → length (filter is_inlined (abbreviations_of up)) ≡ length (filter is_inlined_item up)
same_length [] = refl
same_length (z ∷ up) = by_entry z.entry (same_length up)
  where
    by_test : (a : Abbrev) (b : Bool) → length (filter is_inlined (abbreviations_of up)) ≡ length (filter is_inlined_item up)
        → length (cond b (a ∷ filter is_inlined (abbreviations_of up)) (filter is_inlined (abbreviations_of up))) ≡ length (cond b (z ∷ filter is_inlined_item up) (filter is_inlined_item up))
    by_test a true rest = ap suc rest
    by_test a false rest = rest

    by_entry : (o : Option Entry) → length (filter is_inlined (abbreviations_of up)) ≡ length (filter is_inlined_item up)
        → length (filter is_inlined (cons_option (option_map (λ (e : Entry). e.abbreviation) o) (abbreviations_of up)))
        ≡ length (cond (elim o [ None ↦ false | Some e ↦ is_inlined e.abbreviation ]) (z ∷ filter is_inlined_item up) (filter is_inlined_item up))
    by_entry None rest = rest
    by_entry (Some e) rest = by_test e.abbreviation (is_inlined e.abbreviation) rest

same_number : (up : List Item) → count_by is_inlined (abbreviations_of up) ≡ count_by is_inlined_item up
same_number up = sym (length-filter is_inlined (abbreviations_of up)) ∙ same_length up ∙ length-filter is_inlined_item up

-- around the nearest inlined entry there is one inlined entry fewer
nearest_number : (items up : List Item) (offset : ℕ) → AreOpen items up → option_map (λ (x : Item). x.offset) (find is_inlined_item up) ≡ Some offset
    → inlined_depth offset items + 1 ≡ length (filter is_inlined_item up)
nearest_number items [] offset h e = absurd cc
nearest_number items (z ∷ up) offset h e = by_test (is_inlined_item z) (nearest_number items up offset h.3) e
  where
    by_test : (b : Bool) → (option_map (λ (x : Item). x.offset) (find is_inlined_item up) ≡ Some offset → inlined_depth offset items + 1 ≡ length (filter is_inlined_item up))
        → option_map (λ (x : Item). x.offset) (cond b (Some z) (find is_inlined_item up)) ≡ Some offset
        → inlined_depth offset items + 1 ≡ length (cond b (z ∷ filter is_inlined_item up) (filter is_inlined_item up))
    by_test true ih e =
        let same : z.offset ≡ offset = cc in
        let n : inlined_depth offset items ≡ length (filter is_inlined_item up) = ap (λ o. inlined_depth o items) (sym same) ∙ ap (count_by is_inlined_item) h.0 ∙ sym (length-filter is_inlined_item up) in
        omega arith
    by_test false ih e = ih e

-- the depth of a range is the number of inlined entries around its entry, each of which was open
pub record IsListed (items : List Item) (x : InlinedRange) : Type 0 where
  pub depth : x.depth ≡ inlined_depth x.entry.offset items
  pub opens : AreOpen items (items_around x.entry.offset items)

pub nearest_depth : (items : List Item) (x y : InlinedRange) → IsListed items x → IsListed items y → nearest_inlined x.entry.offset items ≡ Some y.entry.offset → y.depth + 1 ≡ x.depth
nearest_depth items x y h k e =
    let n = nearest_number items (items_around x.entry.offset items) y.entry.offset h.opens e ∙ length-filter is_inlined_item (items_around x.entry.offset items) in
    let a = h.depth in
    let b = k.depth in
    omega arith

module _ (scope : Scope) (u : UnitRecord) (items : List Item) where
  step_listed : (found more : List InlinedRange) (p : PlacedItem) → IsPlaced items p → All (IsListed items) found → with_inlined scope u found p ≡ Ok more → All (IsListed items) more
  step_listed found more p h all e = by_entry p.item.entry e
    where
      number : count_by is_inlined p.around ≡ inlined_depth p.item.offset items
      number = ap (count_by is_inlined) h.around ∙ same_number (items_around p.item.offset items)

      read : (f : Entry) → with_inlined_entry scope u found p f ≡ Ok more → All (IsListed items) more
      read f e =
          let a = bind_ok (inlined_attributes_of scope u f.attributes) (λ a. attribute_ranges scope.file.sections u a.ranges >>= λ ranges. Ok (found ++ inlined_ranges (count_by is_inlined p.around) p.item.offset a ranges)) more e in
          let r = bind_ok (attribute_ranges scope.file.sections u a.0.ranges) (λ ranges. Ok (found ++ inlined_ranges (count_by is_inlined p.around) p.item.offset a.0 ranges)) more a.2 in
          let same : found ++ inlined_ranges (count_by is_inlined p.around) p.item.offset a.0 r.0 ≡ more = (let q = r.2 in cc) in
          subst (All (IsListed items)) same (All-append (IsListed items) found (inlined_ranges (count_by is_inlined p.around) p.item.offset a.0 r.0) all
          (All-map (IsListed items) (λ (x : Range). record { depth = count_by is_inlined p.around; range = x; entry = inlined_entry p.item.offset a.0 }) r.0 (λ k d l. record { depth = number; opens = h.opens })))

      by_test : (b : Bool) (f : Entry) → cond b (with_inlined_entry scope u found p f) (Ok found) ≡ Ok more → All (IsListed items) more
      by_test true f e = read f e
      by_test false f e = let same : found ≡ more = cc in subst (All (IsListed items)) same all

      by_entry : (o : Option Entry) → (with_inlined scope u found (record { item = record { offset = p.item.offset; depth = p.item.depth; entry = o }; around = p.around })) ≡ Ok more → All (IsListed items) more
      by_entry None e = let same : found ≡ more = cc in subst (All (IsListed items)) same all
      by_entry (Some f) e = by_test (is_inlined f.abbreviation && is_in_function p) f e

  fold_listed : (ps : List PlacedItem) (end : Result (Unit {0}) Error) (found more : List InlinedRange) (z : Unit {0}) → AllByRecursion (IsPlaced items) ps → All (IsListed items) found
      → fold_run (with_inlined scope u) found ps end ≡ Ok (more, z) → All (IsListed items) more
  unfolding fold_run
  fold_listed [] end found more z h all e =
      let a = bind_ok end (λ y. Ok (found, y)) (more, z) e in
      let same : found ≡ more = same_value (found, a.0) (more, z) a.2 in
      subst (All (IsListed items)) same all
  fold_listed (p ∷ ps) end found more z h all e =
      let a = bind_ok (with_inlined scope u found p) (λ b. fold_run (with_inlined scope u) b ps end) (more, z) e in
      fold_listed ps end a.0 more z h.1 (step_listed found a.0 p h.0 all a.1) a.2

-- the details of a function by its entry and what stands inside
abbrev detail_inside : Scope → UnitRecord → WholeEntry → Result Detail Error
detail_inside scope u x = name_of scope u x.entry.attributes >>= λ name. inlined_in scope u x.inside >>= λ inlined. Ok (record { name = name; inlined = inlined })

-- the depth of each listed range is the number of inlined entries around its entry
pub all_listed : (scope : Scope) (u : UnitRecord) (offset : ℕ) (items : List Item) (detail : Detail) → items_inside_at u offset ≡ Ok items → detail_at scope u offset ≡ Ok detail → All (IsListed items) detail.inlined
unfolding detail_at
all_listed scope u offset items detail e f =
    let a = bind_ok (whole_entry_at u offset) (λ x. Ok x.inside.items) items e in
    let x = a.0 in
    let items_are : x.inside.items ≡ items = (let q = a.2 in cc) in
    let listed = inlined_in scope u x.inside in
    let n = bind_ok (name_of scope u x.entry.attributes) (λ name. listed >>= λ inlined. Ok (record { name = name; inlined = inlined })) detail (sym (ap (λ r. r >>= detail_inside scope u) a.1) ∙ f) in
    let l = bind_ok listed (λ inlined. Ok (record { name = n.0; inlined = inlined })) detail n.2 in
    let same : ◌≡◌ {A = Detail} (record { name = n.0; inlined = l.0 }) detail = (let q = l.2 in cc) in
    let r = bind_ok (fold_run (with_inlined scope u) [] (placed_items [] x.inside.items) x.inside.end) (λ found. Ok found.0) l.0 l.1 in
    let last : r.0.0 ≡ l.0 = (let q = r.2 in cc) in
    let placed_is = subst (λ xs. AllByRecursion (IsPlaced items) (placed_items [] xs)) (sym items_are) (placed_inside u offset items e) in
    let all = fold_listed scope u items (placed_items [] x.inside.items) x.inside.end [] r.0.0 r.0.1 placed_is (λ k d l. absurd (omega arith)) r.1 in
    subst (All (IsListed items)) (last ∙ ap (λ (d : Detail). d.inlined) same) all

pub depths_are_numbers : DepthsAreNumbers
depths_are_numbers scope u offset items detail e f = λ k d l. (all_listed scope u offset items detail e f k d l).depth

-- a range of depth 0 is of an entry around which no inlined one is
pub none_nearest : (items : List Item) (x : InlinedRange) → IsListed items x → x.depth ≡ 0 → nearest_inlined x.entry.offset items ≡ None
none_nearest items x h zero_is = ap (option_map (λ (y : Item). y.offset)) (none_found (items_around x.entry.offset items) (length-filter is_inlined_item (items_around x.entry.offset items) ∙ sym h.depth ∙ zero_is))
  where
    none_found : (ys : List Item) → length (filter is_inlined_item ys) ≡ 0 → find is_inlined_item ys ≡ None
    none_found [] e = refl
    none_found (y ∷ ys) e = by_test (is_inlined_item y) (none_found ys) e
      where
        by_test : (b : Bool) → (length (filter is_inlined_item ys) ≡ 0 → find is_inlined_item ys ≡ None) → length (cond b (y ∷ filter is_inlined_item ys) (filter is_inlined_item ys)) ≡ 0
            → cond b (Some y) (find is_inlined_item ys) ≡ None
        by_test true rest e = absurd (omega arith)
        by_test false rest e = rest e

pub inside_is_read : InsideIsRead
unfolding detail_at
inside_is_read scope u offset detail e =
    let a = bind_ok (whole_entry_at u offset) (detail_inside scope u) detail e in
    ap is_ok (ap (λ r. r >>= λ x. Ok x.inside.items) a.1)
