-- Readings of productions go on, and count no more productions than the bytes that they pass over.
use Rattle.std.proofs.Common.{◌≡◌, ◌≤◌, ◌<◌, ◌+◌, ◌-◌, ℕ, zero, suc, Bool, true, false, List, [], ◌∷◌, drop, length, refl, arith}
use Rattle.std.specs.Prelude.{◌==◌, ◌||◌, if◌then◌else◌, nat_lt, Option, Some, None, option_map, option_and_then, IfSome, codes}
use Rattle.std.specs.Str.{byte}
use Rattle.std.proofs.lemmas.Bool.Decides.{nat_tests}
use Rattle.rust_v0.specs.declared.grammar.Production.{Production}
use Rattle.rust_v0.specs.declared.grammar.Production.TheVariants.{TypePath, TraitPath, AnyType, BracedConstant, BareConstant, Pattern}
use Rattle.rust_v0.specs.declared.grammar.Item.{Item}
use Rattle.rust_v0.specs.declared.grammar.Item.TheVariants.{Argument, TypeItem, ConstantItem, Field, Trait, PatternItem}
use Rattle.rust_v0.specs.declared.reading.Shape.{Shape}
use Rattle.rust_v0.specs.declared.reading.Shape.TheVariants.{Unit, Tuple, Named}
use Rattle.rust_v0.specs.declared.printer.Mode.TheVariants.{Hidden}
use Rattle.rust_v0.specs.Numbers.{after, number_62}
use Rattle.rust_v0.specs.State.{State, Reading, say, is_hidden, taken, ◌>>=◌}
use Rattle.rust_v0.specs.Leaves.{if_next, nothing, number}
use Rattle.rust_v0.specs.Grammar.{Part, shown, single, inside, nested, place, reference, list, more, tuple, traits, contents, returned, head}
use Rattle.rust_v0.specs.Reads.{Inner, argument, back_reference, before_binding, binding_name, bindings, bindings_on, bound_traits, bounded_trait, close, contents_of, field, field_name, function_result, hidden, if_before, impl_place, item_reading, items, lifetime_argument, more_from, more_items, nested_path, part_reading, parts_reading, place_before, reads, rule, shape_at, splat, tagged_parts, value, variant_contents, with_bytes, with_mode}
use Rattle.rust_v0.proofs.StateLemmas.{Advances, AdvancesWith, Passed, Rest, from_advances, none_advances, none_in_rest, passed_bytes, passed_same, passed_then, rest_all, rest_less, rest_then, say_advances, some_advances, then_advances, with_advances}
use Rattle.rust_v0.proofs.BytesLemmas.{Follows, after_follows, number_finds, shape_finds}
use Rattle.rust_v0.proofs.LeafLemmas.{binder_leaf, counted_leaf, leaf_advances, leaf_rules, letter_leaf, lifetime_argument_leaf, next_leaf, same_leaf, segment_leaf, taken_advances, taken_leaf, then_leaf, with_leaf}
use Rattle.rust_v0.proofs.PartLemmas.{Begins, Heads, are_plain, head_begins, is_plain, part_weight, parts_weight, weight}

-- productions further in go on
abbrev pub InnerAdvances : Inner → Type 0
InnerAdvances inner = (production : Production) (s : State) → Advances true (weight production) s (inner production s)

pub passed_less : (b : Bool) (k m : ℕ) (s r : State) → m ≤ k → Passed b k s r → Passed b m s r
passed_less b k m s r le h = record {
  total = h.total;
  mode = h.mode;
  unshown = h.unshown;
  shown = h.shown;
  grown = h.grown;
  name = h.name;
  left = h.left;
  rest = rest_less k m s.bytes r.bytes le h.rest;
  cost = λ e none. let x : length r.bytes + s.left + k ≤ length s.bytes + r.left = h.cost e none in omega (arith, x, le);
}

pub advances_less : (b : Bool) (k m : ℕ) (s : State) (o : Option State) → m ≤ k → Advances b k s o → Advances b m s o
advances_less b k m s None le h = record { passed = tt }
advances_less b k m s (Some r) le h = record { passed = passed_less b k m s r le h.passed }

inner_leaf : (inner : Inner) → InnerAdvances inner → (production : Production) (s : State) → Advances true 0 s (inner production s)
inner_leaf inner h production s = advances_less true (weight production) 0 s _ (omega arith) (h production s)

from_with : {A : Type 0} (s r : State) (o : Option (A × State)) → Passed true 0 s r → AdvancesWith true 0 r o → AdvancesWith true 0 s o
from_with s r None h g = record { passed = tt }
from_with s r (Some p) h g = record { passed = passed_then true true 0 0 s r p.1 h g.passed }

then_with : {A : Type 0} (s : State) (o : Option State) (f : State → Option (A × State)) → Advances true 0 s o → ((r : State) → AdvancesWith true 0 r (f r))
    → AdvancesWith true 0 s (option_and_then f o)
then_with s None f h g = record { passed = tt }
then_with s (Some r) f h g = from_with s r (f r) h.passed (g r)

-- ---- paths that aren't shown, places, references

hidden_passed : (k : ℕ) (s r : State) → Passed true k (with_mode Hidden s) r → Passed true k s (with_mode s.mode r)
hidden_passed k s r h = record {
  total = h.total;
  name = h.name;
  mode = refl;
  unshown = λ e. h.unshown refl;
  shown = h.shown;
  grown = h.grown;
  left = h.left;
  rest = h.rest;
  cost = h.cost;
}

mode_advances : (k : ℕ) (s : State) (o : Option State) → Advances true k (with_mode Hidden s) o → Advances true k s (option_map (with_mode s.mode) o)
mode_advances k s None h = record { passed = tt }
mode_advances k s (Some r) h = record { passed = hidden_passed k s r h.passed }

pub hidden_advances : (inner : Inner) → InnerAdvances inner → (s : State) → Advances true 1 s (hidden inner s)
unfolding hidden
hidden_advances inner h s = mode_advances 1 s _ (h TypePath (with_mode Hidden s))

-- a path that isn't shown adds no text
mode_adds : (k : ℕ) (s : State) (o : Option State) → Advances true k (with_mode Hidden s) o → IfSome (option_map (with_mode s.mode) o) (λ r. r.text ≡ s.text)
mode_adds k s None h = tt
mode_adds k s (Some r) h = h.passed.unshown refl

pub hidden_adds : (inner : Inner) → InnerAdvances inner → (s : State) → IfSome (hidden inner s) (λ r. r.text ≡ s.text)
unfolding hidden
hidden_adds inner h s = mode_adds 1 s (inner TypePath (with_mode Hidden s)) (h TypePath (with_mode Hidden s))

place_advances : (inner : Inner) → InnerAdvances inner → (s : State) → Advances true 1 s (impl_place inner s)
unfolding impl_place
place_advances inner h s = with_advances true true 0 1 s _ _ (counted_leaf (byte "s") s) (λ n. hidden_advances inner h n.1)

nested_advances : (inner : Inner) → InnerAdvances inner → (path : Production) (s : State) → Advances true (weight path) s (nested_path inner path s)
unfolding nested_path
nested_advances inner h path s =
    advances_less true (0 + (weight path + 0)) (weight path) s _ (omega arith)
    (with_advances true true 0 (weight path + 0) s _ _ (letter_leaf s) (λ space.
    then_advances true true (weight path) 0 space.1 _ _ (h path space.1) (λ around. segment_leaf space.0 around)))

away_passed : (k : ℕ) (s r : State) (bytes : List ℕ) → Passed true k (with_bytes bytes s) r → Passed false 0 s (with_bytes s.bytes r)
away_passed k s r bytes h = record { total = h.total; name = h.name; mode = h.mode; unshown = h.unshown; shown = h.shown; grown = h.grown; left = h.left; rest = rest_all s.bytes; cost = λ e none. absurd (let no : false ≡ true = e in cc) }

away_advances : (k : ℕ) (s : State) (bytes : List ℕ) (o : Option State) → Advances true k (with_bytes bytes s) o → Advances false 0 s (option_map (with_bytes s.bytes) o)
away_advances k s bytes None h = record { passed = tt }
away_advances k s bytes (Some r) h = record { passed = away_passed k s r bytes h.passed }

uncounted_passed : (k : ℕ) (s r : State) → Passed true k s r → Passed false k s r
uncounted_passed k s r h = record { total = h.total; mode = h.mode; unshown = h.unshown; shown = h.shown; grown = h.grown; name = h.name; left = h.left; rest = h.rest; cost = λ e none. h.cost refl none }

target_advances : (q : Bool) (inner : Inner) → InnerAdvances inner → (production : Production) (bytes : List ℕ) (r : State)
    → Advances false 0 r (if q then Some r else option_map (with_bytes r.bytes) (inner production (with_bytes bytes r)))
target_advances true inner h production bytes r = some_advances false 0 r r (uncounted_passed 0 r r (passed_same r r refl refl refl refl refl refl))
target_advances false inner h production bytes r = away_advances (weight production) r bytes _ (h production (with_bytes bytes r))

number_advances : (s : State) → AdvancesWith true 1 s (number s)
number_advances s = taken_advances 1 s (number_62 s.bytes) (number_finds s.bytes)

before_as : (k : ℕ) (s : State) (q : Bool) (at : ℕ × State) → Passed true k s at.1 → AdvancesWith true k s (if q then Some at else None)
before_as k s true at h = record { passed = h }
before_as k s false at h = record { passed = tt }

before_more : (k here : ℕ) (s : State) (o : Option (ℕ × State)) → AdvancesWith true k s o → AdvancesWith true k s (option_and_then (if_before here) o)
before_more k here s None h = record { passed = tt }
before_more k here s (Some at) h = before_as k s (nat_lt at.0 here) at h.passed

before_advances : (s : State) → AdvancesWith true 1 s (place_before s)
unfolding place_before
before_advances s = before_more 1 _ s (number s) (number_advances s)

reference_advances : (inner : Inner) → InnerAdvances inner → (production : Production) (s : State) → Advances false 1 s (back_reference inner production s)
unfolding back_reference
reference_advances inner h production s =
    with_advances true false 1 0 s _ _ (before_advances s) (λ at. target_advances (is_hidden at.1.mode) inner h production (drop at.0 at.1.name) at.1)

-- ---- values and items

value_leaf : (inner : Inner) → InnerAdvances inner → (s : State) → Advances true 0 s (value inner s)
unfolding value
value_leaf inner h s = next_leaf (byte "K") s (inner BracedConstant) (inner AnyType) (λ r. inner_leaf inner h BracedConstant r) (inner_leaf inner h AnyType s)

argument_leaf : (inner : Inner) → InnerAdvances inner → (s : State) → Advances true 0 s (argument inner s)
unfolding argument lifetime_argument
argument_leaf inner h s = next_leaf (byte "L") s lifetime_argument (value inner) (λ r. lifetime_argument_leaf r) (value_leaf inner h s)

field_name_leaf : (s : State) → Advances true 0 s (field_name s)
unfolding field_name
field_name_leaf s = search leaf_rules depth 20

field_leaf : (inner : Inner) → InnerAdvances inner → (s : State) → Advances true 0 s (field inner s)
unfolding field
field_leaf inner h s = then_leaf s _ _ (field_name_leaf s) (λ r. inner_leaf inner h BareConstant r)

binding_name_leaf : (s : State) → Advances true 0 s (binding_name s)
unfolding binding_name
binding_name_leaf s = search leaf_rules depth 20

on_leaf : (is_bound : Bool) (s : State) (o : Option (List ℕ)) (next : State → Option (Bool × State)) → Follows 1 s.bytes o
    → ((r : State) → AdvancesWith true 0 r (next r)) → AdvancesWith true 0 s (bindings_on is_bound s o next)
on_leaf is_bound s None next f h = record { passed = passed_same s s refl refl refl refl refl refl }
on_leaf is_bound s (Some rest) next f h =
    from_with s (record s { bytes = rest }) _ (passed_bytes 0 s rest (rest_less 1 0 s.bytes rest (omega arith) f.passed)) (h (record s { bytes = rest }))

bindings_leaf : (inner : Inner) → InnerAdvances inner → (is_after is_bound : Bool) (turns : ℕ) (s : State) → AdvancesWith true 0 s (bindings inner is_after is_bound turns s)
unfolding bindings
bindings_leaf inner h is_after is_bound zero s = record { passed = passed_same s s refl refl refl refl refl refl }
bindings_leaf inner h is_after is_bound (suc turns) s =
    on_leaf is_bound s (after (byte "p") s.bytes) _ (after_follows (byte "p") s.bytes) (λ r.
    then_with r _ _ (say_advances (before_binding is_after) r) (λ said.
    then_with said _ _ (binding_name_leaf said) (λ bound.
    then_with bound _ _ (value_leaf inner h bound) (λ next. bindings_leaf inner h true true turns next))))

close_leaf : (q : Bool) (s : State) → Advances true 0 s (close q s)
close_leaf true s = say_advances (codes ">") s
close_leaf false s = same_leaf s

from_open : (q : Bool) (s : State) (o : Option State) → Advances true 0 (record s { is_open = q }) o → Advances true 0 s o
from_open q s o h = from_advances true true 0 0 s (record s { is_open = q }) o (passed_same s _ refl refl refl refl refl refl) h

from_open_with : {A : Type 0} (q : Bool) (s : State) (o : Option (A × State)) → AdvancesWith true 0 (record s { is_open = q }) o → AdvancesWith true 0 s o
from_open_with q s o h = from_with s (record s { is_open = q }) o (passed_same s _ refl refl refl refl refl refl) h

trait_leaf : (inner : Inner) → InnerAdvances inner → (s : State) → Advances true 0 s (bounded_trait inner s)
unfolding bounded_trait
trait_leaf inner h s =
    then_leaf s _ _ (from_open false s _ (inner_leaf inner h TraitPath (record s { is_open = false }))) (λ path.
    with_leaf path _ _ (from_open_with false path _ (bindings_leaf inner h path.is_open false (length path.bytes) (record path { is_open = false })))
    (λ bound. close_leaf (path.is_open || bound.0) bound.1))

item_leaf : (inner : Inner) → InnerAdvances inner → (item : Item) (s : State) → Advances true 0 s (item_reading inner item s)
item_leaf inner h Argument s = argument_leaf inner h s
item_leaf inner h TypeItem s = inner_leaf inner h AnyType s
item_leaf inner h ConstantItem s = inner_leaf inner h BareConstant s
item_leaf inner h Field s = field_leaf inner h s
item_leaf inner h Trait s = trait_leaf inner h s
item_leaf inner h PatternItem s = inner_leaf inner h Pattern s

more_leaf : (inner : Inner) → InnerAdvances inner → (item : Item) (between : List ℕ) (turns : ℕ) (s : State) → Advances true 0 s (more_items inner item between turns s)
unfolding more_items
more_leaf inner h item between zero s = none_advances true 0 s
more_leaf inner h item between (suc turns) s =
    next_leaf (byte "E") s nothing (λ t. say between t >>= λ said. item_reading inner item said >>= more_items inner item between turns) (λ r. same_leaf r)
    (then_leaf s _ _ (say_advances between s) (λ said. then_leaf said _ _ (item_leaf inner h item said) (λ r. more_leaf inner h item between turns r)))

items_leaf : (inner : Inner) → InnerAdvances inner → (item : Item) (between alone : List ℕ) (s : State) → Advances true 0 s (items inner item between alone s)
unfolding items
items_leaf inner h item between alone s =
    next_leaf (byte "E") s nothing (λ t. item_reading inner item t >>= if_next (byte "E") (say alone) (more_from inner item between)) (λ r. same_leaf r)
    (then_leaf s _ _ (item_leaf inner h item s) (λ r.
    next_leaf (byte "E") r (say alone) (more_from inner item between) (λ t. say_advances alone t) (more_leaf inner h item between (length r.bytes) r)))

bound_again : (s : State) (n : ℕ) → Advances true 0 s (Some (record s { bound = n }))
bound_again s n = some_advances true 0 s _ (passed_same s _ refl refl refl refl refl refl)

traits_leaf : (inner : Inner) → InnerAdvances inner → (s : State) → Advances true 0 s (bound_traits inner s)
unfolding bound_traits
traits_leaf inner h s =
    then_leaf s _ _ (binder_leaf s) (λ bound. then_leaf bound _ _ (items_leaf inner h Trait (codes " + ") [] bound) (λ all. bound_again all s.bound))

shape_leaf : (inner : Inner) → InnerAdvances inner → (x : Shape) (s : State) → Advances true 0 s (contents_of inner x s)
shape_leaf inner h Unit s = same_leaf s
shape_leaf inner h Tuple s = search (leaf_rules, items_leaf inner h) depth 24
shape_leaf inner h Named s = search (leaf_rules, items_leaf inner h) depth 24

contents_leaf : (inner : Inner) → InnerAdvances inner → (s : State) → Advances true 0 s (variant_contents inner s)
unfolding variant_contents
contents_leaf inner h s = with_leaf s _ _ (taken_leaf s (shape_at s.bytes) (shape_finds s.bytes)) (λ found. shape_leaf inner h found.0 found.1)

result_leaf : (inner : Inner) → InnerAdvances inner → (s : State) → Advances true 0 s (function_result inner s)
unfolding function_result
result_leaf inner h s = search (leaf_rules, inner_leaf inner h) depth 24

-- ---- parts

part_advances : (inner : Inner) → InnerAdvances inner → (part : Part) (s : State) → Advances (is_plain part) (part_weight part) s (part_reading inner part s)
part_advances inner h (shown text) s = say_advances text s
part_advances inner h (single leaf) s = leaf_advances leaf s
part_advances inner h (inside production) s = h production s
part_advances inner h (nested path) s = nested_advances inner h path s
part_advances inner h place s = place_advances inner h s
part_advances inner h (reference production) s = reference_advances inner h production s
part_advances inner h (list item between) s = items_leaf inner h item between [] s
part_advances inner h (more item between) s = more_leaf inner h item between (length s.bytes) s
part_advances inner h (tuple item) s = items_leaf inner h item (codes ", ") (codes ",") s
part_advances inner h traits s = traits_leaf inner h s
part_advances inner h contents s = contents_leaf inner h s
part_advances inner h returned s = result_leaf inner h s

parts_advance : (inner : Inner) → InnerAdvances inner → (parts : List Part) (s : State) → Advances (are_plain parts) (parts_weight parts) s (parts_reading inner parts s)
unfolding parts_reading
parts_advance inner h [] s = same_leaf s
parts_advance inner h (part ∷ parts) s =
    then_advances (is_plain part) (are_plain parts) (part_weight part) (parts_weight parts) s _ _ (part_advances inner h part s) (λ r. parts_advance inner h parts r)

-- ---- productions

-- what a production leaves: it was counted, and passed over a byte at least
pub record Produced (k : ℕ) (s r : State) : Type 0 where
  pub passed : Passed true k s r
  pub onward : Rest 1 s.bytes r.bytes
  pub counted : r.left < s.left

pub record Produces (k : ℕ) (s : State) (o : Option State) : Type 0 where
  pub passed : IfSome o (Produced k s)

-- the state after a production, under the binders around it
abbrev bound_at : ℕ → Reading
bound_at n ended = Some (record ended { bound = n })

-- the parts of the production that stands here
abbrev headed : Inner → Production → ℕ → Reading
headed inner production n s = tagged_parts production s >>= λ begun. parts_reading inner begun.0 begun.1 >>= bound_at n

-- tag and parts together pass over a byte more than the parts that are productions
headed_passed : (k n : ℕ) (s t : State) (parts : List Part) (rest : List ℕ) → Heads k s.bytes parts rest
    → Passed (are_plain parts) (parts_weight parts) (record s { bytes = rest }) t → Passed true (1 + k) s (record t { bound = n })
headed_passed k n s t parts rest front h =
    let enough : 1 + k ≤ front.tags + parts_weight parts = front.enough in
    let whole : Rest (front.tags + parts_weight parts) s.bytes t.bytes = rest_then front.tags (parts_weight parts) s.bytes rest t.bytes front.after h.rest in
    record {
      total = h.total;
      mode = h.mode;
      unshown = h.unshown;
      shown = h.shown;
      grown = h.grown;
      name = h.name;
      left = h.left;
      rest = rest_less (front.tags + parts_weight parts) (1 + k) s.bytes t.bytes (omega (arith, enough)) whole;
      cost = λ e none.
          let x : length t.bytes + s.left + parts_weight parts ≤ length rest + t.left = h.cost (front.plain none) (none_in_rest front.tags s.bytes rest front.after none) in
          let y : length rest + front.after.past ≡ length s.bytes = front.after.sized in
          let z : front.tags ≤ front.after.past = front.after.least in
          omega (arith, x, y, z, enough);
    }

headed_end : (k n : ℕ) (s : State) (parts : List Part) (rest : List ℕ) (o : Option State) → Heads k s.bytes parts rest
    → Advances (are_plain parts) (parts_weight parts) (record s { bytes = rest }) o → Advances true (1 + k) s (o >>= bound_at n)
headed_end k n s parts rest None front h = record { passed = tt }
headed_end k n s parts rest (Some t) front h = record { passed = headed_passed k n s t parts rest front h.passed }

headed_parts : (k n : ℕ) (inner : Inner) → InnerAdvances inner → (s : State) (o : Option (List Part × List ℕ)) → Begins k s.bytes o
    → Advances true (1 + k) s (taken s o >>= λ begun. parts_reading inner begun.0 begun.1 >>= bound_at n)
headed_parts k n inner h s None begins = record { passed = tt }
headed_parts k n inner h s (Some p) begins = headed_end k n s p.0 p.1 _ begins.passed (parts_advance inner h p.0 (record s { bytes = p.1 }))

headed_advances : (inner : Inner) → InnerAdvances inner → (production : Production) (n : ℕ) (s : State) → Advances true (1 + weight production) s (headed inner production n s)
headed_advances inner h production n s = headed_parts (weight production) n inner h s (head production s.bytes) (head_begins production s.bytes)

splat_leaf : (production : Production) (s : State) → Advances true 0 s (splat production s)
unfolding splat
splat_leaf production s = search leaf_rules depth 12

splat_advances : (inner : Inner) → InnerAdvances inner → (production : Production) (n : ℕ) (s : State)
    → Advances true (1 + weight production) s (splat production s >>= headed inner production n)
splat_advances inner h production n s =
    advances_less true (0 + (1 + weight production)) (1 + weight production) s _ (omega arith)
    (then_advances true true 0 (1 + weight production) s _ _ (splat_leaf production s) (λ r. headed_advances inner h production n r))

produced : (k : ℕ) (s t : State) → 1 ≤ s.left → Passed true (1 + k) (record s { left = s.left - 1 }) t → Produced k s t
produced k s t pos h =
    let down : t.left ≤ s.left - 1 = h.left in
    record {
      passed = record {
        total = h.total;
        mode = h.mode;
        unshown = h.unshown;
        shown = h.shown;
        grown = h.grown;
        name = h.name;
        left = omega (arith, down);
        rest = rest_less (1 + k) k s.bytes t.bytes (omega arith) h.rest;
        cost = λ e none. let x : length t.bytes + (s.left - 1) + (1 + k) ≤ length s.bytes + t.left = h.cost e none in omega (arith, x, pos);
      };
      onward = rest_less (1 + k) 1 s.bytes t.bytes (omega arith) h.rest;
      counted = omega (arith, down, pos);
    }

produces : (k : ℕ) (s : State) (o : Option State) → 1 ≤ s.left → Advances true (1 + k) (record s { left = s.left - 1 }) o → Produces k s o
produces k s None pos h = record { passed = tt }
produces k s (Some t) pos h = record { passed = produced k s t pos h.passed }

some_left : (n : ℕ) → (n == 0) ≡ false → 1 ≤ n
some_left n h = grind (arith, nat_tests)

rule_counted : (q : Bool) (inner : Inner) → InnerAdvances inner → (production : Production) (s : State) → (q ≡ false → 1 ≤ s.left)
    → Produces (weight production) s ((if q then None else Some (record s { left = s.left - 1 })) >>= λ counted. splat production counted >>= headed inner production s.bound)
rule_counted true inner h production s pos = record { passed = tt }
rule_counted false inner h production s pos = produces (weight production) s _ (pos refl) (splat_advances inner h production s.bound (record s { left = s.left - 1 }))

rule_produces : (inner : Inner) → InnerAdvances inner → (production : Production) (s : State) → Produces (weight production) s (rule inner production s)
rule_produces inner h production s = rule_counted (s.left == 0) inner h production s (some_left s.left)

produces_advances : (k : ℕ) (s : State) (o : Option State) → Produces k s o → Advances true k s o
produces_advances k s None h = record { passed = tt }
produces_advances k s (Some r) h = record { passed = h.passed.passed }

pub reads_advance : (levels : ℕ) → InnerAdvances (reads levels)
unfolding reads
reads_advance zero production s = none_advances true (weight production) s
reads_advance (suc levels) production s = produces_advances (weight production) s _ (rule_produces (reads levels) (reads_advance levels) production s)

pub reads_produce : (levels : ℕ) (production : Production) (s : State) → Produces (weight production) s (reads levels production s)
unfolding reads
reads_produce zero production s = record { passed = tt }
reads_produce (suc levels) production s = rule_produces (reads levels) (reads_advance levels) production s
