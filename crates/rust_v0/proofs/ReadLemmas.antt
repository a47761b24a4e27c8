-- Readings with a level, an item or a binding more.
use Rattle.std.proofs.Common.{◌≡◌, ℕ, zero, suc, ◌-◌, ◌<◌, Bool, List, Some, None, refl, arith, sub-one, true, ap}
use Rattle.std.specs.Str.{byte}
use Rattle.rust_v0.specs.declared.grammar.Production.{Production}
use Rattle.rust_v0.specs.declared.grammar.Item.{Item}
use Rattle.rust_v0.specs.Numbers.{after}
use Rattle.rust_v0.specs.State.{State, say, ◌>>=◌}
use Rattle.rust_v0.specs.Leaves.{if_next, nothing}
use Rattle.rust_v0.specs.Reads.{Inner, before_binding, binding_name, bindings, bindings_on, item_reading, more_items, reads, rule, value}

pub reads_none : (levels : ℕ) (production : Production) (s : State) → levels ≡ 0 → reads levels production s ≡ None
unfolding reads
reads_none zero production s e = refl
reads_none (suc levels) production s e = absurd (omega (arith, e))

pub reads_more : (levels : ℕ) (production : Production) (s : State) → 0 < levels
    → reads levels production s ≡ rule (reads (levels - 1)) production s
unfolding reads
reads_more zero production s e = absurd (omega (arith, e))
reads_more (suc levels) production s e =
    let same : levels ≡ suc levels - 1 = omega arith in
    ap (λ n. rule (reads n) production s) same

pub more_none : (inner : Inner) (item : Item) (between : List ℕ) (turns : ℕ) (s : State) → turns ≡ 0
    → more_items inner item between turns s ≡ None
unfolding more_items
more_none inner item between zero s e = refl
more_none inner item between (suc turns) s e = absurd (omega (arith, e))

pub more_one : (inner : Inner) (item : Item) (between : List ℕ) (turns : ℕ) (s : State) → 0 < turns
    → more_items inner item between turns s ≡ if_next (byte "E") nothing
    (λ r. say between r >>= λ said. item_reading inner item said >>= more_items inner item between (turns - 1)) s
unfolding more_items
more_one inner item between zero s e = absurd (omega (arith, e))
more_one inner item between (suc turns) s e = rw sub-one refl

pub bindings_none : (inner : Inner) (is_after is_bound : Bool) (turns : ℕ) (s : State) → turns ≡ 0
    → bindings inner is_after is_bound turns s ≡ Some (is_bound, s)
unfolding bindings
bindings_none inner is_after is_bound zero s e = refl
bindings_none inner is_after is_bound (suc turns) s e = absurd (omega (arith, e))

pub bindings_one : (inner : Inner) (is_after is_bound : Bool) (turns : ℕ) (s : State) → 0 < turns
    → bindings inner is_after is_bound turns s ≡ bindings_on is_bound s (after (byte "p") s.bytes)
    (λ r. say (before_binding is_after) r >>= λ said. binding_name said >>= λ bound.
    value inner bound >>= bindings inner true true (turns - 1))
unfolding bindings
bindings_one inner is_after is_bound zero s e = absurd (omega (arith, e))
bindings_one inner is_after is_bound (suc turns) s e = rw sub-one refl
