-- Steps of a `Costed` that store something: room for it, and steps along items.
use Rattle.std.specs.Prelude.{◌&&◌, ◌||◌, Bool, false, is_ok, List, [], ◌∷◌, Result, Ok}
use Rattle.addr2line_lines.specs.Common.{Error, Costed, takes_memory_after, fold_run}
use Rattle.gimli_read.specs.Reading as reading

-- what is stored on the way to its value, or to its fault, if something is stored then
abbrev pub stored_if : {A : Type 0} → Bool → Result A Error → Costed A
stored_if stores given = record { given = given; takes_memory = λ shares. stores }

-- and room after it, where it has no fault and room is needed then
abbrev pub then_room_if : {A : Type 0} → Bool → Costed A → Costed A
then_room_if needed c = record {
  given = c.given;
  takes_memory = λ shares. c.takes_memory shares || is_ok c.given && needed;
}

-- with its value made into another
abbrev pub map_at_cost : {A B : Type 0} → (A → B) → Costed A → Costed B
map_at_cost make c = record {
  given = reading.◌>>=◌ c.given (λ x. Ok (make x));
  takes_memory = c.takes_memory;
}

-- where parts of the bytes are taken on the way
abbrev pub on_parts : {A : Type 0} → Costed A → Costed A
on_parts c = record { given = c.given; takes_memory = λ shares. shares || c.takes_memory false }

-- whether memory is taken for one of the items, with no fault before it
abbrev pub some_takes : {A X : Type 0} → (A → X → Costed A) → A → List X → Bool → Bool
some_takes f a [] shares = false
some_takes f a (x ∷ xs) shares = (f a x).takes_memory shares
    || takes_memory_after (f a x).given (λ b. some_takes f b xs shares)

-- each item in turn, and then the end
abbrev pub fold_at_cost : {A X Z : Type 0} → (A → X → Costed A) → A → List X → Result Z Error
    → Costed (A × Z)
fold_at_cost f a items end = record {
  given = fold_run (λ b x. (f b x).given) a items end;
  takes_memory = λ shares. some_takes f a items shares;
}
