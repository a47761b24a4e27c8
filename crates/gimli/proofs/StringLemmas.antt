-- Strings that are given only where they can be read, and those whose length is known (on specs/Text.antt).
use Rattle.gimli.proofs.Common.{◌≡◌, ◌≢◌, ℕ, ◌==◌, Bool, true, false, cond, length, take, Option, Some, None, Result, Ok, Err, ltb, refl, ap, ◌∙◌, sym, arith, length-take, take_min, nat_tests, position, Error, OutOfMemory, UnexpectedEof, Format, AttributeValue, Section, first, after, Reading, ◌>>=◌, ended_at, split_at, null_terminated_at, done, Sections, from_offset, string_at, string_length_at, string_of, string_takes_memory, readable_string}
use Rattle.std.specs.Prelude.{is_ok}
use Rattle.std.specs.Result.{result_ok}
use Rattle.gimli_read.specs.declared.value.AttributeValue.TheVariants as values
use Rattle.gimli_read.proofs.FaultLemmas.{IsByBytes}
use Rattle.gimli.specs.UnitMemory.{gives_some}
use Rattle.gimli.proofs.FaultLemmas.{string_of_is}

-- a string takes memory only where bytes are shared
shared_if : {shares : Bool} (v : AttributeValue Section) → string_takes_memory shares v ≡ true → shares ≡ true
shared_if (values.String s) h = absurd cc
shared_if _ h = h

-- a string that is given only where it can be read is never refused OutOfMemory but by a refused growth
pub string_refused : (d : Sections) (format : Format) (base : ℕ) (v : AttributeValue Section) (shares : Bool)
    → ((string_takes_memory shares v ≡ true → is_ok (string_of d format base v) ≡ true → OutOfMemory ≢ OutOfMemory) → string_of d format base v ≡ Err OutOfMemory)
    → (shares ≡ true → gives_some (Ok (readable_string d format base (Some v))) ≡ true → OutOfMemory ≢ OutOfMemory) → ⊥
string_refused d format base v shares h m = at (string_of d format base v) (string_of_is d format base v) (λ k. h (λ t. k (shared_if v t))) m
  where
    at : (r : Result Section Error) → IsByBytes r → ((shares ≡ true → is_ok r ≡ true → OutOfMemory ≢ OutOfMemory) → r ≡ Err OutOfMemory) → (shares ≡ true → gives_some (Ok (result_ok r)) ≡ true → OutOfMemory ≢ OutOfMemory) → ⊥
    at (Ok x) n h m = n.by (h (λ s _. m s refl))
    at (Err e) n h m = n.by (h (λ s ok. absurd cc))

split_first : (rest : Section) (k n : ℕ) → length (take k rest.bytes) ≡ n → split_at n rest ≡ Ok (first n rest, after n rest)
split_first rest k n h = at (ltb (length rest.bytes) n) refl
  where
    at : (b : Bool) → ltb (length rest.bytes) n ≡ b → ◌≡◌ {A = Reading Section} (cond b (Err UnexpectedEof) (Ok (first n rest, after n rest))) (Ok (first n rest, after n rest))
    at true p = absurd (let l = length-take k rest.bytes in grind (arith, nat_tests))
    at false p = refl

-- a string whose length is known is split off
pub string_split : (offset n : ℕ) (s rest : Section) → string_length_at offset s ≡ Ok n → from_offset offset s ≡ Ok rest → (string_at offset s ≡ Ok (first n rest)) × (split_at n rest ≡ Ok (first n rest, after n rest))
unfolding string_at
string_split offset n s rest h k = at (position (λ b. b == 0) rest.bytes) refl
  where
    here : (o : Option ℕ) → position (λ b. b == 0) rest.bytes ≡ o → string_at offset s ≡ (ended_at rest o >>= λ t. Ok t.0)
    here o p = ap (λ (r : Result Section Error). r >>= λ x. null_terminated_at x >>= λ t. done t.0) k ∙ ap (λ x. ended_at rest x >>= λ t. done t.0) p

    long : (o : Option ℕ) → position (λ b. b == 0) rest.bytes ≡ o → ◌≡◌ {A = Result ℕ Error} ((ended_at rest o >>= λ t. Ok t.0) >>= λ t. Ok (length t.bytes)) (Ok n)
    long o p = ap (λ (r : Result Section Error). r >>= λ t. done (length t.bytes)) (sym (here o p)) ∙ h

    at : (o : Option ℕ) → position (λ b. b == 0) rest.bytes ≡ o → (string_at offset s ≡ Ok (first n rest)) × (split_at n rest ≡ Ok (first n rest, after n rest))
    at None p = absurd (let q = long None p in cc)
    at (Some m) p =
        let w = long (Some m) p in
        let q : length (take m rest.bytes) ≡ n = cc in
        (here (Some m) p ∙ ap (λ xs. Ok (record rest { bytes = xs })) (sym (take_min m rest.bytes) ∙ ap (λ i. take i rest.bytes) (sym (length-take m rest.bytes) ∙ q)), split_first rest m n q)
