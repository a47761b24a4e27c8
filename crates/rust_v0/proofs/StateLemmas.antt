-- What a reading leaves of a state: an end of its bytes, its name, as much text and room.
use Rattle.std.proofs.Common.{◌≡◌, ◌∙◌, ◌≤◌, ◌+◌, ◌-◌, ℕ, zero, suc, Bool, true, false, List, [], ◌∷◌, ◌++◌, drop, length, ap, sym, refl, arith, length-append}
use Rattle.std.proofs.Math.Seq.{drop-nil}
use Rattle.std.proofs.lemmas.List.{append-nil, append_assoc}
use Rattle.std.specs.Prelude.{◌&&◌, nat_lt, if◌then◌else◌, Option, Some, None, option_and_then, IfSome}
use Rattle.std.proofs.lemmas.Bool.Decides.{nat_tests}
use Rattle.rust_v0.specs.declared.printer.Mode.TheVariants.{Written, Hidden}
use Rattle.rust_v0.specs.State.{State, Reading, say, is_hidden}
use Rattle.rust_v0.specs.ReadLaws.{has_reference}

-- ---- bytes

-- the rest of bytes after at least k of them
pub record Rest (k : ℕ) (bytes rest : List ℕ) : Type 0 where
  pub past : ℕ
  pub ends : rest ≡ drop past bytes
  pub sized : length rest + past ≡ length bytes
  pub least : k ≤ past

pub rest_all : (bytes : List ℕ) → Rest 0 bytes bytes
rest_all bytes = record { past = 0; ends = refl; sized = omega arith; least = omega arith }

pub rest_step : (k b : ℕ) (bytes rest : List ℕ) → Rest k bytes rest → Rest (k + 1) (b ∷ bytes) rest
rest_step k b bytes rest h = record { past = suc h.past; ends = h.ends; sized = let e : length rest + h.past ≡ length bytes = h.sized in omega (arith, e); least = let e : k ≤ h.past = h.least in omega (arith, e) }

pub rest_less : (k m : ℕ) (bytes rest : List ℕ) → m ≤ k → Rest k bytes rest → Rest m bytes rest
rest_less k m bytes rest le h = record { past = h.past; ends = h.ends; sized = h.sized; least = let e : k ≤ h.past = h.least in omega (arith, e, le) }

drop_twice : (n m : ℕ) (bytes : List ℕ) → drop m (drop n bytes) ≡ drop (n + m) bytes
drop_twice zero m bytes = let e : zero + m ≡ m = omega arith in rw e refl
drop_twice (suc n) m [] = drop-nil m ∙ sym (drop-nil (suc n + m))
drop_twice (suc n) m (b ∷ bytes) = let e : suc n + m ≡ suc (n + m) = omega arith in rw e (drop_twice n m bytes)

pub rest_then : (k m : ℕ) (bytes mid rest : List ℕ) → Rest k bytes mid → Rest m mid rest → Rest (k + m) bytes rest
rest_then k m bytes mid rest h g = record {
  past = h.past + g.past;
  ends = g.ends ∙ ap (λ l. drop g.past l) h.ends ∙ drop_twice h.past g.past bytes;
  sized = let e : length mid + h.past ≡ length bytes = h.sized in let d : length rest + g.past ≡ length mid = g.sized in omega (arith, e, d);
  least = let e : k ≤ h.past = h.least in let d : m ≤ g.past = g.least in omega (arith, e, d);
}

pub rest_drop : (n : ℕ) (bytes : List ℕ) → Rest 0 bytes (drop n bytes)
rest_drop zero bytes = rest_all bytes
rest_drop (suc n) [] = rest_all []
rest_drop (suc n) (b ∷ bytes) = rest_less 1 0 (b ∷ bytes) (drop n bytes) (omega arith) (rest_step 0 b bytes (drop n bytes) (rest_drop n bytes))

none_later : (b : ℕ) (bytes : List ℕ) → has_reference (b ∷ bytes) ≡ false → has_reference bytes ≡ false
none_later b bytes h = grind (arith, nat_tests)

none_after : (n : ℕ) (bytes : List ℕ) → has_reference bytes ≡ false → has_reference (drop n bytes) ≡ false
none_after zero bytes h = h
none_after (suc n) [] h = refl
none_after (suc n) (b ∷ bytes) h = none_after n bytes (none_later b bytes h)

pub none_in_rest : (k : ℕ) (bytes rest : List ℕ) → Rest k bytes rest → has_reference bytes ≡ false → has_reference rest ≡ false
none_in_rest k bytes rest h none = ap has_reference h.ends ∙ none_after h.past bytes none

-- ---- states

-- a state before a reading and after it: b says that no reference was followed, and then k bytes
-- more are passed over than productions are read, at least
pub record Passed (b : Bool) (k : ℕ) (s r : State) : Type 0 where
  pub total : length r.text + r.room ≡ length s.text + s.room
  pub name : r.name ≡ s.name
  pub mode : r.mode ≡ s.mode
  pub unshown : s.mode ≡ Hidden → r.text ≡ s.text
  pub shown : List ℕ
  pub grown : r.text ≡ s.text ++ shown
  pub left : r.left ≤ s.left
  pub rest : Rest k s.bytes r.bytes
  pub cost : b ≡ true → has_reference s.bytes ≡ false → length r.bytes + s.left + k ≤ length s.bytes + r.left

both_left : (b c : Bool) → (b && c) ≡ true → b ≡ true
both_left true c h = refl
both_left false c h = h

both_right : (b c : Bool) → (b && c) ≡ true → c ≡ true
both_right true c h = h
both_right false c h = absurd (let no : false ≡ true = h in cc)

pub passed_then : (b c : Bool) (k m : ℕ) (s r t : State) → Passed b k s r → Passed c m r t → Passed (b && c) (k + m) s t
passed_then b c k m s r t h g = record {
  total = g.total ∙ h.total;
  name = g.name ∙ h.name;
  mode = g.mode ∙ h.mode;
  unshown = λ e. g.unshown (h.mode ∙ e) ∙ h.unshown e;
  shown = h.shown ++ g.shown;
  grown = g.grown ∙ ap (λ text. text ++ g.shown) h.grown ∙ append_assoc s.text h.shown g.shown;
  left = let x : r.left ≤ s.left = h.left in let y : t.left ≤ r.left = g.left in omega (arith, x, y);
  rest = rest_then k m s.bytes r.bytes t.bytes h.rest g.rest;
  cost = λ e none.
      let x : length r.bytes + s.left + k ≤ length s.bytes + r.left = h.cost (both_left b c e) none in
      let y : length t.bytes + r.left + m ≤ length r.bytes + t.left = g.cost (both_right b c e) (none_in_rest k s.bytes r.bytes h.rest none) in
      omega (arith, x, y);
}

-- bytes passed over, and nothing else
pub passed_bytes : (k : ℕ) (s : State) (rest : List ℕ) → Rest k s.bytes rest → Passed true k s (record s { bytes = rest })
passed_bytes k s rest h = record {
  total = refl;
  mode = refl;
  unshown = λ e. refl;
  shown = [];
  grown = sym (append-nil s.text);
  name = refl;
  left = omega arith;
  rest = h;
  cost = λ e none. let x : length rest + h.past ≡ length s.bytes = h.sized in let y : k ≤ h.past = h.least in omega (arith, x, y);
}

-- a state with the same bytes, counts, text and name
pub passed_same : (s r : State) → r.text ≡ s.text → r.room ≡ s.room → r.name ≡ s.name → r.left ≡ s.left → r.bytes ≡ s.bytes → r.mode ≡ s.mode → Passed true 0 s r
passed_same s r text room name left bytes mode = record {
  mode = mode;
  unshown = λ e. text;
  shown = [];
  grown = text ∙ sym (append-nil s.text);
  total = ap (λ t. length t + r.room) text ∙ ap (λ n. length s.text + n) room;
  name = name;
  left = omega (arith, left);
  rest = rw bytes (rest_all s.bytes);
  cost = λ e none. let x : length r.bytes ≡ length s.bytes = ap (λ l. length l) bytes in omega (arith, x, left);
}

-- ---- readings

pub record Advances (b : Bool) (k : ℕ) (s : State) (o : Option State) : Type 0 where
  pub passed : IfSome o (Passed b k s)

pub record AdvancesWith {A : Type 0} (b : Bool) (k : ℕ) (s : State) (o : Option (A × State)) : Type 0 where
  pub passed : IfSome o (λ p. Passed b k s p.1)

pub none_advances : (b : Bool) (k : ℕ) (s : State) → Advances b k s None
none_advances b k s = record { passed = tt }

pub some_advances : (b : Bool) (k : ℕ) (s r : State) → Passed b k s r → Advances b k s (Some r)
some_advances b k s r h = record { passed = h }

pub if_advances : (b : Bool) (k : ℕ) (s : State) (q : Bool) (x y : Option State) → Advances b k s x → Advances b k s y → Advances b k s (if q then x else y)
if_advances b k s true x y h g = h
if_advances b k s false x y h g = g

pub from_advances : (b c : Bool) (k m : ℕ) (s r : State) (o : Option State) → Passed b k s r → Advances c m r o → Advances (b && c) (k + m) s o
from_advances b c k m s r None h g = record { passed = tt }
from_advances b c k m s r (Some t) h g = record { passed = passed_then b c k m s r t h g.passed }

pub then_advances : (b c : Bool) (k m : ℕ) (s : State) (o : Option State) (f : Reading) → Advances b k s o → ((r : State) → Advances c m r (f r))
    → Advances (b && c) (k + m) s (option_and_then f o)
then_advances b c k m s None f h g = record { passed = tt }
then_advances b c k m s (Some r) f h g = from_advances b c k m s r (f r) h.passed (g r)

pub with_advances : {A : Type 0} (b c : Bool) (k m : ℕ) (s : State) (o : Option (A × State)) (f : A × State → Option State) → AdvancesWith b k s o
    → ((p : A × State) → Advances c m p.1 (f p)) → Advances (b && c) (k + m) s (option_and_then f o)
with_advances b c k m s None f h g = record { passed = tt }
with_advances b c k m s (Some p) f h g = from_advances b c k m s p.1 (f p) h.passed (g p)

pub same_advances : (s : State) → Advances true 0 s (Some s)
same_advances s = some_advances true 0 s s (passed_same s s refl refl refl refl refl refl)

-- ---- texts

say_passed : (text : List ℕ) (s : State) → s.mode ≡ Written → nat_lt s.room (length text) ≡ false
    → Passed true 0 s (record s { room = s.room - length text; text = s.text ++ text })
say_passed text s shown fits = record {
  total = let e : length (s.text ++ text) ≡ length s.text + length text = length-append s.text text in
      let le : length text ≤ s.room = grind (arith, nat_tests) in omega (arith, e, le);
  name = refl;
  mode = refl;
  unshown = λ e. absurd (let no : false ≡ true = ap is_hidden (sym shown ∙ e) in cc);
  shown = text;
  grown = refl;
  left = omega arith;
  rest = rest_all s.bytes;
  cost = λ e none. omega arith;
}

pub say_advances : (text : List ℕ) (s : State) → Advances true 0 s (say text s)
unfolding say
say_advances text s =
    elim s.mode as (λ m. s.mode ≡ m → Advances true 0 s (if is_hidden m then Some s else (if nat_lt s.room (length text) then None
    else Some (record s { room = s.room - length text; text = s.text ++ text })))) [
      | Hidden ↦ λ e. same_advances s
      | Written ↦ λ shown. elim (nat_lt s.room (length text)) as (λ q. nat_lt s.room (length text) ≡ q → Advances true 0 s (if q then None else Some (record s { room = s.room - length text; text = s.text ++ text }))) [
        | true ↦ λ e. none_advances true 0 s
        | false ↦ λ e. some_advances true 0 s _ (say_passed text s shown e)
      ] refl
    ] refl
