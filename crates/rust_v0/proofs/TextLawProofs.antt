-- How long the text of a name is.
use Rattle.std.proofs.Common.{◌≡◌, ◌≤◌, ◌+◌, ℕ, Bool, true, false, List, [], ◌∷◌, ◌++◌, drop, length, arith, length-append}
use Rattle.std.specs.Prelude.{◌&&◌, if◌then◌else◌, nat_eq, Option, Some, None, option_and_then, IfSome}
use Rattle.std.specs.Char.{is_ascii}
use Rattle.std.specs.List.{list_all, starts_with}
use Rattle.rust_v0.specs.declared.printer.Mode.TheVariants.{Written}
use Rattle.rust_v0.specs.State.{State}
use Rattle.rust_v0.specs.Name.{after_first, as_path, is_llvm_byte, is_suffix, is_upper_first, llvm_mark, most_text, paths, prefixes, spelled_text, start, suffixed, v0_text, without_llvm, without_prefix}
use Rattle.rust_v0.specs.NameLaws.{BoundedText}
use Rattle.rust_v0.proofs.StateLemmas.{Rest, rest_drop}
use Rattle.rust_v0.proofs.ReadLawProofs.{Pathed, at_some, paths_pass}

-- so many bytes at most
pub record IsWithin (n : ℕ) (text : List ℕ) : Type 0 where
  pub most : length text ≤ n

pub record AreWithin (n : ℕ) (o : Option (List ℕ)) : Type 0 where
  pub passed : IfSome o (IsWithin n)

within_then : (n m : ℕ) (o : Option (List ℕ)) (f : List ℕ → Option (List ℕ)) → AreWithin n o → ((bytes : List ℕ) → length bytes ≤ n → AreWithin m (f bytes)) → AreWithin m (option_and_then f o)
within_then n m None f h g = record { passed = tt }
within_then n m (Some bytes) f h g = g bytes h.passed.most

within_if : (n : ℕ) (q : Bool) (x y : Option (List ℕ)) → AreWithin n x → AreWithin n y → AreWithin n (if q then x else y)
within_if n true x y h g = h
within_if n false x y h g = g

within_some : (n : ℕ) (bytes : List ℕ) → length bytes ≤ n → AreWithin n (Some bytes)
within_some n bytes h = record { passed = record { most = h } }

within_none : (n : ℕ) → AreWithin n None
within_none n = record { passed = tt }

-- ---- marks and prefixes

llvm_if : (p q : Bool) (b : ℕ) (bs less : List ℕ) → length less ≤ length bs → length (if p then (if q then [] else b ∷ bs) else b ∷ less) ≤ length (b ∷ bs)
llvm_if true true b bs less h = omega arith
llvm_if true false b bs less h = omega arith
llvm_if false q b bs less h = omega (arith, h)

llvm_less : (name : List ℕ) → length (without_llvm name) ≤ length name
llvm_less [] = omega arith
llvm_less (b ∷ bs) = llvm_if (starts_with nat_eq (b ∷ bs) llvm_mark) (list_all is_llvm_byte (drop (length llvm_mark) (b ∷ bs))) b bs (without_llvm bs) (llvm_less bs)

drop_less : (n : ℕ) (bytes : List ℕ) → length (drop n bytes) ≤ length bytes
drop_less n bytes =
    let h : Rest 0 bytes (drop n bytes) = rest_drop n bytes in
    let e : length (drop n bytes) + h.past ≡ length bytes = h.sized in omega (arith, e)

first_within : (texts : List (List ℕ)) (name : List ℕ) → AreWithin (length name) (after_first texts name)
first_within [] name = within_none _
first_within (text ∷ texts) name = within_if _ (starts_with nat_eq name text) _ _ (within_some _ _ (drop_less (length text) name)) (first_within texts name)

path_within : (n : ℕ) (bytes : List ℕ) → length bytes ≤ n → AreWithin n (as_path bytes)
path_within n bytes h = within_if n (is_upper_first bytes && list_all is_ascii bytes) _ _ (within_some n bytes h) (within_none n)

prefix_within : (name : List ℕ) → AreWithin (length name) (without_prefix name)
unfolding without_prefix
prefix_within name = within_then (length name) (length name) (after_first prefixes name) as_path (first_within prefixes name) (path_within (length name))

-- ---- texts

suffixed_within : (spelled : List ℕ) (r : State) → Pathed (start Written spelled) r → AreWithin (most_text + length spelled) (suffixed r)
suffixed_within spelled r h =
    let total : length r.text + r.room ≡ 0 + most_text = h.passed.total in
    let sized : length r.bytes + h.passed.rest.past ≡ length spelled = h.passed.rest.sized in
    let e : length (r.text ++ r.bytes) ≡ length r.text + length r.bytes = length-append r.text r.bytes in
    within_if _ (is_suffix r.bytes) _ _ (within_some _ (r.text ++ r.bytes) (omega (arith, total, sized, e))) (within_none _)

after_paths : (spelled : List ℕ) (o : Option State) → IfSome o (Pathed (start Written spelled)) → AreWithin (most_text + length spelled) (option_and_then suffixed o)
after_paths spelled None h = within_none _
after_paths spelled (Some r) h = suffixed_within spelled r h

spelled_within : (spelled : List ℕ) → AreWithin (most_text + length spelled) (spelled_text spelled)
unfolding spelled_text
spelled_within spelled = after_paths spelled (paths (start Written spelled)) (paths_pass (start Written spelled))

more_within : (n m : ℕ) (o : Option (List ℕ)) → n ≤ m → AreWithin n o → AreWithin m o
more_within n m None le h = within_none m
more_within n m (Some text) le h = within_some m text (let e : length text ≤ n = h.passed.most in omega (arith, e, le))

text_within : (name : List ℕ) → AreWithin (most_text + length name) (v0_text name)
unfolding v0_text
text_within name =
    let less : length (without_llvm name) ≤ length name = llvm_less name in
    within_then (length (without_llvm name)) _ (without_prefix (without_llvm name)) spelled_text (prefix_within (without_llvm name)) (λ spelled h.
    more_within (most_text + length spelled) _ (spelled_text spelled) (omega (arith, h, less)) (spelled_within spelled))

pub bounded_text : BoundedText
bounded_text name text e = (at_some (IsWithin (most_text + length name)) _ text (text_within name).passed e).most
