-- Readings go on, and keep to the limits.
use Rattle.std.proofs.Common.{◌≡◌, ◌∙◌, ◌≤◌, ◌<◌, ◌+◌, ◌-◌, ℕ, zero, suc, Bool, true, false, List, take, drop, length, ap, refl, subst, sym, arith}
use Rattle.std.specs.Prelude.{◌==◌, if◌then◌else◌, Option, Some, None, option_and_then, IfSome}
use Rattle.std.proofs.Math.Seq.{take-append_seam}
use Rattle.rust_v0.specs.declared.grammar.Production.{Production}
use Rattle.rust_v0.specs.declared.grammar.Production.TheVariants.{ValuePath, TypePath, TraitPath, AnyType, BracedConstant, BareConstant, Pattern}
use Rattle.rust_v0.specs.declared.printer.Mode.TheVariants.{Written}
use Rattle.rust_v0.specs.State.{State}
use Rattle.rust_v0.specs.Reads.{reads}
use Rattle.rust_v0.specs.Name.{instantiating, is_upper_first, most_levels, paths, start}
use Rattle.rust_v0.specs.ReadLaws.{InstanceNotShown, IsProperEnd, KeepsCount, KeepsState, NameReadOnce, NameWithinLimits, ReadsOn, ReadsOnce, StopsAtLimits, TextGrows, has_reference, is_path_production}
use Rattle.rust_v0.proofs.StateLemmas.{Advances, Passed, Rest, if_advances, passed_then}
use Rattle.rust_v0.proofs.LeafLemmas.{same_leaf}
use Rattle.rust_v0.proofs.PartLemmas.{weight}
use Rattle.rust_v0.proofs.OnwardLemmas.{Produced, Produces, advances_less, hidden_adds, hidden_advances, reads_advance, reads_produce}

-- what a reading gave
pub at_some : {A : Type 0} (P : A → Type 0) (o : Option A) (a : A) → IfSome o P → o ≡ Some a → P a
at_some P o a h e = subst (λ x. IfSome x P) e h

produced_at : (levels : ℕ) (production : Production) (s r : State) → reads levels production s ≡ Some r → Produced (weight production) s r
produced_at levels production s r e = at_some (Produced (weight production) s) _ r (reads_produce levels production s).passed e

end_from : (rest bytes : List ℕ) → Rest 1 bytes rest → IsProperEnd rest bytes
end_from rest bytes h =
    let sized : length rest + h.past ≡ length bytes = h.sized in
    let least : 1 ≤ h.past = h.least in
    let past : length bytes - length rest ≡ h.past = omega (arith, sized) in
    record { fewer = omega (arith, sized, least); end = h.ends ∙ ap (λ n. drop n bytes) (sym past) }

pub reads_on : ReadsOn
reads_on levels production s r e = end_from r.bytes s.bytes (produced_at levels production s r e).onward

once_from : (k : ℕ) (s r : State) → Passed true k s r → has_reference s.bytes ≡ false → s.left - r.left ≤ length s.bytes - length r.bytes
once_from k s r h none =
    let cost : length r.bytes + s.left + k ≤ length s.bytes + r.left = h.cost refl none in
    let left : r.left ≤ s.left = h.left in
    let sized : length r.bytes + h.rest.past ≡ length s.bytes = h.rest.sized in
    omega (arith, cost, left, sized)

less_from : (s r : State) → Passed true 1 s r → has_reference s.bytes ≡ false → s.left - r.left < length s.bytes - length r.bytes
less_from s r h none =
    let cost : length r.bytes + s.left + 1 ≤ length s.bytes + r.left = h.cost refl none in
    let left : r.left ≤ s.left = h.left in
    let sized : length r.bytes + h.rest.past ≡ length s.bytes = h.rest.sized in
    omega (arith, cost, left, sized)

path_less : (production : Production) (s r : State) → Passed true (weight production) s r → has_reference s.bytes ≡ false → is_path_production production ≡ true
    → s.left - r.left < length s.bytes - length r.bytes
path_less ValuePath s r h none e = less_from s r h none
path_less TypePath s r h none e = less_from s r h none
path_less TraitPath s r h none e = less_from s r h none
path_less AnyType s r h none e = absurd (let no : false ≡ true = e in cc)
path_less BracedConstant s r h none e = absurd (let no : false ≡ true = e in cc)
path_less BareConstant s r h none e = absurd (let no : false ≡ true = e in cc)
path_less Pattern s r h none e = absurd (let no : false ≡ true = e in cc)

pub reads_once : ReadsOnce
reads_once levels production s r e none =
    let h : Passed true (weight production) s r = (produced_at levels production s r e).passed in
    (once_from (weight production) s r h none, path_less production s r h none)

-- ---- names

instantiating_advances : (s : State) → Advances true 0 s (instantiating s)
unfolding instantiating
instantiating_advances s = if_advances true 0 s (is_upper_first s.bytes) _ _ (advances_less true 1 0 s _ (omega arith) (hidden_advances (reads most_levels) (reads_advance most_levels) s)) (same_leaf s)

pub record Pathed (s r : State) : Type 0 where
  pub passed : Passed true 1 s r
  pub fewer : r.left < s.left

pathed_then : (s r : State) (o : Option State) → Produced 1 s r → Advances true 0 r o → IfSome o (Pathed s)
pathed_then s r None h g = tt
pathed_then s r (Some t) h g = record {
  passed = passed_then true true 1 0 s r t h.passed g.passed;
  fewer = let x : r.left < s.left = h.counted in let y : t.left ≤ r.left = g.passed.left in omega (arith, x, y);
}

pathed_from : (s : State) (o : Option State) → Produces 1 s o → IfSome (option_and_then instantiating o) (Pathed s)
pathed_from s None h = tt
pathed_from s (Some r) h = pathed_then s r (instantiating r) h.passed (instantiating_advances r)

pub paths_pass : (s : State) → IfSome (paths s) (Pathed s)
unfolding paths
paths_pass s = pathed_from s (reads most_levels ValuePath s) (reads_produce most_levels ValuePath s)

pub pathed_at : (spelled : List ℕ) (r : State) → paths (start Written spelled) ≡ Some r → Pathed (start Written spelled) r
pathed_at spelled r e = at_some (Pathed (start Written spelled)) _ r (paths_pass (start Written spelled)) e

pub name_read_once : NameReadOnce
name_read_once spelled r e none = less_from (start Written spelled) r (pathed_at spelled r e).passed none

-- ---- limits

none_at_zero : (left : ℕ) (s : State) (f : State → Option State) → left ≡ 0 → option_and_then f (if left == 0 then None else Some (record s { left = left - 1 })) ≡ None
none_at_zero zero s f e = refl
none_at_zero (suc left) s f e = absurd (omega (arith, e))

stops : (production : Production) (s : State) (levels : ℕ) → s.left ≡ 0 → reads levels production s ≡ None
unfolding reads
stops production s zero e = refl
stops production s (suc levels) e = none_at_zero s.left s _ e

pub reads_stop : StopsAtLimits
unfolding reads
reads_stop production s = (refl, stops production s)

pub reads_count : KeepsCount
reads_count levels production s r e =
    let h : Produced (weight production) s r = produced_at levels production s r e in (h.counted, h.passed.total)

pub text_grows : TextGrows
text_grows levels production s r e =
    let h : Passed true (weight production) s r = (produced_at levels production s r e).passed in
    ap (λ text. take (length s.text) text) h.grown ∙ take-append_seam s.text h.shown

pub name_within_limits : NameWithinLimits
name_within_limits spelled r e = let h : Pathed (start Written spelled) r = pathed_at spelled r e in (h.fewer, h.passed.total ∙ omega arith)

-- ---- what isn't shown

pub keeps_state : KeepsState
keeps_state levels production s r e =
    let h : Passed true (weight production) s r = (produced_at levels production s r e).passed in (h.name, h.mode, h.unshown)

if_adds : (q : Bool) (s : State) (x y : Option State) → IfSome x (λ r. r.text ≡ s.text) → IfSome y (λ r. r.text ≡ s.text) → IfSome (if q then x else y) (λ r. r.text ≡ s.text)
if_adds true s x y h g = h
if_adds false s x y h g = g

instance_adds : (s : State) → IfSome (instantiating s) (λ r. r.text ≡ s.text)
unfolding instantiating
instance_adds s = if_adds (is_upper_first s.bytes) s _ _ (hidden_adds (reads most_levels) (reads_advance most_levels) s) refl

pub instance_not_shown : InstanceNotShown
instance_not_shown s r e = at_some (λ x. x.text ≡ s.text) (instantiating s) r (instance_adds s) e
