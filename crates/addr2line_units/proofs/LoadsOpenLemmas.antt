-- Units that aren't open (on specs/Loads.antt).
use Rattle.addr2line_units.proofs.Common.{◌≡◌, ℕ, get_or, Bool, false, List, length, ◌<◌, slice_get, Option, Some, None, sym, ap, ◌∙◌, Sections, UnitRecord, CachedUnit, answer_of, first_answer_of, answers_in, is_open_at, is_open}
use Rattle.std.specs.Prelude.{unwrap_or}
use Rattle.addr2line_units.proofs.UnitsCachedLemmas.{answer_at}

-- the unit of a number among those of the context
pub not_open_there : {R : Type 0} (d : Sections) (us : List UnitRecord) (vs : List (CachedUnit R)) (n : ℕ) (u : UnitRecord) (v : CachedUnit R) → slice_get us n ≡ Some u → n < length vs → v ≡ get_or vs n v → is_open_at d us (answers_in vs) n ≡ false → is_open d u (first_answer_of v.entries) ≡ false
not_open_there d us vs n u v there within e not_open =
    sym (ap (λ o. is_open d u (unwrap_or o None)) (answer_at vs n v within e)) ∙ sym (ap (λ o. at o) there) ∙ not_open
  where
    at : Option UnitRecord → Bool
    at o = elim o [ None ↦ false | Some x ↦ is_open d x (answer_of (answers_in vs) n) ]
