-- The view of the unit in which a lookup has found something (on specs/UnitsCached.antt and
-- specs/FramesLookup.antt).
use Rattle.addr2line_units.proofs.Common.{◌≡◌, ℕ, zero, suc, List, [], ◌∷◌, length, ◌<◌, get_or, None, option_and_then, option_map, unwrap_or, ap, sym, subst, ◌∙◌, arith, Sections, UnitRecord, CachedUnit, answer_of, readable_view, view_of_number, first_answer_of, answers_in, IsViewOf, parts_of, verdict}
use Rattle.addr2line_units.proofs.LoadsAnswerLemmas.{got_unit}
use Rattle.addr2line_units.proofs.UnitsCachedLemmas.{answer_at}
use Rattle.addr2line_units.proofs.UnitsCaches.{HaveViewsOf}

-- what is cached of the view of the unit of a number is its own
pub view_at : {R : Type 0} → (d : Sections) (us : List UnitRecord) (vs : List (CachedUnit R)) (n : ℕ) (u : UnitRecord) (v : CachedUnit R) → HaveViewsOf d us vs → n < length vs → u ≡ get_or us n u → v ≡ get_or vs n v → IsViewOf d u v.entries.view
view_at d us [] n u v own within e f = absurd (omega arith)
view_at d [] (y ∷ vs) n u v own within e f = absurd own
view_at {R} d (x ∷ us) (y ∷ vs) zero u v own within e f = subst (λ (z : CachedUnit R). IsViewOf d u z.entries.view) (sym f) (subst (λ z. IsViewOf {R = R} d z y.entries.view) (sym e) own.0)
view_at d (x ∷ us) (y ∷ vs) (suc n) u v own within e f = view_at d us vs n u v own.1 (omega arith) e f

-- the sections and the unit of that view
pub parts_at : {R : Type 0} → (d : Sections) (us : List UnitRecord) (vs : List (CachedUnit R)) (n : ℕ) (u : UnitRecord) (v : CachedUnit R) → n < length us → n < length vs → u ≡ get_or us n u → v ≡ get_or vs n v
    → option_map parts_of (readable_view (verdict d u (first_answer_of v.entries))) ≡ option_map parts_of (readable_view (view_of_number d us (answers_in vs) n))
parts_at d us vs n u v within there e f = ap (λ w. option_map parts_of (readable_view w)) (sym same)
  where
    same : view_of_number d us (answers_in vs) n ≡ verdict d u (first_answer_of v.entries)
    same =
        ap (λ o. option_and_then (λ x. verdict d x (answer_of (answers_in vs) n)) o) (got_unit us n u within e)
        ∙ ap (λ o. verdict d u (unwrap_or o None)) (answer_at vs n v there f)
