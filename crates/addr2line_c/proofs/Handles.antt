-- The machine values of a handle, and what it owns.
use Rattle.addr2line_c.proofs.Common.{◌≡◌, ℕ, List, [], ◌∷◌, refl, lit<, Val, has_ty, WT, ftrue, Logic, Item, Goal, Seq, Step, step, ‵, ◌$◌, move, fsplit, fjoin, fpick, fpack, feq_i, RattleType, Valss, Ptr, block_ptr, null_ptr, ptr_val, Testable, nothing, layout, Good}
use mathlib.Core.Bool.{true, ◌&&◌}
use lib.Dec.{T}
use seplogic.Ra.Ura.{Ura}
use types.Kit.{drop}
use denote.Builtin.{RawPtr}
use denote.Struct.Struct.{within}
use denote.Struct.Values.{intos}
use denote.Struct.Owning.{shape}
use Rattle.std.specs.contracts.alloc.Global as heap
use Rattle.std_alloc.proofs.ResultValues.{and_tt}
use Rattle.std.specs.declared.option.Option.{Option}
use Rattle.std.specs.declared.option.Option.TheVariants.{None, Some}
use Rattle.std.specs.declared.alloc.Global.{Global}
use Rattle.addr2line_c.specs.Held.{boxed, held, opened}
use Rattle.addr2line_c.proofs.Values.{both}
use Rattle.addr2line_c.specs.contracts.file.OpenFile.{the_row as Elem}
use Rattle.addr2line_c.specs.contracts.handle.Handle as owner

abbrev Z : RattleType
Z = heap.the_row

pub null_good : (h : Val) → Good (layout Z) h → T (has_ty (layout Z) h && true) × WT (both (ptr_val null_ptr) h)
null_good h fits = (and_tt (has_ty (layout Z) h) fits.0, (record { fits = lit< tt }, (fits.1, tt)))

module _ {M : Type 1} {𝓤 : Ura M} {𝓛 : Logic 𝓤} {K : Type 0} {Γ : List (Item 𝓤)} {G : Goal 𝓤 𝓛.H} where
  -- whoever has a handle has nothing, or a box
  pub either_held : (R : RattleType) (a : Global) → K → (p : Ptr) (v : Option R.Denot) → (p ≡ null_ptr → v ≡ None → Seq K 𝓛 Γ G)
      → ((b o : ℕ) (x : R.Denot) → p ≡ block_ptr b o → v ≡ Some x → Testable (block_ptr b o) → Seq K 𝓛 (‵ (boxed R a (block_ptr b o) x) ∷ Γ) G) → Seq K 𝓛 (‵ (held R a p v) ∷ Γ) G
  either_held R a t null_ptr v none one = fpick t (λ e. drop t $ none refl e)
  either_held R a t (block_ptr b o) v none one = fpick t (λ x. fsplit t $ fpick t (λ e. drop t $ fsplit t $ fpick t (λ testable. drop t $ one b o x refl e testable)))

  pub held_none : (R : RattleType) (a : Global) → K → Step K 𝓛 (‵ (held R a null_ptr None) ∷ Γ) G Γ G
  held_none R a t = step (λ s. nothing t $ fpack t (◌≡◌ {A = Option R.Denot} None None) (λ _. ftrue) refl $ s)

  pub held_some : (R : RattleType) (a : Global) → K → (b o : ℕ) (x : R.Denot) → Testable (block_ptr b o) → Step K 𝓛 (‵ (held R a (block_ptr b o) (Some x)) ∷ Γ) G (‵ (boxed R a (block_ptr b o) x) ∷ Γ) G
  held_some R a t b o x testable = step (λ s. nothing t $ fpack t (Testable (block_ptr b o)) (λ _. ftrue) testable $ fjoin t $
      nothing t $ fpack t (◌≡◌ {A = Option R.Denot} (Some x) (Some x)) (λ _. ftrue) refl $ fjoin t $ fpack t R.Denot (opened R a (block_ptr b o) (Some x)) x $ s)

  pub handle_in : K → (p : Ptr) (h : Val) (a : Global) (v : Option (Elem.Denot))
      → Step K 𝓛 (‵ (owner.the_row.own_val (record { at = p; alloc = a; value = v }) (both (ptr_val p) h ∷ [])) ∷ Γ) G (‵ (held Elem a p v) ∷ ‵ (Z.own_val a (h ∷ [])) ∷ Γ) G
  handle_in t p h a v = step (λ s. let w : Val = both (ptr_val p) h in
      nothing t $ move t (2 ∷ 0 ∷ []) $ fjoin t $ feq_i t (List Val) (ptr_val p ∷ []) (ptr_val p ∷ []) refl $ fjoin t $ feq_i t (List Val) (w ∷ []) (w ∷ []) refl $ fjoin t $
      fpack t (Valss (RawPtr ∷ Z ∷ [])) (within (shape owner.the_type) (intos owner.the_type.parts (p, (a, tt))) (w ∷ [])) (ptr_val p ∷ [], (h ∷ [], tt)) $ fjoin t $ s)
