-- `of_loose` hands the box on, whose pointer may be compared with null.
use Rattle.addr2line_c.proofs.Common.{◌≡◌, List, [], ◌∷◌, ◌++◌, refl, sym, subst, Val, vptr, SProp, ent, emp, guard, guard_i, via, snd∗, id⊢, ftrue, WpFn, Logic, sem, ‵, raw, given, ◌⊛◌, ◌$◌, ◌∵◌, !, qed, by, move, keep, split, fsplit, fjoin, suffices, use0, use1, learn, stop, fld, of_opd, no_more, and_then, returns, enter, alloc_all, pass_all, free_all, look_at, get, get_in, sets, agg, sub, whole, fact, fact_i, fact_use, tables, RattleType, owns, types_at, plain, Ptr, block_ptr, Testable, nothing, Stays, stay_dropped, walk_of, Goes-blank, proved_at, leaves}
use mir.Raw.{raw as bare}
use seplogic.Ra.Ura.{Ura}
use denote.Memory.{lone}
use denote.Triple.Entry.{alive}
use Rattle.std.proofs.GlobalToken.{dealloc_token-Testable}
use Rattle.std.specs.contracts.alloc.Global as heap
use Rattle.std.proofs.alloc.Global.TheLaws as heap_laws
use Rattle.std.specs.contracts.impls.GlobalAllocator.TheImpl.{ghosts}
use Rattle.std.specs.declared.option.Option.{Option}
use Rattle.std.specs.declared.option.Option.TheVariants.{Some}
use Rattle.std.specs.declared.alloc.Global.{Global}
use Rattle.core.specs.Ptr.{points_to}
use Rattle.addr2line_c.specs.Held.{boxed}
use Rattle.addr2line_c.proofs.Values.{both, Loose, loose_good, loose_out}
use Rattle.addr2line_c.proofs.Handles.{handle_in, held_some}
use Rattle.addr2line_c.specs.contracts.file.OpenFile as elem
use Rattle.addr2line_c.specs.contracts.handle.Handle.of_loose.{ended, clauses}
use Rattle.addr2line_c.specs.contracts.handle.Handle.of_loose.Key.{name as #self}
use Rattle.addr2line_c.proofs.handle.Handle.of_loose.Statement.{statement}
use Rattle.addr2line_c.proofs.handle.Handle.of_loose.Code as code

tested : {M : Type 1} {𝓤 : Ura M} (𝓛 : Logic 𝓤) (R : RattleType) (a : Global) (p : Ptr) (x : R.Denot) → ent 𝓤 (sem 𝓛 (boxed R a p x)) (guard 𝓤 (Testable p) (sem 𝓛 (boxed R a p x)))
tested {M} {𝓤} 𝓛 R a p x = let B : SProp 𝓤 = sem 𝓛 (boxed R a p x) in fact_use 𝓤 (Testable p) (via 𝓤 _ (snd∗ 𝓤 (sem 𝓛 (points_to R p x)) (sem 𝓛 (ghosts.dealloc_token a (bare (lone R.mir)) p))) (dealloc_token-Testable 𝓛 a (bare (lone R.mir)) p)) (guard_i 𝓤 (Testable p) B)

pub of_loose_spec : {M : Type 1} → statement M
of_loose_spec 𝓤 𝓛 𝓜 𝓡 wired =
    let H = 𝓛.H in let 𝓣 = tables 𝓤 H 𝓜 𝓡 𝓡.env in let R : RattleType = elem.the_row in let Z : RattleType = heap.the_row in let LZ = heap_laws.the_row_laws in let c = clauses 𝓛 𝓜.mem 𝓡.returns in let fn = code.function in let Lr : RattleType = Loose R Z LZ ghosts in
    let hs : Stays ended.signature.params ended.kept = (stay_dropped (plain (λ _. Lr)) ended.kept.0, tt) in
    proved_at 𝓛 ended hs c 𝓜 𝓡 (Goes-blank 𝓛 0 (plain (λ _. Lr)) ended.kept.0 (λ κs x f. tt), tt) #self fn (code.unfolded 𝓤 H 𝓜 𝓡 wired) (λ z are.
    let d = z.0.3.0 in let a = d.alloc in let Post : Val → SProp 𝓤 = (walk_of 𝓛 ended hs c).post z in let Run : List Val → SProp 𝓤 = λ ws. WpFn 𝓤 H 𝓣.C 𝓣.Λ fn ws Post in let some : Option (R.Denot) = Some d.value in
    qed 𝓛 ((raw (alive 𝓛 ended.signature z.0.0 z.0.1) ⊛ ‵ (owns (types_at ended.signature.params z.0.0) z.0.3 z.0.4)) ∷ ‵ ftrue ∷ []) ∵ split ! $ move ! (1 ∷ []) $ fsplit ! $
    -- [the loose box; nothing; the tokens; nothing]
    loose_out R Z LZ ghosts ! d z.0.4.0 (λ b o hv e ws fa. let w : Val = both (vptr b o) hv in let typed = loose_good R Z LZ ghosts b o hv fa in
    use1 𝓛 (given (Testable (block_ptr b o)) (‵ (boxed R a (block_ptr b o) d.value))) (tested 𝓛 R a (block_ptr b o) d.value) $ learn ! (λ testable.
    -- [the block; the allocator; nothing; the tokens; nothing]
    suffices ! (Run (w ∷ [])) (subst (λ (us : List Val). ent 𝓤 (Run (w ∷ [])) (Run us)) (sym (λ i. ws i ++ [])) (id⊢ 𝓤 (Run (w ∷ [])))) $
    enter ! 𝓣.C 𝓣.Λ fn (w ∷ []) Post $ alloc_all ! (λ l. pass_all ! refl (typed, tt) $
    sets ! (of_opd ! (get_in ! (fld ! refl (stop !)) (sub ! 0 refl (whole !)))) refl (tt, tt) $ sets ! (of_opd ! (get_in ! (fld ! refl (stop !)) (sub ! 1 refl (whole !)))) refl fa $ sets ! (of_opd ! (get ! refl)) refl (tt, tt) $
    sets ! (agg ! (and_then ! (get ! refl) (and_then ! (get ! refl) (no_more !)))) refl typed $
    held_some R a ! b o d.value testable $ handle_in ! (block_ptr b o) hv a some $
    use0 𝓛 (raw (fact 𝓤 (some ≡ some))) (fact_i 𝓤 (some ≡ some) (emp 𝓤) refl) $ nothing ! $ nothing ! $ fjoin ! $
    returns ! (look_at ! 0 refl) $ free_all ! refl $ keep ! (4 ∷ 0 ∷ 2 ∷ 1 ∷ []) $
    by ! (leaves 𝓛 ended hs c z w (record { at = block_ptr b o; alloc = a; value = some }) (tt, tt) (tt, tt))))))
