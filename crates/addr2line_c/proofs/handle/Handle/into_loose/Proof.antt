-- `into_loose` reads the pointer, and has the box where it isn't null.
use Rattle.addr2line_c.proofs.Common.{◌≡◌, List, [], ◌∷◌, ◌++◌, refl, sym, ap, ◌∙◌, subst, lit<, impl, tnil, dnil, Val, vptr, vstruct, of_list, vcons, vnil, SProp, ent, emp, id⊢, ftrue, WpFn, ‵, raw, ◌⊛◌, at_ret, ◌$◌, ◌∵◌, !, qed, by, move, keep, split, fsplit, fjoin, fpick, suffices, use0, use1, feq_l, stop, fld, lit, of_opd, bin, no_more, and_then, first, branches, exec, returns, enter, alloc_all, pass_all, free_all, look_at, get, get_in, sets, sets_last, env, agg, sub, whole, fact, fact_i, tables, RattleType, owns, types_at, type_at, plain, Ptr, block_ptr, null_ptr, ptr_val, tests_null, nothing, layout, Stays, stay_dropped, walk_of, Al, Goes-blank, handle_tells, Good, proved_at, leaves}
use types.Kit.{drop}
use types.Match.{live}
use denote.Triple.Entry.{alive}
use Rattle.core.proofs.alloc.Shapes.{after}
use Rattle.core.proofs.atomic.Steps.{Ptr-Good}
use Rattle.core.proofs.option.Made.{Some-of, none_of}
use Rattle.std.specs.contracts.alloc.Global as heap
use Rattle.std.proofs.alloc.Global.TheLaws as heap_laws
use Rattle.std.specs.contracts.impls.GlobalAllocator.TheImpl.{ghosts}
use Rattle.std.specs.declared.option.Option.TheVariants.{None, Some}
use Rattle.std_alloc.proofs.ResultValues.{and_tt}
use Rattle.addr2line_c.proofs.Values.{both, Loose, loose_good, loose_in}
use Rattle.addr2line_c.proofs.Handles.{either_held, null_good}
use Rattle.addr2line_c.specs.contracts.file.OpenFile as elem
use Rattle.addr2line_c.specs.contracts.handle.Handle as owner
use Rattle.addr2line_c.specs.contracts.handle.Handle.into_loose.{ended, clauses}
use Rattle.addr2line_c.specs.contracts.handle.Handle.into_loose.Key.{name as #self}
use Rattle.addr2line_c.proofs.handle.Handle.into_loose.Statement.{statement}
use Rattle.addr2line_c.proofs.handle.Handle.into_loose.Code as code

pub into_loose_spec : {M : Type 1} → statement M
into_loose_spec 𝓤 𝓛 𝓜 𝓡 wired =
    let H = 𝓛.H in let 𝓣 = tables 𝓤 H 𝓜 𝓡 𝓡.env in let R : RattleType = elem.the_row in let Z : RattleType = heap.the_row in let LZ = heap_laws.the_row_laws in let c = clauses 𝓛 𝓜.mem 𝓡.returns in let fn = code.function in
    let al : Al = record { row = Z; laws = LZ; g = ghosts; d = impl [] tnil dnil; drops = impl [] tnil dnil } in let Lr : RattleType = Loose R Z LZ ghosts in
    let hs : Stays ended.signature.params ended.kept = (stay_dropped (plain (λ _. owner.the_row)) ended.kept.0, tt) in
    proved_at 𝓛 ended hs c 𝓜 𝓡 (Goes-blank 𝓛 0 (plain (λ _. owner.the_row)) ended.kept.0 (λ κs x f. tt), tt) #self fn (code.unfolded 𝓤 H 𝓜 𝓡 wired) (λ z are.
    let v = z.0.3.0 in let a = v.alloc in let Post : Val → SProp 𝓤 = (walk_of 𝓛 ended hs c).post z in let Run : List Val → SProp 𝓤 = λ ws. WpFn 𝓤 H 𝓣.C 𝓣.Λ fn ws Post in let Out : RattleType = type_at ended.signature.result z.0.0 in
    qed 𝓛 ((raw (alive 𝓛 ended.signature z.0.0 z.0.1) ⊛ ‵ (owns (types_at ended.signature.params z.0.0) z.0.3 z.0.4)) ∷ ‵ ftrue ∷ []) ∵ split ! $ move ! (1 ∷ []) $ fsplit ! $
    -- [the handle; nothing; the tokens; nothing]
    fsplit ! $ fpick ! (λ vss. fsplit ! $ feq_l ! (λ ev. fsplit ! $ feq_l ! (λ ep. fsplit ! $ handle_tells al ! a vss.1.0 (λ hv ea fa. move ! (1 ∷ []) $ drop ! $ move ! (1 ∷ []) $
    let is : (p : Ptr) → v.at ≡ p → z.0.4.0 ≡ both (ptr_val p) hv ∷ [] = λ p e. ev ∙ (λ j. vstruct (of_list ((ep ∙ ap (λ (q : Ptr). ptr_val q ∷ []) e) j ++ (ea j ++ []))) ∷ []) in
    either_held R a ! v.at v.value
    (λ closed none. let w : Val = both (ptr_val null_ptr) hv in
    -- [the allocator; nothing; the tokens; nothing]
    suffices ! (Run (w ∷ [])) (subst (λ (ws : List Val). ent 𝓤 (Run (w ∷ [])) (Run ws)) (sym (λ i. is null_ptr closed i ++ [])) (id⊢ 𝓤 (Run (w ∷ [])))) $
    enter ! 𝓣.C 𝓣.Λ fn (w ∷ []) Post $ alloc_all ! (λ l. pass_all ! refl (null_good hv fa, tt) $ let Ev = env fn.locals l in
    sets ! (of_opd ! (get_in ! (fld ! refl (stop !)) (sub ! 0 refl (whole !)))) refl (Ptr-Good null_ptr) $ sets ! (of_opd ! (get_in ! (fld ! refl (stop !)) (sub ! 1 refl (whole !)))) refl fa $
    sets ! (bin ! (get ! refl) (lit ! tt) tt) refl (tt, tt) $ first ! $ branches ! (get ! refl)
    (λ _. sets_last ! (agg ! (and_then ! (lit ! tt) (no_more !))) refl (tt, (record { fits = lit< tt }, tt)) $ exec ! 𝓣.C 𝓣.Λ Ev (after 4 fn.body) (at_ret Ev Post) $ sets ! (of_opd ! (get ! refl)) refl (tt, (record { fits = lit< tt }, tt)) $
    use0 𝓛 (‵ (Out.own_val None (live 0 vnil ∷ []))) (none_of 𝓛 Lr) $
    use0 𝓛 (raw (fact 𝓤 (None ≡ v.value))) (fact_i 𝓤 (None ≡ v.value) (emp 𝓤) (sym none)) $ nothing ! $ nothing ! $ fjoin ! $
    returns ! (look_at ! 0 refl) $ free_all ! refl $ keep ! (5 ∷ 0 ∷ 2 ∷ 1 ∷ []) $ by ! (leaves 𝓛 ended hs c z (live 0 vnil) None (tt, tt) (tt, tt))) (λ wrong. absurd wrong)))
    (λ b o x is_block some t. let made : Val = both (vptr b o) hv in let typed = loose_good R Z LZ ghosts b o hv fa in let v₁ : Val = live 1 (vcons made vnil) in let d : Lr.Denot = record { at = block_ptr b o; alloc = a; value = x } in
    let good : Good (layout Out) v₁ = (and_tt _ typed.0, (record { fits = lit< tt }, (typed.1, tt))) in
    -- [the block; the allocator; nothing; the tokens; nothing]
    suffices ! (Run (made ∷ [])) (subst (λ (ws : List Val). ent 𝓤 (Run (made ∷ [])) (Run ws)) (sym (λ i. is (block_ptr b o) is_block i ++ [])) (id⊢ 𝓤 (Run (made ∷ [])))) $
    enter ! 𝓣.C 𝓣.Λ fn (made ∷ []) Post $ alloc_all ! (λ l. pass_all ! refl (typed, tt) $ let Ev = env fn.locals l in
    sets ! (of_opd ! (get_in ! (fld ! refl (stop !)) (sub ! 0 refl (whole !)))) refl (tt, tt) $ sets ! (of_opd ! (get_in ! (fld ! refl (stop !)) (sub ! 1 refl (whole !)))) refl fa $
    sets ! (bin ! (get ! refl) (lit ! tt) (tests_null (block_ptr b o) t)) refl (tt, tt) $ first ! $ branches ! (get ! refl) (λ wrong. absurd wrong) (λ _.
    sets ! (of_opd ! (get ! refl)) refl (tt, tt) $ sets ! (agg ! (and_then ! (get ! refl) (and_then ! (get ! refl) (no_more !)))) refl typed $ sets_last ! (agg ! (and_then ! (lit ! tt) (and_then ! (get ! refl) (no_more !)))) refl good $
    exec ! 𝓣.C 𝓣.Λ Ev (after 4 fn.body) (at_ret Ev Post) $ sets ! (of_opd ! (get ! refl)) refl good $ loose_in R Z LZ ghosts ! b o hv a x $
    use1 𝓛 (‵ (Out.own_val (Some d) (v₁ ∷ []))) (Some-of 𝓛 Lr d made) $
    use0 𝓛 (raw (fact 𝓤 (Some x ≡ v.value))) (fact_i 𝓤 (Some x ≡ v.value) (emp 𝓤) (sym some)) $ nothing ! $ nothing ! $ fjoin ! $
    returns ! (look_at ! 0 refl) $ free_all ! refl $ keep ! (4 ∷ 0 ∷ 2 ∷ 1 ∷ []) $ by ! (leaves 𝓛 ended hs c z v₁ (Some d) (tt, tt) (tt, tt))))))))))
