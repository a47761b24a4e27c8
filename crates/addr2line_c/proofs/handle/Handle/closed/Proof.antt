-- `closed` makes a handle at null, which owns nothing.
use Rattle.addr2line_c.proofs.Common.{◌≡◌, List, [], ◌∷◌, ◌++◌, refl, sym, subst, impl, tnil, dnil, Val, SProp, ent, emp, id⊢, ftrue, WpFn, ‵, raw, ◌⊛◌, ◌$◌, ◌∵◌, !, qed, by, move, keep, split, fsplit, fjoin, suffices, use0, lit, no_more, and_then, returns, enter, alloc_all, pass_all, free_all, look_at, get, sets, agg, fact, fact_i, tables, RattleType, owns, types_at, plain, null_ptr, ptr_val, nothing, Stays, stay_dropped, walk_of, Al, Goes-blank, handle_tells, proved_at, leaves}
use denote.Triple.Entry.{alive}
use Rattle.std.specs.contracts.alloc.Global as heap
use Rattle.std.proofs.alloc.Global.TheLaws as heap_laws
use Rattle.std.specs.contracts.impls.GlobalAllocator.TheImpl.{ghosts}
use Rattle.std.specs.declared.option.Option.{Option}
use Rattle.std.specs.declared.option.Option.TheVariants.{None}
use Rattle.addr2line_c.proofs.Values.{both}
use Rattle.addr2line_c.proofs.Handles.{handle_in, held_none, null_good}
use Rattle.addr2line_c.specs.contracts.file.OpenFile as elem
use Rattle.addr2line_c.specs.contracts.handle.Handle.closed.{ended, clauses}
use Rattle.addr2line_c.specs.contracts.handle.Handle.closed.Key.{name as #self}
use Rattle.addr2line_c.proofs.handle.Handle.closed.Statement.{statement}
use Rattle.addr2line_c.proofs.handle.Handle.closed.Code as code

pub closed_spec : {M : Type 1} → statement M
closed_spec 𝓤 𝓛 𝓜 𝓡 wired =
    let H = 𝓛.H in let 𝓣 = tables 𝓤 H 𝓜 𝓡 𝓡.env in let R : RattleType = elem.the_row in let Z : RattleType = heap.the_row in let LZ = heap_laws.the_row_laws in let c = clauses 𝓛 𝓜.mem 𝓡.returns in let fn = code.function in
    let al : Al = record { row = Z; laws = LZ; g = ghosts; d = impl [] tnil dnil; drops = impl [] tnil dnil } in
    let hs : Stays ended.signature.params ended.kept = (stay_dropped (plain (λ _. Z)) ended.kept.0, tt) in
    proved_at 𝓛 ended hs c 𝓜 𝓡 (Goes-blank 𝓛 0 (plain (λ _. Z)) ended.kept.0 (λ κs x f. tt), tt) #self fn (code.unfolded 𝓤 H 𝓜 𝓡 wired) (λ z are.
    let a = z.0.3.0 in let none : Option (R.Denot) = None in let Post : Val → SProp 𝓤 = (walk_of 𝓛 ended hs c).post z in let Run : List Val → SProp 𝓤 = λ ws. WpFn 𝓤 H 𝓣.C 𝓣.Λ fn ws Post in
    qed 𝓛 ((raw (alive 𝓛 ended.signature z.0.0 z.0.1) ⊛ ‵ (owns (types_at ended.signature.params z.0.0) z.0.3 z.0.4)) ∷ ‵ ftrue ∷ []) ∵ split ! $ move ! (1 ∷ []) $ fsplit ! $
    -- [the allocator; nothing; the tokens; nothing]
    handle_tells al ! a z.0.4.0 (λ hv ea fa. let w : Val = both (ptr_val null_ptr) hv in
    suffices ! (Run (hv ∷ [])) (subst (λ (ws : List Val). ent 𝓤 (Run (hv ∷ [])) (Run ws)) (sym (λ i. ea i ++ [])) (id⊢ 𝓤 (Run (hv ∷ [])))) $
    enter ! 𝓣.C 𝓣.Λ fn (hv ∷ []) Post $ alloc_all ! (λ l. pass_all ! refl (fa, tt) $
    sets ! (agg ! (and_then ! (lit ! tt) (and_then ! (get ! refl) (no_more !)))) refl (null_good hv fa) $
    held_none R a ! $ handle_in ! null_ptr hv a none $
    use0 𝓛 (raw (fact 𝓤 (none ≡ none))) (fact_i 𝓤 (none ≡ none) (emp 𝓤) refl) $ nothing ! $ nothing ! $ fjoin ! $
    returns ! (look_at ! 0 refl) $ free_all ! refl $ keep ! (4 ∷ 0 ∷ 2 ∷ 1 ∷ []) $
    by ! (leaves 𝓛 ended hs c z w (record { at = null_ptr; alloc = a; value = none }) (tt, tt) (tt, tt)))))
