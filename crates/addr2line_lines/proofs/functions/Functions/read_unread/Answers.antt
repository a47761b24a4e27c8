use Rattle.addr2line_lines.proofs.Common.{Ok, Err, slice_get, slice_set, ap, subst, refl, ◌∙◌, arith, sym, get_or_from_slice_get, slice_get_within, LazyFunction, detail_at, fault_of, FunctionTable, IsRefusedThen, as_details, as_scope, AreCachedFunctions}
use Rattle.addr2line_lines.specs.declared.functions.LazyDetail.TheVariants.{Read, Faulty}
use Rattle.addr2line_lines.specs.FunctionDetails.{IsReadAt, read_once}
use Rattle.addr2line_lines.proofs.ReadLemmas.{read_fault}
use Rattle.addr2line_lines.proofs.FunctionCacheLemmas.{fault_cached, nothing_cached, read_cached, reads, table_fault, table_of, table_read, unread_at}
use Rattle.addr2line_lines.proofs.functions.Functions.read_unread.Goals as goal

pub invariant_of-self : goal.invariant_of-self
invariant_of-self g c =
    let fs = c.self.inside.functions.items in
    let cached = as_details g.R.Reader.section c.self.inside.details in
    let more = as_details g.R.Reader.section c.read.new.self in
    let n = c.args.place in
    let at = unread_at cached fs n c.args.offset.0 (ap (λ (t : FunctionTable). slice_get t.functions n) c.self.view_is ∙ c.requires.unread) in
    let y : LazyFunction = record { dw_die_offset = c.index_mut.result.now.dw_die_offset; detail = Read c.in-Ok.detail } in
    let entry = ap (λ (x : LazyFunction). x.dw_die_offset) (c.index_mut.ensures.value ∙ get_or_from_slice_get fs n at.0 c.index_mut.result.now at.1) in
    read_cached fs n at.0 y at.1 entry c.self.inside.addresses cached more c.self.invariant at.3 c.read.ensures.kept c.in-Ok.detail refl c.in-Ok.ensures.within c.in-Ok.ensures.after

pub index_mut-requires-in_default : goal.index_mut-requires-in_default
index_mut-requires-in_default g c =
    let fs = c.self.inside.functions.items in
    let cached = as_details g.R.Reader.section c.self.inside.details in
    let n = c.args.place in
    let at = unread_at cached fs n c.args.offset.0 (ap (λ (t : FunctionTable). slice_get t.functions n) c.self.view_is ∙ c.requires.unread) in
    let l = slice_get_within fs n at.0 at.1 in
    let m = c.self.inside.functions.ok.0 in
    omega arith

pub invariant_of-self-in_default : goal.invariant_of-self-in_default
invariant_of-self-in_default g c =
    let fs = c.self.inside.functions.items in
    let cached = as_details g.R.Reader.section c.self.inside.details in
    let more = as_details g.R.Reader.section c.read.new.self in
    let n = c.args.place in
    let at = unread_at cached fs n c.args.offset.0 (ap (λ (t : FunctionTable). slice_get t.functions n) c.self.view_is ∙ c.requires.unread) in
    let y : LazyFunction = record { dw_die_offset = c.index_mut-in_default.result.now.dw_die_offset; detail = Faulty c.in-Err.error } in
    let entry = ap (λ (x : LazyFunction). x.dw_die_offset) (c.index_mut-in_default.ensures.value ∙ get_or_from_slice_get fs n at.0 c.index_mut-in_default.result.now at.1) in
    fault_cached fs n at.0 y at.1 entry c.self.inside.addresses cached more c.self.invariant at.3 c.read.ensures.kept c.in-Err.error refl c.in-Err.ensures.refused

pub returns-in-Ok : goal.returns-in-Ok
returns-in-Ok g c =
    let fs = c.self.inside.functions.items in
    let addresses = c.self.inside.addresses in
    let cached = as_details g.R.Reader.section c.self.inside.details in
    let more = as_details g.R.Reader.section c.read.new.self in
    let n = c.args.place in
    let scope = as_scope c.args.scope in
    let u = c.args.unit.now in
    let unread = ap (λ (t : FunctionTable). slice_get t.functions n) c.self.view_is ∙ c.requires.unread in
    let at = unread_at cached fs n c.args.offset.0 unread in
    let y : LazyFunction = record { dw_die_offset = c.index_mut.result.now.dw_die_offset; detail = Read c.in-Ok.detail } in
    let entry = ap (λ (x : LazyFunction). x.dw_die_offset) (c.index_mut.ensures.value ∙ get_or_from_slice_get fs n at.0 c.index_mut.result.now at.1) in
    let new = table_of (slice_set fs n y) addresses more in
    let with_detail = table_read fs n at.0 y at.1 entry addresses cached more c.self.invariant at.3 c.read.ensures.kept c.in-Ok.detail refl c.in-Ok.ensures.within c.in-Ok.ensures.after c.args.offset.0 (detail_at scope u c.args.offset.0) at.2 c.in-Ok.ensures.gives in
    record {
      after = subst (λ (t : FunctionTable). IsReadAt scope u n t (Ok tt) new) c.self.view_is
          (reads scope u n c.args.offset.0 (table_of fs addresses cached) new (Ok tt) unread (ap fault_of c.in-Ok.ensures.gives, with_detail));
      gives = ap (read_fault scope u) c.requires.unread ∙ ap fault_of c.in-Ok.ensures.gives;
    }

pub returns-in_default : goal.returns-in_default
returns-in_default g c =
    let fs = c.self.inside.functions.items in
    let addresses = c.self.inside.addresses in
    let cached = as_details g.R.Reader.section c.self.inside.details in
    let more = as_details g.R.Reader.section c.read.new.self in
    let n = c.args.place in
    let scope = as_scope c.args.scope in
    let u = c.args.unit.now in
    let e = c.in-Err.error in
    let unread = ap (λ (t : FunctionTable). slice_get t.functions n) c.self.view_is ∙ c.requires.unread in
    let at = unread_at cached fs n c.args.offset.0 unread in
    let y : LazyFunction = record { dw_die_offset = c.index_mut-in_default.result.now.dw_die_offset; detail = Faulty e } in
    let entry = ap (λ (x : LazyFunction). x.dw_die_offset) (c.index_mut-in_default.ensures.value ∙ get_or_from_slice_get fs n at.0 c.index_mut-in_default.result.now at.1) in
    let faulty = c.in-Err.ensures.gives (λ t. c.in_default.not-OutOfMemory) in
    let with_fault = table_fault fs n at.0 y at.1 entry addresses cached more c.self.invariant at.3 c.read.ensures.kept e refl c.in-Err.ensures.refused c.args.offset.0 (detail_at scope u c.args.offset.0) at.2 faulty in
    record {
      after = subst (λ (t : FunctionTable). IsReadAt scope u n t (Err e) (table_of (slice_set fs n y) addresses more)) c.self.view_is
          (reads scope u n c.args.offset.0 (table_of fs addresses cached) (table_of (slice_set fs n y) addresses more) (Err e) unread
          (λ ne. (ap fault_of faulty, with_fault), λ oom. absurd (c.in_default.not-OutOfMemory oom)));
      gives = λ t. ap (read_fault scope u) c.requires.unread ∙ ap fault_of faulty;
    }

pub returns-in-OutOfMemory-clause-gives : goal.returns-in-OutOfMemory-clause-gives
returns-in-OutOfMemory-clause-gives g c =
    let scope = as_scope c.args.scope in
    let u = c.args.unit.now in
    λ h. ap (read_fault scope u) c.requires.unread ∙ ap fault_of (c.in-Err.ensures.gives (λ t. h (ap (λ o. (read_once scope u o).takes_memory g.R.Reader.shares) c.requires.unread ∙ t)))

pub returns-in-OutOfMemory-clause-after : goal.returns-in-OutOfMemory-clause-after
returns-in-OutOfMemory-clause-after g c =
    let addresses = c.self.inside.addresses in
    let fs = c.self.inside.functions.items in
    let cached = as_details g.R.Reader.section c.self.inside.details in
    let more = as_details g.R.Reader.section c.read.new.self in
    let n = c.args.place in
    let scope = as_scope c.args.scope in
    let unread = ap (λ (t : FunctionTable). slice_get t.functions n) c.self.view_is ∙ c.requires.unread in
    subst (λ (t : FunctionTable). IsReadAt scope c.args.unit.now n t (Err c.in-Err.error) (table_of fs addresses more)) c.self.view_is
    (reads scope c.args.unit.now n c.args.offset.0 (table_of fs addresses cached) (table_of fs addresses more) (Err c.in-Err.error) unread
    (λ ne. absurd (ne c.in-OutOfMemory.is), λ oom. ap (table_of fs addresses) (nothing_cached cached more (subst (IsRefusedThen cached more) oom c.in-Err.ensures.refused))))

pub invariant_of-self-in-OutOfMemory : goal.invariant_of-self-in-OutOfMemory
invariant_of-self-in-OutOfMemory g c =
    let cached = as_details g.R.Reader.section c.self.inside.details in
    let more = as_details g.R.Reader.section c.read.new.self in
    subst (AreCachedFunctions c.self.inside.functions.items c.self.inside.addresses)
    (sym (nothing_cached cached more (subst (IsRefusedThen cached more) c.in-OutOfMemory.is c.in-Err.ensures.refused))) c.self.invariant

pub index_mut-requires : goal.index_mut-requires
index_mut-requires g c =
    let fs = c.self.inside.functions.items in
    let cached = as_details g.R.Reader.section c.self.inside.details in
    let n = c.args.place in
    let at = unread_at cached fs n c.args.offset.0 (ap (λ (t : FunctionTable). slice_get t.functions n) c.self.view_is ∙ c.requires.unread) in
    let l = slice_get_within fs n at.0 at.1 in
    let m = c.self.inside.functions.ok.0 in
    omega arith

pub read-requires-clause-unit : goal.read-requires-clause-unit
read-requires-clause-unit g c = ap (λ (t : FunctionTable). t.names.unit) c.self.view_is ∙ c.requires.unit
