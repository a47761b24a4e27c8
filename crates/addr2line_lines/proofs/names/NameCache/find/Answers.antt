use Rattle.addr2line_lines.proofs.Common.{rules, ◌≡◌, Some, slice_get, subst, gets, as_cached_name}
use Rattle.addr2line_lines.proofs.CachedNameLemmas.{known_at, known_shared}
use Rattle.addr2line_lines.proofs.names.NameCache.find.Goals as goal

pub returns-then-eq : goal.returns-then-eq
returns-then-eq g c =
    let names = c.args.self.now.names.items in
    let n = c.in_ok-place.place.now in
    let x = c.in_ok-cached.cached.now in
    let there : slice_get c.deref-in-loop-step.result.now n ≡ Some x = search (rules, gets) in
    let same : (as_cached_name g.R.Reader.section x).offset ≡ c.args.offset = search rules in
    let known = known_at g.R.Reader.section names n x c.args.offset (subst (λ xs. slice_get xs n ≡ Some x) c.deref-in-loop-step.ensures.value there) same in
    record { found = known_shared g.R.Reader.section _ (as_cached_name g.R.Reader.section x).name c.share.result c.args.offset c.share.ensures.gives known }
