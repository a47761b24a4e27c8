use Rattle.addr2line.proofs.Common.{is_some, err_from_is_err_and, as_read}
use Rattle.addr2line.proofs.LoadedLemmas.{loaded_by, loaded_fault, loader_made}
use Rattle.addr2line.proofs.Facts.{if_some_both}
use Rattle.addr2line.proofs.loader.LoaderOver.over_with.Goals as goal

pub returns-clause-made : goal.returns-clause-made
returns-clause-made g c = loader_made c.args.compressed (is_some c.args.sup_path) c.in_ok-object.object c.in_ok-object.ensures.made c.read_dwarf-dwarf.result c.read_dwarf-dwarf.ensures.made c.in_ok-context.context c.in_ok-context.ensures.gives

pub returns-clause-gives : goal.returns-clause-gives
returns-clause-gives g c =
    if_some_both (g.F.FileSource.files c.args.files) c.in_ok-object.ensures.gives c.read_dwarf-dwarf.ensures.gives
    (λ held p q. loaded_by (as_read c.args.compressed held) _ _ c.in_ok-object.object c.in_ok-context.context p (c.in_ok-context.ensures.gives _ q))

pub returns-in_err-context-clause-gives : goal.returns-in_err-context-clause-gives
returns-in_err-context-clause-gives g c =
    let p = err_from_is_err_and c.from_residual-in_err-context.result c.from_residual-in_err-context.ensures.1 in
    if_some_both (g.F.FileSource.files c.args.files) c.in_ok-object.ensures.gives c.read_dwarf-dwarf.ensures.gives
    (λ held is q. loaded_fault _ (as_read c.args.compressed held) _ _ c.in_ok-object.object _ p.0 _ p.1 p.2 is (c.in_err-context.ensures.gives _ q))
