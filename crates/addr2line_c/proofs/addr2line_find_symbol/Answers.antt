use Rattle.addr2line_c.proofs.Common.{rules, subst, SymbolAt, OpenFile}
use Rattle.addr2line_c.proofs.CallLemmas.{calls_open}
use Rattle.addr2line_c.proofs.addr2line_find_symbol.Goals as goal

pub returns : goal.returns
returns c =
    let says = SymbolAt c.args.address c.find_symbol-status.new.out c.find_symbol-status.new.buffer c.find_symbol-status.new.needed in
    record {
      gives = calls_open _ _ c.number-2.result _ says c.in-Some.file.value c.in-Some.file.value c.find_symbol-status.result
          (search rules) (search rules) (search rules)
          (subst (λ (f : OpenFile). says f f c.find_symbol-status.result) c.deref.ensures c.find_symbol-status.ensures.gives);
    }
