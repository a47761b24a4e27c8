use Rattle.gimli.proofs.Common.{err_from_is_err_and}
use Rattle.gimli.proofs.AskedLemmas.{asked_more, asked_stop, asked_all}
use Rattle.gimli.proofs.dwarf.SupDwarf.load.Goals as goal

pub returns-in_err-f : goal.returns-in_err-f
returns-in_err-f g c =
    let p = err_from_is_err_and c.from_residual.result c.from_residual.ensures.1 in
    rw (p.1, p.2) (record { gives = asked_stop _ _ _ c.f.new.self _ _ _ _ c.f.ensures c.in_err-f.was })

pub returns-in_err-f-2 : goal.returns-in_err-f-2
returns-in_err-f-2 g c =
    let p = err_from_is_err_and c.from_residual-in_err-f-2.result c.from_residual-in_err-f-2.ensures.1 in
    rw (p.1, p.2) (record { gives = asked_more _ _ _ c.f.new.self _ _ _ _ _ c.f.ensures c.in_ok-f.was (asked_stop _ _ _ c.f-2.new.self _ _ _ _ c.f-2.ensures c.in_err-f-2.was) })

pub returns-in_err-f-3 : goal.returns-in_err-f-3
returns-in_err-f-3 g c =
    let p = err_from_is_err_and c.from_residual-in_err-f-3.result c.from_residual-in_err-f-3.ensures.1 in
    rw (p.1, p.2) (record { gives = asked_more _ _ _ c.f.new.self _ _ _ _ _ c.f.ensures c.in_ok-f.was (asked_more _ _ _ c.f-2.new.self _ _ _ _ _ c.f-2.ensures c.in_ok-f-2.was (asked_stop _ _ _ c.f-3.new.self _ _ _ _ c.f-3.ensures c.in_err-f-3.was)) })

pub returns-in_err-f-4 : goal.returns-in_err-f-4
returns-in_err-f-4 g c =
    let p = err_from_is_err_and c.from_residual-in_err-f-4.result c.from_residual-in_err-f-4.ensures.1 in
    rw (p.1, p.2) (record { gives = asked_more _ _ _ c.f.new.self _ _ _ _ _ c.f.ensures c.in_ok-f.was (asked_more _ _ _ c.f-2.new.self _ _ _ _ _ c.f-2.ensures c.in_ok-f-2.was (asked_more _ _ _ c.f-3.new.self _ _ _ _ _ c.f-3.ensures c.in_ok-f-3.was (asked_stop _ _ _ c.f-4.new.self _ _ _ _ c.f-4.ensures c.in_err-f-4.was))) })

pub returns-in_err-f-5 : goal.returns-in_err-f-5
returns-in_err-f-5 g c =
    let p = err_from_is_err_and c.from_residual-in_err-f-5.result c.from_residual-in_err-f-5.ensures.1 in
    rw (p.1, p.2) (record { gives = asked_more _ _ _ c.f.new.self _ _ _ _ _ c.f.ensures c.in_ok-f.was (asked_more _ _ _ c.f-2.new.self _ _ _ _ _ c.f-2.ensures c.in_ok-f-2.was (asked_more _ _ _ c.f-3.new.self _ _ _ _ _ c.f-3.ensures c.in_ok-f-3.was (asked_more _ _ _ c.f-4.new.self _ _ _ _ _ c.f-4.ensures c.in_ok-f-4.was (asked_stop _ _ _ c.f-5.new.self _ _ _ _ c.f-5.ensures c.in_err-f-5.was)))) })

pub returns-in_err-f-6 : goal.returns-in_err-f-6
returns-in_err-f-6 g c =
    let p = err_from_is_err_and c.from_residual-in_err-f-6.result c.from_residual-in_err-f-6.ensures.1 in
    rw (p.1, p.2) (record { gives = asked_more _ _ _ c.f.new.self _ _ _ _ _ c.f.ensures c.in_ok-f.was (asked_more _ _ _ c.f-2.new.self _ _ _ _ _ c.f-2.ensures c.in_ok-f-2.was (asked_more _ _ _ c.f-3.new.self _ _ _ _ _ c.f-3.ensures c.in_ok-f-3.was (asked_more _ _ _ c.f-4.new.self _ _ _ _ _ c.f-4.ensures c.in_ok-f-4.was (asked_more _ _ _ c.f-5.new.self _ _ _ _ _ c.f-5.ensures c.in_ok-f-5.was (asked_stop _ _ _ c.f-6.new.self _ _ _ _ c.f-6.ensures c.in_err-f-6.was))))) })

pub returns-in_err-f-7 : goal.returns-in_err-f-7
returns-in_err-f-7 g c =
    let p = err_from_is_err_and c.from_residual-in_err-f-7.result c.from_residual-in_err-f-7.ensures.1 in
    rw (p.1, p.2) (record { gives = asked_more _ _ _ c.f.new.self _ _ _ _ _ c.f.ensures c.in_ok-f.was (asked_more _ _ _ c.f-2.new.self _ _ _ _ _ c.f-2.ensures c.in_ok-f-2.was (asked_more _ _ _ c.f-3.new.self _ _ _ _ _ c.f-3.ensures c.in_ok-f-3.was (asked_more _ _ _ c.f-4.new.self _ _ _ _ _ c.f-4.ensures c.in_ok-f-4.was (asked_more _ _ _ c.f-5.new.self _ _ _ _ _ c.f-5.ensures c.in_ok-f-5.was (asked_more _ _ _ c.f-6.new.self _ _ _ _ _ c.f-6.ensures c.in_ok-f-6.was (asked_stop _ _ _ c.f-7.new.self _ _ _ _ c.f-7.ensures c.in_err-f-7.was)))))) })

pub returns-in_err-f-8 : goal.returns-in_err-f-8
returns-in_err-f-8 g c =
    let p = err_from_is_err_and c.from_residual-in_err-f-8.result c.from_residual-in_err-f-8.ensures.1 in
    rw (p.1, p.2) (record { gives = asked_more _ _ _ c.f.new.self _ _ _ _ _ c.f.ensures c.in_ok-f.was (asked_more _ _ _ c.f-2.new.self _ _ _ _ _ c.f-2.ensures c.in_ok-f-2.was (asked_more _ _ _ c.f-3.new.self _ _ _ _ _ c.f-3.ensures c.in_ok-f-3.was (asked_more _ _ _ c.f-4.new.self _ _ _ _ _ c.f-4.ensures c.in_ok-f-4.was (asked_more _ _ _ c.f-5.new.self _ _ _ _ _ c.f-5.ensures c.in_ok-f-5.was (asked_more _ _ _ c.f-6.new.self _ _ _ _ _ c.f-6.ensures c.in_ok-f-6.was (asked_more _ _ _ c.f-7.new.self _ _ _ _ _ c.f-7.ensures c.in_ok-f-7.was (asked_stop _ _ _ c.f-8.new.self _ _ _ _ c.f-8.ensures c.in_err-f-8.was))))))) })

pub returns-in_err-f-9 : goal.returns-in_err-f-9
returns-in_err-f-9 g c =
    let p = err_from_is_err_and c.from_residual-in_err-f-9.result c.from_residual-in_err-f-9.ensures.1 in
    rw (p.1, p.2) (record { gives = asked_more _ _ _ c.f.new.self _ _ _ _ _ c.f.ensures c.in_ok-f.was (asked_more _ _ _ c.f-2.new.self _ _ _ _ _ c.f-2.ensures c.in_ok-f-2.was (asked_more _ _ _ c.f-3.new.self _ _ _ _ _ c.f-3.ensures c.in_ok-f-3.was (asked_more _ _ _ c.f-4.new.self _ _ _ _ _ c.f-4.ensures c.in_ok-f-4.was (asked_more _ _ _ c.f-5.new.self _ _ _ _ _ c.f-5.ensures c.in_ok-f-5.was (asked_more _ _ _ c.f-6.new.self _ _ _ _ _ c.f-6.ensures c.in_ok-f-6.was (asked_more _ _ _ c.f-7.new.self _ _ _ _ _ c.f-7.ensures c.in_ok-f-7.was (asked_more _ _ _ c.f-8.new.self _ _ _ _ _ c.f-8.ensures c.in_ok-f-8.was (asked_stop _ _ _ c.f-9.new.self _ _ _ _ c.f-9.ensures c.in_err-f-9.was)))))))) })

pub returns-in_err-f-10 : goal.returns-in_err-f-10
returns-in_err-f-10 g c =
    let p = err_from_is_err_and c.from_residual-in_err-f-10.result c.from_residual-in_err-f-10.ensures.1 in
    rw (p.1, p.2) (record { gives = asked_more _ _ _ c.f.new.self _ _ _ _ _ c.f.ensures c.in_ok-f.was (asked_more _ _ _ c.f-2.new.self _ _ _ _ _ c.f-2.ensures c.in_ok-f-2.was (asked_more _ _ _ c.f-3.new.self _ _ _ _ _ c.f-3.ensures c.in_ok-f-3.was (asked_more _ _ _ c.f-4.new.self _ _ _ _ _ c.f-4.ensures c.in_ok-f-4.was (asked_more _ _ _ c.f-5.new.self _ _ _ _ _ c.f-5.ensures c.in_ok-f-5.was (asked_more _ _ _ c.f-6.new.self _ _ _ _ _ c.f-6.ensures c.in_ok-f-6.was (asked_more _ _ _ c.f-7.new.self _ _ _ _ _ c.f-7.ensures c.in_ok-f-7.was (asked_more _ _ _ c.f-8.new.self _ _ _ _ _ c.f-8.ensures c.in_ok-f-8.was (asked_more _ _ _ c.f-9.new.self _ _ _ _ _ c.f-9.ensures c.in_ok-f-9.was (asked_stop _ _ _ c.f-10.new.self _ _ _ _ c.f-10.ensures c.in_err-f-10.was))))))))) })

pub returns : goal.returns
returns g c = rw (c.from.ensures, c.from-2.ensures, c.from-3.ensures, c.from-4.ensures, c.from-5.ensures, c.from-6.ensures, c.from-7.ensures, c.from-8.ensures, c.from-9.ensures, c.from-10.ensures) (record { gives = asked_more _ _ _ c.f.new.self _ _ _ _ _ c.f.ensures c.in_ok-f.was (asked_more _ _ _ c.f-2.new.self _ _ _ _ _ c.f-2.ensures c.in_ok-f-2.was (asked_more _ _ _ c.f-3.new.self _ _ _ _ _ c.f-3.ensures c.in_ok-f-3.was (asked_more _ _ _ c.f-4.new.self _ _ _ _ _ c.f-4.ensures c.in_ok-f-4.was (asked_more _ _ _ c.f-5.new.self _ _ _ _ _ c.f-5.ensures c.in_ok-f-5.was (asked_more _ _ _ c.f-6.new.self _ _ _ _ _ c.f-6.ensures c.in_ok-f-6.was (asked_more _ _ _ c.f-7.new.self _ _ _ _ _ c.f-7.ensures c.in_ok-f-7.was (asked_more _ _ _ c.f-8.new.self _ _ _ _ _ c.f-8.ensures c.in_ok-f-8.was (asked_more _ _ _ c.f-9.new.self _ _ _ _ _ c.f-9.ensures c.in_ok-f-9.was (asked_more _ _ _ c.f-10.new.self _ _ _ _ _ c.f-10.ensures c.in_ok-f-10.was (asked_all _ _ _)))))))))) })
