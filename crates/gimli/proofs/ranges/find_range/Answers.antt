use Rattle.gimli.proofs.Common.{sym, ◌∙◌, err_from_is_err_and, shorter_by}
use Rattle.gimli.specs.RangeListEntries.{range_list_entry_at}
use Rattle.gimli.proofs.RangeLemmas.{entry_takes, from_end, from_fault, from_none, from_range, from_index}
use Rattle.gimli.proofs.ranges.find_range.Goals as goal

pub returns-in_err-entry : goal.returns-in_err-entry
returns-in_err-entry g c =
    let p = err_from_is_err_and c.from_residual.result c.from_residual.ensures.1 in
    let read = rw c.encoding-encoding.ensures.gives at c.in_err-entry.ensures.gives in
    rw (p.1, p.2) (record { gives = sym c.loop-entry.invariant ∙ from_fault _ _ _ _ _ read })

pub returns-in_err-range : goal.returns-in_err-range
returns-in_err-range g c =
    let p = err_from_is_err_and c.from_residual-in_err-range.result c.from_residual-in_err-range.ensures.1 in
    let read = rw (c.in-Some.is, c.encoding-encoding.ensures.gives) at c.in_ok-entry.ensures.gives in
    rw (p.1, p.2) (record { gives = sym c.loop-entry.invariant ∙ from_index _ _ _ _ _ _ _ read c.in_err-range.ensures.gives })

pub returns-in-Some-2 : goal.returns-in-Some-2
returns-in-Some-2 g c =
    let read = rw (c.in-Some.is, c.encoding-encoding.ensures.gives) at c.in_ok-entry.ensures.gives in
    let found = rw c.in-Some-2.is at c.in_ok-range.ensures.gives in
    record { gives = sym c.loop-entry.invariant ∙ from_range _ _ _ _ _ _ _ _ read found }

pub loop-entry-smaller : goal.loop-entry-smaller
loop-entry-smaller g c =
    let read = rw c.in-Some.is at c.in_ok-entry.ensures.gives in
    shorter_by (range_list_entry_at c.encoding-encoding.result) (entry_takes c.encoding-encoding.result) _ _ _ read

pub loop-entry-preserved : goal.loop-entry-preserved
loop-entry-preserved g c =
    let read = rw (c.in-Some.is, c.encoding-encoding.ensures.gives) at c.in_ok-entry.ensures.gives in
    let found = rw c.in_default-2.is at c.in_ok-range.ensures.gives in
    sym (from_none _ _ _ _ _ _ _ read found) ∙ c.loop-entry.invariant

pub returns : goal.returns
returns g c =
    let read = rw (c.in_default.is, c.encoding-encoding.ensures.gives) at c.in_ok-entry.ensures.gives in
    record { gives = sym c.loop-entry.invariant ∙ from_end _ _ _ _ _ read }
