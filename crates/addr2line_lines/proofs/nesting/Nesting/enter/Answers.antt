use Rattle.addr2line_lines.proofs.Common.{arith, count_by-le-length}
use Rattle.addr2line_lines.specs.OpenEntries.{is_inlined_kind, is_subprogram_kind}
use Rattle.addr2line_lines.proofs.NestingLemmas.{opened_more}
use Rattle.addr2line_lines.proofs.nesting.Nesting.enter.Goals as goal

pub overflow_add-self : goal.overflow_add-self
overflow_add-self c = let n = c.self.inside.kinds.ok.0 in let i = c.self.invariant.subprograms_is in let m = count_by-le-length is_subprogram_kind c.self.inside.kinds.items in omega arith

pub overflow_add-self-in-Inlined : goal.overflow_add-self-in-Inlined
overflow_add-self-in-Inlined c = let n = c.self.inside.kinds.ok.0 in let i = c.self.invariant.inlined_is in let m = count_by-le-length is_inlined_kind c.self.inside.kinds.items in omega arith

pub returns-in-Other-clause-gives : goal.returns-in-Other-clause-gives
returns-in-Other-clause-gives c = opened_more c.self.inside.kinds.items c.push.new.self.items c.args.kind c.args.has_children c.args.self.now c.if-not-has_children.false c.in_ok-push.ensures.items c.self.view_is

pub returns-in-Inlined-clause-gives : goal.returns-in-Inlined-clause-gives
returns-in-Inlined-clause-gives c = opened_more c.self.inside.kinds.items c.push.new.self.items c.args.kind c.args.has_children c.args.self.now c.if-not-has_children.false c.in_ok-push.ensures.items c.self.view_is

pub returns-in-Subprogram-clause-gives : goal.returns-in-Subprogram-clause-gives
returns-in-Subprogram-clause-gives c = opened_more c.self.inside.kinds.items c.push.new.self.items c.args.kind c.args.has_children c.args.self.now c.if-not-has_children.false c.in_ok-push.ensures.items c.self.view_is
