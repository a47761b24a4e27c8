use Rattle.addr2line_units.proofs.Common.{None, Ok, ◌∙◌, subst, ExactlyUnlessOom, read_of_view, verdict}
use Rattle.addr2line_units.proofs.EntriesOwnLemmas.{own_entries}
use Rattle.addr2line_units.proofs.LoadsAnswerLemmas.{keeps_answered}
use Rattle.addr2line_units.proofs.ParsesAfterLemmas.{unit_after}
use Rattle.addr2line_units.proofs.entries.UnitCache.read_functions.Goals as goal

pub returns : goal.returns
returns g c =
    let scope = c.args.sources.now in
    let u = c.args.dw_unit.now in
    let shares = g.R.Reader.shares in
    let old = c.args.self.now in
    let mid = c.answer.new.self in
    let after = c.in_ok-answer.ensures.after in
    let right = own_entries scope u old c.requires.unit c.is_own.ensures.known in
    let a = keeps_answered shares scope u None (Ok tt) old.entries mid.entries right after.entries in
    let r = c.read_in_view in
    let left = r.ensures.after in
    record {
      gives = subst (λ o. ExactlyUnlessOom (λ y. y) r.result (read_of_view c.args.depth scope (verdict scope.file.sections u o))) a.answer r.ensures.gives;
      after = record {
        unit = left.unit;
        lines = left.lines ∙ after.lines;
        entries = unit_after shares c.args.depth scope u old.entries mid.entries r.new.self.entries right a r.result left.entries;
      };
    }
