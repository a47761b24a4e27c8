use Rattle.addr2line.proofs.Common.{ap, subst, sym, ◌∙◌, ExactlyUnlessOom, cover, AllAskFor, AreReadyForAll, ParsesOnly, TakeNoneForAll, UnitsState, as_context}
use Rattle.std.specs.Prelude.{is_ok}
use Rattle.addr2line_units.proofs.UnitsLinesLemmas.{none_more_for_all}
use Rattle.addr2line.proofs.ContextLemmas.{along_ok, at_lines, at_made, exactly_told, lines_are, lines_context, lines_stay, location_is, of_lines, of_made, ready_if_ok, when_ok}
use Rattle.addr2line.proofs.context.Context.parse_lines.Goals as goal

pub invariant_of-self : goal.invariant_of-self
invariant_of-self g c =
    let s = c.self.inside in
    lines_context s.ranges s.units c.self.invariant _ c.parse_lines.new.self c.parse_lines.ensures.after.lines

pub returns-clause-gives : goal.returns-clause-gives
returns-clause-gives g c =
    let s = c.self.inside in
    rw (sym c.self.view_is) (subst (ExactlyUnlessOom (λ x. x) c.parse_lines.result) (sym (lines_are s.ranges s.units c.self.invariant)) c.parse_lines.ensures.gives)

pub returns-clause-after : goal.returns-clause-after
returns-clause-after g c =
    let s = c.self.inside in
    let i = c.self.invariant in
    let a = c.parse_lines.ensures.after in
    let now = c.parse_lines.new.self in
    let shares = g.R.Reader.shares in
    let same = ap (λ (x : UnitsState). x.scope.file.sections) a.lines.same in
    let gives = subst (ExactlyUnlessOom (λ x. x) c.parse_lines.result) (sym (lines_are s.ranges s.units i)) c.parse_lines.ensures.gives in
    rw (sym c.self.view_is) (record {
      stays = lines_stay s.ranges s.units i _ now a.lines;
      steps = a.steps;
      only = of_made s.ranges s.units i (λ x xs rs. ParsesOnly (AllAskFor x.file.sections xs) s.units.parsed now.parsed) a.lines.only;
      same = λ ready. a.lines.kept (at_made s.ranges s.units i (λ x xs rs. AreReadyForAll x.file.sections xs s.units.parsed) ready);
      ready = λ told. of_lines s.ranges s.units i _ now a.lines (λ x xs rs. AreReadyForAll x.file.sections xs now.parsed) (a.ready told);
      memory = λ none. a.memory (at_lines s.ranges s.units i _ now a.lines (λ x xs rs. TakeNoneForAll shares x.file.sections xs now.parsed) none);
      exact = λ none. exactly_told (λ x. x) c.parse_lines.result _ gives
          (a.memory (none_more_for_all shares s.units.units s.units.scope.file.sections s.units.parsed now.parsed a.lines.parsed
          (at_made s.ranges s.units i (λ x xs rs. TakeNoneForAll shares x.file.sections xs s.units.parsed) none)));
      parsed = a.parsed;
      reads = ready_if_ok _ (as_context now) a.parsed;
      found = when_ok _ _ c.parse_lines.ensures.gives (λ read probe. rw same (ap is_ok (location_is s.ranges s.units i probe) ∙ along_ok s.units.scope.file.sections s.units.units probe (cover probe s.ranges) read));
    })
