use Rattle.addr2line_c.proofs.Common.{◌∙◌, ap, refl, subst, sym, after_reply}
use Rattle.addr2line_units.specs.declared.parses.ReadingDepth.TheVariants.{Details}
use Rattle.addr2line_units.specs.Common.{IsUnlessOom}
use Rattle.addr2line.specs.Loads.{parse_reply}
use Rattle.addr2line_c.proofs.LoadCallLemmas.{parsed_takes_none, reads_nothing, warm_when_done}
use Rattle.addr2line_c.proofs.answers.parse_all.Goals as goal

pub returns-clause-ready : goal.returns-clause-ready
returns-clause-ready g c = λ done.
    let lines = c.parse_lines-lines in
    let functions = c.parse_inlined_functions-functions in
    warm_when_done lines.result functions.result c.args.context.now lines.new.self functions.new.self lines.ensures.gives lines.ensures.after.parsed
    lines.ensures.after.stays.sections functions.ensures.after.after.stays.sections functions.ensures.after.after.stays.parsed (functions.ensures.after.known refl) (functions.ensures.after.reached refl)
    (ap (after_reply lines.result) (sym c.after_reply.ensures.gives) ∙ sym c.after_reply-2.ensures.gives ∙ done)

pub returns-clause-gives : goal.returns-clause-gives
returns-clause-gives g c =
    let lines = c.parse_lines-lines in
    let functions = c.parse_inlined_functions-functions in
    let a = lines.ensures.after in
    record {
      lines = lines.result;
      functions = functions.result;
      status = c.after_reply-2.ensures.gives ∙ ap (after_reply lines.result) c.after_reply.ensures.gives;
      lines_are = lines.ensures.gives;
      functions_are = subst (λ d. IsUnlessOom functions.result (parse_reply Details d c.args.context.now.answers)) a.stays.sections
          (subst (λ x. IsUnlessOom functions.result (parse_reply Details lines.new.self.sections x)) a.stays.answers functions.ensures.gives);
      between = lines.new.self;
      after_lines = record {
        stays = a.stays;
        only = a.only;
        ready = a.ready;
        memory = λ ready. a.memory (parsed_takes_none g.R.Reader.shares lines.new.self ready);
      };
      after_functions = functions.ensures.after.after;
    }

pub returns-clause-exact : goal.returns-clause-exact
returns-clause-exact g c = λ parsed known.
    let lines = c.parse_lines-lines in
    let functions = c.parse_inlined_functions-functions in
    reads_nothing g.R.Reader.shares lines.result functions.result c.args.context.now lines.new.self functions.new.self c.after_reply-2.result lines.ensures.after functions.ensures.after.after
    (c.after_reply-2.ensures.gives ∙ ap (after_reply lines.result) c.after_reply.ensures.gives) parsed known
