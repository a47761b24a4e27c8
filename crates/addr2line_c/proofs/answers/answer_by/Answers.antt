use Rattle.addr2line_c.proofs.Common.{rules, ◌≡◌, None, ap, option_map}
use Rattle.addr2line_units.specs.Loads.{token_number}
use Rattle.addr2line_c.proofs.LoadCallLemmas.{answers_none, loads_refused}
use Rattle.addr2line_c.proofs.answers.answer_by.Goals as goal

pub returns-in-Err : goal.returns-in-Err
returns-in-Err g c = record {
  gives = λ given told. c.answer_none.ensures.gives given (loads_refused _ c.args.read given c.in-Err.refusal (search rules) told);
  none = λ empty is. absurd cc;
}

pub returns-in-Ok-clause-none : goal.returns-in-Ok-clause-none
returns-in-Ok-clause-none g c = λ empty is.
    let gone : c.in-Ok.sections ≡ None = cc in
    answers_none g.R.Reader.shares c.args.has_file (option_map (λ d. d.value) c.in-Ok.sections) (token_number c.args.unit) c.status_of_found-status.result c.after_reply.result c.args.context.now c.load_unit.new.self c.load_unit.result
    empty (ap (option_map (λ d. d.value)) gone) (c.status_of_found-status.ensures.gives _ (search rules)) c.load_unit.ensures.after c.after_reply.ensures.gives
