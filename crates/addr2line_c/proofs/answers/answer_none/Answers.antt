use Rattle.addr2line_c.proofs.Common.{◌∙◌, refl, sym, Refused}
use Rattle.addr2line_units.specs.Loads.{token_number}
use Rattle.addr2line_c.proofs.LoadCallLemmas.{none_given, none_refused}
use Rattle.addr2line_c.proofs.answers.answer_none.Goals as goal

pub returns-then-is_out_of_memory : goal.returns-then-is_out_of_memory
returns-then-is_out_of_memory g c = record {
  gives = λ given told. none_refused c.args.has_file given (token_number c.args.unit) c.args.refusal (Refused c.args.refusal) c.args.context.now refl
      (sym c.is_out_of_memory.ensures.gives ∙ c.if-is_out_of_memory.true);
}

pub returns : goal.returns
returns g c = record {
  gives = λ given told. none_given c.args.has_file given (token_number c.args.unit) c.args.refusal c.after_reply.result (Refused c.args.refusal) c.args.context.now c.load_unit.new.self c.load_unit.result refl
      (sym c.is_out_of_memory.ensures.gives ∙ c.if-is_out_of_memory.false) told c.load_unit.ensures.gives c.after_reply.ensures.gives c.load_unit.ensures.after.after;
}
