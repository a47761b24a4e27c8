use Rattle.addr2line_bin.proofs.Common.{◌∙◌, inl, subst, sym}
use Rattle.std.specs.Process.{exit_status}
use Rattle.addr2line_bin.specs.WordAnswers.{AnswersWords}
use Rattle.addr2line_bin.proofs.word_answers.answer_words.Goals as goal

pub returns-then-is_shown : goal.returns-then-is_shown
returns-then-is_shown g c =
    let o = g.W.Stream.state in
    let e = g.E.Stream.state in
    record {
      gives = subst (λ shown. AnswersWords c.args.name.now shown (o c.args.out.now) (o c.show_text.new.out) (e c.args.err.now) (e c.show_text.new.err) (exit_status c.show_text.result))
          (sym c.if-is_shown.true ∙ c.is_shown.ensures.gives)
          (inl (c.as_str.result.now, c.show_text.ensures.gives));
    }
