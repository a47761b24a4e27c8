-- Each part adds its rules, in turn.
use Rattle.addr2line_bin.proofs.Common.{◌∙◌, ap, IfOk-weaker, address_words, with_lookup_options, with_name_styles, with_passed_options, with_style_options}
use Rattle.addr2line_bin.proofs.CommandLemmas.{adds_next}
use Rattle.addr2line_bin.proofs.command.whole_command.Goals as goal

pub returns : goal.returns
returns c =
    let words = adds_next address_words c.in_ok-c-2.ensures.gives c.in_ok-c.ensures.gives in
    let looked_up = c.in_ok-c-3.ensures.gives ∙ ap with_lookup_options words in
    let printed = c.in_ok-c-4.ensures.gives ∙ ap with_style_options looked_up in
    let styled = c.in_ok-c-5.ensures.gives ∙ ap with_name_styles printed in
    record {
      gives = IfOk-weaker c.with_passed_options.result _ _ (λ m adds. adds ∙ ap with_passed_options styled)
          c.with_passed_options.ensures.gives;
    }
