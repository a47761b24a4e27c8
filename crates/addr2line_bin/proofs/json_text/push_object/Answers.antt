use Rattle.addr2line_bin.proofs.Common.{◌≡◌, ◌++◌, ◌∙◌, OnOk, Ok, ap, codes, frames_left, option_copied, string_bytes, subst}
use Rattle.serde_json.specs.Written.{compact_text, has_float}
use Rattle.addr2line_bin.proofs.JsonLemmas.{has_no_float}
use Rattle.addr2line_bin.proofs.json_text.push_object.Goals as goal

pub returns : goal.returns
returns g c =
    let value = c.in_ok-value.ensures.gives in
    let none = has_no_float c.args.style c.args.probe (option_copied c.args.symbol) (Ok (frames_left c.args.frames)) in
    record {
      gives = subst (λ d. OnOk c.push_value.result (string_bytes c.push_value.new.text ≡ string_bytes c.args.text.now ++ (compact_text d ++ codes "\n")))
          value (c.push_value.ensures.gives (ap has_float value ∙ none));
    }
