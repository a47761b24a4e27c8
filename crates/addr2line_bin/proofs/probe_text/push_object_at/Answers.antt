use Rattle.addr2line_bin.proofs.Common.{◌∙◌, ap, append-nil, codes, refl, option_map, string_bytes, sym, Ok, [], None, on_ok_weaker, option_copied, frames_left}
use Rattle.gimli_read.specs.Reading.{result_map}
use Rattle.addr2line_bin.specs.JsonTexts.{json_line}
use Rattle.addr2line_bin.specs.Print.{ProbeText}
use Rattle.addr2line_bin.specs.ProbeTexts.{fault_text}
use Rattle.addr2line_bin.proofs.CommandLemmas.{deref_text}
use Rattle.addr2line_bin.proofs.probe_text.push_object_at.Goals as goal

pub returns-in_default-clause-gives : goal.returns-in_default-clause-gives
returns-in_default-clause-gives g c =
    let context = c.args.context.now in
    let text : ProbeText = record { out = json_line context.style c.args.probe None (Ok []); err = [] } in
    on_ok_weaker c.push_missing_object.result (λ p. (text, rw c.in_default.is (refl, refl), p, sym (append-nil _))) c.push_missing_object.ensures.gives

pub returns-clause-gives : goal.returns-clause-gives
returns-clause-gives g c =
    let frames = result_map frames_left c.find_frames.result in
    let context = c.args.context.now in
    let lent = deref_text string_bytes c.in_ok-symbol.symbol c.as_deref-symbol.result c.as_deref-symbol.ensures.cases in
    let shown = option_copied c.as_deref-symbol.result in
    let text : ProbeText = record { out = json_line context.style c.args.probe shown frames; err = fault_text context.name.now (codes "frames") c.in-Some.address frames } in
    on_ok_weaker c.push_found_object.result (λ p. (text, rw c.in-Some.is (frames, c.find_frames.ensures.gives, ap (λ s. json_line context.style c.args.probe s frames) (lent ∙ c.in_ok-symbol.ensures.gives), refl), p.0, p.1)) c.push_found_object.ensures.gives
