use Rattle.addr2line_bin.proofs.Common.{◌∙◌, refl, option_map, string_bytes, sym, on_ok_weaker, option_copied, frames_left, GivesFrames, GivesLocation}
use Rattle.gimli_read.specs.Reading.{result_map}
use Rattle.addr2line_lines.specs.LentLocation.{as_location}
use Rattle.addr2line_bin.specs.ProbeTexts.{given_fault, given_text}
use Rattle.addr2line_bin.proofs.CommandLemmas.{deref_text}
use Rattle.addr2line_bin.proofs.probe_text.push_answer.Goals as goal

pub returns-then-not-asks_frames-clause-gives : goal.returns-then-not-asks_frames-clause-gives
returns-then-not-asks_frames-clause-gives g c =
    let given = GivesLocation (result_map (option_map as_location) c.find_location.result) in
    let context = c.args.context.now in
    on_ok_weaker c.push_found.result (λ p. (given_text context.style given, given_fault context.name.now c.in-Some.address given, rw c.in-Some.is (given, (sym c.asks_frames.ensures.gives ∙ c.if-not-asks_frames.true, c.find_location.ensures.gives), refl, refl), p.0, p.1)) c.push_found.ensures.gives

pub returns-clause-gives : goal.returns-clause-gives
returns-clause-gives g c =
    let given = GivesFrames (result_map frames_left c.find_frames.result) (option_copied c.as_deref-symbol.result) in
    let context = c.args.context.now in
    let lent = deref_text string_bytes c.in_ok-symbol.symbol c.as_deref-symbol.result c.as_deref-symbol.ensures.cases in
    on_ok_weaker c.push_found_frames.result (λ p. (given_text context.style given, given_fault context.name.now c.in-Some.address given, rw c.in-Some.is (given, (sym c.asks_frames.ensures.gives ∙ c.if-not-asks_frames.false, c.find_frames.ensures.gives, lent ∙ c.in_ok-symbol.ensures.gives), refl, refl), p.0, p.1)) c.push_found_frames.ensures.gives
