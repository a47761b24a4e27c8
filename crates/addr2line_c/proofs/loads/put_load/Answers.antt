use Rattle.addr2line_c.proofs.Common.{◌≡◌, ◌++◌, ◌∙◌, [], ap, refl, subst, option_map, IsFilled, optional_text, zero_ended, text_after}
use Rattle.addr2line_c.specs.Loads.{bytes_if, texts_of_load, written_load}
use Rattle.addr2line_c.proofs.LoadLemmas.{same_load}
use Rattle.addr2line_c.proofs.loads.put_load.Goals as goal

pub returns-clause-gives : goal.returns-clause-gives
returns-clause-gives g c =
    let see = g.R.Reader.section in
    let inside = c.load.inside in
    let empty : IsFilled 0 c.args.buffer.now (zero_ended []) = record { needed = refl; front = λ _. refl } in
    let first = c.put_text-directory.ensures.gives [] empty in
    let directory = c.put_text-directory.ensures.made [] empty ∙ ap (text_after []) c.bytes_of.ensures.gives in
    let path = c.put_text-path.ensures.made _ first
    ∙ ap (λ t. text_after (optional_text t) (option_map (λ b. b.now) c.bytes_of-2.result)) c.bytes_of.ensures.gives
    ∙ ap (text_after (optional_text (bytes_if (option_map see inside.comp_dir)))) c.bytes_of-2.ensures.gives in
    subst (λ v. record { token = c.args.token; dwo_id = inside.dwo_id.0; directory = c.put_text-directory.result; path = c.put_text-path.result } ≡ written_load c.args.token v)
    c.load.view_is (same_load c.args.token inside.dwo_id.0 _ _ _ _ directory path)

pub returns-clause-left : goal.returns-clause-left
returns-clause-left g c =
    let see = g.R.Reader.section in
    let inside = c.load.inside in
    let new = c.put_text-path.new in
    let empty : IsFilled 0 c.args.buffer.now (zero_ended []) = record { needed = refl; front = λ _. refl } in
    let first = c.put_text-directory.ensures.gives [] empty in
    let both = c.put_text-path.ensures.gives _ first in
    subst (λ v. IsFilled new.used new.buffer (zero_ended (texts_of_load v))) c.load.view_is
    (subst (λ t. IsFilled new.used new.buffer (zero_ended (optional_text (bytes_if (option_map see inside.comp_dir)) ++ optional_text t))) c.bytes_of-2.ensures.gives
    (subst (λ t. IsFilled new.used new.buffer (zero_ended (optional_text t ++ optional_text (option_map (λ b. b.now) c.bytes_of-2.result)))) c.bytes_of.ensures.gives both))
