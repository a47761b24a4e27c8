-- The matches are those of the words, and so are the faults; the request is what they ask for.
use Rattle.addr2line_bin.proofs.Common.{◌∙◌, ap, map, sym, subst, string_bytes, IfErr-weaker}
use Rattle.addr2line_bin.specs.CommandLine.{IsAsked, IsUnasked, matches_in}
use Rattle.addr2line_bin.proofs.CommandLemmas.{err_weaker, is_free_by, is_simple_by, ok_of_both}
use Rattle.addr2line_bin.proofs.CommandLemmas.{faults_by, matches_by, taken_by}
use Rattle.addr2line_bin.proofs.CommandLemmas.{complete_fault, taken_fault, unasked_fault, word_fault_of}
use Rattle.addr2line_bin.proofs.command_line.command_line.Goals as goal

pub returns-in_err-matches-clause-refused : goal.returns-in_err-matches-clause-refused
returns-in_err-matches-clause-refused c =
    let command = c.in_ok-command.ensures.gives in
    let same = ap (map (λ t. t.now)) c.as_slice.ensures.value ∙ c.in_ok-styled.ensures.gives in
    let told = c.in_err-matches.ensures.kinds (is_free_by _ command) in
    err_weaker c.from_residual-in_err-matches.result _ _ c.from_residual-in_err-matches.ensures.1
    (λ e h. word_fault_of _ _ c.in_err-matches.field-0.0 e (faults_by _ _ _ command same) told h)

pub returns-in_err-matches-clause-memory : goal.returns-in_err-matches-clause-memory
returns-in_err-matches-clause-memory c =
    let command = c.in_ok-command.ensures.gives in
    let same = ap (map (λ t. t.now)) c.as_slice.ensures.value ∙ c.in_ok-styled.ensures.gives in
    err_weaker c.from_residual-in_err-matches.result _ _ c.from_residual-in_err-matches.ensures.1
    (λ e h t k. taken_fault c.in_err-matches.field-0.0 e
    (c.in_err-matches.ensures.passes (taken_by _ _ _ command same t)) h)

pub returns-clause-gives : goal.returns-clause-gives
returns-clause-gives c =
    let command = c.in_ok-command.ensures.gives in
    let same = ap (map (λ t. t.now)) c.as_slice.ensures.value ∙ c.in_ok-styled.ensures.gives in
    let parsed = c.in_ok-matches.ensures in
    let rows = matches_by _ _ _ _ command same (parsed.matches (is_simple_by _ command)).0 in
    ok_of_both c.request_of.result _ _ _ c.request_of.ensures.gives c.request_of.ensures.kept
    (λ r asked named. record {
      taken = sym (faults_by _ _ _ command same) ∙ parsed.kinds (is_free_by _ command);
      name = ap string_bytes named ∙ c.in_ok-name.ensures.ok ∙ c.program_name.ensures.gives;
      asked = subst (λ m. IsAsked m r) rows asked;
    })

pub returns-clause-refused : goal.returns-clause-refused
returns-clause-refused c =
    let command = c.in_ok-command.ensures.gives in
    let same = ap (map (λ t. t.now)) c.as_slice.ensures.value ∙ c.in_ok-styled.ensures.gives in
    let parsed = c.in_ok-matches.ensures in
    let rows = matches_by _ _ _ _ command same (parsed.matches (is_simple_by _ command)).0 in
    let taken = sym (faults_by _ _ _ command same) ∙ parsed.kinds (is_free_by _ command) in
    IfErr-weaker c.request_of.result _ _
    (λ e h. unasked_fault _ e taken (subst (λ m. IsUnasked m e) rows h)) c.request_of.ensures.refused

pub returns-clause-memory : goal.returns-clause-memory
returns-clause-memory c =
    let command = c.in_ok-command.ensures.gives in
    let same = ap (map (λ t. t.now)) c.as_slice.ensures.value ∙ c.in_ok-styled.ensures.gives in
    let rows = matches_by _ _ _ _ command same (c.in_ok-matches.ensures.matches (is_simple_by _ command)).0 in
    IfErr-weaker c.request_of.result _ _
    (λ e h t k. complete_fault (matches_in _) e (subst (λ m. IsUnasked m e) rows h) k)
    c.request_of.ensures.refused
