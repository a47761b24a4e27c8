use Rattle.addr2line_c.proofs.Common.{◌≡◌, ◌<◌, ◌^◌, Ok, Some, ap, sym, subst, nat_le, length, arith}
use Rattle.addr2line_c.specs.declared.loads.WrittenLoad.{WrittenLoad}
use Rattle.addr2line_c.specs.AskedLoads.{first_waiting, load_of_token, waiting_load}
use Rattle.addr2line_c.specs.Loads.{IsWrittenLoad, NamesLoad}
use Rattle.addr2line_c.proofs.AnswerLemmas.{says_there}
use Rattle.addr2line_c.proofs.LoadLemmas.{waiting_is}
use Rattle.addr2line_c.proofs.TextLemmas.{load_named}
use Rattle.addr2line_c.proofs.loads.AskedLoads.put_first.Goals as goal

pub returns-clause-gives : goal.returns-clause-gives
returns-clause-gives g c =
    let asked = c.args.self.now.loads.items in
    let token = c.in-Some.token in
    let load = c.in-Some-get.load.now in
    let used = c.put_load.new.used in
    let buffer = c.put_load.new.buffer in
    let small : length buffer < 2 ^ 64 = omega (arith, c.put_load.ensures.kept) in
    let first : first_waiting asked ≡ Some token = sym c.in-Some.ensures.gives in
    let is : load_of_token asked token ≡ Some load = sym c.in-Some-get.ensures.gives in
    let parts = c.put_load.ensures.gives in
    says_there (Ok (waiting_load asked)) (IsWrittenLoad c.put_load.result buffer used) (nat_le used (length buffer)) c.done_if.result c.done_if.ensures.gives (
      (token, load),
      ap Ok (waiting_is asked token load first is),
      record {
        parts = parts;
        texts = c.put_load.ensures.left;
        named = λ fits. subst (λ (x : WrittenLoad). NamesLoad buffer x load) (sym parts) (load_named buffer used token load small c.put_load.ensures.left fits);
      },
    )
