-- Each argument adds its rule, in turn.
use Rattle.addr2line_bin.proofs.Common.{codes, IfOk-weaker, byte, option, switch, version_letter}
use Rattle.addr2line_bin.proofs.CommandLemmas.{adds_next}
use Rattle.addr2line_bin.proofs.command.with_passed_options.Goals as goal

pub returns : goal.returns
returns c =
    let e1 = adds_next (option (codes "target") (byte "b")) c.in_ok-c.ensures.gives c.with_heading-c.ensures.gives in
    let e2 = adds_next (switch (codes "recurse-limit") (byte "R")) c.in_ok-c-2.ensures.gives e1 in
    let e3 = adds_next (switch (codes "no-recurse-limit") (byte "r")) c.in_ok-c-3.ensures.gives e2 in
    record {
      gives = IfOk-weaker c.with_version_letter.result _ _ (λ m adds. adds_next version_letter adds e3)
          c.with_version_letter.ensures.gives;
    }
