-- Each argument adds its rule, in turn.
use Rattle.addr2line_bin.proofs.Common.{codes, IfOk-weaker, byte, long_option, long_switch, option}
use Rattle.addr2line_bin.proofs.CommandLemmas.{adds_next}
use Rattle.addr2line_bin.proofs.command.with_lookup_options.Goals as goal

pub returns : goal.returns
returns c =
    let e1 = adds_next (option (codes "exe") (byte "e")) c.in_ok-c.ensures.gives c.with_heading-c.ensures.gives in
    let e2 = adds_next (long_option (codes "sup")) c.in_ok-c-2.ensures.gives e1 in
    let e3 = adds_next (long_switch (codes "decompress")) c.in_ok-c-3.ensures.gives e2 in
    let e4 = adds_next (option (codes "section") (byte "j")) c.in_ok-c-4.ensures.gives e3 in
    record {
      gives = IfOk-weaker c.with_long_switch-2.result _ _ (λ m adds. adds_next (long_switch (codes "all")) adds e4)
          c.with_long_switch-2.ensures.gives;
    }
