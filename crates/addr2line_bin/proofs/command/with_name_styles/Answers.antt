-- Each argument adds its rule, in turn.
use Rattle.addr2line_bin.proofs.Common.{codes, IfOk-weaker, long_switch}
use Rattle.addr2line_bin.proofs.CommandLemmas.{adds_next}
use Rattle.std.proofs.Common.{refl}
use Rattle.addr2line_bin.proofs.command.with_name_styles.Goals as goal

pub returns : goal.returns
returns c =
    let e1 = adds_next (long_switch (codes "demangle-none")) c.in_ok-c.ensures.gives refl in
    let e2 = adds_next (long_switch (codes "demangle-rust")) c.in_ok-c-2.ensures.gives e1 in
    let e3 = adds_next (long_switch (codes "demangle-auto")) c.in_ok-c-3.ensures.gives e2 in
    record {
      gives = IfOk-weaker c.with_hidden_switch-4.result _ _ (λ m adds. adds_next (long_switch (codes "demangle-other")) adds e3)
          c.with_hidden_switch-4.ensures.gives;
    }
