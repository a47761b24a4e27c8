-- Each argument adds its rule, in turn.
use Rattle.addr2line_bin.proofs.Common.{codes, IfOk-weaker, byte, long_option, long_switch, switch}
use Rattle.addr2line_bin.proofs.CommandLemmas.{adds_next}
use Rattle.addr2line_bin.proofs.command.with_style_options.Goals as goal

pub returns : goal.returns
returns c =
    let e1 = adds_next (switch (codes "functions") (byte "f")) c.in_ok-c.ensures.gives c.with_heading-c.ensures.gives in
    let e2 = adds_next (switch (codes "pretty-print") (byte "p")) c.in_ok-c-2.ensures.gives e1 in
    let e3 = adds_next (switch (codes "inlines") (byte "i")) c.in_ok-c-3.ensures.gives e2 in
    let e4 = adds_next (switch (codes "addresses") (byte "a")) c.in_ok-c-4.ensures.gives e3 in
    let e5 = adds_next (switch (codes "basenames") (byte "s")) c.in_ok-c-5.ensures.gives e4 in
    let e6 = adds_next (switch (codes "demangle") (byte "C")) c.in_ok-c-6.ensures.gives e5 in
    let e7 = adds_next (long_switch (codes "llvm")) c.in_ok-c-7.ensures.gives e6 in
    record {
      gives = IfOk-weaker c.with_long_option.result _ _ (λ m adds. adds_next (long_option (codes "output-style")) adds e7)
          c.with_long_option.ensures.gives;
    }
