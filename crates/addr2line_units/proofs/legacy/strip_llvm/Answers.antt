use Rattle.addr2line_units.proofs.Common.{[], List, ap, drop, length, sym, take, take-append-drop, ℕ, ◌++◌, ◌∙◌, ◌≡◌, ◌≤◌, drop_of_length-le, without_llvm}
use Rattle.addr2line_units.proofs.legacy.strip_llvm.Goals as goal

-- a name without a mark before its end stays whole
whole_name : (name : List ℕ) (at : ℕ) → length name ≤ at → take at name ++ without_llvm (drop at name) ≡ without_llvm name → name ≡ without_llvm name
whole_name name at past e =
    let none : drop at name ≡ [] = drop_of_length-le name past in
    sym (take-append-drop at name) ∙ ap (λ rest. take at name ++ rest) none ∙ ap (λ rest. take at name ++ without_llvm rest) (sym none) ∙ e

pub returns : goal.returns
returns c = whole_name c.args.name.now c.loop-at.at c.loop-at-test.false c.loop-at.invariant
