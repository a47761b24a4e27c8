-- What a handle owns that C holds.
-- Own: at null nothing, else the box at its pointer, which may be compared with null.
use Rattle.std.specs.Prelude.{◌≡◌}
use base.Fml.{Fml, ftrue, fsep, fex}
use denote.RattleType.{RattleType}
use denote.RawPtr.{Ptr, block_ptr, null_ptr, Testable}
use Rattle.std.specs.declared.option.Option.{Option}
use Rattle.std.specs.declared.option.Option.TheVariants.{None, Some}
use Rattle.std.specs.declared.alloc.Global.{Global}
use Rattle.std.specs.contracts.impls.GlobalAllocator.TheImpl.{ghosts}
use Rattle.std.specs.Box.Ownership.{box_owns}

abbrev pub pure_fact : Type 0 → Fml
pure_fact A = fex A (λ _. ftrue)

module _ (R : RattleType) (a : Global) where
  abbrev pub boxed : Ptr → R.Denot → Fml
  boxed = box_owns (ghosts.dealloc_token a) R

  abbrev pub opened : Ptr → Option R.Denot → R.Denot → Fml
  opened p v x = fsep (pure_fact (v ≡ Some x)) (fsep (pure_fact (Testable p)) (boxed p x))

  abbrev pub held : Ptr → Option R.Denot → Fml
  held null_ptr v = pure_fact (v ≡ None)
  held (block_ptr b o) v = fex R.Denot (opened (block_ptr b o) v)
