use Rattle.elf.proofs.Common.{◌≡◌, ◌∙◌, ◌<◌, ◌-◌, ℕ, suc, length, inl, inr, subst, arith, AllWithin, IsBelow, IsAbove}
use Rattle.std.proofs.lemmas.Option.{slice_get_cases}
use Rattle.elf.proofs.NearestLemmas.{nearest_none, nearest_is, rises}
use Rattle.elf.proofs.symbol.nearest_in.Goals as goal

pub returns-then-count-eq0 : goal.returns-then-count-eq0
returns-then-count-eq0 c =
    record {
      found = λ symbols is.
          let table = c.args.table.now in
          let split = c.count_below-count.ensures.gives (rises symbols table is) in
          let above : ℕ → Type 0 = λ k. AllWithin (IsAbove c.args.probe) table k (length table) in
          let zero : c.count_below-count.result ≡ 0 = omega arith in
          nearest_none symbols table c.args.probe is (subst above zero split.1);
    }

pub returns : goal.returns
returns c =
    record {
      found = λ symbols is.
          let table = c.args.table.now in
          let count = c.count_below-count.result in
          let n = count - 1 in
          let split = c.count_below-count.ensures.gives (rises symbols table is) in
          let next : count ≡ suc n = omega arith in
          let less : n < length table = (let b = c.count_below-count.ensures.bound in omega arith) in
          let below : ℕ → Type 0 = λ k. AllWithin (IsBelow c.args.probe) table 0 k in
          let above : ℕ → Type 0 = λ k. AllWithin (IsAbove c.args.probe) table k (length table) in
          let got = c.nth.ensures.gives in
          elim (slice_get_cases table n).1 [
            | inl here ↦ got ∙ here.2 ∙ nearest_is symbols table c.args.probe n here.0 is less here.2 (subst below next split.0) (subst above next split.1)
            | inr past ↦ absurd (let over = past.0 in omega arith)
          ];
    }
