use Rattle.gimli_line.proofs.Common.{◌≡◌, ◌++◌, ◌∷◌, [], map, ap, ◌∙◌, arith, map-append, as_value}
use Rattle.gimli_line.proofs.TableLemmas.{copied_more}
use Rattle.gimli_line.proofs.copies.duplicate_values.Goals as goal

pub loop-value-preserved : goal.loop-value-preserved
loop-value-preserved g c =
    let s = g.R.Reader.section in
    let same : as_value s c.value-item.result ≡ as_value s c.in_ok-duplicate_value.field-0 = cc (c.in_ok-duplicate_value.ensures.gives) in
    let pushed : map (as_value s) c.push.new.self.items ≡ map (as_value s) c.loop-value.copies.items ++ as_value s c.in_ok-duplicate_value.field-0 ∷ [] = ap (map (as_value s)) c.in_ok-push.ensures.items ∙ simp map-append in
    pushed ∙ copied_more (as_value s) _ c.args.values.now c.loop-value.value-index c.value-item.result _ (omega arith) c.value-item.is c.loop-value.invariant same
