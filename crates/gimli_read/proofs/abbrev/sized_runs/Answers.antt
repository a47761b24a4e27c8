use Rattle.gimli_read.proofs.Common.{◌≡◌, sym, ◌∙◌, no_size, total_bytes}
use Rattle.gimli_read.proofs.SizeLemmas.{so_far_start, so_far_sized, so_far_other, so_far_end, total_zero}
use Rattle.gimli_read.proofs.abbrev.sized_runs.Goals as goal
use Rattle.gimli_read.proofs.abbrev.sized_runs.Goals.{in-Some, in-None+in_ok-push-in-None}

pub loop-attribute-init : goal.loop-attribute-init
loop-attribute-init c = λ e s v. rw (c.clear.ensures.items, c.new-last.ensures.gives) (so_far_start e no_size c.args.attributes.now s (total_zero e))

pub loop-attribute-preserved : goal.loop-attribute-preserved
loop-attribute-preserved c = λ e s v. elim c.match-with.branch [
  | in-Some w ↦
      let a = w.in-Some.ensures.found e v in
      let size = rw (c.value_size.ensures.gives, c.attribute-item.is) at a.1 in
      rw (w.runs-is, w.last-is) (sym (so_far_sized e _ _ _ _ _ _ _ s c.loop-attribute-test.true size a.2) ∙ c.loop-attribute.invariant e s v)
  | in-None+in_ok-push-in-None w ↦
      let zero : total_bytes e w.new-last-in-None.result ≡ 0 = rw w.new-last-in-None.ensures.gives (total_zero e) in
      rw (w.runs-is, w.last-is, w.in_ok-push-in-None.ensures.items, c.attribute-item.is) (sym (so_far_other e _ _ _ _ _ _ s c.loop-attribute-test.true zero) ∙ c.loop-attribute.invariant e s v)
]

pub returns-clause-gives : goal.returns-clause-gives
returns-clause-gives c = λ e s v. rw (c.in_ok-copied.ensures.gives ∙ c.deref.ensures.value) (sym (so_far_end e _ _ _ _ s c.loop-attribute-test.false) ∙ c.loop-attribute.invariant e s v)
