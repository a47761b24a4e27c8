use Rattle.gimli.proofs.Common.{refl, subst, sym, ◌∙◌, ExactlyUnlessOomIf, or_fault}
use Rattle.std.specs.Result.{result_err}
use Rattle.gimli_read.specs.declared.constants.DwAt.{DwAt}
use Rattle.gimli.proofs.SinkLemmas.{number_read, or_its_fault}
use Rattle.gimli.proofs.WantedLemmas.{named}
use Rattle.gimli.proofs.sink.read_next.Goals as goal

pub returns-in-Some-fault-clause-gives : goal.returns-in-Some-fault-clause-gives
returns-in-Some-fault-clause-gives g c =
    let read = rw c.in-Some.is at c.in_ok-number.ensures.gives in
    let r = number_read _ _ _ _ _ read.0 in
    record { attribute = r.attribute; is = r.is; taken = rw c.in-Some-fault.is refl }

pub returns-in-None-clause-gives : goal.returns-in-None-clause-gives
returns-in-None-clause-gives g c =
    let read = rw c.in-Some.is at c.in_ok-number.ensures.gives in
    let r = number_read _ _ _ _ _ read.0 in
    let name = c.name-name.ensures.gives ∙ sym (named _ _ _ _ r.attribute r.is) in
    let more = g.S.AttributeSink.with_attribute c.args.sink.now (g.S.AttributeSink.said c.args.found.now) in
    let given = or_its_fault g.R.Reader.shares g.S.AttributeSink.said c.take_number.new.found c.take_number.result _ (c.take_number.ensures.gives (sym c.is_wanted_name-wanted.ensures.gives ∙ read.1) r.attribute.value r.number) in
    record {
      attribute = r.attribute;
      is = r.is;
      taken = rw (c.in-None.is, c.err.ensures.value) (subst (λ (k : DwAt). ExactlyUnlessOomIf g.R.Reader.shares g.S.AttributeSink.said (or_fault c.take_number.new.found (result_err c.take_number.result)) (more (record { name = k; value = r.attribute.value }))) name given);
    }
