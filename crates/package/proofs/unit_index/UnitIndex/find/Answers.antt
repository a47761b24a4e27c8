use Rattle.package.proofs.SearchLemmas.{LooksAt, none_at_first, one_more, ends_empty, ends_found, never_ends}
use Rattle.package.proofs.unit_index.UnitIndex.find.Goals as goal

pub loop-others-init : goal.loop-others-init
loop-others-init g c = none_at_first c.args.self.now c.args.id c.slot_count-slots.result

pub returns-then-row-eq0 : goal.returns-then-row-eq0
returns-then-row-eq0 g c =
    let at : LooksAt c.args.self.now c.args.id c.slot_count-slots.result c.loop-others.others c.probe-slot.result c.row_at-row.result = record {
      slots = c.slot_count-slots.ensures.gives;
      within = c.loop-others-test.true;
      before = c.loop-others.invariant;
      place = c.probe-slot.ensures.gives;
      has = c.row_at-row.ensures.gives;
    } in
    record { gives = ends_empty _ _ _ _ _ _ at c.if-row-eq0.true }

pub returns-then-found-id : goal.returns-then-found-id
returns-then-found-id g c =
    let at : LooksAt c.args.self.now c.args.id c.slot_count-slots.result c.loop-others.others c.probe-slot.result c.row_at-row.result = record {
      slots = c.slot_count-slots.ensures.gives;
      within = c.loop-others-test.true;
      before = c.loop-others.invariant;
      place = c.probe-slot.ensures.gives;
      has = c.row_at-row.ensures.gives;
    } in
    record { gives = ends_found _ _ _ _ _ _ at c.if-row-eq0.false c.id_at-found.result c.id_at-found.ensures.gives c.if-found-id.true }

pub loop-others-preserved : goal.loop-others-preserved
loop-others-preserved g c =
    let at : LooksAt c.args.self.now c.args.id c.slot_count-slots.result c.loop-others.others c.probe-slot.result c.row_at-row.result = record {
      slots = c.slot_count-slots.ensures.gives;
      within = c.loop-others-test.true;
      before = c.loop-others.invariant;
      place = c.probe-slot.ensures.gives;
      has = c.row_at-row.ensures.gives;
    } in
    one_more _ _ _ _ _ _ at c.if-row-eq0.false c.id_at-found.result c.id_at-found.ensures.gives c.if-found-id.false

pub returns : goal.returns
returns g c = record { gives = never_ends c.args.self.now c.args.id c.slot_count-slots.result c.loop-others.others c.slot_count-slots.ensures.gives c.loop-others-test.false c.loop-others.invariant }
