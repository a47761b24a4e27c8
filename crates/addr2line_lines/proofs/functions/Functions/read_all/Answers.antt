use Rattle.addr2line_lines.proofs.Common.{◌≡◌, length, map, ap, ◌∙◌, arith, err_from_is_err_and, FunctionTable, as_function, as_details, as_scope, length-map}
use Rattle.addr2line_lines.proofs.ReadLemmas.{all_read, none_read, one_read, one_refused}
use Rattle.addr2line_lines.proofs.functions.Functions.read_all.Goals as goal

pub loop-place-init : goal.loop-place-init
loop-place-init g c =
    let m = c.self.inside.functions.ok.0 in
    let d = as_details g.R.Reader.section c.self.inside.details in
    let same : length (map (as_function d) c.self.inside.functions.items) ≡ length c.args.self.now.functions = ap (λ (t : FunctionTable). length t.functions) c.self.view_is in
    let l = length-map c.self.inside.functions.items (as_function d) in
    let k = c.len-count.ensures in
    record { count = omega arith; read = none_read g.R.Reader.shares (as_scope c.args.scope) c.args.unit.now c.args.self.now }

pub loop-place-preserved : goal.loop-place-preserved
loop-place-preserved g c =
    let i = c.loop-place.invariant in
    let l = c.loop-place-test.true in
    let m = i.count in
    record {
      count = i.count;
      read = one_read g.R.Reader.shares (as_scope c.args.scope) c.args.unit.now c.args.self.now c.loop-place.self c.loop-place.place i.read c.read.new.self (omega arith) c.in_ok-read.ensures.after c.in_ok-read.ensures.gives;
    }

pub read-requires-clause-unit : goal.read-requires-clause-unit
read-requires-clause-unit g c = c.loop-place.invariant.read.kept.names.unit ∙ c.requires.unit

pub returns-in_err-read : goal.returns-in_err-read
returns-in_err-read g c =
    let p = err_from_is_err_and c.from_residual.result c.from_residual.ensures.1 in
    let i = c.loop-place.invariant in
    let l = c.loop-place-test.true in
    let m = i.count in
    rw (p.1, p.2) (record { after = one_refused g.R.Reader.shares (as_scope c.args.scope) c.args.unit.now c.args.self.now c.loop-place.self c.loop-place.place i.read c.read.new.self (omega arith) c.in_err-read.field-0.0 c.in_err-read.ensures.after c.in_err-read.ensures.gives })

pub returns : goal.returns
returns g c =
    let i = c.loop-place.invariant in
    let l = c.loop-place-test.false in
    let m = i.count in
    record { after = all_read g.R.Reader.shares (as_scope c.args.scope) c.args.unit.now c.args.self.now c.loop-place.self c.loop-place.place i.read (omega arith) }
