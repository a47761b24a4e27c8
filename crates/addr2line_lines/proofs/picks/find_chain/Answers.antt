use Rattle.addr2line_lines.proofs.Common.{◌≡◌, ◌∷◌, [], ◌++◌, length, map, append-nil, ◌+◌, ◌-◌, suc, arith, ap, sym, ◌∙◌, append_assoc, length-map, places_chain, places_within}
use Rattle.addr2line_lines.proofs.InlinedOrder.{listed_chain}
use Rattle.addr2line_lines.proofs.InlinedPick.{within_none, within_some}
use Rattle.addr2line_lines.proofs.picks.find_chain.Goals as goal
use Rattle.addr2line_lines.proofs.picks.find_chain.Goals.{else-loop-depth-test, then-loop-depth-test+in-None}

pub loop-depth-preserved : goal.loop-depth-preserved
loop-depth-preserved g c =
    let i = c.loop-depth.invariant in
    let all = map (g.S.Stored.whole c.args.upper) c.args.ranges.now in
    let depth = c.loop-depth.depth in
    let long = length-map c.args.ranges.now (g.S.Stored.whole c.args.upper) in
    let n = length all - (depth + 1) in
    let next : length all - depth ≡ suc n = (let t = c.loop-depth-test.true in omega arith) in
    let e : c.push.new.self.items ≡ c.loop-depth.chain.items ++ c.in-Some.function ∷ [] = c.in_ok-push-in-Some.ensures.ok in
    let count = ap length e in
    let was = i.count in
    let pushed = c.in_ok-push-in-Some.ensures.len in
    let capacity = c.in_ok-push-in-Some.ensures.capacity in
    let room = i.room in
    record {
      upto = i.upto;
      count = omega arith;
      room = omega arith;
      found = ap (λ items. items ++ places_within n c.args.probe (depth + 1) all) e ∙ append_assoc c.loop-depth.chain.items (c.in-Some.function ∷ []) _
          ∙ ap (λ rest. c.loop-depth.chain.items ++ rest) (sym (within_some n c.args.probe depth all c.in-Some.function (sym c.in-Some.ensures.found)))
          ∙ ap (λ k. c.loop-depth.chain.items ++ places_within k c.args.probe depth all) (sym next) ∙ i.found;
    }

pub returns-clause-found : goal.returns-clause-found
returns-clause-found g c =
    let i = c.loop-depth.invariant in
    let all = map (g.S.Stored.whole c.args.upper) c.args.ranges.now in
    let items = c.loop-depth.chain.items in
    let depth = c.loop-depth.depth in
    let left = places_within (length all - depth) c.args.probe depth all in
    let long = length-map c.args.ranges.now (g.S.Stored.whole c.args.upper) in
    let done : left ≡ [] = elim c.loop-depth-test.branch [
      | else-loop-depth-test w ↦ (let n : length all - depth ≡ 0 = (let t = w.loop-depth-test.false in omega arith) in ap (λ k. places_within k c.args.probe depth all) n)
      | then-loop-depth-test+in-None w ↦ within_none (length all - depth) c.args.probe depth all (sym w.in-None.ensures.found)
    ] in
    let found : items ≡ places_chain c.args.probe all = sym (append-nil items) ∙ ap (λ rest. items ++ rest) (sym done) ∙ i.found in
    λ listed entry_of up e. ap (map entry_of) found ∙ listed_chain entry_of c.args.probe listed all up e
