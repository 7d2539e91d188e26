use Rattle.std.proofs.Common.{◌<◌, arith}
use Rattle.search.proofs.Rolled.{unseen, on_roll}
use Rattle.search.proofs.Explores.{begun_scan, to_do}
use Rattle.search.proofs.graph.Graph.gather.Goals as goal
use Rattle.search.proofs.graph.Graph.gather.Goals.{In-loop-ends}

-- something is carried, so there is a place to go on from
left : (c : In-loop-ends) → c.loop-ends.done < c.loop-ends.seen.count
left c =
    to_do _ _ c.args.self.now.proper c.told-flow _ _ _ _ c.requires.carries c.loop-ends.invariant (unseen _ c.loop-ends-test.ensures)

pub bounds-seen-done : goal.bounds-seen-done
bounds-seen-done c = omega (arith, left c, c.loop-ends.seen.roll.counted)

pub go_back-requires : goal.go_back-requires
go_back-requires c = on_roll c.loop-ends.seen _ (left (goal.at.go_back-requires c).In-loop-ends)

pub loop-ends-smaller : goal.loop-ends-smaller
loop-ends-smaller c = omega (arith, left (goal.at.loop-ends-smaller c).In-loop-ends, c.loop-ends.seen.roll.counted)

pub loop-ends-preserved : goal.loop-ends-preserved
loop-ends-preserved c =
    begun_scan _ _ _ _ _ _ _ (λ d h. h) c.go_back.ensures.more _ c.loop-ends.invariant (left (goal.at.loop-ends-preserved c).In-loop-ends) c.go_back.ensures.spent
