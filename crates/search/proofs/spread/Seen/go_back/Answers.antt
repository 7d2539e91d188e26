use Rattle.std.proofs.Common.{◌∙◌, ap}
use Rattle.search.specs.Remaining.{arcs_left}
use Rattle.search.proofs.Spreads.{spread_none, spread_at, spread_by, by_back}
use Rattle.search.proofs.Rolled.{stays}
use Rattle.search.proofs.spread.Seen.go_back.Goals as goal

pub loop-c-init : goal.loop-c-init
loop-c-init c =
    spread_none _ _ _ _ _ _ _ _ _ (ap arcs_left c.into_iter-c-iterator.ensures.into_iter_gives ∙ c.at-c-items.ensures)

pub loop-c-preserved-then-flow-c-gt0 : goal.loop-c-preserved-then-flow-c-gt0
loop-c-preserved-then-flow-c-gt0 c =
    let old = c.loop-c.invariant in
    let turn = c.in-Some.ensures.steps in
    let at = spread_at _ _ _ _ _ _ _ _ _ _ _ turn _ old in
    let seen = stays _ _ _ _ _ old.more _ c.requires in
    spread_by _ _ _ _ _ _ _ _ _ _ _ turn _ old _ (by_back _ _ _ _ _ _ seen at c.if-flow-c-gt0.true c.see.ensures) c.see.ensures.seen
