use Rattle.std.proofs.Common.{◌∙◌, ap, arith}
use Rattle.search.specs.Remaining.{arcs_left}
use Rattle.search.specs.Rolls.{Unused}
use Rattle.search.proofs.Spreads.{spread_none, spread_at, spread_past, spread_by, by_forth, unused}
use Rattle.search.proofs.Rolled.{stays}
use Rattle.search.proofs.spread.Seen.go_forth.Goals as goal
use Rattle.search.proofs.spread.Seen.go_forth.Goals.{else-arc-gt0-via-then-arc-gt0+else-flow-c-eq0, else-arc-gt0-via-else-arc-gt0}

pub loop-c-init : goal.loop-c-init
loop-c-init c =
    spread_none _ _ _ _ _ _ _ _ _ (ap arcs_left c.into_iter-c-iterator.ensures.into_iter_gives ∙ c.at-c-items.ensures)

pub loop-c-preserved-then-flow-c-eq0 : goal.loop-c-preserved-then-flow-c-eq0
loop-c-preserved-then-flow-c-eq0 c =
    let old = c.loop-c.invariant in
    let turn = c.in-Some.ensures.steps in
    let at = spread_at _ _ _ _ _ _ _ _ _ _ _ turn _ old in
    let u = unused _ _ _ _ _ at c.if-arc-gt0.true c.if-flow-c-eq0.true in
    let seen = stays _ _ _ _ _ old.more _ c.requires in
    spread_by _ _ _ _ _ _ _ _ _ _ _ turn _ old _ (by_forth _ _ _ _ _ _ seen at u c.see.ensures) c.see.ensures.seen

pub loop-c-preserved : goal.loop-c-preserved
loop-c-preserved c =
    let old = c.loop-c.invariant in
    let turn = c.in-Some.ensures.steps in
    let lanes = ap (λ a. a.lanes) (spread_at _ _ _ _ _ _ _ _ _ _ _ turn _ old).same in
    let not : Unused c.args.graph.now.arcs.now c.args.flow.now c.in-Some.c → ⊥ =
    λ u.
    elim c.else-arc-gt0.branch [
      | else-arc-gt0-via-then-arc-gt0+else-flow-c-eq0 w ↦ w.if-flow-c-eq0.false u.idle
      | else-arc-gt0-via-else-arc-gt0 w ↦ omega (arith, w.if-arc-gt0.false, u.usable, lanes)
    ] in
    spread_past _ _ _ _ _ _ _ _ _ _ _ turn _ old not
