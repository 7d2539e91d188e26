use Rattle.std.proofs.Common.{◌≡◌, ◌+◌, ◌-◌, ◌^◌, ◌<◌, ◌≤◌, subst, arith}
use Rattle.plan.proofs.Rates.{width_up, width_down, raised, lowered, searched}
use Rattle.plan.proofs.question.Question.widest_within.Goals as goal
use Rattle.plan.proofs.question.Question.widest_within.Goals.{in-Ok, in-Err}

pub loop-preserved : goal.loop-preserved
loop-preserved g c =
    let i = c.loop.counter in
    let low = c.loop.low in
    let high = c.loop.high in
    let width = c.loop.invariant.0 in
    let more : i < 20 = omega arith in
    let gap : low + 1 < high = omega arith in
    elim c.match-safest_within.branch [
      | in-Ok w ↦
          simp (w.low-is, w.high-is, w.found-is)
          (width_up i low high more gap width, λ keeps. raised _ _ _ _ _ _ _ _ _ _ _ _ _ (omega arith) (w.in-Ok.ensures keeps) (c.loop.invariant.1 keeps))
      | in-Err w ↦
          simp (w.low-is, w.high-is, w.found-is, w.or-found.ensures)
          (width_down i low high more gap width, λ keeps. lowered _ _ _ _ _ _ _ _ _ _ _ _ _ (w.in-Err.ensures keeps) (c.loop.invariant.1 keeps))
    ]

-- twenty turns leave no rate between the two
pub returns-after-loop : goal.returns-after-loop
returns-after-loop g c =
    λ keeps.
    let inv = c.loop.invariant in
    let e : c.loop.counter ≡ 20 = omega (arith, c.loop-test.false, c.loop.auto.counter-end) in
    searched _ g.met.S.Scale.lawful _ _ _ _ _ _ _ _ _ inv.0.0 (subst (λ k. c.loop.high ≤ c.loop.low + 2 ^ (20 - k)) e inv.0.2) inv.0.1 (inv.1 keeps)

pub returns-then-high-low-eq1 : goal.returns-then-high-low-eq1
returns-then-high-low-eq1 g c =
    λ keeps.
    let inv = c.loop.invariant in
    searched _ g.met.S.Scale.lawful _ _ _ _ _ _ _ _ _ inv.0.0 (omega arith) inv.0.1 (inv.1 keeps)
