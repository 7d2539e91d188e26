use Rattle.std.proofs.Common.{◌≡◌, [], ◌∷◌, ◌++◌, vec_items, ap, ◌∙◌, subst, arith, rules}
use Rattle.network.specs.Network.{Network}
use Rattle.book.specs.Answered.{Answered}
use Rattle.calls.specs.Calls.{call_of, answer_of}
use Rattle.runs.proofs.Running.{so_far_more}
use Rattle.runs.proofs.run.Goals as goal
use Rattle.runs.proofs.run.Goals.{in-Ok, in-Err-Refused}

pub loop-order-preserved : goal.loop-order-preserved
loop-order-preserved g c =
    let s = g.S.Scale.measure in
    let n = g.R.Register.network c.in_ok-book.book.register in
    let inv = c.loop-order.invariant in
    let o = c.order-item.result in
    let a = c.match-play.answer in
    let t = c.loop-order.book.tables in
    let t' = c.play.new.book.tables in
    let answered : Answered s (g.R.Register.network c.loop-order.book.register) t t' (call_of o) (answer_of a) =
    elim c.match-play.branch [ in-Ok w ↦ search rules | in-Err-Refused w ↦ search rules ] in
    let same : g.R.Register.network c.loop-order.book.register ≡ n = ap g.R.Register.network inv.1 in
    let kept : Answered s n t t' (call_of o) (answer_of a) = subst (λ (m : Network). Answered s m t t' (call_of o) (answer_of a)) same answered in
    let pushed : vec_items c.push.new.self ≡ vec_items c.loop-order.answers ++ a ∷ [] = search rules in (
      search rules,
      c.play.ensures.register ∙ inv.1,
      so_far_more s n t t' c.args.orders.now (vec_items c.loop-order.answers) (vec_items c.push.new.self) c.loop-order.order-index o a c.loop-order-test.true (omega (arith, inv.0, c.loop-order.answers.ok.0)) c.order-item.is pushed inv.2 kept,
    )
