use Rattle.search.proofs.Sends.{sent_forth, sent_back}
use Rattle.search.proofs.graph.Graph.send.Goals as goal

pub loop-place-preserved-then-arc-place : goal.loop-place-preserved-then-arc-place
loop-place-preserved-then-arc-place c = sent_forth _ _ _ _ _ _ c.args.self.now.proper c.requires.reached.tree _ _ c.loop-place.invariant c.loop-place-test.true c.if-arc-place.true

pub loop-place-preserved : goal.loop-place-preserved
loop-place-preserved c = sent_back _ _ _ _ _ _ c.args.self.now.proper c.requires.reached.tree _ _ c.loop-place.invariant c.loop-place-test.true c.if-arc-place.false
