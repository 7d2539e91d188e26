use Rattle.search.specs.Trees.{Never}
use Rattle.search.specs.Rolls.{Unused}
use Rattle.search.proofs.Rolled.{more_more}
use Rattle.search.proofs.spread.Seen.scan.Goals as goal

pub returns-clause-more : goal.returns-clause-more
returns-clause-more c =
    let g = c.args.graph.now.arcs.now in
    more_more g c.args.flow.now (Unused g c.args.flow.now) Never _ _ _ (λ d h. absurd h) c.go_forth.ensures.more c.go_back.ensures.more
