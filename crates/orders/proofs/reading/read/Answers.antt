use Rattle.std.proofs.Common.{◌≤◌, [], length, take, ◌∙◌, subst, append-nil, arith}
use Rattle.std.proofs.lemmas.List.{length-set, length-take-le}
use Rattle.words.specs.Figures.{Reads, texts}
use Rattle.words.proofs.Naming.{texts_length}
use Rattle.orders.specs.Lines.{Splits}
use Rattle.orders.specs.Meanings.{Means}
use Rattle.orders.proofs.Splitting.{splits_some, words_more}
use Rattle.orders.proofs.Whole.{whole_line, long_line}
use Rattle.orders.proofs.reading.read.Goals as goal
use Rattle.orders.proofs.reading.read.Goals.{else-loop-count-test, then-loop-count-test+in_default}

pub loop-count-preserved : goal.loop-count-preserved
loop-count-preserved g c = (
  omega arith,
  length-set c.loop-count.words c.loop-count.count _ ∙ c.loop-count.invariant.1,
  words_more c.args.line.now c.loop-count.rest.now c.in-Some.after.now c.loop-count.words c.loop-count.count c.in-Some.word (omega arith) c.in-Some.ensures c.loop-count.invariant.2,
)

pub returns : goal.returns
returns g c =
    let kept = texts (take c.loop-count.count c.loop-count.words) in
    let places = texts c.args.names.now in
    let said : Reads c.statement.result (Means g.S.Limit.spells places kept) = c.statement.ensures in
    elim c.loop-count-test.branch [
      | else-loop-count-test w ↦
          let more = splits_some c.loop-count.rest.now in
          let full : 8 ≤ length kept = omega (arith, texts_length (take c.loop-count.count c.loop-count.words), length-take-le c.loop-count.count c.loop-count.words (omega arith), w.loop-count-test.false) in
          long_line g.S.Limit.spells places c.args.line.now kept c.statement.result full (more.0, c.loop-count.invariant.2 more.0 more.1) said
      | then-loop-count-test+in_default w ↦
          whole_line g.S.Limit.spells places c.args.line.now kept c.statement.result (subst (Splits c.args.line.now) (append-nil kept) (c.loop-count.invariant.2 [] w.in_default.ensures)) said
    ]
