use Rattle.promise.specs.Promise.{feed_number}
use Rattle.tables.specs.Standing.{feed_of, no_feed}
use Rattle.tables.proofs.Numbers.{found}
use Rattle.tables.proofs.rows.Tables.find_feed.Goals as goal

pub returns : goal.returns
returns c = found feed_of feed_number c.args.self.now.feeds c.deref.result.now c.args.number no_feed c.find.result c.deref.ensures.value c.find.ensures
