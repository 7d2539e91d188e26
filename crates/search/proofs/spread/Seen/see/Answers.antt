use Rattle.search.proofs.Rolled.{unseen, room, roll_join}
use Rattle.search.proofs.spread.Seen.see.Goals as goal

pub bounds-self-self : goal.bounds-self-self
bounds-self-self c = room c.args.self.now _ (unseen _ c.if-not-has.ensures) c.requires.place

pub invariant_of-self : goal.invariant_of-self
invariant_of-self c = record { roll = roll_join c.args.self.now _ (unseen _ c.if-not-has.ensures) c.requires.place _ }
