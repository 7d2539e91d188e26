use Rattle.std.proofs.Common.{◌≡◌, ◌≢◌, ℕ, ◌<◌, length, slice_index}
use Rattle.image.specs.Layout.{place_offset, name_from}
use Rattle.image.proofs.layout.Scan.repeats.Given as goal

-- the next place begins there, and no earlier one has the name
abbrev pub invariant-earlier : goal.invariant-earlier
invariant-earlier l = (l.next ≡ place_offset l.self.image.now l.counter) × ((j : ℕ) → j < l.counter → l.name ≢ name_from l.self.image.now (place_offset l.self.image.now j))

-- the bytes so far are those of the name
abbrev pub invariant-loop-k : goal.invariant-loop-k
invariant-loop-k l = (i : ℕ) → i < l.k → slice_index l.other i ≡ slice_index l.name i
