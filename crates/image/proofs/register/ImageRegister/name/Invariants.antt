use Rattle.std.proofs.Common.{◌≡◌}
use Rattle.image.specs.Layout.{place_offset}
use Rattle.image.proofs.register.ImageRegister.name.Given as goal

-- the place of the loop's number begins there
abbrev pub invariant-loop : goal.invariant-loop
invariant-loop l = l.at ≡ place_offset l.self.image.now l.counter
