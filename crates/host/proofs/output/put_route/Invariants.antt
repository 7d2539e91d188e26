use Rattle.std.proofs.Common.{◌≡◌, take}
use Rattle.host.specs.Layout.{route_bytes, with_bytes}
use Rattle.host.proofs.output.put_route.Given as goal

-- the circuits so far are written
abbrev pub invariant-loop-i : goal.invariant-loop-i
invariant-loop-i l = l.output ≡ with_bytes l.initial.output l.at (route_bytes (take l.i l.route))
