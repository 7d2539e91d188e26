use Rattle.std.proofs.Common.{refl, ap, ◌∙◌}
use Rattle.host.specs.Layout.{with_bytes}
use Rattle.host.proofs.Writing.{no_bytes, more_circuits, all_circuits}
use Rattle.host.proofs.output.put_route.Goals as goal

pub loop-i-init : goal.loop-i-init
loop-i-init c = no_bytes c.args.output.now c.args.at

pub loop-i-preserved : goal.loop-i-preserved
loop-i-preserved c = more_circuits c.args.output.now c.loop-i.output c.put.new.output c.args.at c.args.route.now c.loop-i.i _ c.requires c.loop-i-test.true c.loop-i.invariant (c.put.ensures ∙ ap (with_bytes c.loop-i.output _) c.to_be_bytes.ensures) refl

pub returns : goal.returns
returns c = all_circuits c.args.output.now c.loop-i.output c.args.at c.args.route.now c.loop-i.i c.loop-i-test.false c.loop-i.invariant
