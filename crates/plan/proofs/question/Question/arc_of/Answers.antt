use Rattle.std.proofs.Common.{sym, ap, ◌∙◌, subst, arith}
use Rattle.network.specs.Network.{Sound}
use Rattle.tables.proofs.Booking.{left_kept}
use Rattle.plan.proofs.Circuits.{left_told}
use Rattle.plan.proofs.question.Question.arc_of.Goals as goal

pub returns : goal.returns
returns g c =
    let n = g.R.Register.network c.args.self.now.register.now in
    let is = c.requires.circuit in
    let sound : Sound n.places c.args.circuit = subst (Sound n.places) (sym is) ((g.R.Register.proper c.args.self.now.register.now).each c.args.number c.requires.within) in (
      record { from_in = sound.from_place; to_in = sound.to_place; apart = sound.apart; few = c.lanes_of.ensures.few },
      λ keeps. record {
        from_same = ap (λ x. x.from) is;
        to_same = ap (λ x. x.to) is;
        lane =
            let told = left_told c.args.self.now.tables.now c.args.number c.left.result (omega (arith, keeps.long, c.requires.within)) c.left.ensures in
            c.lanes_of.ensures.lane n _ _ (c.unwrap_or-left.ensures ∙ (told ∙ left_kept n _ keeps _ c.requires.within)) c.requires.free c.requires.shut;
      },
    )
