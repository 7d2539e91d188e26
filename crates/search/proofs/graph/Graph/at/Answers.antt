use Rattle.std.proofs.Common.{get_or, sym, ap, ◌∙◌}
use Rattle.search.specs.declared.graph.By.TheVariants.{Start, End}
use Rattle.search.specs.Links.{arcs_at}
use Rattle.search.proofs.Chained.{arcs_from}
use Rattle.search.proofs.graph.Graph.at.Goals as goal
use Rattle.search.proofs.graph.Graph.at.Goals.{in-Start, in-End}

-- the first of a chain is the first arc of its place
pub returns : goal.returns
returns c =
    let s = c.args.self.now in
    let arcs = s.arcs.now in
    let place = c.args.place in
    elim c.match-by.branch [
      | in-Start w ↦
          ap (λ z. arcs_at arcs z.now.by place (get_or z.now.first place 0)) w.chains-is
          ∙ ap (λ by. arcs_at arcs by place (get_or s.out.now.first place 0)) s.by_start
          ∙ sym (arcs_from arcs Start place 0 (get_or s.out.now.first place 0) (s.indexed.out.starts place c.requires))
          ∙ ap (λ by. arcs_at arcs by place 0) (sym w.in-Start.is)
      | in-End w ↦
          ap (λ z. arcs_at arcs z.now.by place (get_or z.now.first place 0)) w.chains-is
          ∙ ap (λ by. arcs_at arcs by place (get_or s.into.now.first place 0)) s.by_end
          ∙ sym (arcs_from arcs End place 0 (get_or s.into.now.first place 0) (s.indexed.into.starts place c.requires))
          ∙ ap (λ by. arcs_at arcs by place 0) (sym w.in-End.is)
    ]
