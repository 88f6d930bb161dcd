use Rattle.fir_ground.proofs.Absents.{adds_leaf}
use Rattle.fir_ground.proofs.absent.add_leaf.Goals as goal

pub returns : goal.returns
returns c =
    λ ps within picks.
    adds_leaf c.args.nodes.now.items c.add.new.nodes.items c.args.ids.now.items c.push.new.self.items c.args.signed c.args.width c.in_ok-id.id c.args.picks ps picks c.in_ok-id.ensures.place
    c.in_ok-id.ensures.added c.in_ok-push.ensures.items
