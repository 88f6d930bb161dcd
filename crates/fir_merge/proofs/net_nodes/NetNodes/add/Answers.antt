use Rattle.std.proofs.Common.{IfOk, length, List, sym, subst}
use Rattle.fir_net.specs.declared.node.Node.{Node}
use Rattle.fir_net.specs.working.Dependence.{support_of}
use Rattle.fir_merge.specs.working.NodeTerms.{AreBelow, Stands}
use Rattle.fir_merge.proofs.GrownTerms.{before_after, stands_after}
use Rattle.fir_merge.proofs.net_nodes.NetNodes.add.Goals as goal

pub invariant_of-self : goal.invariant_of-self
invariant_of-self c =
    before_after c.self.inside.nodes.keys c.share.new.nodes.keys c.args.node c.share.result c.self.invariant
    (subst (λ (l : List Node). AreBelow (length l) (support_of c.args.node)) (sym c.self.view_is) c.requires) c.share.ensures.ok c.share.ensures.err

pub returns : goal.returns
returns c =
    subst (λ (l : List Node). IfOk c.share.result (Stands l c.share.new.nodes.keys c.args.node)) c.self.view_is
    (stands_after c.self.inside.nodes.keys c.share.new.nodes.keys c.args.node c.share.result c.self.invariant
    (subst (λ (l : List Node). AreBelow (length l) (support_of c.args.node)) (sym c.self.view_is) c.requires) c.share.ensures.ok)
