use Rattle.std.proofs.Common.{ap, sym, ◌∙◌, Some}
use Rattle.fir_loop.proofs.Numbering.{target_at}
use Rattle.fir_loop.proofs.net_graph.NetGraphGraph.target.Goals as goal

pub vertex-requires : goal.vertex-requires
vertex-requires c = c.args.self.now.within c.args.vertex c.args.place _ (sym (target_at c.args.self.now.net.now c.args.vertex c.args.place _ (rw c.read.ensures at c.in-Some.ensures.read)))

pub returns-in-Some-clause-found : goal.returns-in-Some-clause-found
returns-in-Some-clause-found c = ap Some c.vertex.ensures ∙ target_at c.args.self.now.net.now c.args.vertex c.args.place _ (rw c.read.ensures at c.in-Some.ensures.read)

pub returns-in-Some-clause-within : goal.returns-in-Some-clause-within
returns-in-Some-clause-within c =
    rw c.vertex.ensures (c.args.self.now.within c.args.vertex c.args.place _ (sym (target_at c.args.self.now.net.now c.args.vertex c.args.place _ (rw c.read.ensures at c.in-Some.ensures.read))))

pub returns-in-None-clause-found : goal.returns-in-None-clause-found
returns-in-None-clause-found c = target_at c.args.self.now.net.now c.args.vertex c.args.place _ (rw c.read.ensures at c.in-None.ensures.read)
