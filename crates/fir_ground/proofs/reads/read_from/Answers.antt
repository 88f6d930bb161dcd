use Rattle.std.proofs.Common.{◌≡◌, ◌+◌, subst, arith}
use Rattle.fir_leaf.specs.working.Nodes.{Gives}
use Rattle.fir_leaf_pairs.specs.working.Reads.{reads_from}
use Rattle.fir_ground.proofs.ReadTargets.{read_more, read_none}
use Rattle.fir_ground.proofs.reads.read_from.Goals as goal

pub loop-leaf-init : goal.loop-leaf-init
loop-leaf-init c = λ ps small within picks. read_none c.args.nodes.now.items c.new-ids.result.items c.args.base ps c.new-ids.ensures.items

pub loop-leaf-preserved : goal.loop-leaf-preserved
loop-leaf-preserved c =
    λ ps small within picks.
    let here : c.saturating_add.result ≡ c.args.base + c.loop-leaf.leaf = omega arith in
    read_more c.args.nodes.now.items c.loop-leaf.nodes.items c.add.new.nodes.items c.args.base c.loop-leaf.leaf c.in_ok-id.id c.saturating_add.result c.args.picks ps c.loop-leaf.ids.items
    c.push.new.self.items here within picks (c.loop-leaf.invariant ps small within picks) c.in_ok-id.ensures.place c.in_ok-id.ensures.added c.in_ok-push.ensures.items

pub returns : goal.returns
returns c =
    let all : c.loop-leaf.leaf ≡ c.args.count = omega arith in
    λ ps small within picks.
    subst (λ n. Gives c.args.nodes.now.items c.loop-leaf.nodes.items c.loop-leaf.ids.items (reads_from c.args.base n ps)) all (c.loop-leaf.invariant ps small within picks)
