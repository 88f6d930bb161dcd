use Rattle.std.proofs.Common.{◌≡◌, ◌+◌, ◌++◌, map, ap, ◌∙◌, arith}
use Rattle.fir_meaning.specs.working.LeafMemories.{sinks}
use Rattle.fir_leaf_circuit.specs.declared.leaf.LeafRole.TheVariants.{Sink}
use Rattle.fir_leaf_circuit.specs.working.Seen.{role_seen}
use Rattle.fir_leaf_table.proofs.ReadLeaves.{put_more, sinks_more}
use Rattle.fir_leaf_table.proofs.port_roles.put_sinks.Goals as goal

pub loop-preserved : goal.loop-preserved
loop-preserved c = λ nodes.
    put_more (role_seen nodes) c.args.roles.now.items c.loop.roles.items c.push.new.self.items Sink (sinks c.loop.counter)
    (sinks (c.loop.counter + 1)) (c.loop.invariant nodes) c.in_ok-push.ensures.items (sinks_more c.loop.counter)

pub returns : goal.returns
returns c = λ nodes.
    let all : c.loop.counter ≡ c.args.count = omega arith in
    c.loop.invariant nodes ∙ ap (λ n. map (role_seen nodes) c.args.roles.now.items ++ sinks n) all
