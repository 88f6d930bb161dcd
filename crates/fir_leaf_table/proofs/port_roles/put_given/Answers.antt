use Rattle.std.proofs.Common.{◌≡◌, ◌+◌, ◌*◌, ◌++◌, map, ap, ◌∙◌, arith}
use Rattle.std.proofs.lemmas.Result.{on_ok_weaker}
use Rattle.fir_meaning.specs.working.LeafMemories.{sinks}
use Rattle.fir_leaf_circuit.specs.working.Seen.{role_seen}
use Rattle.fir_leaf_table.proofs.port_roles.put_given.Goals as goal

pub returns : goal.returns
returns c =
    let count : c.in_ok-behind.field-0 ≡ c.args.others + 2 * c.args.data_leaves = grind arith in
    on_ok_weaker c.put_sinks.result (λ more. λ nodes. more nodes ∙ ap (λ n. map (role_seen nodes) c.args.roles.now.items ++ sinks n) count)
    c.put_sinks.ensures
