use Rattle.std.proofs.Common.{◌≡◌, ℕ, ◌+◌, ◌*◌, List, [], ◌∷◌, ◌++◌, false, map, ap, sym, ◌∙◌, arith}
use Rattle.std.proofs.lemmas.Result.{on_ok_weaker}
use Rattle.fir_meaning.specs.working.LeafMemories.{enable, mode, read_roles, sinks}
use Rattle.fir_leaf_circuit.specs.working.Seen.{role_seen}
use Rattle.fir_leaf_table.proofs.ReadLeaves.{put_twice, sinks_add}
use Rattle.fir_leaf_table.proofs.port_roles.put_roles.Goals as goal

pub returns-in-Reads : goal.returns-in-Reads
returns-in-Reads c =
    on_ok_weaker c.put_reads.result
    (λ more. λ nodes meant holds is.
    let seen = map (role_seen nodes) in
    let reads = read_roles meant (enable c.args.begins ∷ []) c.args.begins 0 meant.data_leaves in
    rw c.in-Reads.is
    (put_twice (seen c.args.roles.now.items) (seen c.put_sinks.new.roles.items) (seen c.put_reads.new.roles.items) (sinks 3) reads
    (c.in_ok-put_sinks.ensures nodes) (more nodes meant holds is)))
    c.put_reads.ensures

pub returns-in-Writes : goal.returns-in-Writes
returns-in-Writes c =
    on_ok_weaker c.put_given.result
    (λ more. λ nodes meant holds is.
    let d = c.len-data_leaves.result in
    let count : 3 + (0 + 2 * d) ≡ 3 + 2 * meant.data_leaves = omega (arith, is.data_leaves) in
    let seen = map (role_seen nodes) in
    rw c.in-Writes.is
    (put_twice (seen c.args.roles.now.items) (seen c.put_sinks.new.roles.items) (seen c.put_given.new.roles.items) (sinks 3) (sinks (0 + 2 * d))
    (c.in_ok-put_sinks.ensures nodes) (more nodes)
    ∙ ap (λ rs. seen c.args.roles.now.items ++ rs) (sym (sinks_add 3 (0 + 2 * d)) ∙ ap sinks count)))
    c.put_given.ensures

pub returns-in_ok-put_reads-in-ReadsAndWrites : goal.returns-in_ok-put_reads-in-ReadsAndWrites
returns-in_ok-put_reads-in-ReadsAndWrites c =
    on_ok_weaker c.put_given-in-ReadsAndWrites.result
    (λ more. λ nodes meant holds is.
    let b = c.args.begins in
    let d = c.len-data_leaves.result in
    let x = c.in_ok-mode-in-ReadsAndWrites.mode in
    let at : x ≡ mode meant.data_leaves b = omega (arith, is.data_leaves) in
    let count : 1 + 2 * d ≡ 1 + 2 * meant.data_leaves = omega (arith, is.data_leaves) in
    let seen = map (role_seen nodes) in
    let reads : ℕ → List _ = λ y. read_roles meant (enable b ∷ record { leaf = y; high = false } ∷ []) b 0 meant.data_leaves in
    let read = put_twice (seen c.args.roles.now.items) (seen c.put_sinks.new.roles.items) (seen c.put_reads-in-ReadsAndWrites.new.roles.items)
    (sinks 3) (reads x) (c.in_ok-put_sinks.ensures nodes) (c.in_ok-put_reads-in-ReadsAndWrites.ensures nodes meant holds is) in
    rw c.in-ReadsAndWrites.is
    (put_twice (seen c.args.roles.now.items) (seen c.put_reads-in-ReadsAndWrites.new.roles.items) (seen c.put_given-in-ReadsAndWrites.new.roles.items)
    (sinks 3 ++ reads x) (sinks (1 + 2 * d)) read (more nodes)
    ∙ ap (λ y. seen c.args.roles.now.items ++ (sinks 3 ++ reads y ++ sinks (1 + 2 * d))) at
    ∙ ap (λ n. seen c.args.roles.now.items ++ (sinks 3 ++ reads (mode meant.data_leaves b) ++ sinks n)) count))
    c.put_given-in-ReadsAndWrites.ensures
