use Rattle.std.proofs.Common.{◌≡◌, ◌+◌, [], ◌∷◌, ◌++◌, false, map, ap, sym, ◌∙◌, arith}
use Rattle.fir_meaning.specs.working.LeafMemories.{enable, read_role, read_roles}
use Rattle.fir_leaf_circuit.specs.working.Seen.{mode_need, role_seen}
use Rattle.fir_leaf_table.proofs.ReadLeaves.{put_more, reads_more}
use Rattle.fir_leaf_table.proofs.port_roles.put_reads.Goals as goal

pub loop-leaf-preserved : goal.loop-leaf-preserved
loop-leaf-preserved c = λ nodes meant holds is.
    let needs = enable c.args.address ∷ mode_need false c.args.mode in
    let i = c.loop-leaf.leaf in
    let so_far = read_roles meant needs c.args.address 0 i in
    let at : 0 + i ≡ i = omega arith in
    put_more (role_seen nodes) c.args.roles.now.items c.loop-leaf.roles.items c.push.new.self.items c.in_ok-read_role.field-0 so_far
    (read_roles meant needs c.args.address 0 (i + 1)) (c.loop-leaf.invariant nodes meant holds is) c.in_ok-push.ensures.items
    (reads_more meant needs c.args.address 0 i
    ∙ ap (λ r. so_far ++ r ∷ []) (ap (read_role meant needs c.args.address) at ∙ sym (c.in_ok-read_role.ensures nodes meant holds is)))

pub returns : goal.returns
returns c = λ nodes meant holds is.
    let needs = enable c.args.address ∷ mode_need false c.args.mode in
    let all : c.loop-leaf.leaf ≡ meant.data_leaves = omega (arith, is.data_leaves) in
    c.loop-leaf.invariant nodes meant holds is
    ∙ ap (λ n. map (role_seen nodes) c.args.roles.now.items ++ read_roles meant needs c.args.address 0 n) all
