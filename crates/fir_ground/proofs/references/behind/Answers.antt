use Rattle.std.proofs.Common.{◌≡◌, Some, nat_lt, refl, ◌∙◌}
use Rattle.std.specs.Prelude.{◌&&◌}
use Rattle.fir_ground.specs.working.Indices.{stride_where}
use Rattle.fir_ground.proofs.Chained.{chained_one}
use Rattle.fir_ground.proofs.references.behind.Goals as goal
use Rattle.fir_ground.proofs.references.behind.Goals.{else-chain, else-is_there, then-chain, then-is_there}

pub returns : goal.returns
returns c =
    let chain = c.args.chain in
    let p = c.args.elements in
    let there : c.if-chain.is_there ≡ (chain.is_there && nat_lt 0 p.length) =
    elim c.if-chain.branch [ then-chain w ↦ rw w.if-chain.true w.is_there-is | else-chain w ↦ rw w.if-chain.false (w.is_there-is ∙ w.if-chain.false) ] in
    let apart : c.if-is_there.stride ≡ stride_where c.if-chain.is_there p.stride =
    elim c.if-is_there.branch [ then-is_there w ↦ rw w.if-is_there.true w.stride-is | else-is_there w ↦ rw w.if-is_there.false w.stride-is ] in
    λ ps within picks.
    chained_one c.args.nodes.now.items c.add.new.nodes.items chain (record { is_there = c.if-chain.is_there; picks = Some c.in_ok-id.id }) c.args.index p
    (record { before = chain.picks; place = c.args.index.place; index = c.args.index.node; length = p.length; stride = c.if-is_there.stride }) c.in_ok-id.id ps picks refl refl refl refl
    (rw there at apart) c.in_ok-id.ensures.place c.in_ok-id.ensures.added there refl
