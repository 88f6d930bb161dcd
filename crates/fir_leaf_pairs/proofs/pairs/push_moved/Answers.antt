use Rattle.std.proofs.Common.{ℕ, ◌+◌, ◌∷◌, ◌++◌, [], ap, ◌∙◌, arith}
use Rattle.fir_leaf_pairs.specs.declared.pairs.LeafPair.{LeafPair}
use Rattle.fir_type_table.specs.working.Saturated.{saturated}
use Rattle.fir_leaf_pairs.proofs.PairCopies.{copy_more}
use Rattle.fir_leaf_pairs.proofs.pairs.push_moved.Goals as goal

pub loop-k-preserved : goal.loop-k-preserved
loop-k-preserved c =
    let now = c.loop-k.pairs.items in
    let p = c.index-pair.result.now in
    let made : ℕ → ℕ → LeafPair = λ l r. record { left = l; right = r; flip = p.flip } in
    c.in_ok-push.ensures.items ∙ ap (λ l. now ++ made l c.saturating_add-in-loop-k.result ∷ []) c.saturating_add.ensures
    ∙ ap (λ r. now ++ made (saturated (p.left + c.args.left)) r ∷ []) c.saturating_add-in-loop-k.ensures
    ∙ copy_more c.args.pairs.now.items now c.args.start c.loop-k.k c.args.left c.args.right p c.loop-k.invariant c.loop-k.auto.k (omega arith)
    c.index-pair.ensures
