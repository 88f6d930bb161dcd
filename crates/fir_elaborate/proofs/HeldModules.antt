-- The instances of one module more.
use Rattle.std.proofs.Common.{◌≡◌, ℕ, zero, suc, ◌+◌, ◌<◌, List, [], ◌∷◌, ◌++◌, map, take, get_or, length, sym, subst, arith, ◌∙◌, ap}
use Rattle.std.proofs.lemmas.List.{take_more, length-take-le}
use Rattle.fir_leaf.specs.declared.node.Node.{Node}
use Rattle.fir_leaf.specs.declared.statement.LeafInstance.{LeafInstance}
use Rattle.fir_leaf.specs.working.NodeBlocks.{block_in}
use Rattle.fir_leaf_circuit.specs.declared.leaf_module.LeafModule.{LeafModule as ModuleOfCode}
use Rattle.fir_elaborate.specs.working.OrderedModules.{instances_of}
use Rattle.fir_elaborate.specs.working.Walks.{AreHeld, held_seen}

held_push : (ms : List ModuleOfCode) (held : List (List LeafInstance)) (m : ModuleOfCode) (is : List LeafInstance) → length held ≡ length ms
    → AreHeld ms held
    → ((nodes : List Node) → map held_seen is ≡ instances_of (block_in nodes m.body.items))
    → AreHeld (ms ++ m ∷ []) (held ++ is ∷ [])
held_push [] [] m is long h here zero n js a b nodes =
    let same : m ≡ n = cc in
    let also : is ≡ js = cc in
    ap (map held_seen) (sym also) ∙ here nodes ∙ ap (λ (z : ModuleOfCode). instances_of (block_in nodes z.body.items)) same
held_push [] [] m is long h here (suc x) n js a b nodes = absurd (cc)
held_push (k ∷ ms) [] m is long h here x n js a b nodes = absurd (omega (arith, long))
held_push [] (ks ∷ held) m is long h here x n js a b nodes = absurd (omega (arith, long))
held_push (k ∷ ms) (ks ∷ held) m is long h here zero n js a b nodes = h 0 n js a b nodes
held_push (k ∷ ms) (ks ∷ held) m is long h here (suc x) n js a b nodes =
    held_push ms held m is (omega (arith, long)) (λ y. h (suc y)) here x n js a b nodes

pub held_next : (ms : List ModuleOfCode) (i : ℕ) (m : ModuleOfCode) (held : List (List LeafInstance)) (is : List LeafInstance) → i < length ms
    → m ≡ get_or ms i m → length held ≡ i → AreHeld (take i ms) held
    → ((nodes : List Node) → map held_seen is ≡ instances_of (block_in nodes m.body.items))
    → AreHeld (take (i + 1) ms) (held ++ is ∷ [])
held_next ms i m held is lt read long h here =
    let grown : take (i + 1) ms ≡ take i ms ++ m ∷ [] = take_more ms i m lt ∙ ap (λ z. take i ms ++ z ∷ []) (sym read) in
    subst (λ z. AreHeld z (held ++ is ∷ [])) (sym grown)
    (held_push (take i ms) held m is (omega (arith, length-take-le i ms (omega arith))) h here)
