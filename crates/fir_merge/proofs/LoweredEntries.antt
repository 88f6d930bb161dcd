-- The bounds of nodes whose terms have types stand for the lowered terms.
use Rattle.std.proofs.Common.{◌≡◌, ℕ, List, subst}
use Rattle.fir_leaf.specs.declared.node.Node.{Node as LeafNode}
use Rattle.fir_leaf.specs.working.Nodes.{entries, node_term}
use Rattle.fir_leaf_types.specs.working.TypedTerms.{HasType}
use Rattle.fir_meaning.specs.LeafTypes.{LeafType}
use Rattle.fir_meaning.specs.working.Terms.{Term, zeros}
use Rattle.fir_net.specs.declared.node.Node.{Node}
use Rattle.fir_connect.specs.working.Lowered.{lowered}
use Rattle.fir_connect.specs.working.LoweredLaws.{LoweredHasType, types_of}
use Rattle.fir_connect.specs.working.NetTerms.{NetTerm}
use Rattle.fir_merge.specs.declared.bound.Bound.{Bound}
use Rattle.fir_merge.specs.working.Bounds.{StandsFor}
use Rattle.fir_merge.specs.working.Entries.{EntriesStand, value_in}
use Rattle.fir_merge.proofs.MadeTerms.{made_is}
use Rattle.fir_merge.proofs.StandingEntries.{some_value_stands}

pub value_is_lowered : (held : ℕ → LeafType) → LoweredHasType → (net : List Node) (nodes : List LeafNode) (bounds : List Bound) (nothing : Bound) (k : ℕ)
    (u : LeafType) → EntriesStand (types_of held) net bounds (entries nodes) → HasType held (node_term nodes k) u
    → StandsFor (types_of held) net (value_in nodes bounds nothing k) (lowered (types_of held) (node_term nodes k))
value_is_lowered held law net nodes bounds nothing k u all typed =
    let some : node_term nodes k ≡ zeros → ⊥ = λ none. subst (λ (t : Term). HasType held t u) none typed in
    subst (λ (t : NetTerm). StandsFor (types_of held) net (value_in nodes bounds nothing k) t) (made_is held law (node_term nodes k) u typed)
    (some_value_stands (types_of held) net nodes bounds nothing k all (λ none. absurd (some none)))
