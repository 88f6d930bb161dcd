-- Behind the last node stand zeros.
use Rattle.std.proofs.Common.{◌≡◌, ℕ, ◌≤◌, List, [], ◌∷◌, ◌++◌, length, map, refl, sym, ap, ◌∙◌, arith, append_assoc, append-nil}
use Rattle.std.specs.Prelude.{slice_index_or}
use Rattle.std.proofs.lemmas.List.{get_or_past}
use Rattle.std.proofs.Math.ListN.{get_or-map}
use Rattle.fir_leaf.specs.declared.node.Node.{Node}
use Rattle.fir_meaning.specs.working.LeafedBlocks.{term_at}
use Rattle.fir_leaf.specs.working.Nodes.{Entry, a_term, entries, entries_from, entry_of, node_term, term_in}
use Rattle.fir_meaning.specs.working.Terms as over

long_from : (known : List Entry) (ns : List Node) → (more : List Entry) × (entries_from known ns ≡ known ++ more) × (length more ≡ length ns)
unfolding entries_from
long_from known [] = ([], sym (append-nil known), refl)
long_from known (n ∷ ns) =
    let r = long_from (known ++ entry_of known n ∷ []) ns in
    (entry_of known n ∷ r.0, r.1 ∙ append_assoc known (entry_of known n ∷ []) r.0, omega (arith, r.2))

pub no_node : (nodes : List Node) (none : ℕ) → none ≡ length nodes → node_term nodes none ≡ over.zeros
no_node nodes none is =
    let r = long_from [] nodes in
    let behind : length (entries nodes) ≤ none = omega (arith, is, ap length r.1, r.2) in
    ap term_in (get_or_past (entries nodes) none (a_term over.zeros) behind)

-- the node of a number, or none
pub node_there : (nodes : List Node) (ids : List ℕ) (k none : ℕ) → none ≡ length nodes
    → node_term nodes (slice_index_or ids k none) ≡ term_at (map (node_term nodes) ids) k
node_there nodes ids k none is =
    sym (get_or-map (node_term nodes) ids k none) ∙ ap (slice_index_or (map (node_term nodes) ids) k) (no_node nodes none is)
