-- What the first nodes of a list stand for, one node after another.
use Rattle.std.proofs.Common.{◌≡◌, ℕ, ◌+◌, ◌<◌, List, [], ◌∷◌, ◌++◌, length, take, get_or, refl, sym, ap, ◌∙◌}
use Rattle.std.proofs.lemmas.List.{take_more}
use Rattle.fir_leaf.specs.declared.node.Node.{Node}
use Rattle.fir_leaf.specs.working.Nodes.{entries, entries_from, entry_of}
use Rattle.fir_driven.proofs.IndexEntries.{from_append}

-- without nodes
pub no_entries : entries [] ≡ []
unfolding entries_from
no_entries = refl

-- one more node
entries_push : (front : List Node) (n : Node) → entries (front ++ n ∷ []) ≡ entries front ++ entry_of (entries front) n ∷ []
unfolding entries_from
entries_push front n = from_append [] front (n ∷ [])

pub entries_more : (nodes : List Node) (i : ℕ) (n : Node) → i < length nodes → n ≡ get_or nodes i n
    → entries (take (i + 1) nodes) ≡ entries (take i nodes) ++ entry_of (entries (take i nodes)) n ∷ []
entries_more nodes i n within is =
    ap entries (take_more nodes i n within ∙ ap (λ m. take i nodes ++ m ∷ []) (sym is)) ∙ entries_push (take i nodes) n
