-- What the nodes of a list stand for: each a term, or the indices of a read.
use Rattle.std.specs.Prelude.{◌≡◌, ℕ, ◌<◌, List, [], ◌∷◌, ◌++◌, map, length, Option, Some, None, slice_index_or}
use Rattle.fir_leaf.specs.declared.node.Node.{Node}
use Rattle.fir_leaf.specs.declared.node.Node.TheVariants as node
use Rattle.fir_meaning.specs.working.Terms.{Term, Picks, no_picks, pick, terms_of}
use Rattle.fir_meaning.specs.working.Terms as over

pub data Entry : Type 0 where
  a_term : Term → Entry
  some_picks : Picks → Entry

abbrev pub term_in : Entry → Term
term_in (a_term t) = t
term_in (some_picks ps) = over.zeros

abbrev pub picks_in : Entry → Picks
picks_in (a_term t) = no_picks
picks_in (some_picks ps) = ps

abbrev pub entry_at : List Entry → ℕ → Entry
entry_at known i = slice_index_or known i (a_term over.zeros)

abbrev pub picks_at : List Entry → Option ℕ → Picks
picks_at known None = no_picks
picks_at known (Some i) = picks_in (entry_at known i)

-- one node, from what the earlier ones stand for
abbrev pub entry_of : List Entry → Node → Entry
entry_of known node.Zeros = a_term over.zeros
entry_of known (node.Absent signed width ps) = a_term (over.absent (record { signed = signed; width = width }) (picks_at known ps))
entry_of known (node.Literal l) = a_term (over.literal l)
entry_of known (node.Read b ps) = a_term (over.read b (picks_at known ps))
entry_of known (node.Pick p) = some_picks (pick (picks_at known p.before) p.place (term_in (entry_at known p.index)) p.length p.stride)
entry_of known (node.Operation op is ks) = a_term (over.operation op (terms_of (map (λ i. term_in (entry_at known i)) is.items)) ks.items)
entry_of known (node.Mux c a b) =
    a_term (over.mux (term_in (entry_at known c)) (term_in (entry_at known a)) (term_in (entry_at known b)))
entry_of known (node.Validif c a) = a_term (over.validif (term_in (entry_at known c)) (term_in (entry_at known a)))

unfoldable pub entries_from : List Entry → List Node → List Entry
entries_from known [] = known
entries_from known (n ∷ ns) = entries_from (known ++ entry_of known n ∷ []) ns

abbrev pub entries : List Node → List Entry
entries ns = entries_from [] ns

abbrev pub node_term : List Node → ℕ → Term
node_term ns i = term_in (entry_at (entries ns) i)

-- nodes are added at the end alone
pub record Grows (old new : List Node) : Type 0 where
  pub added : List Node
  pub is : new ≡ old ++ added

abbrev pub AllBelow : ℕ → List ℕ → Type 0
AllBelow n [] = Unit {0}
AllBelow n (i ∷ is) = (i < n) × AllBelow n is

-- the nodes have grown, and those at the places stand for these terms
pub record Gives (old new : List Node) (ids : List ℕ) (ts : List Term) : Type 0 where
  pub grows : Grows old new
  pub within : AllBelow (length new) ids
  pub terms : map (node_term new) ids ≡ ts

-- the nodes have grown, and the one at the place stands for this term
pub record Shows (old new : List Node) (id : ℕ) (t : Term) : Type 0 where
  pub grows : Grows old new
  pub within : id < length new
  pub term : node_term new id ≡ t
