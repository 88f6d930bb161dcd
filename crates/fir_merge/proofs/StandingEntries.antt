-- What the bounds of nodes stand for at a place.
use Rattle.std.proofs.Common.{◌≡◌, ℕ, zero, suc, ◌<◌, List, [], ◌∷◌, ◌++◌, length, map, get_or, Option, Some, None, refl, sym, ap, ◌∙◌, subst, arith, append_assoc, append-nil}
use Rattle.std.specs.Prelude.{slice_get}
use Rattle.fir_bits.specs.Forms.{no_type}
use Rattle.fir_leaf.specs.declared.node.Node.{Node as LeafNode}
use Rattle.fir_leaf.specs.declared.node.Node.TheVariants as node
use Rattle.fir_leaf.specs.working.Nodes.{Entry, entries, entries_from, entry_at, entry_of, node_term, term_in}
use Rattle.fir_meaning.specs.working.TermValues.{Holds}
use Rattle.fir_meaning.specs.working.Terms.{zeros, terms_of}
use Rattle.fir_driven.proofs.IndexEntries.{length-entries}
use Rattle.fir_net.specs.declared.node.Node.{Node}
use Rattle.fir_connect.specs.working.Lowered.{zero_of}
use Rattle.fir_merge.specs.declared.bound.Bound.{Bound}
use Rattle.fir_merge.specs.working.Bounds.{EachBelow, EachStands, StandsFor}
use Rattle.fir_merge.specs.working.Entries.{BoundsBelow, EntriesStand, EntryStands, value_in, value_of}
use Rattle.fir_merge.specs.working.Made.{made, made_each}
use Rattle.fir_merge.specs.working.NodeTerms.{IsBelow}

-- entries of nodes of their kinds
abbrev AreOf : List LeafNode → List Entry → Type 0
AreOf [] [] = Unit {0}
AreOf (n ∷ ns) (e ∷ es) = (known : List Entry) × (e ≡ entry_of known n) × AreOf ns es
AreOf _ _ = ⊥

of_push : (ns : List LeafNode) (es : List Entry) (n : LeafNode) (known : List Entry) → AreOf ns es → AreOf (ns ++ n ∷ []) (es ++ entry_of known n ∷ [])
of_push [] [] n known h = (known, refl, tt)
of_push [] (e ∷ es) n known h = absurd h
of_push (m ∷ ns) [] n known h = absurd h
of_push (m ∷ ns) (e ∷ es) n known h = (h.0, h.1, of_push ns es n known h.2)

of_from : (front ns : List LeafNode) (known : List Entry) → AreOf front known → AreOf (front ++ ns) (entries_from known ns)
unfolding entries_from
of_from front [] known h = subst (λ (l : List LeafNode). AreOf l known) (sym (append-nil front)) h
of_from front (n ∷ ns) known h =
    subst (λ (l : List LeafNode). AreOf l (entries_from (known ++ entry_of known n ∷ []) ns)) (append_assoc front (n ∷ []) ns)
    (of_from (front ++ n ∷ []) ns (known ++ entry_of known n ∷ []) (of_push front known n known h))

entries_of : (ns : List LeafNode) → AreOf ns (entries ns)
entries_of ns = of_from [] ns [] tt

-- the value of a node of a kind; where there is none, the term is zero
value_here : (holds : Holds) (net : List Node) (known : List Entry) (n : LeafNode) (b nothing : Bound) → EntryStands holds net b (entry_of known n)
    → (term_in (entry_of known n) ≡ zeros → StandsFor holds net nothing (zero_of no_type))
    → StandsFor holds net (value_of (Some n) (Some b) nothing) (made holds (term_in (entry_of known n)))
value_here holds net known node.Zeros b nothing h z = h
value_here holds net known (node.Absent signed width ps) b nothing h z = h
value_here holds net known (node.Literal l) b nothing h z = h
value_here holds net known (node.Read x ps) b nothing h z = h
value_here holds net known (node.Pick p) b nothing h z = z refl
value_here holds net known (node.Operation op is ks) b nothing h z = h
value_here holds net known (node.Mux c a d) b nothing h z = h
value_here holds net known (node.Validif c a) b nothing h z = h

value_there : (holds : Holds) (net : List Node) (ns : List LeafNode) (es : List Entry) (bs : List Bound) (nothing : Bound) (k : ℕ) → AreOf ns es
    → EntriesStand holds net bs es → (term_in (entry_at es k) ≡ zeros → StandsFor holds net nothing (zero_of no_type))
    → StandsFor holds net (value_in ns bs nothing k) (made holds (term_in (entry_at es k)))
value_there holds net [] [] [] nothing k o h z = z refl
value_there holds net [] [] (b ∷ bs) nothing k o h z = absurd h
value_there holds net [] (e ∷ es) bs nothing k o h z = absurd o
value_there holds net (n ∷ ns) [] bs nothing k o h z = absurd o
value_there holds net (n ∷ ns) (e ∷ es) [] nothing k o h z = absurd h
value_there holds net (n ∷ ns) (e ∷ es) (b ∷ bs) nothing zero o h z =
    subst (λ (f : Entry). StandsFor holds net (value_of (Some n) (Some b) nothing) (made holds (term_in f))) (sym o.1)
    (value_here holds net o.0 n b nothing (subst (λ (f : Entry). EntryStands holds net b f) o.1 h.0) (λ none. z (ap term_in o.1 ∙ none)))
value_there holds net (n ∷ ns) (e ∷ es) (b ∷ bs) nothing (suc k) o h z = value_there holds net ns es bs nothing k o.2 h.1 z

-- the value of the node at a place
pub some_value_stands : (holds : Holds) (net : List Node) (nodes : List LeafNode) (bounds : List Bound) (nothing : Bound) (k : ℕ)
    → EntriesStand holds net bounds (entries nodes) → (node_term nodes k ≡ zeros → StandsFor holds net nothing (zero_of no_type))
    → StandsFor holds net (value_in nodes bounds nothing k) (made holds (node_term nodes k))
some_value_stands holds net nodes bounds nothing k h z = value_there holds net nodes (entries nodes) bounds nothing k (entries_of nodes) h z

pub value_stands : (holds : Holds) (net : List Node) (nodes : List LeafNode) (bounds : List Bound) (nothing : Bound) (k : ℕ)
    → EntriesStand holds net bounds (entries nodes) → StandsFor holds net nothing (zero_of no_type)
    → StandsFor holds net (value_in nodes bounds nothing k) (made holds (node_term nodes k))
value_stands holds net nodes bounds nothing k h z = some_value_stands holds net nodes bounds nothing k h (λ none. z)

pub value_is : (holds : Holds) (net : List Node) (nodes : List LeafNode) (bounds : List Bound) (nothing : Bound) (k : ℕ) (b : Bound)
    → EntriesStand holds net bounds (entries nodes) → StandsFor holds net nothing (zero_of no_type) → b ≡ value_in nodes bounds nothing k
    → StandsFor holds net b (made holds (node_term nodes k))
value_is holds net nodes bounds nothing k b h z is =
    subst (λ (c : Bound). StandsFor holds net c (made holds (node_term nodes k))) (sym is)
    (value_stands holds net nodes bounds nothing k h z)

pub values_stand : (holds : Holds) (net : List Node) (nodes : List LeafNode) (bounds : List Bound) (nothing : Bound) (ks : List ℕ)
    → EntriesStand holds net bounds (entries nodes) → StandsFor holds net nothing (zero_of no_type)
    → EachStands holds net (map (value_in nodes bounds nothing) ks) (made_each holds (terms_of (map (λ k. term_in (entry_at (entries nodes) k)) ks)))
values_stand holds net nodes bounds nothing [] h z = tt
values_stand holds net nodes bounds nothing (k ∷ ks) h z =
    (value_stands holds net nodes bounds nothing k h z, values_stand holds net nodes bounds nothing ks h z)

bound_below : (n : ℕ) (bs : List Bound) (k : ℕ) (nothing : Bound) (m : LeafNode) → BoundsBelow n bs → IsBelow n nothing.read
    → IsBelow n (value_of (Some m) (slice_get bs k) nothing).read
bound_below n [] k nothing node.Zeros h z = z
bound_below n [] k nothing (node.Absent signed width ps) h z = z
bound_below n [] k nothing (node.Literal l) h z = z
bound_below n [] k nothing (node.Read x ps) h z = z
bound_below n [] k nothing (node.Pick p) h z = z
bound_below n [] k nothing (node.Operation op is ks) h z = z
bound_below n [] k nothing (node.Mux c a d) h z = z
bound_below n [] k nothing (node.Validif c a) h z = z
bound_below n (b ∷ bs) zero nothing node.Zeros h z = h.0
bound_below n (b ∷ bs) zero nothing (node.Absent signed width ps) h z = h.0
bound_below n (b ∷ bs) zero nothing (node.Literal l) h z = h.0
bound_below n (b ∷ bs) zero nothing (node.Read x ps) h z = h.0
bound_below n (b ∷ bs) zero nothing (node.Pick p) h z = z
bound_below n (b ∷ bs) zero nothing (node.Operation op is ks) h z = h.0
bound_below n (b ∷ bs) zero nothing (node.Mux c a d) h z = h.0
bound_below n (b ∷ bs) zero nothing (node.Validif c a) h z = h.0
bound_below n (b ∷ bs) (suc k) nothing m h z = bound_below n bs k nothing m h.1 z

of_some : (n : ℕ) (bs : List Bound) (k : ℕ) (nothing : Bound) (m : Option LeafNode) → BoundsBelow n bs → IsBelow n nothing.read
    → IsBelow n (value_of m (slice_get bs k) nothing).read
of_some n bs k nothing None h z = z
of_some n bs k nothing (Some m) h z = bound_below n bs k nothing m h z

pub value_below : (n : ℕ) (nodes : List LeafNode) (bounds : List Bound) (nothing : Bound) (k : ℕ) → BoundsBelow n bounds → IsBelow n nothing.read
    → IsBelow n (value_in nodes bounds nothing k).read
value_below n nodes bounds nothing k h z = of_some n bounds k nothing (slice_get nodes k) h z

pub values_below : (n : ℕ) (nodes : List LeafNode) (bounds : List Bound) (nothing : Bound) (ks : List ℕ) → BoundsBelow n bounds → IsBelow n nothing.read
    → EachBelow n (map (value_in nodes bounds nothing) ks)
values_below n nodes bounds nothing [] h z = tt
values_below n nodes bounds nothing (k ∷ ks) h z = (value_below n nodes bounds nothing k h z, values_below n nodes bounds nothing ks h z)

-- one more bound
pub bounds_push : (n : ℕ) (bs : List Bound) (b : Bound) → BoundsBelow n bs → IsBelow n b.read → BoundsBelow n (bs ++ b ∷ [])
bounds_push n [] b h z = (z, tt)
bounds_push n (c ∷ bs) b h z = (h.0, bounds_push n bs b h.1 z)

pub entries_stand_push : (holds : Holds) (net : List Node) (bs : List Bound) (es : List Entry) (b : Bound) (e : Entry) → EntriesStand holds net bs es
    → EntryStands holds net b e → EntriesStand holds net (bs ++ b ∷ []) (es ++ e ∷ [])
entries_stand_push holds net [] [] b e h s = (s, tt)
entries_stand_push holds net [] (f ∷ es) b e h s = absurd h
entries_stand_push holds net (c ∷ bs) [] b e h s = absurd h
entries_stand_push holds net (c ∷ bs) (f ∷ es) b e h s = (h.0, entries_stand_push holds net bs es b e h.1 s)

-- each entry has a bound
entries_length : (holds : Holds) (net : List Node) (bs : List Bound) (es : List Entry) → EntriesStand holds net bs es → length bs ≡ length es
entries_length holds net [] [] h = refl
entries_length holds net [] (e ∷ es) h = absurd h
entries_length holds net (b ∷ bs) [] h = absurd h
entries_length holds net (b ∷ bs) (e ∷ es) h = ap suc (entries_length holds net bs es h.1)

pub nodes_length : (holds : Holds) (net : List Node) (bounds : List Bound) (nodes : List LeafNode) → EntriesStand holds net bounds (entries nodes)
    → length bounds ≡ length nodes
nodes_length holds net bounds nodes h = entries_length holds net bounds (entries nodes) h ∙ length-entries nodes

-- the bound at a place
entry_there : (holds : Holds) (net : List Node) (bs : List Bound) (es : List Entry) (k : ℕ) (b : Bound) (d : Entry) → EntriesStand holds net bs es
    → k < length bs → EntryStands holds net (get_or bs k b) (get_or es k d)
entry_there holds net [] [] k b d h lt = absurd (omega arith)
entry_there holds net [] (e ∷ es) k b d h lt = absurd h
entry_there holds net (c ∷ bs) [] k b d h lt = absurd h
entry_there holds net (c ∷ bs) (e ∷ es) zero b d h lt = h.0
entry_there holds net (c ∷ bs) (e ∷ es) (suc k) b d h lt = entry_there holds net bs es k b d h.1 (omega arith)

pub entry_stands : (holds : Holds) (net : List Node) (bounds : List Bound) (nodes : List LeafNode) (k : ℕ) (b : Bound)
    → EntriesStand holds net bounds (entries nodes) → k < length bounds → b ≡ get_or bounds k b → EntryStands holds net b (entry_at (entries nodes) k)
entry_stands holds net bounds nodes k b h lt is =
    subst (λ (c : Bound). EntryStands holds net c (entry_at (entries nodes) k)) (sym is) (entry_there holds net bounds (entries nodes) k b _ h lt)

below_there : (n : ℕ) (bs : List Bound) (k : ℕ) (b : Bound) → BoundsBelow n bs → k < length bs → IsBelow n (get_or bs k b).read
below_there n [] k b h lt = absurd (omega arith)
below_there n (c ∷ bs) zero b h lt = h.0
below_there n (c ∷ bs) (suc k) b h lt = below_there n bs k b h.1 (omega arith)

pub bound_at_below : (n : ℕ) (bs : List Bound) (k : ℕ) (b : Bound) → BoundsBelow n bs → k < length bs → b ≡ get_or bs k b → IsBelow n b.read
bound_at_below n bs k b h lt is = subst (λ (c : Bound). IsBelow n c.read) (sym is) (below_there n bs k b h lt)
