-- The bound of a module's node stands for what the node's term makes.
use Rattle.std.proofs.Common.{◌≡◌, ℕ, zero, suc, ◌+◌, ◌<◌, ◌≤◌, List, [], ◌∷◌, ◌++◌, length, get_or, Some, None, Bool, true, refl, sym, ap, ◌∙◌, subst, arith, ⊎_elim}
use Rattle.std.specs.Prelude.{Option, slice_get}
use Rattle.std.proofs.lemmas.List.{get_or_past, length_push}
use Rattle.std.proofs.lemmas.Option.{get_or_from_slice_get, slice_get-get_or, slice_get_cases, slice_get_within}
use Rattle.fir_bits.specs.Forms.{no_type}
use Rattle.fir_meaning.specs.working.TermValues.{Holds}
use Rattle.fir_meaning.specs.working.Terms as over
use Rattle.fir_leaf.specs.declared.node.Node.{Node as LeafNode}
use Rattle.fir_leaf.specs.declared.node.Node.TheVariants as code
use Rattle.fir_leaf.specs.working.Nodes.{Entry, a_term, entries, entries_from, entry_at, entry_of, node_term, term_in}
use Rattle.fir_driven.proofs.IndexEntries.{node_entry}
use Rattle.fir_net.specs.declared.node.Node.{Node}
use Rattle.fir_connect.specs.working.Lowered.{zero_of}
use Rattle.fir_merge.specs.declared.bound.Bound.{Bound}
use Rattle.fir_merge.specs.working.Bounds.{StandsFor}
use Rattle.fir_merge.specs.working.Entries.{BoundsBelow, EntriesStand, EntryStands, value_in, value_of}
use Rattle.fir_merge.specs.working.Made.{made}
use Rattle.fir_merge.specs.working.NodeTerms.{IsBelow}
use Rattle.fir_drivers.specs.working.Walks.{is_zeros}
use Rattle.fir_drivers.proofs.BelowBounds.{below_at}

length_from : (known : List Entry) (ns : List LeafNode) → length (entries_from known ns) ≡ length known + length ns
unfolding entries_from
length_from known [] = omega arith
length_from known (n ∷ ns) =
    let one = length_push known (entry_of known n) in
    let rest = length_from (known ++ entry_of known n ∷ []) ns in
    omega (arith, one, rest)

-- behind all nodes
past_term : (nodes : List LeafNode) (place : ℕ) → length nodes ≤ place → node_term nodes place ≡ over.zeros
past_term nodes place le =
    let past : length (entries nodes) ≤ place = omega (arith, length_from [] nodes) in
    ap term_in (get_or_past (entries nodes) place (a_term over.zeros) past)

-- the node of a place, or none
pub record NodeAt (nodes : List LeafNode) (place : ℕ) (n : LeafNode) : Type 0 where
  pub known : List Entry
  pub entry : entry_at (entries nodes) place ≡ entry_of known n

node_at : (nodes : List LeafNode) (place : ℕ) (n : LeafNode) → slice_get nodes place ≡ Some n → NodeAt nodes place n
node_at nodes place n is = record {
  known = _;
  entry = node_entry nodes place n (slice_get_within nodes place n is) (sym (get_or_from_slice_get nodes place n n is));
}

-- whether it is what `is invalid` gives
pub zeros_at : (nodes : List LeafNode) (place : ℕ) (n : LeafNode) (is : Bool) → slice_get nodes place ≡ Some n
    → ((known : List Entry) → is ≡ is_zeros (term_in (entry_of known n))) → is ≡ is_zeros (node_term nodes place)
zeros_at nodes place n is there told =
    let at = node_at nodes place n there in
    told at.known ∙ ap (λ e. is_zeros (term_in e)) (sym at.entry)

pub zeros_past : (nodes : List LeafNode) (place : ℕ) → length nodes ≤ place → true ≡ is_zeros (node_term nodes place)
zeros_past nodes place le = ap is_zeros (sym (past_term nodes place le))

-- bounds of entries, one of them
record BoundAt (holds : Holds) (net : List Node) (bs : List Bound) (place : ℕ) (e : Entry) : Type 0 where
  bound : Bound
  is : slice_get bs place ≡ Some bound
  stands : EntryStands holds net bound e

bound_at : (holds : Holds) (net : List Node) (bs : List Bound) (es : List Entry) (place : ℕ) (e : Entry) → EntriesStand holds net bs es
    → slice_get es place ≡ Some e → BoundAt holds net bs place e
bound_at holds net [] [] place e h is = absurd cc
bound_at holds net [] (f ∷ es) place e h is = absurd h
bound_at holds net (b ∷ bs) [] place e h is = absurd h
bound_at holds net (b ∷ bs) (f ∷ es) zero e h is =
    let same : f ≡ e = cc in
    record { bound = b; is = refl; stands = subst (EntryStands holds net b) same h.0 }
bound_at holds net (b ∷ bs) (f ∷ es) (suc place) e h is =
    let r = bound_at holds net bs es place e h.1 is in
    record { bound = r.bound; is = r.is; stands = r.stands }

module _ (holds : Holds) (net : List Node) (nothing : Bound) (of_nothing : StandsFor holds net nothing (zero_of no_type)) where
  node_stands : (known : List Entry) (n : LeafNode) (b : Bound) → EntryStands holds net b (entry_of known n)
      → StandsFor holds net (value_of (Some n) (Some b) nothing) (made holds (term_in (entry_of known n)))
  node_stands known code.Zeros b h = h
  node_stands known (code.Absent signed width ps) b h = h
  node_stands known (code.Literal l) b h = h
  node_stands known (code.Read a ps) b h = h
  node_stands known (code.Pick p) b h = of_nothing
  node_stands known (code.Operation op is ks) b h = h
  node_stands known (code.Mux c a d) b h = h
  node_stands known (code.Validif c a) b h = h

  pub value_stands : (nodes : List LeafNode) (bs : List Bound) (place : ℕ) → EntriesStand holds net bs (entries nodes)
      → StandsFor holds net (value_in nodes bs nothing place) (made holds (node_term nodes place))
  value_stands nodes bs place h =
      ⊎_elim
      (λ (w : (n : LeafNode) × (place < length nodes) × (slice_get nodes place ≡ Some n) × (get_or nodes place n ≡ n)).
      let at = node_at nodes place w.0 w.2 in
      let within : place < length (entries nodes) = omega (arith, w.1, length_from [] nodes) in
      let entry : slice_get (entries nodes) place ≡ Some (entry_of at.known w.0) =
      slice_get-get_or (entries nodes) place (a_term over.zeros) within ∙ ap Some at.entry in
      let there = bound_at holds net bs (entries nodes) place (entry_of at.known w.0) h entry in
      let made_so = made holds (term_in (entry_of at.known w.0)) in
      subst (λ (e : Entry). StandsFor holds net (value_in nodes bs nothing place) (made holds (term_in e))) (sym at.entry)
      (subst (λ (o : Option Bound). StandsFor holds net (value_of (slice_get nodes place) o nothing) made_so) (sym there.is)
      (subst (λ (o : Option LeafNode). StandsFor holds net (value_of o (Some there.bound) nothing) made_so) (sym w.2)
      (node_stands at.known w.0 there.bound there.stands))))
      (λ (w : (length nodes ≤ place) × (slice_get nodes place ≡ None)).
      subst (λ (t : over.Term). StandsFor holds net (value_in nodes bs nothing place) (made holds t)) (sym (past_term nodes place w.0))
      (subst (λ (o : Option LeafNode). StandsFor holds net (value_of o (slice_get bs place) nothing) (zero_of no_type)) (sym w.1) of_nothing))
      (slice_get_cases nodes place).1

-- and is a leaf or one of so many nodes
value_below : (n : ℕ) (node : Option LeafNode) (bs : List Bound) (nothing : Bound) (place : ℕ) → BoundsBelow n bs → IsBelow n nothing.read
    → IsBelow n (value_of node (slice_get bs place) nothing).read
value_below n node bs nothing place h k = by node (slice_get bs place) refl
  where
    by : (m : Option LeafNode) (b : Option Bound) → slice_get bs place ≡ b → IsBelow n (value_of m b nothing).read
    by None b is = k
    by (Some (code.Pick p)) b is = k
    by (Some code.Zeros) None is = k
    by (Some code.Zeros) (Some b) is = below_at n bs place b h is
    by (Some (code.Absent signed width ps)) None is = k
    by (Some (code.Absent signed width ps)) (Some b) is = below_at n bs place b h is
    by (Some (code.Literal l)) None is = k
    by (Some (code.Literal l)) (Some b) is = below_at n bs place b h is
    by (Some (code.Read a ps)) None is = k
    by (Some (code.Read a ps)) (Some b) is = below_at n bs place b h is
    by (Some (code.Operation op is ks)) None e = k
    by (Some (code.Operation op is ks)) (Some b) e = below_at n bs place b h e
    by (Some (code.Mux c a d)) None is = k
    by (Some (code.Mux c a d)) (Some b) is = below_at n bs place b h is
    by (Some (code.Validif c a)) None is = k
    by (Some (code.Validif c a)) (Some b) is = below_at n bs place b h is

pub value_is_below : (n : ℕ) (nodes : List LeafNode) (bs : List Bound) (nothing : Bound) (place : ℕ) → BoundsBelow n bs → IsBelow n nothing.read
    → IsBelow n (value_in nodes bs nothing place).read
value_is_below n nodes bs nothing place h k = value_below n (slice_get nodes place) bs nothing place h k
