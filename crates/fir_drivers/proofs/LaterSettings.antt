-- What the walk reads stands for its terms also where nodes are added.
use Rattle.std.proofs.Common.{ℕ, List, [], ◌∷◌, length, subst}
use Rattle.fir_bits.specs.Forms.{no_type}
use Rattle.fir_meaning.specs.LeafTypes.{LeafType}
use Rattle.fir_meaning.specs.working.TermValues.{Holds}
use Rattle.fir_meaning.specs.working.Terms.{no_picks, pick}
use Rattle.fir_leaf.specs.working.Nodes.{Entry, a_term, entries, node_term, some_picks}
use Rattle.fir_leaf_types.specs.working.TypedTerms.{HasType}
use Rattle.fir_net.specs.declared.node.Node.{Node}
use Rattle.fir_connect.specs.working.Lowered.{lowered, zero_of}
use Rattle.fir_connect.specs.working.LoweredLaws.{types_of}
use Rattle.fir_connect.proofs.LoweredTypes.{lowered_has_type}
use Rattle.fir_merge.specs.declared.bound.Bound.{Bound}
use Rattle.fir_merge.specs.working.Bounds.{StandsFor}
use Rattle.fir_merge.specs.working.Entries.{EntriesStand, EntryStands, value_in}
use Rattle.fir_merge.specs.working.Made.{made}
use Rattle.fir_merge.specs.working.NodeTerms.{Grows}
use Rattle.fir_merge.proofs.GrownTerms.{below_later}
use Rattle.fir_merge.proofs.MadeTerms.{made_is}
use Rattle.fir_merge.proofs.StandingValues.{stands_later}
use Rattle.fir_drivers.specs.declared.setting.Setting.{Setting}
use Rattle.fir_drivers.specs.working.Walks.{IsSet, IsSetBelow}
use Rattle.fir_drivers.proofs.BelowBounds.{bounds_later}
use Rattle.fir_drivers.proofs.StandingNodes.{value_stands}

entry_later : (holds : Holds) (old new : List Node) (b : Bound) (e : Entry) → Grows old new → EntryStands holds old b e → EntryStands holds new b e
entry_later holds old new b (a_term t) g h = stands_later holds old new b (made holds t) g h
entry_later holds old new b (some_picks no_picks) g h = tt
entry_later holds old new b (some_picks (pick ps p i n each)) g h = stands_later holds old new b (made holds i) g h

pub entries_later : (holds : Holds) (old new : List Node) (bs : List Bound) (es : List Entry) → Grows old new → EntriesStand holds old bs es
    → EntriesStand holds new bs es
entries_later holds old new [] [] g h = tt
entries_later holds old new [] (e ∷ es) g h = absurd h
entries_later holds old new (b ∷ bs) [] g h = absurd h
entries_later holds old new (b ∷ bs) (e ∷ es) g h = (entry_later holds old new b e g h.0, entries_later holds old new bs es g h.1)

pub set_later : (held : ℕ → LeafType) (s : Setting) (old new : List Node) → Grows old new → IsSet held s old → IsSet held s new
set_later held s old new g h = record {
  types = h.types;
  narrow = h.narrow;
  entries = entries_later (types_of held) old new s.bounds.now (entries s.nodes.now) g h.entries;
  nothing = stands_later (types_of held) old new s.nothing.now (zero_of no_type) g h.nothing;
}

pub set_below_later : (s : Setting) (old new : List Node) → Grows old new → IsSetBelow (length old) s → IsSetBelow (length new) s
set_below_later s old new g h = (bounds_later old new s.bounds.now g h.0, below_later old new s.nothing.now.read g h.1)

-- the value of a node that has a type stands for the lowered term
pub lowered_stands : (held : ℕ → LeafType) (s : Setting) (net : List Node) (place : ℕ) (u : LeafType) → IsSet held s net
    → HasType held (node_term s.nodes.now place) u
    → StandsFor (types_of held) net (value_in s.nodes.now s.bounds.now s.nothing.now place) (lowered (types_of held) (node_term s.nodes.now place))
lowered_stands held s net place u set has =
    subst (StandsFor (types_of held) net (value_in s.nodes.now s.bounds.now s.nothing.now place))
    (made_is held lowered_has_type (node_term s.nodes.now place) u has)
    (value_stands (types_of held) net s.nothing.now set.nothing s.nodes.now s.bounds.now place set.entries)
