-- What bounds of nodes, indices and elements stand for while nodes are added.
use Rattle.std.proofs.Common.{List, [], ◌∷◌, length}
use Rattle.fir_leaf.specs.working.Nodes.{Entry, a_term, some_picks}
use Rattle.fir_meaning.specs.working.TermValues.{Holds}
use Rattle.fir_meaning.specs.working.Terms.{Picks, no_picks, pick}
use Rattle.fir_net.specs.declared.node.Node.{Node}
use Rattle.fir_connect.specs.working.Lowered.{Candidate}
use Rattle.fir_merge.specs.declared.bound.Bound.{Bound}
use Rattle.fir_merge.specs.declared.elements.Element.{Element}
use Rattle.fir_merge.specs.declared.index.Index.{Index}
use Rattle.fir_merge.specs.working.Elements.{ElementsBelow, ElementsStand}
use Rattle.fir_merge.specs.working.Entries.{BoundsBelow, EntriesStand, EntryStands, IndicesBelow, IndicesStand}
use Rattle.fir_merge.specs.working.Made.{made}
use Rattle.fir_merge.specs.working.NodeTerms.{Grows}
use Rattle.fir_merge.proofs.GrownTerms.{below_later}
use Rattle.fir_merge.proofs.StandingValues.{stands_later}

pub entry_later : (holds : Holds) (old new : List Node) (b : Bound) (e : Entry) → Grows old new → EntryStands holds old b e → EntryStands holds new b e
entry_later holds old new b (a_term t) g h = stands_later holds old new b (made holds t) g h
entry_later holds old new b (some_picks no_picks) g h = tt
entry_later holds old new b (some_picks (pick ps p i n each)) g h = stands_later holds old new b (made holds i) g h

pub entries_later : (holds : Holds) (old new : List Node) (bs : List Bound) (es : List Entry) → Grows old new → EntriesStand holds old bs es
    → EntriesStand holds new bs es
entries_later holds old new [] [] g h = tt
entries_later holds old new [] (e ∷ es) g h = absurd h
entries_later holds old new (b ∷ bs) [] g h = absurd h
entries_later holds old new (b ∷ bs) (e ∷ es) g h = (entry_later holds old new b e g h.0, entries_later holds old new bs es g h.1)

pub bounds_below_later : (old new : List Node) (bs : List Bound) → Grows old new → BoundsBelow (length old) bs → BoundsBelow (length new) bs
bounds_below_later old new [] g h = tt
bounds_below_later old new (b ∷ bs) g h = (below_later old new b.read g h.0, bounds_below_later old new bs g h.1)

pub indices_later : (holds : Holds) (old new : List Node) (xs : List Index) (ps : Picks) → Grows old new → IndicesStand holds old xs ps
    → IndicesStand holds new xs ps
indices_later holds old new [] no_picks g h = tt
indices_later holds old new [] (pick ps p i n each) g h = absurd h
indices_later holds old new (x ∷ xs) no_picks g h = absurd h
indices_later holds old new (x ∷ xs) (pick ps p i n each) g h =
    (stands_later holds old new x.bound (made holds i) g h.0, h.1, h.2, indices_later holds old new xs ps g h.3)

pub indices_below_later : (old new : List Node) (xs : List Index) → Grows old new → IndicesBelow (length old) xs → IndicesBelow (length new) xs
indices_below_later old new [] g h = tt
indices_below_later old new (x ∷ xs) g h = (below_later old new x.bound.read g h.0, indices_below_later old new xs g h.1)

pub elements_later : (holds : Holds) (old new : List Node) (es : List Element) (cs : List Candidate) → Grows old new → ElementsStand holds old es cs
    → ElementsStand holds new es cs
elements_later holds old new [] [] g h = tt
elements_later holds old new [] (c ∷ cs) g h = absurd h
elements_later holds old new (e ∷ es) [] g h = absurd h
elements_later holds old new (e ∷ es) (c ∷ cs) g h =
    (h.0, stands_later holds old new e.condition c.condition g h.1, elements_later holds old new es cs g h.2)

pub elements_below_later : (old new : List Node) (es : List Element) → Grows old new → ElementsBelow (length old) es → ElementsBelow (length new) es
elements_below_later old new [] g h = tt
elements_below_later old new (e ∷ es) g h = (below_later old new e.condition.read g h.0, elements_below_later old new es g h.1)
