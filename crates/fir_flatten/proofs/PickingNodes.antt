-- The indices that pick the leaf that a node gives stand before the node.
use Rattle.std.proofs.Common.{◌≡◌, ℕ, ◌<◌, ◌≤◌, Bool, List, [], length, take, get_or, Option, refl, sym, ap, ◌∙◌, arith, ◌⊎◌, ⊎_elim}
use Rattle.std.proofs.lemmas.List.{get_or_past}
use Rattle.fir_leaf.specs.declared.node.Node.{Node}
use Rattle.fir_leaf.specs.declared.node.Node.TheVariants as code
use Rattle.fir_leaf.specs.working.ClockFaults.{index_places, picking_places}
use Rattle.fir_leaf.specs.working.Nodes.{Entry, a_term, entries, entry_of, node_term, picks_at, term_in}
use Rattle.fir_meaning.specs.working.Terms as over
use Rattle.fir_driven.specs.working.Indices.{earlier}
use Rattle.fir_driven.proofs.IndexEntries.{front_picks, length-entries, node_entry}

module _ (nodes : List Node) (i : ℕ) where
  pub past_places : length nodes ≤ i → picking_places (node_term nodes i) ≡ []
  past_places le =
      let past : length (entries nodes) ≤ i = omega (arith, length-entries nodes) in
      ap (λ e. picking_places (term_in e)) (get_or_past (entries nodes) i (a_term over.zeros) past)

  module _ (n : Node) (within : i < length nodes) (is : n ≡ get_or nodes i n) where
    places_of : picking_places (node_term nodes i) ≡ picking_places (term_in (entry_of (entries (take i nodes)) n))
    places_of = ap (λ e. picking_places (term_in e)) (node_entry nodes i n within is)

    pub picked_places : (ps : Option ℕ)
        → ((b : ℕ) × (n ≡ code.Read b ps)) ⊎ ((signed : Bool) × (width : ℕ) × (n ≡ code.Absent signed width ps))
        → index_places (picks_at (entries nodes) (earlier i ps)) ≡ picking_places (node_term nodes i)
    picked_places ps is_picked =
        let known = entries (take i nodes) in
        let before = ap index_places (front_picks nodes i ps (omega arith)) in
        sym (places_of
        ∙ ⊎_elim
        (λ (r : (b : ℕ) × (n ≡ code.Read b ps)). ap (λ m. picking_places (term_in (entry_of known m))) r.1 ∙ before)
        (λ (r : (signed : Bool) × (width : ℕ) × (n ≡ code.Absent signed width ps)). ap (λ m. picking_places (term_in (entry_of known m))) r.2 ∙ before)
        is_picked)

    pub other_places : ((b : ℕ) (ps : Option ℕ) → n ≡ code.Read b ps → ⊥) → ((signed : Bool) (width : ℕ) (ps : Option ℕ) → n ≡ code.Absent signed width ps → ⊥)
        → picking_places (node_term nodes i) ≡ []
    other_places no_read no_absent = places_of ∙ go n no_read no_absent
      where
        known : List Entry
        known = entries (take i nodes)

        go : (m : Node) → ((b : ℕ) (ps : Option ℕ) → m ≡ code.Read b ps → ⊥) → ((signed : Bool) (width : ℕ) (ps : Option ℕ) → m ≡ code.Absent signed width ps → ⊥)
            → picking_places (term_in (entry_of known m)) ≡ []
        go code.Zeros f g = refl
        go (code.Absent signed width ps) f g = absurd (g signed width ps refl)
        go (code.Literal l) f g = refl
        go (code.Read b ps) f g = absurd (f b ps refl)
        go (code.Pick p) f g = refl
        go (code.Operation op is ks) f g = refl
        go (code.Mux c a b) f g = refl
        go (code.Validif c a) f g = refl
