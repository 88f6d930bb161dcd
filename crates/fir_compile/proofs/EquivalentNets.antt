-- What may stand in the place of the flat net of a circuit is a flat net of that circuit too.
use Rattle.std.proofs.Common.{◌≡◌, ◌↔◌, ◌⊎◌, inl, inr, ℕ, List, ◌∷◌, Option, Some, refl, sym, ap, ◌∙◌}
use Rattle.std.specs.Prelude.{IsSome, slice_get}
use Rattle.std.proofs.lemmas.Option.{same_Some}
use Rattle.fir_ast.specs.Circuits.{CircuitTree}
use Rattle.fir_meaning.specs.Elaborated.{IsSourceOf}
use Rattle.fir_meaning.specs.SourceCircuits.{PlacedLeaf, state_words}
use Rattle.fir_meaning.specs.SourceDesigns.{SourceDesign}
use Rattle.fir_net.specs.declared.array.Pipe.{Pipe}
use Rattle.fir_net.specs.declared.leaf.Leaf.{Leaf}
use Rattle.fir_net.specs.declared.leaf.Register.{Register}
use Rattle.fir_net.specs.declared.leaf.Role.{Role}
use Rattle.fir_net.specs.declared.leaf.Role.TheVariants as role
use Rattle.fir_net.specs.declared.net.FlatNet.{FlatNet}
use Rattle.fir_net.specs.declared.reads.Read.{Read}
use Rattle.fir_net.specs.working.IsOrder.{IsOrder}
use Rattle.fir_net.specs.working.Laws.{OrderedHasOne}
use Rattle.fir_loop.proofs.Loops.{no_loop}
use Rattle.fir_equivalence.specs.working.IsEquivalent.{IsAlikeWord, IsEquivalent, TakesAlike, pipes, registers}
use Rattle.fir_flatten.specs.working.FlattensTo.{FlattensTo, MeansSource, PipesAs, TakesAs}

abbrev both_ways : {A B C : Type 0} → A ↔ B → B ↔ C → A ↔ C
both_ways f g = (λ a. g.0 (f.0 a), λ c. f.1 (g.1 c))

abbrev either_way : {A B C D : Type 0} → A ↔ B → C ↔ D → (A ⊎ C) ↔ (B ⊎ D)
either_way {A = A} {B = B} {C = C} {D = D} f g = (forth, back)
  where
    forth : A ⊎ C → B ⊎ D
    forth (inl a) = inl (f.0 a)
    forth (inr c) = inr (g.0 c)

    back : B ⊎ D → A ⊎ C
    back (inl b) = inl (f.1 b)
    back (inr d) = inr (g.1 d)

module _ (one : OrderedHasOne) (c : CircuitTree) (net other : FlatNet) (order later : List Read) (flat : FlattensTo c net) (ordered : IsOrder net order)
    (e : IsEquivalent net other) (reordered : IsOrder other later) where
  module _ (t : SourceDesign) (means : MeansSource t net) where
    -- the register of a word takes values as that of the net does
    takes : (p : PlacedLeaf) (r s : Register) → TakesAlike net other (role.Register r) (role.Register s) → TakesAs t net p r → TakesAs t other p s
    takes p _ _ (registers r s reset next clock) h = record {
      reset = both_ways reset h.reset;
      takes = both_ways (either_way reset next) h.takes;
      clock = both_ways clock h.clock;
    }

    taken : (p : PlacedLeaf) (a b : Role) (s : Register) → TakesAlike net other a b → b ≡ role.Register s
        → ((r : Register) → a ≡ role.Register r → TakesAs t net p r) → TakesAs t other p s
    taken p _ _ s (registers r q reset next clock) is of =
        let same : q ≡ s = other_register q s is in
        rw (← same) (takes p r q (registers r q reset next clock) (of r refl))
      where
        other_register : (a b : Register) → role.Register a ≡ role.Register b → a ≡ b
        other_register a b q = cc
    taken p _ _ s (pipes a b clock) is of = cc

    piped : (p : PlacedLeaf) (a b : Role) (s : Pipe) → TakesAlike net other a b → b ≡ role.Pipe s
        → ((q : Pipe) → a ≡ role.Pipe q → PipesAs t net p q) → PipesAs t other p s
    piped p _ _ s (registers r q reset next clock) is of = cc
    piped p _ _ s (pipes a b clock) is of =
        let same : b ≡ s = other_pipe b s is in
        let h : PipesAs t net p a = of a refl in
        rw (← same) (record { is = h.is; clock = both_ways clock h.clock })
      where
        other_pipe : (a b : Pipe) → role.Pipe a ≡ role.Pipe b → a ≡ b
        other_pipe a b q = cc

    means_source : MeansSource t other
    means_source = record {
      ports = e.rows ∙ means.ports;
      words = e.words ∙ means.words;
      arrays = e.arrays ∙ means.arrays;
      shapes = e.shapes ∙ means.shapes;
      output_widths = e.output_widths ∙ means.output_widths;
      one = (λ x. one other later e.whole reordered, λ x. means.one.1 (one net order flat.whole ordered));
      allows = λ s k o r n. both_ways (e.allows s k o r n) (means.allows s k o r n);
      taken = λ n j p m s at word here is.
          let a = e.alike n j at in
          let w = a.2 in
          let same : w.beside ≡ m = same_Some w.beside m (sym w.is_beside ∙ here) in
          taken p w.leaf.role w.beside.role s w.alike (ap (λ (l : Leaf). l.role) same ∙ is) (λ r of. means.taken n a.0 p w.leaf r a.1 word w.is of);
      piped = λ n j p m s at word here is.
          let a = e.alike n j at in
          let w = a.2 in
          let same : w.beside ≡ m = same_Some w.beside m (sym w.is_beside ∙ here) in
          piped p w.leaf.role w.beside.role s w.alike (ap (λ (l : Leaf). l.role) same ∙ is) (λ q of. means.piped n a.0 p w.leaf q a.1 word w.is of);
    }

  pub flattens_equivalent : FlattensTo c other
  flattens_equivalent = record {
    whole = e.whole;
    words = λ h. e.names (flat.words h);
    writable = e.writable flat.writable;
    named = e.name ∙ flat.named;
    source = flat.source;
    is_source = flat.is_source;
    each = λ t is. means_source t (flat.each t is);
    loops = λ f s. absurd (no_loop other later reordered (s.first ∷ s.rest) s.loop);
    no_loop = λ none. flat.no_loop (no_loop net order ordered);
  }
