-- The laws of what memories take.
use Rattle.std.proofs.Common.{◌≡◌, ℕ, ◌<◌, ◌≤◌, List, ◌∷◌, ◌++◌, ap, ap₂, subst, ◌∙◌, inl, inr, arith, ◌⊎◌}
use Rattle.fir_base.specs.Lists.{In}
use Rattle.fir_base.proofs.Members.{in_either, in_left, in_right}
use Rattle.fir_meaning.specs.LeafPaths.{LeafPath}
use Rattle.fir_meaning.specs.SourceAllows.{word_after}
use Rattle.fir_meaning.specs.SourceCircuits.{PlacedArray, array_path}
use Rattle.fir_meaning.specs.SourceRoles.{NamedPort, PathWriting}
use Rattle.fir_meaning.specs.SourceValues.{PathEnv, word_before}
use Rattle.fir_source_laws.specs.working.MemoryLeaves.{HasDepth, IsArray, Memory, ports}
use Rattle.fir_source_laws.specs.working.MemoryPorts.{NoneWrites, Writes, address_of, clock_on, mask_of}
use Rattle.fir_source_laws.specs.working.StateWords.{HasEdge, array_behind_tick}
use Rattle.fir_source_laws.specs.working.WriteLaws.{MaskedKeeps, StaysUnwritten, StaysWithoutEdgeOrPastDepth, TakesTheLastWrite, TakesTheLaterWrite}
use Rattle.fir_source_laws.proofs.ArrayRounds.{next_array}
use Rattle.fir_source_laws.proofs.DeclaredArrays.{depth_is, writings_are}
use Rattle.fir_source_laws.proofs.PortWrites.{by_last, by_none, by_ports}

module _ (m : Memory) (state edges : List ℕ) (env : PathEnv) (depth : ℕ) where
  -- what the ports leave
  array_word : (q : LeafPath) (a : PlacedArray) (address : ℕ) → HasDepth m depth → IsArray m q a → address < depth
      → array_behind_tick m.design state edges env (array_path a) address
      ≡ by_ports m state edges env q address (ports m) (word_before m.design state (array_path a) address)
  array_word q a address e h lt =
      let inside : address < a.array.words = rw (depth_is m q a h depth e) lt in
      next_array m.design state edges env a address h.among_stored h.once_stored h.among h.once inside
      ∙ ap₂ (λ (x : LeafPath) (ws : List PathWriting).
      word_after m.design state edges env x ws address (word_before m.design state (array_path a) address)) h.placed (writings_are m q a h)

  stays : (q : LeafPath) (a : PlacedArray) (address : ℕ) → HasDepth m depth → IsArray m q a → address < depth
      → NoneWrites m env edges q (ports m) address
      → array_behind_tick m.design state edges env (array_path a) address ≡ word_before m.design state (array_path a) address
  stays q a address e h lt none = array_word q a address e h lt ∙ by_none m state edges env q address (ports m) (word_before m.design state (array_path a) address) none

  module _ (q : LeafPath) (a : PlacedArray) (address : ℕ) where
    pub take_the_last_write : TakesTheLastWrite m state edges env depth q a address
    take_the_last_write before later port e h lt are w none =
        array_word q a address e h lt
        ∙ ap (λ (ps : List NamedPort). by_ports m state edges env q address ps (word_before m.design state (array_path a) address)) are
        ∙ by_last m state edges env q address before later port (word_before m.design state (array_path a) address) w none

    pub take_the_later_write : TakesTheLaterWrite m state edges env depth q a address
    take_the_later_write before between later first second e h lt are w_first w_second none =
        take_the_last_write (before ++ first ∷ between) later second e h lt are w_second none

    pub stay_unwritten : StaysUnwritten m state edges env depth q a address
    stay_unwritten e h lt none = stays q a address e h lt none

    pub stay_without_edge_or_past_depth : StaysWithoutEdgeOrPastDepth m state edges env depth q a address
    stay_without_edge_or_past_depth e h lt idle = stays q a address e h lt (λ o among w. by o w (idle o among))
      where
        by : (o : NamedPort) → Writes m env edges q o address
            → (HasEdge edges (clock_on m env o.name) → ⊥) ⊎ (depth ≤ address_of m env o) → ⊥
        by o w (inl none) = none w.edge
        by o w (inr past) = absurd (omega (arith, past, w.addressed, lt))

    pub keep_masked : MaskedKeeps m state edges env depth q a address
    keep_masked masked b before later port e h h_masked lt are others w mask = (
      take_the_last_write before later port e h lt are w (λ o among. others q o (in_right before later o among)),
      stays masked b address e h_masked lt (λ o among v. by o v (in_either before (port ∷ later) o (subst (λ ps. In ps o) are among))),
    )
      where
        by : (o : NamedPort) → Writes m env edges masked o address → In before o ⊎ In (port ∷ later) o → ⊥
        by o v (inl among) = others masked o (in_left before later o among) v
        by o v (inr (inl is)) =
            let one : mask_of m env o.kind o.name masked ≡ 1 = v.unmasked in
            let none : mask_of m env o.kind o.name masked ≡ 0 = subst (λ (x : NamedPort). mask_of m env x.kind x.name masked ≡ 0) is mask in
            absurd (omega (arith, one, none))
        by o v (inr (inr among)) = others masked o (in_right before later o among) v
