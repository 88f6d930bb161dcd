-- The words of a module's statements, in the order of the text, are those of a walk through their declarations.
use Rattle.std.proofs.Common.{◌≡◌, ℕ, ◌+◌, List, [], ◌∷◌, ◌++◌, Bool, true, false, map, filter, length, slice_get, Option, Some, refl, sym, ap, ap₂, ◌∙◌, subst, arith, append-nil, length-append}
use Rattle.std.specs.Prelude.{if◌then◌else◌}
use Rattle.std.proofs.lemmas.List.{map-append}
use Rattle.fir_base.specs.Lists.{In}
use Rattle.fir_ast.specs.Statements.{PlacedName, Statement, wire, register, node, instance, memory, when, connect, partial_connect, invalid, skip, Block, done, then}
use Rattle.fir_meaning.specs.Components as component
use Rattle.fir_meaning.specs.Components.{Component, Declaration}
use Rattle.fir_meaning.specs.LeafPaths.{LeafPath, named}
use Rattle.fir_meaning.specs.TypeLeaves.{TypeLeaf}
use Rattle.fir_meaning.specs.Visibility.{Before, behind, behind_block, declaration_at, declarations, opened, reopened, with_declaration}
use Rattle.fir_meaning.specs.FoundTypes.{leaves_of_data}
use Rattle.fir_meaning.specs.working.LeafModules.{LeafDeclared}
use Rattle.fir_meaning.specs.LeafTypes.{LeafType}
use Rattle.fir_meaning.specs.ModuleScenes.{Scene, held_by_declared, type_of_declared}
use Rattle.fir_meaning.specs.working.LeafedModules.{leafed_module, leaves_in, leaves_in_block}
use Rattle.fir_meaning.specs.working.Numberings.{number, numbering}
use Rattle.fir_meaning.specs.working.StateWalks.{own_words}
use Rattle.fir_meaning.specs.SourceCircuits.{PlacedLeaf, is_state_word, placed, words_in, words_in_block}
use Rattle.fir_meaning.specs.SourceRoles.{SourceLeaf, sink, source, source_leaves_of, sources_in, sources_in_block}
use Rattle.fir_design.proofs.DeclaredInstances.{Grows}
use Rattle.fir_design.proofs.DeclaredRuns.{StandsAlone}
use Rattle.fir_design.proofs.InstanceStatements.{longer_block, longer_statement}
use Rattle.fir_design.proofs.LeafRuns.{block_run, declaration_of, one_declares, statement_run}
use Rattle.fir_design.proofs.LeavesBeside.{block_beside, statement_beside}
use Rattle.fir_design.proofs.OwnWords.{own_words_are}
use Rattle.fir_design.proofs.PlacedRuns.{IsPlaced, declared_there, placed_first, placed_second}
use Rattle.fir_design.proofs.SourceInstances.{grows_before}
use Rattle.fir_design.proofs.WalkedRanges.{IsWalk, both_walks, no_walk, one_walk}

-- what an instance's declaration stands for
abbrev pub of_instance : {X : Type 0} → (List ℕ → List X) → List ℕ → Component → List X
of_instance child name (component.instance other) = child name
of_instance child name _ = []

-- an instance has no words of its own
no_words : (at : LeafPath) (name : List ℕ) (ls : List TypeLeaf) (hs : List LeafType)
    → filter is_state_word (placed at (source_leaves_of name (λ l. if l.flip then sink else source) ls hs)) ≡ []
no_words at name [] hs = refl
no_words at name (l ∷ ls) [] = refl
no_words at name (l ∷ ls) (h ∷ hs) = go l.flip (no_words at name ls hs)
  where
    go : (b : Bool) → filter is_state_word (placed at (source_leaves_of name (λ l. if l.flip then sink else source) ls hs)) ≡ []
        → filter is_state_word (placed at (record { path = named name ∷ l.path; holds = h; role = if b then sink else source }
        ∷ source_leaves_of name (λ l. if l.flip then sink else source) ls hs)) ≡ []
    go true rest = rest
    go false rest = rest

module _ (s : Scene) (all : List PlacedLeaf) (at : LeafPath) (first free : ℕ) (inside : ℕ → List ℕ) (child : List ℕ → List PlacedLeaf)
    (inside_are : (k : ℕ) (d : Declaration) → slice_get (declarations s.own.inside) k ≡ Some d
    → map (slice_get all) (inside k) ≡ map Some (of_instance child d.named.name d.component)) where
  abbrev gives : ℕ → List (Option PlacedLeaf)
  gives k = map (slice_get all) (map (number (numbering (leafed_module s) first free)) (own_words (leafed_module s) k) ++ inside k)

  -- a declaration's own words, and those of its instance
  one_declared : (before : Before) (n : PlacedName) (c : Component) (b : ℕ) (xs : List LeafDeclared) (us : List SourceLeaf)
      → Grows (with_declaration before n c).declared (declarations s.own.inside)
      → IsPlaced (leafed_module s) all at free (length before.declared) (length (with_declaration before n c).declared) b xs us
      → ((l : LeafDeclared) → In xs l → l.declaration ≡ length before.declared)
      → IsWalk gives (length before.declared) (length (with_declaration before n c).declared)
      (map Some (filter is_state_word (placed at us) ++ of_instance child n.name c))
  one_declared before n c b xs us g p own =
      let k = length before.declared in
      let d = declaration_at before n c in
      let next : k + 1 ≡ length (with_declaration before n c).declared = omega (arith, length-append before.declared (d ∷ [])) in
      one_walk gives k (length (with_declaration before n c).declared) _ next
      (map-append (slice_get all) (map (number (numbering (leafed_module s) first free)) (own_words (leafed_module s) k)) (inside k)
      ∙ ap₂ (λ zs ws. zs ++ ws)
      (own_words_are (leafed_module s).leaves (leafed_module s).arrays all at (numbering (leafed_module s) first free) (leafed_module s) k b xs us
      (subst (λ z. StandsAlone declaration_of (leafed_module s).leaves k z b xs) (sym next) p.alone) own p.same p.inner p.there)
      (inside_are k d (declared_there (declarations s.own.inside) before n c g))
      ∙ sym (map-append Some (filter is_state_word (placed at us)) (of_instance child n.name c)))

  -- where it is no instance
  alone_declared : (before : Before) (n : PlacedName) (c : Component) (b : ℕ) (xs : List LeafDeclared) (us : List SourceLeaf)
      → of_instance child n.name c ≡ [] → Grows (with_declaration before n c).declared (declarations s.own.inside)
      → IsPlaced (leafed_module s) all at free (length before.declared) (length (with_declaration before n c).declared) b xs us
      → ((l : LeafDeclared) → In xs l → l.declaration ≡ length before.declared)
      → IsWalk gives (length before.declared) (length (with_declaration before n c).declared) (map Some (filter is_state_word (placed at us)))
  alone_declared before n c b xs us none g p own =
      subst (λ ws. IsWalk gives (length before.declared) (length (with_declaration before n c).declared) (map Some ws))
      (ap (λ ws. filter is_state_word (placed at us) ++ ws) none ∙ append-nil (filter is_state_word (placed at us))) (one_declared before n c b xs us g p own)

  mutual
    statement_words : (x : Statement) (before : Before) (b : ℕ) → Grows (behind before x).declared (declarations s.own.inside)
        → IsPlaced (leafed_module s) all at free (length before.declared) (length (behind before x).declared) b (leaves_in s before x)
        (sources_in s before x)
        → IsWalk gives (length before.declared) (length (behind before x).declared) (map Some (words_in at s child before x))
    statement_words (wire p n begins t) before b g h =
        alone_declared before n (component.wire t) b _ _ refl g h (one_declares s before n (component.wire t) _ _)
    statement_words (register p n begins t c r) before b g h =
        alone_declared before n (component.register t) b _ _ refl g h (one_declares s before n (component.register t) _ _)
    statement_words (node p n e) before b g h =
        alone_declared before n (component.node e) b _ _ refl g h (one_declares s before n (component.node e) _ _)
    statement_words (memory p n parts) before b g h =
        alone_declared before n (component.memory parts) b _ _ refl g h (one_declares s before n (component.memory parts) _ _)
    statement_words (instance p n other) before b g h =
        let c = component.instance other.name in
        subst (λ ws. IsWalk gives (length before.declared) (length (with_declaration before n c).declared) (map Some ws))
        (ap (λ ws. ws ++ child n.name)
        (no_words at n.name (leaves_of_data (type_of_declared s (record { named = n; component = c; before = before })))
        (held_by_declared s (record { named = n; component = c; before = before }))))
        (one_declared before n c b (leaves_in s before (instance p n other)) (sources_in s before (instance p n other)) g h
        (one_declares s before n c _ _))
    statement_words (when p c a e) before b g h =
        let inside_first = behind_block (opened before) a in
        let second = reopened before inside_first in
        let here = length before.declared in
        let middle = length inside_first.declared in
        let upto = length (behind_block second e).declared in
        let xs = leaves_in_block s (opened before) a in
        let ys = leaves_in_block s second e in
        let us = sources_in_block s (opened before) a in
        let vs = sources_in_block s second e in
        let low = longer_block (opened before) a in
        let high = longer_block second e in
        subst (IsWalk gives here upto) (sym (map-append Some (words_in_block at s child (opened before) a) (words_in_block at s child second e)))
        (both_walks gives here middle upto _ _
        (block_words a (opened before) b (grows_before second e (declarations s.own.inside) g)
        (placed_first (leafed_module s) all at free here middle upto b xs ys us vs (block_beside s a (opened before)) low high
        (block_run s a (opened before)) (block_run s e second) h))
        (block_words e second (b + length xs) g
        (placed_second (leafed_module s) all at free here middle upto b xs ys us vs (block_beside s a (opened before)) low high
        (block_run s a (opened before)) (block_run s e second) h)))
    statement_words (connect p d e) before b g h = no_walk gives (length before.declared)
    statement_words (partial_connect p d e) before b g h = no_walk gives (length before.declared)
    statement_words (invalid p d) before b g h = no_walk gives (length before.declared)
    statement_words (skip p) before b g h = no_walk gives (length before.declared)

    pub block_words : (x : Block) (before : Before) (b : ℕ) → Grows (behind_block before x).declared (declarations s.own.inside)
        → IsPlaced (leafed_module s) all at free (length before.declared) (length (behind_block before x).declared) b (leaves_in_block s before x)
        (sources_in_block s before x)
        → IsWalk gives (length before.declared) (length (behind_block before x).declared) (map Some (words_in_block at s child before x))
    block_words done before b g h = no_walk gives (length before.declared)
    block_words ((then) x rest) before b g h =
        let next = behind before x in
        let here = length before.declared in
        let middle = length next.declared in
        let upto = length (behind_block next rest).declared in
        let xs = leaves_in s before x in
        let ys = leaves_in_block s next rest in
        let us = sources_in s before x in
        let vs = sources_in_block s next rest in
        let low = longer_statement before x in
        let high = longer_block next rest in
        subst (IsWalk gives here upto) (sym (map-append Some (words_in at s child before x) (words_in_block at s child next rest)))
        (both_walks gives here middle upto _ _
        (statement_words x before b (grows_before next rest (declarations s.own.inside) g)
        (placed_first (leafed_module s) all at free here middle upto b xs ys us vs (statement_beside s x before) low high
        (statement_run s x before) (block_run s rest next) h))
        (block_words rest next (b + length xs) g
        (placed_second (leafed_module s) all at free here middle upto b xs ys us vs (statement_beside s x before) low high
        (statement_run s x before) (block_run s rest next) h)))
