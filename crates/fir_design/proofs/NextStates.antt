-- Over values by path a circuit and a tree that go in step have the same state behind a tick.
use Rattle.std.proofs.Common.{◌≡◌, ℕ, ◌<◌, List, [], ◌++◌, Bool, not, ◌&&◌, if◌then◌else◌, length, slice_get, Option, Some, None, unwrap_or, ap, ap₂, ◌∙◌}
use Rattle.fir_base.specs.Ticks.{Tick}
use Rattle.fir_ast.specs.declared.statements.ReadUnderWrite.{ReadUnderWrite}
use Rattle.fir_meaning.specs.LeafPaths.{LeafPath}
use Rattle.fir_meaning.specs.working.LeafCircuits.{LeafCircuit, role_of}
use Rattle.fir_meaning.specs.working.LeafModules as role
use Rattle.fir_meaning.specs.working.LeafModules.{LeafReset, Role}
use Rattle.fir_meaning.specs.working.LeafNext as over
use Rattle.fir_meaning.specs.working.Memories as over_memories
use Rattle.fir_meaning.specs.ClockEdges.{has_edge}
use Rattle.fir_meaning.specs.working.LeafStates.{look}
use Rattle.fir_leaf.specs.working.SoundDesigns.{circuit_path}
use Rattle.fir_meaning.specs.SourceAllows as tree
use Rattle.fir_meaning.specs.SourceCircuits.{PlacedLeaf, all_leaves, leaf_path, state_words}
use Rattle.fir_meaning.specs.SourceDesigns.{SourceDesign}
use Rattle.fir_meaning.specs.SourceRoles as source
use Rattle.fir_meaning.specs.SourceRoles.{SourceReset, SourceRole}
use Rattle.fir_meaning.specs.SourceStores.{below}
use Rattle.fir_meaning.specs.SourceValues.{PathEnv, init_of, is_true_at}
use Rattle.fir_design.proofs.InStep.{InStep, MaySameResetBelow, SameRoleBelow}
use Rattle.fir_design.proofs.LeavesInStep.{leaf_within}
use Rattle.fir_design.proofs.NextArrays.{arrays_next_same, piped_same}
use Rattle.fir_design.proofs.PathLookups.{mapped_same}
use Rattle.fir_design.proofs.ShownValues.{word_same}
use Rattle.fir_design.proofs.ValuesInStep.{async_same, by_number, clock_same, init_same, number_stored_same, true_same}

module _ (c : LeafCircuit) (t : SourceDesign) (s : InStep c t) (state edges : List ℕ) (env : PathEnv) where
  module _ (at : LeafPath) (x : ℕ) (lt : x < length c.leaves) where
    stored_same : over.stored_or_shown c (by_number c env) x ≡ tree.stored_or_shown t state edges env (circuit_path c x)
    stored_same = ap (λ (o : Option ℕ). unwrap_or o (env.numbers (circuit_path c x))) (number_stored_same c t s env x lt)

    taken_same : (r : Option LeafReset) (sr : Option SourceReset) (q : LeafPath) → MaySameResetBelow c at r sr q
        → over.taken_at_edge c (by_number c env) x r ≡ tree.taken_at_edge t state edges env at (circuit_path c x) sr q
    taken_same None None q h = stored_same
    taken_same (Some r) (Some sr) q h =
        ap₂ (λ (test : Bool) (init : ℕ). if test then init else over.stored_or_shown c (by_number c env) x)
        (ap₂ (λ a b. not a && b) h.is_async (true_same c t s env at r.condition sr.scope sr.condition h.condition))
        (init_same c t s env at x r sr q h)
        ∙ ap (λ (v : ℕ). if not sr.is_async && is_true_at t env at sr.scope sr.condition then init_of t env at (circuit_path c x) sr q else v)
        stored_same
    taken_same None (Some sr) q h = absurd h
    taken_same (Some r) None q h = absurd h

    register_next_same : (r : Option LeafReset) (sr : Option SourceReset) (q : LeafPath) (edge : Bool) (word : ℕ) → MaySameResetBelow c at r sr q
        → over.register_next c (by_number c env) x r edge word ≡ tree.register_next t state edges env at (circuit_path c x) sr q edge word
    register_next_same None None q edge word h = ap (λ (v : ℕ). if edge then v else word) (taken_same None None q h)
    register_next_same (Some r) (Some sr) q edge word h =
        ap₂ (λ (test : Bool) (init : ℕ). if test then init else if edge then over.taken_at_edge c (by_number c env) x (Some r) else word)
        (async_same c t s env at r sr q h) (init_same c t s env at x r sr q h)
        ∙ ap (λ (v : ℕ).
        if sr.is_async && is_true_at t env at sr.scope sr.condition then init_of t env at (circuit_path c x) sr q else if edge then v else word)
        (taken_same (Some r) (Some sr) q h)
    register_next_same None (Some sr) q edge word h = absurd h
    register_next_same (Some r) None q edge word h = absurd h

  word_next_same : (at : LeafPath) (x : ℕ) → x < length c.leaves → (r : Role) (sr : SourceRole) → SameRoleBelow c at r sr
      → over.word_next c state edges (by_number c env) x r ≡ tree.word_next t state edges env at (circuit_path c x) sr
  word_next_same at x lt role.source source.source h = word_same c t s state x lt
  word_next_same at x lt role.sink source.sink h = word_same c t s state x lt
  word_next_same at x lt (role.computed term) (source.computed scope e q) h = word_same c t s state x lt
  word_next_same at x lt (role.register k r) (source.register scope clock sr q) h =
      ap₂ (λ edge word. over.register_next c (by_number c env) x r edge word) (ap (has_edge edges) (clock_same c t s env at k scope clock [] h.0))
      (word_same c t s state x lt)
      ∙ register_next_same at x lt r sr q _ _ h.1
  word_next_same at x lt (role.reading r) (source.reading p) h = word_same c t s state x lt
  word_next_same at x lt (role.pipe r k under) (source.pipe p clock kept) h =
      ap₂ (λ (y : LeafPath) (u : ReadUnderWrite).
      if has_edge edges (env.clocks y) then over_memories.piped c state edges (by_number c env) r u else look c.words state x) h.1 h.2
      ∙ ap₂ (λ (v w : ℕ). if has_edge edges (env.clocks (below at (λ y. y) clock)) then v else w)
      (piped_same c t s state edges env at r p kept h.0) (word_same c t s state x lt)
  word_next_same at x lt _ _ h = absurd h

  pub words_next_same : over.words_next c state edges (by_number c env) ≡ tree.words_next t state edges env
  words_next_same =
      mapped_same (slice_get (all_leaves t)) (λ x. over.word_next c state edges (by_number c env) x (role_of c x))
      (λ (p : PlacedLeaf). tree.word_next t state edges env p.at (leaf_path p) p.leaf.role) c.words (state_words t) s.words
      (λ x p e.
      word_next_same p.at x (leaf_within c t s x p e) (role_of c x) p.leaf.role (s.each x p e).role
      ∙ ap (λ y. tree.word_next t state edges env p.at y p.leaf.role) (s.each x p e).path)

pub next_same : (c : LeafCircuit) (t : SourceDesign) → InStep c t → (state : List ℕ) (tick : Tick) (env : PathEnv)
    → over.next c state tick (by_number c env) ≡ tree.next t state tick.clocks env
next_same c t s state tick env =
    ap₂ (λ (xs ys : List ℕ). xs ++ ys) (words_next_same c t s state tick.clocks env) (arrays_next_same c t s state tick.clocks env)
