-- Over values by path each leaf of a circuit shows what the leaf of a tree shows that it goes in step with.
use Rattle.std.proofs.Common.{◌≡◌, ℕ, ◌<◌, List, length, Some, refl, ap, ◌∙◌}
use Rattle.fir_bits.specs.declared.values.Num.{Num}
use Rattle.fir_meaning.specs.LeafPaths.{LeafPath}
use Rattle.fir_meaning.specs.working.LeafCircuits.{LeafCircuit}
use Rattle.fir_meaning.specs.working.LeafModules as role
use Rattle.fir_meaning.specs.working.LeafModules.{Role}
use Rattle.fir_meaning.specs.working.LeafSettled as over
use Rattle.fir_meaning.specs.working.LeafStates.{look}
use Rattle.fir_leaf.specs.working.SoundDesigns.{circuit_path}
use Rattle.fir_meaning.specs.SourceCircuits.{inputs, paths_of, state_words}
use Rattle.fir_meaning.specs.SourceDesigns.{SourceDesign}
use Rattle.fir_meaning.specs.SourceRoles as source
use Rattle.fir_meaning.specs.SourceRoles.{SourceRole}
use Rattle.fir_meaning.specs.SourceValues.{PathEnv, clock_shown, look_on, number_shown, place_on, register_shown}
use Rattle.fir_design.proofs.InStep.{InStep, SameRoleBelow}
use Rattle.fir_design.proofs.LeavesInStep.{word_paths, word_within}
use Rattle.fir_design.proofs.PathLookups.{look_same, place_same}
use Rattle.fir_design.proofs.ValuesInStep.{by_number, clock_same, clock_stored_same, number_stored_same, read_before_same, register_same, term_same}

module _ (c : LeafCircuit) (t : SourceDesign) (s : InStep c t) where
  pub word_same : (state : List ℕ) (x : ℕ) → x < length c.leaves
      → look c.words state x ≡ look_on (paths_of (state_words t)) state (circuit_path c x)
  word_same state x lt =
      look_same (circuit_path c) x c.words state (λ y m e. s.once y x (word_within c t s y m) lt e)
      ∙ ap (λ ps. look_on ps state (circuit_path c x)) (word_paths c t s)

  given_same : (given : List ℕ) (x : ℕ) → x < length c.leaves → look c.inputs given x ≡ look_on (inputs t) given (circuit_path c x)
  given_same given x lt =
      look_same (circuit_path c) x c.inputs given (λ y m e. s.once y x (s.inputs_within y m) lt e)
      ∙ ap (λ ps. look_on ps given (circuit_path c x)) s.inputs_are

  module _ (env : PathEnv) (at : LeafPath) (x : ℕ) (lt : x < length c.leaves) where
    pub number_by_role : (state given : List ℕ) (r : Role) (sr : SourceRole) → SameRoleBelow c at r sr
        → over.number_shown c state given (by_number c env) x r ≡ number_shown t env state given at (circuit_path c x) sr
    number_by_role state given role.source source.source h = ap Some (given_same given x lt)
    number_by_role state given role.sink source.sink h = number_stored_same c t s env x lt
    number_by_role state given (role.computed term) (source.computed scope e q) h =
        ap (λ (v : Num). Some v.value.number) (term_same c t s env at term scope e q h)
    number_by_role state given (role.register k r) (source.register scope clock sr q) h =
        ap Some (register_same c t s env at x r sr q (look c.words state x) h.1
        ∙ ap (λ word. register_shown t env at (circuit_path c x) sr q word) (word_same state x lt))
    number_by_role state given (role.reading r) (source.reading p) h = ap Some (read_before_same c t s env state at r p h)
    number_by_role state given (role.pipe r k under) (source.pipe p clock kept) h = ap Some (word_same state x lt)
    number_by_role state given _ _ h = absurd h

    pub clock_by_role : (r : Role) (sr : SourceRole) → SameRoleBelow c at r sr
        → over.clock_shown c (by_number c env) x r ≡ clock_shown t env at (circuit_path c x) sr
    clock_by_role role.source source.source h =
        ap Some (place_same (circuit_path c) x c.clock_inputs 0 (λ y m e. s.once y x (s.clock_inputs_within y m) lt e)
        ∙ ap (λ ps. place_on ps 0 (circuit_path c x)) s.clock_inputs_are)
    clock_by_role role.sink source.sink h = clock_stored_same c t s env x lt
    clock_by_role (role.computed term) (source.computed scope e q) h = ap Some (clock_same c t s env at term scope e q h)
    clock_by_role (role.register k r) (source.register scope clock sr q) h = refl
    clock_by_role (role.reading r) (source.reading p) h = refl
    clock_by_role (role.pipe r k under) (source.pipe p clock kept) h = refl
    clock_by_role _ _ h = absurd h
