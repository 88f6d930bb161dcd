-- Over values by path a circuit and a tree that go in step have the same values of terms, resets, needs and reads.
use Rattle.std.proofs.Common.{◌≡◌, ℕ, ◌<◌, List, [], ◌∷◌, Bool, ◌&&◌, nat_eq, nat_lt, if◌then◌else◌, length, Option, Some, None, refl, ap, ap₂, ◌∙◌}
use Rattle.fir_bits.specs.declared.types.NumTy.{NumTy}
use Rattle.fir_bits.specs.declared.values.Num.{Num}
use Rattle.fir_ast.specs.Expressions.{Expression}
use Rattle.fir_meaning.specs.Values.{is_high, fit}
use Rattle.fir_meaning.specs.LeafPaths.{LeafPath}
use Rattle.fir_meaning.specs.TypedScopes.{TypedScope}
use Rattle.fir_leaf.specs.working.ChoiceLaws.{fitted_at}
use Rattle.fir_leaf.specs.working.DesignLaws.{numbered}
use Rattle.fir_meaning.specs.working.LeafBlocks.{exec_all, nothing_stored}
use Rattle.fir_meaning.specs.working.LeafCircuits.{LeafCircuit, depth_of, type_of_leaf}
use Rattle.fir_meaning.specs.working.LeafModules.{LeafReset, Need, Reading}
use Rattle.fir_meaning.specs.working.LeafSettled as over
use Rattle.fir_meaning.specs.working.Memories as over_memories
use Rattle.fir_leaf.specs.working.SoundDesigns.{circuit_path}
use Rattle.fir_meaning.specs.working.TermValues.{Env, clock_of, eval, is_true}
use Rattle.fir_meaning.specs.working.Terms.{Term}
use Rattle.fir_meaning.specs.SourceCircuits.{all_arrays}
use Rattle.fir_meaning.specs.SourceDesigns.{SourceDesign}
use Rattle.fir_meaning.specs.SourceRoles.{PathNeed, PathReading, SourceReset}
use Rattle.fir_meaning.specs.SourceStores.{below}
use Rattle.fir_meaning.specs.SourceValues.{PathEnv, are_met, clock_at, clock_stored, init_of, is_true_at, number_stored, read_before, read_word, register_shown, source_holds, value_at, word_before, words_on}
use Rattle.fir_design.proofs.InStep.{InStep, MaySameResetBelow, SameNeed, SameNeeds, SameReading, SameResetBelow, SameTermBelow}
use Rattle.fir_design.proofs.ArraysInStep.{word_before_same, words_same}
use Rattle.fir_design.proofs.LeavesInStep.{types_are}

-- what values by path are over the numbers of a circuit
abbrev pub by_number : LeafCircuit → PathEnv → Env
by_number c env = record { numbers = numbered c env.numbers; clocks = numbered c env.clocks }

module _ (c : LeafCircuit) (t : SourceDesign) (s : InStep c t) (env : PathEnv) where
  pub term_same : (at : LeafPath) (term : Term) (scope : TypedScope) (e : Expression) (q : LeafPath) → SameTermBelow c at term scope e q
      → eval (type_of_leaf c) (by_number c env).numbers term ≡ value_at t env at scope e q
  term_same at term scope e q h =
      ap (λ (holds : ℕ → NumTy). eval holds (by_number c env).numbers term) (types_are c t s) ∙ h.number (source_holds t) env.numbers

  pub clock_same : (at : LeafPath) (term : Term) (scope : TypedScope) (e : Expression) (q : LeafPath) → SameTermBelow c at term scope e q
      → clock_of (type_of_leaf c) (by_number c env) term ≡ clock_at t env at scope e q
  clock_same at term scope e q h =
      ap (λ (holds : ℕ → NumTy). clock_of holds (by_number c env) term) (types_are c t s) ∙ h.clock (source_holds t) env.numbers env.clocks

  pub true_same : (at : LeafPath) (term : Term) (scope : TypedScope) (e : Expression) → SameTermBelow c at term scope e []
      → is_true (type_of_leaf c) (by_number c env).numbers term ≡ is_true_at t env at scope e
  true_same at term scope e h = ap (λ (v : Num). is_high (v ∷ [])) (term_same at term scope e [] h)

  -- what the statements store
  pub number_stored_same : (x : ℕ) → x < length c.leaves → over.number_stored c (by_number c env) x ≡ number_stored t env (circuit_path c x)
  number_stored_same x lt =
      ap (λ (holds : ℕ → NumTy).
      exec_all holds (depth_of c) (by_number c env).numbers (fitted_at holds (by_number c env).numbers) c.body [] nothing_stored x) (types_are c t s)
      ∙ s.numbers_stored (source_holds t) env.numbers x lt

  pub clock_stored_same : (x : ℕ) → x < length c.leaves → over.clock_stored c (by_number c env) x ≡ clock_stored t env (circuit_path c x)
  clock_stored_same x lt =
      ap (λ (holds : ℕ → NumTy).
      exec_all holds (depth_of c) (by_number c env).numbers (λ y term. clock_of holds (by_number c env) term) c.body [] nothing_stored x)
      (types_are c t s)
      ∙ s.clocks_stored (source_holds t) env.numbers env.clocks x lt

  -- what a reset gives
  pub init_same : (at : LeafPath) (x : ℕ) (r : LeafReset) (sr : SourceReset) (q : LeafPath) → SameResetBelow c at r sr q
      → over.number_given c (by_number c env) x r.init ≡ init_of t env at (circuit_path c x) sr q
  init_same at x r sr q h =
      ap₂ fit (term_same at r.init sr.scope sr.init q h.init) (ap (λ (holds : ℕ → NumTy). holds x) (types_are c t s))

  pub async_same : (at : LeafPath) (r : LeafReset) (sr : SourceReset) (q : LeafPath) → SameResetBelow c at r sr q
      → (r.is_async && is_true (type_of_leaf c) (by_number c env).numbers r.condition)
      ≡ (sr.is_async && is_true_at t env at sr.scope sr.condition)
  async_same at r sr q h = ap₂ (λ a b. a && b) h.is_async (true_same at r.condition sr.scope sr.condition h.condition)

  pub register_same : (at : LeafPath) (x : ℕ) (r : Option LeafReset) (sr : Option SourceReset) (q : LeafPath) (word : ℕ)
      → MaySameResetBelow c at r sr q
      → over.register_shown c (by_number c env) x r word ≡ register_shown t env at (circuit_path c x) sr q word
  register_same at x None None q word h = refl
  register_same at x (Some r) (Some sr) q word h =
      ap₂ (λ (test : Bool) (init : ℕ). if test then init else word) (async_same at r sr q h) (init_same at x r sr q h)
  register_same at x None (Some sr) q word h = absurd h
  register_same at x (Some r) None q word h = absurd h

  -- what is met and what is read
  need_same : (at : LeafPath) (n : Need) (p : PathNeed) → SameNeed c at n p
      → (if n.high then nat_eq ((by_number c env).numbers n.leaf) 1 else nat_eq ((by_number c env).numbers n.leaf) 0)
      ≡ (if p.high then nat_eq (env.numbers (circuit_path c n.leaf)) 1 else nat_eq (env.numbers (circuit_path c n.leaf)) 0)
  need_same at n p h =
      ap (λ (high : Bool). if high then nat_eq (env.numbers (circuit_path c n.leaf)) 1 else nat_eq (env.numbers (circuit_path c n.leaf)) 0) h.high

  pub needs_same : (at : LeafPath) (ns : List Need) (ps : List PathNeed) → SameNeeds c at ns ps
      → over_memories.are_met (by_number c env).numbers ns ≡ are_met t env at ps
  needs_same at [] [] h = refl
  needs_same at [] (p ∷ ps) h = absurd h
  needs_same at (n ∷ ns) [] h = absurd h
  needs_same at (n ∷ ns) (p ∷ ps) h =
      ap₂ (λ a b. a && b)
      (need_same at n p h.0 ∙ ap (λ y. if p.high then nat_eq (env.numbers y) 1 else nat_eq (env.numbers y) 0) h.0.leaf)
      (needs_same at ns ps h.1)

  pub read_same : (at : LeafPath) (r : Reading) (p : PathReading) (word other : ℕ → ℕ) → SameReading c at r p
      → ((address : ℕ) → word address ≡ other address)
      → over_memories.read_word c (by_number c env) r word ≡ read_word t env at p other
  read_same at r p word other h same =
      let read = λ (met : Bool) (n address v : ℕ). if met && nat_lt address n then v else 0 in
      let words = words_same c t s r.array h.within ∙ ap (words_on (all_arrays t)) h.array in
      let asked = λ (address : ℕ). read (are_met t env at p.needs) (words_on (all_arrays t) (below at (λ y. y) p.array)) address in
      let first = env.numbers (circuit_path c r.address) in
      ap₂ (λ (met : Bool) (n : ℕ). read met n first (word first)) (needs_same at r.needs p.needs h.needs) words ∙ ap (asked first) (same first)
      ∙ ap (λ (x : LeafPath). asked (env.numbers x) (other (env.numbers x))) h.address

  pub read_before_same : (state : List ℕ) (at : LeafPath) (r : Reading) (p : PathReading) → SameReading c at r p
      → over_memories.read_before c state (by_number c env) r ≡ read_before t env state at p
  read_before_same state at r p h =
      read_same at r p (over_memories.word_before c state r.array) _ h
      (λ address. word_before_same c t s state r.array h.within address ∙ ap (λ x. word_before t state x address) h.array)
