-- What a tree of designs allows at a tick (FIRRTL spec, "Circuits", "Registers", "Memories", "Clock Type").
-- The values are guessed whole and then tested: each leaf has what it shows. What is no leaf has the number 0 and no clock. Behind a tick, a register with an
-- asynchronous reset at 1 takes its init; else, at an edge of its clock, its init where a synchronous reset is 1, else what the statements store, else what it
-- shows; else it keeps its state. A pipe and the arrays follow their clocks. Of two writes to one address that of the later port of the text wins, and where
-- `read-under-write` is undefined a read gives the old word: each is a choice of this project.
use Rattle.std.specs.Prelude.{◌≡◌, ℕ, ◌^◌, ◌<◌, List, [], ◌∷◌, ◌++◌, flat_map, map, Bool, not, ◌&&◌, nat_eq, if◌then◌else◌, Option, Some, None, unwrap_or}
use Rattle.fir_base.specs.Lists.{In}
use Rattle.fir_base.specs.Ticks.{Allowance, HasShape, Tick}
use Rattle.fir_ast.specs.declared.statements.ReadUnderWrite.{ReadUnderWrite}
use Rattle.fir_ast.specs.declared.statements.ReadUnderWrite.TheVariants.{New, Old, Undefined}
use Rattle.fir_meaning.specs.LeafPaths.{LeafPath}
use Rattle.fir_meaning.specs.LeafTypes.{LeafType, a_clock, number}
use Rattle.fir_meaning.specs.MemoryWords.{addresses}
use Rattle.fir_meaning.specs.ClockEdges.{has_edge}
use Rattle.fir_meaning.specs.SamePaths.{same_path}
use Rattle.fir_meaning.specs.SourceCircuits.{PlacedArray, PlacedLeaf, all_arrays, all_leaves, array_path, clock_outputs, leaf_path, outputs, paths_of, source_shape, state_arrays, state_words}
use Rattle.fir_meaning.specs.SourceDesigns.{SourceDesign}
use Rattle.fir_meaning.specs.SourceRoles.{PathReading, PathWriting, SourceReset, SourceRole, pipe, register}
use Rattle.fir_meaning.specs.SourceValues.{PathEnv, are_met, clock_at, clock_shown, init_of, is_true_at, number_shown, number_stored, read_before, read_word, word_before, word_of}

module _ (t : SourceDesign) where
  -- by what the leaf holds
  abbrev pub LeafShows : List ℕ → List ℕ → PathEnv → PlacedLeaf → LeafType → Type 0
  LeafShows state given env p (number h) =
      (number_shown t env state given p.at (leaf_path p) p.leaf.role ≡ Some (env.numbers (leaf_path p)))
      × (env.numbers (leaf_path p) < 2 ^ h.width) × (env.clocks (leaf_path p) ≡ None)
  LeafShows state given env p a_clock =
      (clock_shown t env p.at (leaf_path p) p.leaf.role ≡ Some (env.clocks (leaf_path p))) × (env.numbers (leaf_path p) ≡ 0)

  pub record Settled (state : List ℕ) (tick : Tick) (env : PathEnv) : Type 0 where
    -- the state and the tick have the shape of the design
    pub shaped : HasShape (source_shape t) state tick
    pub each : (p : PlacedLeaf) → In (all_leaves t) p → LeafShows state tick.inputs env p p.leaf.holds
    pub no_more_numbers : (x : LeafPath) → (In (paths_of (all_leaves t)) x → ⊥) → env.numbers x ≡ 0
    pub no_more_clocks : (x : LeafPath) → (In (paths_of (all_leaves t)) x → ⊥) → env.clocks x ≡ None

  module _ (state : List ℕ) (edges : List ℕ) (env : PathEnv) where
    -- what the statements store, else what the register shows
    abbrev pub stored_or_shown : LeafPath → ℕ
    stored_or_shown x = unwrap_or (number_stored t env x) (env.numbers x)

    -- what a register takes at an edge
    abbrev pub taken_at_edge : LeafPath → LeafPath → Option SourceReset → LeafPath → ℕ
    taken_at_edge at x None q = stored_or_shown x
    taken_at_edge at x (Some r) q =
        if not r.is_async && is_true_at t env at r.scope r.condition then init_of t env at x r q else stored_or_shown x

    -- what follows its word, where its clock has an edge or has none
    abbrev pub register_next : LeafPath → LeafPath → Option SourceReset → LeafPath → Bool → ℕ → ℕ
    register_next at x None q edge word = if edge then taken_at_edge at x None q else word
    register_next at x (Some r) q edge word =
        if r.is_async && is_true_at t env at r.scope r.condition
        then init_of t env at x r q
        else if edge
        then taken_at_edge at x (Some r) q
        else word

    -- whether a port writes at an address
    abbrev pub writes_at : LeafPath → PathWriting → ℕ → Bool
    writes_at at w address = has_edge edges (env.clocks (at ++ w.clock)) && are_met t env at w.needs && nat_eq (env.numbers (at ++ w.address)) address

    -- what these writes leave at an address, where a word was
    abbrev pub word_after : LeafPath → List PathWriting → ℕ → ℕ → ℕ
    word_after at [] address word = word
    word_after at (w ∷ ws) address word = word_after at ws address (if writes_at at w address then env.numbers (at ++ w.given) else word)

    -- a word of the array at a path after all writes of the tick
    abbrev pub word_written_in : List PlacedArray → LeafPath → ℕ → ℕ → ℕ
    word_written_in [] x address word = word
    word_written_in (a ∷ others) x address word =
        if same_path (array_path a) x then word_after a.at a.array.writings address word else word_written_in others x address word

    abbrev pub word_written : LeafPath → ℕ → ℕ
    word_written x address = word_written_in (all_arrays t) x address (word_before t state x address)

    -- what a pipe takes: the word before all writes of the tick, or after all of them
    abbrev pub piped : LeafPath → PathReading → ReadUnderWrite → ℕ
    piped at r New = read_word t env at r (word_written (at ++ r.array))
    piped at r Old = read_before t env state at r
    piped at r Undefined = read_before t env state at r

    abbrev pub word_next : LeafPath → LeafPath → SourceRole → ℕ
    word_next at x (register scope clock reset q) =
        register_next at x reset q (has_edge edges (clock_at t env at scope clock [])) (word_of t env state x)
    word_next at x (pipe r clock under_write) =
        if has_edge edges (env.clocks (at ++ clock)) then piped at r under_write else word_of t env state x
    word_next at x _ = word_of t env state x

    abbrev pub words_next : List ℕ
    words_next = map (λ (p : PlacedLeaf). word_next p.at (leaf_path p) p.leaf.role) (state_words t)

    abbrev pub array_next : PlacedArray → List ℕ
    array_next a = map (word_written (array_path a)) (addresses 0 a.array.words)

    abbrev pub arrays_next : List ℕ
    arrays_next = flat_map array_next (state_arrays t)

    abbrev pub next : List ℕ
    next = words_next ++ arrays_next

  -- some settled values show the outputs and their clocks, and the next state follows from them
  abbrev pub Allows : Allowance
  Allows state tick shown clocks_shown after =
      (env : PathEnv) × Settled state tick env × (map env.numbers (outputs t) ≡ shown) × (map env.clocks (clock_outputs t) ≡ clocks_shown)
      × (next state tick.clocks env ≡ after)
