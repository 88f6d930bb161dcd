-- What the leaves of a tree of designs show, by paths (FIRRTL spec, "Nodes", "Registers", "Connects", "Memories").
-- A register shows its word of the state, or its init while an asynchronous reset is 1. A read without its enable, for which its port writes, or past the depth
-- gives zero. Each is a choice of this project.
use Rattle.std.specs.Prelude.{ℕ, ◌+◌, List, [], ◌∷◌, ◌++◌, length, Bool, true, ◌&&◌, nat_eq, nat_lt, if◌then◌else◌, Option, Some, None}
use Rattle.fir_bits.specs.declared.values.Num.{Num}
use Rattle.fir_ast.specs.Expressions.{Expression}
use Rattle.fir_meaning.specs.Values.{is_high, fit}
use Rattle.fir_meaning.specs.LeafPaths.{LeafPath}
use Rattle.fir_meaning.specs.TypedScopes.{TypedScope}
use Rattle.fir_meaning.specs.PathStores.{nothing_kept}
use Rattle.fir_meaning.specs.LeafTypes.{LeafType, no_bits, number, number_type}
use Rattle.fir_meaning.specs.MemoryWords.{word_behind}
use Rattle.fir_meaning.specs.SamePaths.{same_path}
use Rattle.fir_meaning.specs.TreeValues.{TypesByPath, aim_read, leaf_where, value}
use Rattle.fir_meaning.specs.SourceCircuits.{PlacedArray, PlacedLeaf, all_arrays, all_leaves, array_path, clock_inputs, inputs, leaf_path, paths_of, state_arrays, state_words}
use Rattle.fir_meaning.specs.SourceDesigns.{SourceDesign}
use Rattle.fir_meaning.specs.SourceRoles.{PathNeed, PathReading, SourceReset, SourceRole, computed, pipe, reading, register, sink, source}
use Rattle.fir_meaning.specs.SourceStores.{below, clock_gifts, clock_where, exec_design, number_gifts}

-- a number for each path, and a clock for each: the number of a clock, or none
pub record PathEnv : Type 0 where
  pub numbers : LeafPath → ℕ
  pub clocks : LeafPath → Option ℕ

-- what the leaf at a path holds
abbrev pub holds_on : List PlacedLeaf → LeafPath → LeafType
holds_on [] x = number no_bits
holds_on (p ∷ ps) x = if same_path (leaf_path p) x then p.leaf.holds else holds_on ps x

-- the value of a path, where some paths have these values
abbrev pub look_on : List LeafPath → List ℕ → LeafPath → ℕ
look_on (y ∷ ys) (v ∷ vs) x = if same_path y x then v else look_on ys vs x
look_on _ _ x = 0

-- the place of a path among others, counted from a number on
abbrev pub place_on : List LeafPath → ℕ → LeafPath → Option ℕ
place_on [] k x = None
place_on (y ∷ ys) k x = if same_path y x then Some k else place_on ys (k + 1) x

-- how many words the array at a path has
abbrev pub words_on : List PlacedArray → LeafPath → ℕ
words_on [] x = 0
words_on (a ∷ others) x = if same_path (array_path a) x then a.array.words else words_on others x

-- where the array at a path begins in the state, of arrays of which the first begins at a place
abbrev pub begins_on : ℕ → List PlacedArray → LeafPath → Option ℕ
begins_on place [] x = None
begins_on place (a ∷ others) x = if same_path (array_path a) x then Some place else begins_on (place + a.array.words) others x

module _ (t : SourceDesign) where
  abbrev pub source_holds : TypesByPath
  source_holds x = number_type (holds_on (all_leaves t) x)

  -- a word of an array before the writes
  abbrev pub word_before : List ℕ → LeafPath → ℕ → ℕ
  word_before state x address = word_behind state (begins_on (length (state_words t)) (state_arrays t) x) address

  module _ (env : PathEnv) where
    -- the number and the clock that the statements leave at a path
    abbrev pub number_stored : LeafPath → Option ℕ
    number_stored x = exec_design source_holds env.numbers (number_gifts source_holds env.numbers) [] t nothing_kept x

    abbrev pub clock_stored : LeafPath → Option (Option ℕ)
    clock_stored x = exec_design source_holds env.numbers (clock_gifts source_holds env.numbers env.clocks) [] t nothing_kept x

    -- the leaf at a path of an expression in the module of the instance at a path
    abbrev pub value_at : LeafPath → TypedScope → Expression → LeafPath → Num
    value_at at scope e q = value scope (below at source_holds) (below at env.numbers) e q

    abbrev pub is_true_at : LeafPath → TypedScope → Expression → Bool
    is_true_at at scope e = is_high (value_at at scope e [] ∷ [])

    abbrev pub clock_at : LeafPath → TypedScope → Expression → LeafPath → Option ℕ
    clock_at at scope e q = clock_where (below at env.clocks) (leaf_where (aim_read scope (below at source_holds) (below at env.numbers) e) q)

    -- what a reset gives to the leaf at a path
    abbrev pub init_of : LeafPath → LeafPath → SourceReset → LeafPath → ℕ
    init_of at x r q = fit (value_at at r.scope r.init q) (source_holds x)

    -- a register's word of the state, or its init
    abbrev pub register_shown : LeafPath → LeafPath → Option SourceReset → LeafPath → ℕ → ℕ
    register_shown at x None q word = word
    register_shown at x (Some r) q word = if r.is_async && is_true_at at r.scope r.condition then init_of at x r q else word

    abbrev pub is_met : LeafPath → PathNeed → Bool
    is_met at n = if n.high then nat_eq (env.numbers (at ++ n.leaf)) 1 else nat_eq (env.numbers (at ++ n.leaf)) 0

    abbrev pub are_met : LeafPath → List PathNeed → Bool
    are_met at [] = true
    are_met at (n ∷ ns) = is_met at n && are_met at ns

    -- what is read of an array of which the words are given
    abbrev pub read_word : LeafPath → PathReading → (ℕ → ℕ) → ℕ
    read_word at r word =
        if are_met at r.needs && nat_lt (env.numbers (at ++ r.address)) (words_on (all_arrays t) (at ++ r.array))
        then word (env.numbers (at ++ r.address))
        else 0

    module _ (state : List ℕ) where
      abbrev pub read_before : LeafPath → PathReading → ℕ
      read_before at r = read_word at r (word_before state (at ++ r.array))

      abbrev pub word_of : LeafPath → ℕ
      word_of x = look_on (paths_of (state_words t)) state x

      -- of the leaf at a path, in the module of the instance at a path, by its role
      abbrev pub number_shown : List ℕ → LeafPath → LeafPath → SourceRole → Option ℕ
      number_shown given at x source = Some (look_on (inputs t) given x)
      number_shown given at x sink = number_stored x
      number_shown given at x (computed scope e q) = Some (value_at at scope e q).value.number
      number_shown given at x (register scope clock reset q) = Some (register_shown at x reset q (word_of x))
      number_shown given at x (reading r) = Some (read_before at r)
      number_shown given at x (pipe r clock under_write) = Some (word_of x)

    -- a clock input has its number, counted from 0 in the order of the ports
    abbrev pub clock_shown : LeafPath → LeafPath → SourceRole → Option (Option ℕ)
    clock_shown at x source = Some (place_on (clock_inputs t) 0 x)
    clock_shown at x sink = clock_stored x
    clock_shown at x (computed scope e q) = Some (clock_at at scope e q)
    clock_shown at x _ = Some None
