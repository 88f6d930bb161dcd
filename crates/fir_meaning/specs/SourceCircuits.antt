-- The leaves and arrays of a tree of designs by their paths, with the order of its state (FIRRTL spec, "Ports", "Instances", "Registers", "Memories").
-- An instance's port is the leaf of the module that holds the instance. What an instance gives is driven within it. The state is in the order of the text, that
-- of an instance's module in the place of the instance; behind the words come the arrays, in that order too. That order is a choice of this project. What has
-- no bits is in no list.
use Rattle.std.specs.Prelude.{ℕ, List, [], ◌∷◌, ◌++◌, filter, flat_map, length, map, replicate, Bool, true, false, ◌&&◌, if◌then◌else◌}
use Rattle.std.specs.Str.{bytes_eq}
use Rattle.fir_base.specs.Ticks.{Shape}
use Rattle.fir_ast.specs.Statements.{Block, Statement, done, instance, then, when}
use Rattle.fir_meaning.specs.LeafPaths.{LeafPath, named}
use Rattle.fir_meaning.specs.Visibility.{Before, at_head, behind, behind_block, opened, reopened}
use Rattle.fir_meaning.specs.LeafTypes.{is_clock, LeafType, number_type, has_bits}
use Rattle.fir_meaning.specs.ModuleScenes.{Scene, behind_all_ports}
use Rattle.fir_meaning.specs.SourceDesigns.{Instances, SourceDesign, held, made_of, no_instances}
use Rattle.fir_meaning.specs.SourceRoles.{SourceArray, SourceLeaf, SourceRole, pipe, register, sink, source, source_arrays, source_arrays_in, sources_in, sources_in_block, sources_of_ports}

-- a leaf, and an array, of the module of the instance at a path
pub record PlacedLeaf : Type 0 where
  pub at : LeafPath
  pub leaf : SourceLeaf

pub record PlacedArray : Type 0 where
  pub at : LeafPath
  pub array : SourceArray

abbrev pub leaf_path : PlacedLeaf → LeafPath
leaf_path p = p.at ++ p.leaf.path

abbrev pub array_path : PlacedArray → LeafPath
array_path p = p.at ++ p.array.path

abbrev pub placed : LeafPath → List SourceLeaf → List PlacedLeaf
placed at ls = map (λ l. record { at = at; leaf = l }) ls

abbrev pub placed_arrays : LeafPath → List SourceArray → List PlacedArray
placed_arrays at xs = map (λ a. record { at = at; array = a }) xs

-- what an instance gives is driven within it
abbrev pub role_within : SourceRole → SourceRole
role_within source = sink
role_within r = r

abbrev pub within : SourceLeaf → SourceLeaf
within l = record l { role = role_within l.role }

abbrev pub port_leaves : Scene → List SourceLeaf
port_leaves s = sources_of_ports s at_head s.own.inside.ports

-- those that are no ports
abbrev pub inner_leaves : Scene → List SourceLeaf
inner_leaves s = map within (sources_in_block s (behind_all_ports s.own.inside) s.own.inside.body)

abbrev mutual
  pub leaves_of_design : LeafPath → SourceDesign → List PlacedLeaf
  leaves_of_design at (made_of s is) = placed at (inner_leaves s) ++ leaves_of_instances at is

  pub leaves_of_instances : LeafPath → Instances → List PlacedLeaf
  leaves_of_instances at no_instances = []
  leaves_of_instances at (held name d rest) = leaves_of_design (at ++ named name ∷ []) d ++ leaves_of_instances at rest

abbrev pub main_ports : SourceDesign → List PlacedLeaf
main_ports (made_of s is) = placed [] (port_leaves s)

-- all leaves, those of the main module's ports in front
abbrev pub all_leaves : SourceDesign → List PlacedLeaf
all_leaves t = main_ports t ++ leaves_of_design [] t

abbrev mutual
  pub arrays_of_design : LeafPath → SourceDesign → List PlacedArray
  arrays_of_design at (made_of s is) = placed_arrays at (source_arrays s) ++ arrays_of_instances at is

  pub arrays_of_instances : LeafPath → Instances → List PlacedArray
  arrays_of_instances at no_instances = []
  arrays_of_instances at (held name d rest) = arrays_of_design (at ++ named name ∷ []) d ++ arrays_of_instances at rest

abbrev pub all_arrays : SourceDesign → List PlacedArray
all_arrays t = arrays_of_design [] t

-- which leaves show state
abbrev pub is_state : SourceRole → Bool
is_state (register scope clock reset q) = true
is_state (pipe r clock under_write) = true
is_state _ = false

abbrev pub is_state_word : PlacedLeaf → Bool
is_state_word p = is_state p.leaf.role && has_bits p.leaf.holds

abbrev pub is_stored_array : PlacedArray → Bool
is_stored_array p = has_bits p.array.holds

-- the words of the state in the module of the instance at a path, with those of the instance of a name
module _ (at : LeafPath) (s : Scene) (child : List ℕ → List PlacedLeaf) where
  abbrev mutual
    pub words_in : Before → Statement → List PlacedLeaf
    words_in before (instance p n other) = child n.name
    words_in before (when p c a b) = words_in_block (opened before) a ++ words_in_block (reopened before (behind_block (opened before) a)) b
    words_in before x = filter is_state_word (placed at (sources_in s before x))

    pub words_in_block : Before → Block → List PlacedLeaf
    words_in_block before done = []
    words_in_block before ((then) x b) = words_in before x ++ words_in_block (behind before x) b

abbrev mutual
  pub words_of_design : LeafPath → SourceDesign → List PlacedLeaf
  words_of_design at (made_of s is) = words_in_block at s (words_of_instance at is) (behind_all_ports s.own.inside) s.own.inside.body

  pub words_of_instance : LeafPath → Instances → List ℕ → List PlacedLeaf
  words_of_instance at no_instances name = []
  words_of_instance at (held x d rest) name = if bytes_eq x name then words_of_design (at ++ named x ∷ []) d else words_of_instance at rest name

abbrev pub state_words : SourceDesign → List PlacedLeaf
state_words t = words_of_design [] t

-- and the arrays
module _ (at : LeafPath) (s : Scene) (child : List ℕ → List PlacedArray) where
  abbrev mutual
    pub array_order_in : Statement → List PlacedArray
    array_order_in (instance p n other) = child n.name
    array_order_in (when p c a b) = array_order_in_block a ++ array_order_in_block b
    array_order_in x = filter is_stored_array (placed_arrays at (source_arrays_in s x))

    pub array_order_in_block : Block → List PlacedArray
    array_order_in_block done = []
    array_order_in_block ((then) x b) = array_order_in x ++ array_order_in_block b

abbrev mutual
  pub array_order_of_design : LeafPath → SourceDesign → List PlacedArray
  array_order_of_design at (made_of s is) = array_order_in_block at s (array_order_of_instance at is) s.own.inside.body

  pub array_order_of_instance : LeafPath → Instances → List ℕ → List PlacedArray
  array_order_of_instance at no_instances name = []
  array_order_of_instance at (held x d rest) name =
      if bytes_eq x name then array_order_of_design (at ++ named x ∷ []) d else array_order_of_instance at rest name

abbrev pub state_arrays : SourceDesign → List PlacedArray
state_arrays t = array_order_of_design [] t

-- a source among the main module's ports is an input, a sink an output; clocks are told apart from numbers
abbrev pub is_source_role : SourceRole → Bool
is_source_role source = true
is_source_role _ = false

abbrev pub is_sink_role : SourceRole → Bool
is_sink_role sink = true
is_sink_role _ = false

abbrev pub ports_where : (SourceRole → Bool) → (LeafType → Bool) → SourceDesign → List PlacedLeaf
ports_where has_role holds t = filter (λ (p : PlacedLeaf). has_role p.leaf.role && holds p.leaf.holds) (main_ports t)

abbrev pub paths_of : List PlacedLeaf → List LeafPath
paths_of ps = map leaf_path ps

abbrev pub inputs : SourceDesign → List LeafPath
inputs t = paths_of (ports_where is_source_role has_bits t)

abbrev pub clock_inputs : SourceDesign → List LeafPath
clock_inputs t = paths_of (ports_where is_source_role is_clock t)

abbrev pub outputs : SourceDesign → List LeafPath
outputs t = paths_of (ports_where is_sink_role has_bits t)

abbrev pub clock_outputs : SourceDesign → List LeafPath
clock_outputs t = paths_of (ports_where is_sink_role is_clock t)

abbrev pub widths_of_leaves : List PlacedLeaf → List ℕ
widths_of_leaves ps = map (λ (p : PlacedLeaf). (number_type p.leaf.holds).width) ps

abbrev pub widths_in : PlacedArray → List ℕ
widths_in p = replicate p.array.words (number_type p.array.holds).width

abbrev pub source_shape : SourceDesign → Shape
source_shape t = record {
  inputs = widths_of_leaves (ports_where is_source_role has_bits t);
  clocks = length (clock_inputs t);
  state = widths_of_leaves (state_words t) ++ flat_map widths_in (state_arrays t);
}
