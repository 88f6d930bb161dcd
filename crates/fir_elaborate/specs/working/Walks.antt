-- How far the walk of the code through the instances of a design has come: what it has found, and what is still to come, the next first (FIRRTL spec,
-- "Instances", "Registers").
use Rattle.std.specs.Prelude.{◌≡◌, ℕ, zero, suc, ◌+◌, ◌-◌, ◌<◌, List, [], ◌∷◌, ◌++◌, Bool, false, ◌&&◌, Option, None, Some, codes, filter, if◌then◌else◌, length, map, nat_lt, reverse, slice_get, slice_index_or}
use Rattle.std.specs.List.{range_with_len}
use Rattle.fir_meaning.specs.LeafPaths.{LeafPath}
use Rattle.fir_meaning.specs.LeafTypes.{has_bits}
use Rattle.fir_meaning.specs.working.Designs.{Design, IsDesignOf, module_of}
use Rattle.fir_meaning.specs.working.FlatDesigns.{array_count_below, count_below}
use Rattle.fir_meaning.specs.working.Flattened.{flattened}
use Rattle.fir_meaning.specs.working.LeafBlocks.{HeldInstance}
use Rattle.fir_meaning.specs.working.LeafModules.{LeafModule, leaf_at}
use Rattle.fir_meaning.specs.working.Numberings.{Numbering, number}
use Rattle.fir_meaning.specs.working.StateWalks.{array_order_below, is_state, words_below}
use Rattle.fir_leaf.specs.declared.node.Node.{Node}
use Rattle.fir_leaf.specs.declared.statement.LeafInstance.{LeafInstance}
use Rattle.fir_leaf.specs.working.DesignStates.{array_at}
use Rattle.fir_leaf.specs.working.NodeBlocks.{block_in}
use Rattle.fir_leaf_circuit.specs.declared.array.LeafArray.{LeafArray as ArrayOfCode}
use Rattle.fir_leaf_circuit.specs.declared.leaf.Leaf.{Leaf}
use Rattle.fir_leaf_circuit.specs.declared.leaf.LeafRole.{LeafRole}
use Rattle.fir_leaf_circuit.specs.declared.leaf.LeafRole.TheVariants.{Pipe, Register}
use Rattle.fir_leaf_circuit.specs.declared.leaf_module.LeafModule.{LeafModule as ModuleOfCode}
use Rattle.fir_leaf_circuit.specs.working.Seen.{type_seen}
use Rattle.fir_elaborate.specs.declared.elaborated.Elaborated.{Elaborated}
use Rattle.fir_elaborate.specs.declared.elaborated.ModuleCopy.{ModuleCopy}
use Rattle.fir_elaborate.specs.declared.numbers.Numbers.{Numbers}
use Rattle.fir_elaborate.specs.declared.numbers.Stretch.{Stretch}
use Rattle.fir_elaborate.specs.declared.walk.Pending.{Pending}
use Rattle.fir_elaborate.specs.declared.walk.Walk.{Walk}
use Rattle.fir_elaborate.specs.declared.walk.Pending.TheVariants.{Module, Words}
use Rattle.fir_copies.specs.working.Copies.{Copy, copies_below, copies_of}
use Rattle.fir_elaborate.specs.working.CopyPaths.{paths_below, prefix_text}
use Rattle.fir_elaborate.specs.working.Elaborations.{AreViewed, copy_seen}
use Rattle.fir_elaborate.specs.working.OrderedModules.{instances_of}

abbrev pub held_seen : LeafInstance → HeldInstance
held_seen i = record { declaration = i.declaration; module_number = i.module_number; first = i.first }

-- the instances of each of these modules
abbrev pub AreHeld : List ModuleOfCode → List (List LeafInstance) → Type 0
AreHeld modules held =
    (x : ℕ) (m : ModuleOfCode) (is : List LeafInstance) → slice_get modules x ≡ Some m → slice_get held x ≡ Some is
    → (nodes : List Node) → map held_seen is ≡ instances_of (block_in nodes m.body.items)

abbrev pub numbering_of : Numbers → Numbering
numbering_of at = record { ports = at.ports; first = at.first; own = at.own }

-- words among the leaves of the code
abbrev pub shows_state : LeafRole → Bool → Bool
shows_state (Register clock reset) bits = bits
shows_state (Pipe r clock under) bits = bits
shows_state _ bits = false

abbrev pub is_word : Leaf → Bool
is_word l = shows_state l.role (has_bits (type_seen l.holds))

abbrev pub word_there : Option Leaf → Bool
word_there None = false
word_there (Some l) = is_word l

-- those of a range that are so, by their numbers in the whole
abbrev pub chosen : (ℕ → ℕ) → (ℕ → Bool) → ℕ → ℕ → List ℕ
chosen numbered is_so from upto = map numbered (filter is_so (range_with_len from (upto - from)))

abbrev pub word_numbers : Numbers → List Leaf → ℕ → ℕ → List ℕ
word_numbers at leaves from upto = chosen (number (numbering_of at)) (λ x. word_there (slice_get leaves x)) from upto

-- and arrays that have bits among those of the code
abbrev pub bits_there : Option ArrayOfCode → Bool
bits_there None = false
bits_there (Some a) = has_bits (type_seen a.holds)

abbrev pub array_numbers : Numbers → List ArrayOfCode → ℕ → ℕ → List ℕ
array_numbers at arrays from upto = chosen (λ x. at.array + x) (λ x. bits_there (slice_get arrays x)) from upto

-- and among those of the definitions
abbrev pub is_word_of : LeafModule → ℕ → Bool
is_word_of m x = is_state (leaf_at m.leaves x).role && has_bits (leaf_at m.leaves x).holds

abbrev pub words_among : LeafModule → Numbering → ℕ → ℕ → List ℕ
words_among m n from upto = chosen (number n) (is_word_of m) from upto

abbrev pub has_bits_of : LeafModule → ℕ → Bool
has_bits_of m x = has_bits (array_at m.arrays x).holds

abbrev pub arrays_among : LeafModule → ℕ → ℕ → ℕ → List ℕ
arrays_among m array from upto = chosen (λ x. array + x) (has_bits_of m) from upto

-- how many of the first of these declarations, of which there are so many, stand before the last that are one or behind it
unfoldable pub first_from : List ℕ → ℕ → ℕ → ℕ
first_from ds zero declaration = 0
first_from ds (suc n) declaration = if nat_lt (slice_index_or ds n 0) declaration then suc n else first_from ds n declaration

-- what comes of a copy whose module has so many leaves, arrays of these declarations, and declares these names: its words and arrays up to its first
-- instance, that instance, and so on
abbrev pub next_first : ℕ → List LeafInstance → ℕ
next_first leaves [] = leaves
next_first leaves (i ∷ is) = i.first

abbrev pub next_array : List ℕ → List LeafInstance → ℕ
next_array ds [] = length ds
next_array ds (i ∷ is) = first_from ds (next_array ds is) i.declaration

abbrev pub below_prefix : List (List ℕ) → List ℕ → ℕ → List ℕ
below_prefix names prefix x = prefix ++ (slice_index_or names x [] ++ codes ".")

abbrev pub module_part : Numbers → List (List ℕ) → List ℕ → LeafInstance → Pending
module_part at names prefix i = Module i.module_number (number (numbering_of at) i.first) (below_prefix names prefix i.declaration)

abbrev pub instance_parts : Numbers → ℕ → List ℕ → List (List ℕ) → List ℕ → List LeafInstance → List Pending
instance_parts at leaves arrays names prefix [] = []
instance_parts at leaves arrays names prefix (i ∷ is) =
    module_part at names prefix i
    ∷ Words at (record { from = i.first; upto = next_first leaves is; arrays_from = next_array arrays (i ∷ is); arrays_upto = next_array arrays is })
    ∷ instance_parts at leaves arrays names prefix is

abbrev pub parts : Numbers → ℕ → List ℕ → List (List ℕ) → List ℕ → List LeafInstance → List Pending
parts at leaves arrays names prefix is =
    Words at (record { from = 0; upto = next_first leaves is; arrays_from = 0; arrays_upto = next_array arrays is })
    ∷ instance_parts at leaves arrays names prefix is

-- what is to come, with the path and the design of each module in it; `free` is the first number that is not taken, `array` that of arrays
abbrev pub Placed : Type 0
Placed = LeafPath × Design

abbrev pub copies_to_come : ℕ → ℕ → List Pending → List Placed → List Copy
copies_to_come free array (Module x first prefix ∷ ps) (d ∷ ds) =
    copies_below x first free array d.1 ++ copies_to_come (free + count_below d.1) (array + array_count_below d.1) ps ds
copies_to_come free array (Words at some ∷ ps) ds = copies_to_come free array ps ds
copies_to_come free array _ _ = []

abbrev pub paths_to_come : List Pending → List Placed → List LeafPath
paths_to_come (Module x first prefix ∷ ps) (d ∷ ds) = paths_below d.0 d.1 ++ paths_to_come ps ds
paths_to_come (Words at some ∷ ps) ds = paths_to_come ps ds
paths_to_come _ _ = []

-- numbers of the state: those of a copy's own, and those of a design of a size
module _ (own : Numbers → Stretch → List ℕ) (below : ℕ → ℕ → Design → List ℕ) (size : Design → ℕ) where
  abbrev pub state_to_come : ℕ → List Pending → List Placed → List ℕ
  state_to_come free (Module x first prefix ∷ ps) (d ∷ ds) = below first free d.1 ++ state_to_come (free + size d.1) ps ds
  state_to_come free (Words at some ∷ ps) ds = own at some ++ state_to_come free ps ds
  state_to_come free _ _ = []

abbrev pub arrays_below : ℕ → ℕ → Design → List ℕ
arrays_below first array d = array_order_below array d

module _ (views : List LeafModule) where
  abbrev pub own_words_of : Numbers → Stretch → List ℕ
  own_words_of at some = words_among (module_of views at.module_number) (numbering_of at) some.from some.upto

  abbrev pub own_arrays_of : Numbers → Stretch → List ℕ
  own_arrays_of at some = arrays_among (module_of views at.module_number) at.array some.arrays_from some.arrays_upto

  abbrev pub words_to_come : ℕ → List Pending → List Placed → List ℕ
  words_to_come = state_to_come own_words_of words_below count_below

  abbrev pub arrays_to_come : ℕ → List Pending → List Placed → List ℕ
  arrays_to_come = state_to_come own_arrays_of arrays_below array_count_below

  pub record IsPlaced (x : ℕ) (prefix : List ℕ) (d : Placed) : Type 0 where
    pub there : x < length views
    pub is_design : IsDesignOf views (module_of views x) d.1
    pub prefix_is : prefix ≡ prefix_text d.0

  -- each is of a module that is there
  abbrev pub ArePlaced : List Pending → List Placed → Type 0
  ArePlaced [] [] = Unit {0}
  ArePlaced (Module x first prefix ∷ ps) (d ∷ ds) = IsPlaced x prefix d × ArePlaced ps ds
  ArePlaced (Words at some ∷ ps) ds = (at.module_number < length views) × ArePlaced ps ds
  ArePlaced _ _ = ⊥

  -- what is found and what is to come, with these designs, is all of the design below the main module, which has that number
  pub record FindsBy (main : ℕ) (d : Design) (found : Elaborated) (coming : List Pending) (free array : ℕ) (designs : List Placed) : Type 0 where
    pub placed : ArePlaced coming designs
    pub copies : map copy_seen found.copies.items ++ copies_to_come free array coming designs ≡ copies_of main d
    pub prefixes :
        map (λ (k : ModuleCopy). k.prefix) found.copies.items ++ map prefix_text (paths_to_come coming designs)
        ≡ map prefix_text (paths_below [] d)
    pub state : found.state.items ++ words_to_come free coming designs ≡ (flattened d).words
    pub array_order : found.array_order.items ++ arrays_to_come array coming designs ≡ (flattened d).array_order

  abbrev pub Finds : ℕ → Design → Elaborated → List Pending → ℕ → ℕ → Type 0
  Finds main d found coming free array = (designs : List Placed) × FindsBy main d found coming free array designs

-- so it is of each design of such modules
abbrev pub IsUnderWay : List ModuleOfCode → List (List (List ℕ)) → ℕ → Walk → Type 0
IsUnderWay modules names main w =
    (views : List LeafModule) (d : Design) → AreViewed views modules names → main < length views → IsDesignOf views (module_of views main) d
    → Finds views main d w.found (reverse w.pending.items) w.free w.free_array

-- and stays so where this came next
abbrev pub Takes : List ModuleOfCode → List (List (List ℕ)) → Pending → Walk → Walk → Type 0
Takes modules names p old new =
    (views : List LeafModule) (main : ℕ) (d : Design) → AreViewed views modules names
    → Finds views main d old.found (p ∷ reverse old.pending.items) old.free old.free_array
    → Finds views main d new.found (reverse new.pending.items) new.free new.free_array
