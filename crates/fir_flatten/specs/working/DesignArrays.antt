-- The arrays of a design, as its modules put them there one after the other (FIRRTL spec, "Memories", "Instances").
use Rattle.std.specs.Prelude.{ℕ, List, [], ◌∷◌, ◌++◌, flat_map, length, map, Option, Some, None, slice_get}
use Rattle.std.specs.List.{range_with_len}
use Rattle.fir_elaborate.specs.declared.elaborated.ModuleCopy.{ModuleCopy}
use Rattle.fir_leaf_circuit.specs.declared.array.LeafArray.{LeafArray}
use Rattle.fir_flatten.specs.declared.design_arrays.DesignArray.{DesignArray}
use Rattle.fir_flatten.specs.declared.design_net.ModulePart.{ModulePart}
use Rattle.fir_flatten.specs.declared.offsets.Offsets.{Offsets}
use Rattle.fir_flatten.specs.working.MovedNets.{offsets_of, writing_moved}
use Rattle.fir_flatten.specs.working.PutModules.{part_of}

-- an array of a module, behind what stands before its path
abbrev pub told_behind : List ℕ → Offsets → Option LeafArray → Option (List ℕ) → Option DesignArray
told_behind prefix at (Some a) (Some text) =
    Some (record { path = prefix ++ text; holds = a.holds; words = a.words; writings = map (writing_moved at) a.writings.items })
told_behind prefix at _ _ = None

abbrev pub array_behind : List ℕ → Offsets → ModulePart → ℕ → Option DesignArray
array_behind prefix at p k = told_behind prefix at (slice_get p.part.now.arrays.items k) (slice_get p.array_texts.items k)

abbrev pub listed : Option DesignArray → List DesignArray
listed None = []
listed (Some a) = a ∷ []

abbrev pub part_arrays : ModuleCopy → ModulePart → List DesignArray
part_arrays k p =
    flat_map (λ x. listed (array_behind k.prefix (offsets_of k p.part.now.port_leaves 0) p x)) (range_with_len 0 (length p.part.now.arrays.items))

abbrev pub arrays_of_part : ModuleCopy → Option ModulePart → List DesignArray
arrays_of_part k None = []
arrays_of_part k (Some p) = part_arrays k p

-- of the whole design
abbrev pub arrays_of : List ModulePart → List ModuleCopy → List DesignArray
arrays_of parts copies = flat_map (λ k. arrays_of_part k (part_of parts k)) copies
