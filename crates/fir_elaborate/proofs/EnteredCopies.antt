-- A step of the walk that finds a copy.
use Rattle.std.proofs.Common.{◌≡◌, ℕ, ◌+◌, ◌-◌, ◌<◌, List, [], ◌∷◌, ◌++◌, length, map, refl, reverse, sym, ap, ap₂, ◌∙◌, subst, arith, append_assoc}
use Rattle.std.proofs.lemmas.List.{length-drop, map_push, reverse-append, reverse-reverse}
use Rattle.fir_base.specs.Lists.{In}
use Rattle.fir_base.proofs.Members.{in_map}
use Rattle.fir_leaf.specs.declared.node.Node.{Node}
use Rattle.fir_leaf.specs.declared.statement.LeafInstance.{LeafInstance}
use Rattle.fir_leaf.specs.working.NodeBlocks.{block_in}
use Rattle.fir_leaf_circuit.specs.declared.array.LeafArray.{LeafArray as ArrayOfCode}
use Rattle.fir_leaf_circuit.specs.declared.leaf_module.LeafModule.{LeafModule as ModuleOfCode}
use Rattle.fir_meaning.specs.LeafPaths.{LeafPath}
use Rattle.fir_meaning.specs.working.Designs.{AreItemsIn, Design, Items, block_of, made_of, module_of}
use Rattle.fir_meaning.specs.working.FlatDesigns.{array_count_below, count_below, inner_leaves}
use Rattle.fir_meaning.specs.working.LeafModules.{LeafModule}
use Rattle.fir_meaning.specs.working.Numberings.{Numbering, numbering}
use Rattle.fir_meaning.specs.working.StateWalks.{array_order_below, words_below}
use Rattle.fir_design.proofs.DesignInstances.{Instance, all_designed, counted, instances_in, own_of, sizes, words_of}
use Rattle.fir_design.proofs.InstanceArrays.{arrays_counted, arrays_of}
use Rattle.fir_elaborate.specs.declared.elaborated.Elaborated.{Elaborated}
use Rattle.fir_elaborate.specs.declared.elaborated.ModuleCopy.{ModuleCopy}
use Rattle.fir_elaborate.specs.declared.numbers.Numbers.{Numbers}
use Rattle.fir_elaborate.specs.declared.walk.Pending.{Pending}
use Rattle.fir_elaborate.specs.declared.walk.Pending.TheVariants.{Module}
use Rattle.fir_copies.specs.working.Copies.{copies_below}
use Rattle.fir_elaborate.specs.working.CopyPaths.{paths_below, prefix_text}
use Rattle.fir_elaborate.specs.working.Elaborations.{IsViewed, copy_seen}
use Rattle.fir_elaborate.specs.working.OrderedModules.{instances_of}
use Rattle.fir_elaborate.specs.working.Walks.{ArePlaced, Finds, FindsBy, Placed, arrays_among, arrays_to_come, below_prefix, copies_to_come, held_seen, instance_parts, numbering_of, parts, paths_to_come, words_among, words_to_come}
use Rattle.fir_elaborate.proofs.ComingParts.{arrays_come, copies_come, parts_placed, paths_come, placed, same_next, same_next_array, words_come}
use Rattle.fir_elaborate.proofs.CopyPrefixes.{prefix_below}
use Rattle.fir_elaborate.proofs.InstanceWords.{array_declarations, arrays_are, arrays_behind, next_array_of, next_of, words_are, words_behind}
use Rattle.fir_elaborate.proofs.OwnInstances.{block_own, copies_are, copies_given, paths_are}
use Rattle.fir_elaborate.proofs.ViewedLeaves.{as_many, as_many_arrays, declarations_same}

reversed : {A : Type 0} (before parts after : List A) → after ≡ before ++ reverse parts → reverse after ≡ parts ++ reverse before
reversed before parts after e =
    ap reverse e ∙ reverse-append before (reverse parts) ∙ ap (λ xs. xs ++ reverse before) (reverse-reverse parts)

module _ (views : List LeafModule) (number first free array : ℕ) (prefix : List ℕ) (part : ModuleOfCode) (is : List LeafInstance) (ns : List (List ℕ))
    (held : (nodes : List Node) → map held_seen is ≡ instances_of (block_in nodes part.body.items))
    (rest : List Pending) where
  abbrev at : Numbers
  at = record { module_number = number; ports = part.port_leaves; first = first; own = free; array = array }

  abbrev copy : ModuleCopy
  copy = record { module_number = number; first = first; own = free; array = array; prefix = prefix }

  -- the module of the design that the copy is of
  module _ (path : LeafPath) (m : LeafModule) (items : Items) (ds : List Placed) (viewed : IsViewed views m part ns)
      (of_it : module_of views number ≡ m)
      (body : block_of items ≡ m.body)
      (designed : AreItemsIn views items)
      (there : number < length views)
      (prefix_is : prefix ≡ prefix_text path)
      (rest_placed : ArePlaced views rest ds) where
    abbrev d : Design
    d = made_of m items

    abbrev n : Numbering
    n = numbering m first free

    abbrev xs : List Instance
    xs = instances_in items

    abbrev from : ℕ
    from = free + length (inner_leaves m)

    abbrev arrays_from : ℕ
    arrays_from = array + length m.arrays

    abbrev coming : List Pending
    coming = parts at (length m.leaves) (array_declarations m) ns prefix is ++ rest

    abbrev designs : List Placed
    designs = map (placed path m) xs ++ ds

    same_numbers : numbering_of at ≡ n
    same_numbers = ap (λ p. record { ports = p; first = first; own = free }) viewed.view.port_leaves

    own : map own_of xs ≡ instances_of m.body
    own = block_own items ∙ ap instances_of body

    same_held : map held_seen is ≡ map own_of xs
    same_held = held part.nodes.items ∙ ap instances_of viewed.view.body ∙ sym own

    sum : from + sizes count_below (words_of (numbering_of at)) xs ≡ free + count_below d
    sum = omega (arith, counted items (words_of (numbering_of at)))

    array_sum : arrays_from + sizes array_count_below arrays_of xs ≡ array + array_count_below d
    array_sum = omega (arith, arrays_counted items arrays_of)

    member : (x : Instance) → In xs x → In (instances_of m.body) x.0
    member x among = subst (λ z. In z x.0) own (in_map own_of xs x among)

    coming_placed : ArePlaced views coming designs
    coming_placed = (
      there,
      parts_placed views m path at (array_declarations m) ns prefix rest ds is xs same_held there (λ x among. viewed.there x.0 (member x among))
          (λ x among. all_designed views items designed x among)
          (λ x among.
          ap (λ p. below_prefix ns p x.0.declaration) prefix_is
          ∙ prefix_below path m x.0 ns viewed.names (viewed.ordered.instances x.0 (member x among)).declared)
          rest_placed,
    )

    copies_same : copy_seen copy ∷ copies_to_come from arrays_from coming designs
        ≡ copies_below number first free array d ++ copies_to_come (free + count_below d) (array + array_count_below d) rest ds
    copies_same =
        ap (λ ks. copy_seen copy ∷ ks)
        (copies_come views m path at (array_declarations m) ns prefix rest ds is xs from arrays_from same_held
        ∙ ap (λ z. copies_given z from arrays_from xs ++ copies_to_come (from + sizes count_below (words_of (numbering_of at)) xs)
        (arrays_from + sizes array_count_below arrays_of xs) rest ds) same_numbers
        ∙ ap₂ (λ z y. copies_given n from arrays_from xs ++ copies_to_come z y rest ds) sum array_sum
        ∙ ap (λ ks. ks ++ copies_to_come (free + count_below d) (array + array_count_below d) rest ds) (sym (copies_are n items from arrays_from)))

    paths_same : path ∷ paths_to_come coming designs ≡ paths_below path d ++ paths_to_come rest ds
    paths_same =
        ap (λ qs. path ∷ qs)
        (paths_come views m path at (array_declarations m) ns prefix rest ds is xs same_held
        ∙ ap (λ qs. qs ++ paths_to_come rest ds) (sym (paths_are path m items)))

    words_all : words_to_come views from coming designs ≡ words_below first free d ++ words_to_come views (free + count_below d) rest ds
    words_all =
        let next = same_next views m path at (array_declarations m) ns prefix rest ds is xs same_held in
        let among = words_among m n 0 (next_of m xs) in
        let later = instance_parts at (length m.leaves) (array_declarations m) ns prefix is ++ rest in
        ap₂ (λ z y. words_among z (numbering_of at) 0 y ++ words_to_come views from later designs) of_it next
        ∙ ap (λ ws. words_among m (numbering_of at) 0 (next_of m xs) ++ ws)
        (words_come views m path at (array_declarations m) ns prefix rest ds of_it is xs from same_held)
        ∙ ap₂ (λ z y. words_among m z 0 (next_of m xs) ++ (words_behind m z from xs ++ words_to_come views y rest ds)) same_numbers sum
        ∙ sym (append_assoc among (words_behind m n from xs) (words_to_come views (free + count_below d) rest ds))
        ∙ ap (λ ws. ws ++ words_to_come views (free + count_below d) rest ds) (sym (words_are m viewed.ordered items body first free))

    arrays_all : arrays_to_come views arrays_from coming designs
        ≡ array_order_below array d ++ arrays_to_come views (array + array_count_below d) rest ds
    arrays_all =
        let next = same_next_array views m path at (array_declarations m) ns prefix rest ds refl is xs same_held in
        let among = arrays_among m array 0 (next_array_of m xs) in
        let behind = arrays_behind m array arrays_from xs in
        let later = instance_parts at (length m.leaves) (array_declarations m) ns prefix is ++ rest in
        ap₂ (λ z y. arrays_among z array 0 y ++ arrays_to_come views arrays_from later designs) of_it next
        ∙ ap (λ ws. among ++ ws)
        (arrays_come views m path at (array_declarations m) ns prefix rest ds of_it refl is xs arrays_from same_held)
        ∙ ap (λ y. among ++ (behind ++ arrays_to_come views y rest ds)) array_sum
        ∙ sym (append_assoc among behind (arrays_to_come views (array + array_count_below d) rest ds))
        ∙ ap (λ ws. ws ++ arrays_to_come views (array + array_count_below d) rest ds) (sym (arrays_are m viewed.ordered items body array))

    inner_long : free + (length part.leaves.items - part.port_leaves) ≡ from
    inner_long =
        omega (arith, as_many part m viewed.view, viewed.view.port_leaves, length-drop m.port_leaves m.leaves)

    arrays_long : array + length part.arrays.items ≡ arrays_from
    arrays_long = ap (λ z. array + z) (as_many_arrays part m viewed.view)

    module _ (main : ℕ) (root : Design) (found next : Elaborated) (grown : next.copies.items ≡ found.copies.items ++ copy ∷ [])
        (kept : next.state.items ≡ found.state.items) (kept_arrays : next.array_order.items ≡ found.array_order.items) where
      entered_here : FindsBy views main root found (Module number first prefix ∷ rest) free array ((path, d) ∷ ds)
          → FindsBy views main root next coming from arrays_from designs
      entered_here f = record {
        placed = coming_placed;
        copies =
            ap (λ ks. map copy_seen ks ++ copies_to_come from arrays_from coming designs) grown
            ∙ ap (λ ks. ks ++ copies_to_come from arrays_from coming designs) (map_push copy_seen found.copies.items copy)
            ∙ append_assoc (map copy_seen found.copies.items) (copy_seen copy ∷ []) (copies_to_come from arrays_from coming designs)
            ∙ ap (λ ks. map copy_seen found.copies.items ++ ks) copies_same
            ∙ f.copies;
        prefixes =
            let text = λ (k : ModuleCopy). k.prefix in
            ap (λ ks. map text ks ++ map prefix_text (paths_to_come coming designs)) grown
            ∙ ap (λ ts. ts ++ map prefix_text (paths_to_come coming designs)) (map_push text found.copies.items copy)
            ∙ append_assoc (map text found.copies.items) (prefix ∷ []) (map prefix_text (paths_to_come coming designs))
            ∙ ap (λ t. map text found.copies.items ++ (t ∷ map prefix_text (paths_to_come coming designs))) prefix_is
            ∙ ap (λ qs. map text found.copies.items ++ map prefix_text qs) paths_same
            ∙ f.prefixes;
        state = ap (λ ws. ws ++ words_to_come views from coming designs) kept ∙ ap (λ ws. found.state.items ++ ws) words_all ∙ f.state;
        array_order =
            ap (λ ws. ws ++ arrays_to_come views arrays_from coming designs) kept_arrays
            ∙ ap (λ ws. found.array_order.items ++ ws) arrays_all ∙ f.array_order;
      }

      entered_so : FindsBy views main root found (Module number first prefix ∷ rest) free array ((path, d) ∷ ds)
          → Finds views main root next
          (parts at (length part.leaves.items) (map (λ (a : ArrayOfCode). a.declaration) part.arrays.items) ns prefix is ++ rest)
          (free + (length part.leaves.items - part.port_leaves)) (array + length part.arrays.items)
      entered_so f =
          let further = free + (length part.leaves.items - part.port_leaves) in
          subst
          (λ z. Finds views main root next
          (parts at z (map (λ (a : ArrayOfCode). a.declaration) part.arrays.items) ns prefix is ++ rest) further (array + length part.arrays.items))
          (sym (as_many part m viewed.view))
          (subst (λ z. Finds views main root next (parts at (length m.leaves) z ns prefix is ++ rest) further (array + length part.arrays.items))
          (sym (declarations_same part m viewed.view))
          (subst (λ z. Finds views main root next coming z (array + length part.arrays.items)) (sym inner_long)
          (subst (Finds views main root next coming from) (sym arrays_long) (designs, entered_here f))))

  abbrev Entered : ℕ → Design → Elaborated → Type 0
  Entered main root next =
      Finds views main root next
      (parts at (length part.leaves.items) (map (λ (a : ArrayOfCode). a.declaration) part.arrays.items) ns prefix is ++ rest)
      (free + (length part.leaves.items - part.port_leaves)) (array + length part.arrays.items)

  entered : IsViewed views (module_of views number) part ns → (main : ℕ) (root : Design) (found next : Elaborated)
      → next.copies.items ≡ found.copies.items ++ copy ∷ []
      → next.state.items ≡ found.state.items
      → next.array_order.items ≡ found.array_order.items
      → Finds views main root found (Module number first prefix ∷ rest) free array
      → Entered main root next
  entered viewed main root found next grown kept kept_arrays f = by_designs f.0 f.1
    where
      of_design : (path : LeafPath) (d : Design) (ds : List Placed)
          → FindsBy views main root found (Module number first prefix ∷ rest) free array ((path, d) ∷ ds) → Entered main root next
      of_design path (made_of m items) ds f =
          let here = f.placed.0 in
          let same = here.is_design.0 in
          let seen = subst (λ z. IsViewed views z part ns) (sym same) viewed in
          let body = here.is_design.1 ∙ ap (λ (z : LeafModule). z.body) (sym same) in
          entered_so path m items ds seen (sym same) body here.is_design.2 here.there here.prefix_is f.placed.1 main root found next grown kept
          kept_arrays f

      by_designs : (ds : List Placed) → FindsBy views main root found (Module number first prefix ∷ rest) free array ds → Entered main root next
      by_designs [] f = absurd f.placed
      by_designs (d ∷ ds) f = of_design d.0 d.1 ds f

-- as the code does it: onto the rest comes what is to come of the copy
pub enters : (views : List LeafModule) (number first free array : ℕ) (prefix : List ℕ) (part : ModuleOfCode) (is : List LeafInstance)
    (ns : List (List ℕ))
    → ((nodes : List Node) → map held_seen is ≡ instances_of (block_in nodes part.body.items))
    → IsViewed views (module_of views number) part ns
    → (before after : List Pending) (at : Numbers) (long further array_further : ℕ)
    → at ≡ record { module_number = number; ports = part.port_leaves; first = first; own = free; array = array }
    → long ≡ length part.leaves.items
    → after ≡ before ++ reverse (parts at long (map (λ (a : ArrayOfCode). a.declaration) part.arrays.items) ns prefix is)
    → further ≡ free + (length part.leaves.items - part.port_leaves)
    → array_further ≡ array + length part.arrays.items
    → (main : ℕ) (root : Design) (found next : Elaborated)
    → next.copies.items
    ≡ found.copies.items ++ record { module_number = number; first = first; own = free; array = array; prefix = prefix } ∷ []
    → next.state.items ≡ found.state.items
    → next.array_order.items ≡ found.array_order.items
    → Finds views main root found (Module number first prefix ∷ reverse before) free array
    → Finds views main root next (reverse after) further array_further
enters views number first free array prefix part is ns held viewed before after here long further array_further as_here as_long put count arrays main root found next
    grown kept kept_arrays f =
    let ds = map (λ (a : ArrayOfCode). a.declaration) part.arrays.items in
    let all = parts (at views number first free array prefix part is ns held (reverse before)) (length part.leaves.items) ds ns prefix is in
    let same : after ≡ before ++ reverse all = put ∙ ap₂ (λ k n. before ++ reverse (parts k n ds ns prefix is)) as_here as_long in
    subst (λ z. Finds views main root next (reverse after) z array_further) (sym count)
    (subst (Finds views main root next (reverse after) (free + (length part.leaves.items - part.port_leaves))) (sym arrays)
    (subst
    (λ ps. Finds views main root next ps (free + (length part.leaves.items - part.port_leaves)) (array + length part.arrays.items))
    (sym (reversed before all after same))
    (entered views number first free array prefix part is ns held (reverse before) viewed main root found next grown kept kept_arrays f)))
