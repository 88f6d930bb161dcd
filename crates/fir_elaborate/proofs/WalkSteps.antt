-- The other steps of the walk: its first, its last, and those that find words and arrays.
use Rattle.std.proofs.Common.{◌≡◌, ℕ, ◌<◌, List, [], ◌∷◌, ◌++◌, length, map, slice_get, Some, refl, sym, ap, ◌∙◌, append_assoc, append-nil, arith}
use Rattle.fir_base.proofs.Elements.{there}
use Rattle.fir_leaf_circuit.specs.declared.leaf_module.LeafModule.{LeafModule as ModuleOfCode}
use Rattle.fir_meaning.specs.working.Designs.{Design, IsDesignOf, made_of, module_of}
use Rattle.fir_meaning.specs.working.LeafModules.{LeafModule}
use Rattle.fir_meaning.specs.working.StateWalks.{array_order_below, words_below}
use Rattle.fir_elaborate.specs.declared.elaborated.Elaborated.{Elaborated}
use Rattle.fir_elaborate.specs.declared.elaborated.ModuleCopy.{ModuleCopy}
use Rattle.fir_elaborate.specs.declared.numbers.Numbers.{Numbers}
use Rattle.fir_elaborate.specs.declared.numbers.Stretch.{Stretch}
use Rattle.fir_elaborate.specs.declared.walk.Pending.{Pending}
use Rattle.fir_elaborate.specs.declared.walk.Pending.TheVariants.{Module, Words}
use Rattle.fir_copies.specs.working.Copies.{copies_below}
use Rattle.fir_elaborate.specs.working.CopyPaths.{paths_below, prefix_text}
use Rattle.fir_elaborate.specs.working.Elaborations.{AreViewed, IsElaborated, IsViewed, copy_seen}
use Rattle.fir_elaborate.specs.working.Walks.{Finds, array_numbers, arrays_among, arrays_to_come, numbering_of, word_numbers, words_among, words_to_come}
use Rattle.fir_elaborate.proofs.ViewedLeaves.{arrays_same, words_same}

-- each module of the code that is there is that of the definitions
pub viewed_at : (views : List LeafModule) (modules : List ModuleOfCode) (names : List (List (List ℕ))) → AreViewed views modules names
    → (x : ℕ) (part : ModuleOfCode) → x < length views → slice_get modules x ≡ Some part
    → (ns : List (List ℕ)) × IsViewed views (module_of views x) part ns
viewed_at views modules names viewed x part lt found =
    let named = there names x (omega (arith, viewed.names_count)) in
    (named.0, viewed.each x part named.0 found named.1)

pub begun : (views : List LeafModule) (main : ℕ) (part : ModuleOfCode) (ns : List (List ℕ)) (found : Elaborated) → main < length views
    → IsViewed views (module_of views main) part ns
    → found.copies.items ≡ []
    → found.state.items ≡ []
    → found.array_order.items ≡ []
    → (d : Design)
    → IsDesignOf views (module_of views main) d
    → Finds views main d found (Module main 0 [] ∷ []) part.port_leaves 0
begun views main part ns found lt viewed none_found no_state no_arrays (made_of m items) h =
    let ports : part.port_leaves ≡ m.port_leaves = viewed.view.port_leaves ∙ ap (λ (z : LeafModule). z.port_leaves) (sym h.0) in
    let d = made_of m items in (
      ([], d) ∷ [],
      record {
        placed = (record { there = lt; is_design = h; prefix_is = refl }, tt);
        copies =
            ap (λ ks. map copy_seen ks ++ (copies_below main 0 part.port_leaves 0 d ++ [])) none_found
            ∙ append-nil (copies_below main 0 part.port_leaves 0 d)
            ∙ ap (λ z. copies_below main 0 z 0 d) ports;
        prefixes =
            ap (λ ks. map (λ (k : ModuleCopy). k.prefix) ks ++ map prefix_text (paths_below [] d ++ [])) none_found
            ∙ ap (map prefix_text) (append-nil (paths_below [] d));
        state =
            ap (λ ws. ws ++ (words_below 0 part.port_leaves d ++ [])) no_state
            ∙ append-nil (words_below 0 part.port_leaves d)
            ∙ ap (λ z. words_below 0 z d) ports;
        array_order =
            ap (λ ws. ws ++ (array_order_below 0 d ++ [])) no_arrays ∙ append-nil (array_order_below 0 d);
      },
    )

pub words_taken : (views : List LeafModule) (at : Numbers) (some : Stretch) (part : ModuleOfCode) (rest : List Pending) (free array main : ℕ)
    (d : Design)
    (found next : Elaborated)
    → ((x : at.module_number < length views) → (ns : List (List ℕ)) × IsViewed views (module_of views at.module_number) part ns)
    → next.copies.items ≡ found.copies.items
    → next.state.items ≡ found.state.items ++ word_numbers at part.leaves.items some.from some.upto
    → next.array_order.items ≡ found.array_order.items ++ array_numbers at part.arrays.items some.arrays_from some.arrays_upto
    → Finds views main d found (Words at some ∷ rest) free array
    → Finds views main d next rest free array
words_taken views at some part rest free array main d found next viewed kept grown more f =
    let ds = f.0 in
    let h = f.1 in
    let m = module_of views at.module_number in
    let seen = viewed h.placed.0 in
    let words = words_among m (numbering_of at) some.from some.upto in
    let arrays = arrays_among m at.array some.arrays_from some.arrays_upto in (
      ds,
      record {
        placed = h.placed.1;
        copies = rw kept h.copies;
        prefixes = rw kept h.prefixes;
        state =
            ap (λ ws. ws ++ words_to_come views free rest ds) grown
            ∙ ap (λ ws. (found.state.items ++ ws) ++ words_to_come views free rest ds) (words_same part m seen.1.view at some.from some.upto)
            ∙ append_assoc found.state.items words (words_to_come views free rest ds)
            ∙ h.state;
        array_order =
            ap (λ ws. ws ++ arrays_to_come views array rest ds) more
            ∙ ap (λ ws. (found.array_order.items ++ ws) ++ arrays_to_come views array rest ds)
            (arrays_same part m seen.1.view at some.arrays_from some.arrays_upto)
            ∙ append_assoc found.array_order.items arrays (arrays_to_come views array rest ds)
            ∙ h.array_order;
      },
    )

pub ended : (views : List LeafModule) (main : ℕ) (d : Design) (found : Elaborated) (free array : ℕ) → Finds views main d found [] free array
    → IsElaborated main d found
ended views main d found free array f = record {
  copies = sym (append-nil (map copy_seen found.copies.items)) ∙ f.1.copies;
  prefixes = sym (append-nil (map (λ (k : ModuleCopy). k.prefix) found.copies.items)) ∙ f.1.prefixes;
  state = sym (append-nil found.state.items) ∙ f.1.state;
  array_order = sym (append-nil found.array_order.items) ∙ f.1.array_order;
}
