-- What stands before the paths of the leaves and arrays of an instance, by what does in the module that holds it; and these paths as they are printed.
use Rattle.std.proofs.Common.{◌≡◌, ℕ, ◌<◌, List, [], ◌∷◌, ◌++◌, codes, flat_map, get_or, length, map, refl, sym, ap, ◌∙◌, append_assoc, append-nil}
use Rattle.std.proofs.lemmas.List.{get_or-map}
use Rattle.std.proofs.lemmas.List.Concat.{flat_map-append}
use Rattle.fir_ast.specs.Statements.{PlacedName}
use Rattle.fir_meaning.specs.LeafPaths.{LeafPath, Step, element, named, path_text, step_text}
use Rattle.fir_meaning.specs.working.DesignPaths.{instance_name, instance_path, no_name}
use Rattle.fir_meaning.specs.working.LeafBlocks.{HeldInstance}
use Rattle.fir_meaning.specs.working.LeafModules.{LeafModule}
use Rattle.fir_elaborate.specs.working.CopyPaths.{prefix_text}
use Rattle.fir_elaborate.specs.working.Walks.{below_prefix}

steps_then : (steps : LeafPath) (name : List ℕ) → flat_map step_text (steps ++ named name ∷ []) ≡ flat_map step_text steps ++ (codes "." ++ name)
steps_then steps name =
    flat_map-append step_text steps (named name ∷ [])
    ∙ ap (λ xs. flat_map step_text steps ++ xs) (append-nil (codes "." ++ name))

path_then : (step : Step) (steps : LeafPath) (name : List ℕ)
    → path_text (step ∷ (steps ++ named name ∷ [])) ≡ path_text (step ∷ steps) ++ (codes "." ++ name)
path_then (named x) steps name =
    ap (λ xs. x ++ xs) (steps_then steps name) ∙ sym (append_assoc x (flat_map step_text steps) (codes "." ++ name))
path_then (element i) steps name = steps_then (element i ∷ steps) name

dotted : (text dot name : List ℕ) → (text ++ (dot ++ name)) ++ dot ≡ (text ++ dot) ++ (name ++ dot)
dotted text dot name = simp append_assoc

prefix_then : (path : LeafPath) (name : List ℕ) → prefix_text (path ++ named name ∷ []) ≡ prefix_text path ++ (name ++ codes ".")
prefix_then [] name = ap (λ xs. xs ++ codes ".") (append-nil name)
prefix_then (step ∷ steps) name =
    ap (λ xs. xs ++ codes ".") (path_then step steps name) ∙ dotted (path_text (step ∷ steps)) (codes ".") name

pub prefix_below : (path : LeafPath) (m : LeafModule) (i : HeldInstance) (names : List (List ℕ)) → names ≡ map (λ (n : PlacedName). n.name) m.declared
    → i.declaration < length m.declared
    → below_prefix names (prefix_text path) i.declaration ≡ prefix_text (instance_path path m i)
prefix_below path m i names same lt =
    ap (λ ns. prefix_text path ++ (get_or ns i.declaration [] ++ codes ".")) same
    ∙ ap (λ name. prefix_text path ++ (name ++ codes ".")) (get_or-map (λ (n : PlacedName). n.name) m.declared i.declaration no_name [] lt)
    ∙ sym (prefix_then path (instance_name m i))

-- a path behind another as it is printed
joined_text : (y steps dot x more : List ℕ) → y ++ (steps ++ ((dot ++ x) ++ more)) ≡ ((y ++ steps) ++ dot) ++ (x ++ more)
joined_text y steps dot x more = simp append_assoc refl

steps_joined : (steps : LeafPath) (x : List ℕ) (more : LeafPath)
    → flat_map step_text (steps ++ named x ∷ more) ≡ flat_map step_text steps ++ ((codes "." ++ x) ++ flat_map step_text more)
steps_joined steps x more = flat_map-append step_text steps (named x ∷ more)

pub text_then : (path : LeafPath) (x : List ℕ) (more : LeafPath)
    → path_text (path ++ named x ∷ more) ≡ prefix_text path ++ path_text (named x ∷ more)
text_then [] x more = refl
text_then (named y ∷ steps) x more =
    ap (λ xs. y ++ xs) (steps_joined steps x more) ∙ joined_text y (flat_map step_text steps) (codes ".") x (flat_map step_text more)
text_then (element i ∷ steps) x more =
    ap (λ xs. step_text (element i) ++ xs) (steps_joined steps x more)
    ∙ joined_text (step_text (element i)) (flat_map step_text steps) (codes ".") x (flat_map step_text more)
