-- The first name of a path has one declaration.
use Rattle.std.proofs.Common.{◌≡◌, ℕ, List, ◌∷◌, sym, ap, ◌∙◌}
use Rattle.std.proofs.lemmas.Option.{same_Some}
use Rattle.fir_ast.specs.Circuits.{ModuleTree, CircuitTree}
use Rattle.fir_meaning.specs.LeafPaths.{LeafPath, named}
use Rattle.fir_meaning.specs.Components.{Declaration, find}
use Rattle.fir_meaning.specs.Visibility.{declarations}
use Rattle.fir_reset.specs.working.DeclaredLeaves.{Declares}

first_name : (a b : List ℕ) (p q : LeafPath) → named a ∷ p ≡ named b ∷ q → a ≡ b
first_name a b p q h = cc

pub one_declaration : (c : CircuitTree) (number : ℕ) (path : LeafPath) (d e : Declaration) → Declares c number path d → Declares c number path e → d ≡ e
one_declaration c number path d e h k =
    let module_is : h.inside ≡ k.inside = same_Some h.inside k.inside (sym h.is_module ∙ k.is_module) in
    let name_is : h.name ≡ k.name = first_name h.name k.name h.rest k.rest (sym h.path_is ∙ k.path_is) in
    same_Some d e (sym h.found ∙ ap (λ (m : ModuleTree). find (declarations m) h.name) module_is ∙ ap (find (declarations k.inside)) name_is ∙ k.found)
