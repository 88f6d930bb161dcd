-- The path of a leaf behind that of an instance, as it is printed.
use Rattle.std.proofs.Common.{◌≡◌, ℕ, suc, ◌+◌, List, [], ◌∷◌, ◌++◌, take, length, flat_map, refl, ap, ◌∙◌, append_assoc, arith}
use Rattle.std.specs.Prelude.{codes}
use Rattle.std.proofs.lemmas.Grind.{flat_map-append}
use Rattle.fir_meaning.specs.LeafPaths.{LeafPath, Step, element, named, path_text, step_text}
use Rattle.fir_elaborate.specs.working.CopyPaths.{prefix_text}

regrouped : (b d n r : List ℕ) → b ++ ((d ++ n) ++ r) ≡ (b ++ d) ++ (n ++ r)
regrouped b d n r = simp append_assoc

pub prefixed : (at : LeafPath) (n : List ℕ) (rest : LeafPath) → path_text (at ++ named n ∷ rest) ≡ prefix_text at ++ path_text (named n ∷ rest)
prefixed [] n rest = refl
prefixed (named x ∷ steps) n rest =
    ap (λ ts. x ++ ts) (flat_map-append step_text steps (named n ∷ rest)) ∙ simp append_assoc
prefixed (element i ∷ steps) n rest =
    flat_map-append step_text (element i ∷ steps) (named n ∷ rest)
    ∙ regrouped (flat_map step_text (element i ∷ steps)) (codes ".") n (flat_map step_text rest)

-- the names of instances and one step more
pub take_one : (at : LeafPath) (x : Step) (rest : LeafPath) → take (length at + 1) (at ++ x ∷ rest) ≡ at ++ x ∷ []
take_one [] x rest = refl
take_one (y ∷ at) x rest =
    let more : suc (length at) + 1 ≡ suc (length at + 1) = omega arith in
    rw more (ap (λ ss. y ∷ ss) (take_one at x rest))

-- where two paths begin with as many steps, they begin alike
pub same_begin : (p q u v : LeafPath) → p ++ u ≡ q ++ v → length p ≡ length q → p ≡ q
same_begin [] [] u v e long = refl
same_begin [] (y ∷ q) u v e long = absurd (omega (arith, long))
same_begin (x ∷ p) [] u v e long = absurd (omega (arith, long))
same_begin (x ∷ p) (y ∷ q) u v e long =
    let first : x ≡ y = cc in
    let rest : p ++ u ≡ q ++ v = cc in
    let others = same_begin p q u v rest (omega (arith, long)) in
    cc
