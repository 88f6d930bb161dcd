-- Leaves behind one step, and those of elements: their paths.
use Rattle.std.proofs.Common.{◌≡◌, ℕ, ◌+◌, List, [], ◌∷◌, ◌++◌, Bool, true, false, map, refl, ap, ◌∙◌}
use Rattle.std.specs.Bool.{beq}
use Rattle.std.proofs.lemmas.List.{map-append}
use Rattle.fir_meaning.specs.LeafPaths.{Step, element, LeafPath}
use Rattle.fir_meaning.specs.TypeLeaves.{TypeLeaf, under, element_leaves}

abbrev pub path_of : TypeLeaf → LeafPath
path_of l = l.path

abbrev pub behind_step : Step → LeafPath → LeafPath
behind_step s p = s ∷ p

pub paths_under : (f : Bool) (s : Step) (ls : List TypeLeaf) → map path_of (map (under f s) ls) ≡ map (behind_step s) (map path_of ls)
paths_under f s [] = refl
paths_under f s (l ∷ ls) = ap (λ p. (s ∷ l.path) ∷ p) (paths_under f s ls)

-- the paths of leaves behind a step, and of those that follow
pub paths_joined : (f : Bool) (s : Step) (ls ks : List TypeLeaf) → map path_of (map (under f s) ls ++ ks) ≡ map (behind_step s) (map path_of ls) ++ map path_of ks
paths_joined f s ls ks = map-append path_of (map (under f s) ls) ks ∙ ap (λ l. l ++ map path_of ks) (paths_under f s ls)

pub element_paths : (i n : ℕ) (ls : List TypeLeaf)
    → map path_of (map (under false (element i)) ls ++ element_leaves (i + 1) n ls)
    ≡ map (behind_step (element i)) (map path_of ls) ++ map path_of (element_leaves (i + 1) n ls)
element_paths i n ls = paths_joined false (element i) ls (element_leaves (i + 1) n ls)

-- orientations that a test finds the same
pub same_flip : (f g : Bool) → beq f g ≡ true → f ≡ g
same_flip true true h = refl
same_flip false false h = refl
same_flip true false h = cc
same_flip false true h = cc
