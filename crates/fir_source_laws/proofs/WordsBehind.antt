-- What the next state holds at the path of a word is what the word becomes.
use Rattle.std.proofs.Common.{◌≡◌, ℕ, List, [], ◌∷◌, ◌++◌, true, false, map, sym, ap, subst, inl, inr}
use Rattle.fir_base.specs.Lists.{Distinct, In}
use Rattle.fir_base.proofs.Members.{in_map}
use Rattle.fir_meaning.specs.SourceAllows.{arrays_next, word_next}
use Rattle.fir_meaning.specs.SourceCircuits.{PlacedLeaf, leaf_path, paths_of, state_words}
use Rattle.fir_meaning.specs.SourceDesigns.{SourceDesign}
use Rattle.fir_meaning.specs.SourceValues.{PathEnv, holds_on, look_on}
use Rattle.fir_meaning.specs.SamePaths.{same_path}
use Rattle.fir_source_laws.specs.working.StateWords.{word_behind_tick}
use Rattle.fir_source_laws.proofs.StatePaths.{path_equal, path_other}

looked : (f : PlacedLeaf → ℕ) (ps : List PlacedLeaf) (more : List ℕ) (p : PlacedLeaf) → In ps p → Distinct (paths_of ps)
    → look_on (paths_of ps) (map f ps ++ more) (leaf_path p) ≡ f p
looked f [] more p among once = absurd among
looked f (a ∷ ps) more p (inl is) once =
    let here : same_path (leaf_path a) (leaf_path p) ≡ true = path_equal (leaf_path a) (leaf_path p) (ap leaf_path is) in
    rw here (ap f is)
looked f (a ∷ ps) more p (inr m) once =
    let other : same_path (leaf_path a) (leaf_path p) ≡ false =
    path_other (leaf_path a) (leaf_path p) (λ e. once.0 (subst (In (paths_of ps)) (sym e) (in_map leaf_path ps p m))) in
    rw other (looked f ps more p m once.1)

pub next_word : (t : SourceDesign) (state edges : List ℕ) (env : PathEnv) (p : PlacedLeaf) → In (state_words t) p → Distinct (paths_of (state_words t))
    → word_behind_tick t state edges env (leaf_path p) ≡ word_next t state edges env p.at (leaf_path p) p.leaf.role
next_word t state edges env p among once =
    looked (λ (a : PlacedLeaf). word_next t state edges env a.at (leaf_path a) a.leaf.role) (state_words t) (arrays_next t state edges env) p among once

-- what a leaf holds is found at its path
pub holds_found : (ps : List PlacedLeaf) (p : PlacedLeaf) → In ps p → Distinct (paths_of ps) → holds_on ps (leaf_path p) ≡ p.leaf.holds
holds_found [] p among once = absurd among
holds_found (a ∷ ps) p (inl is) once =
    let here : same_path (leaf_path a) (leaf_path p) ≡ true = path_equal (leaf_path a) (leaf_path p) (ap leaf_path is) in
    rw here (ap (λ (y : PlacedLeaf). y.leaf.holds) is)
holds_found (a ∷ ps) p (inr m) once =
    let other : same_path (leaf_path a) (leaf_path p) ≡ false =
    path_other (leaf_path a) (leaf_path p) (λ e. once.0 (subst (In (paths_of ps)) (sym e) (in_map leaf_path ps p m))) in
    rw other (holds_found ps p m once.1)
