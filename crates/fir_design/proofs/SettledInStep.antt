-- Values by path are settled in a tree exactly where they are settled by number in a circuit that goes in step with it.
use Rattle.std.proofs.Common.{◌≡◌, ℕ, ◌^◌, ◌<◌, List, [], slice_get, Option, Some, None, sym, ap, ◌∙◌, subst}
use Rattle.fir_base.specs.Lists.{In}
use Rattle.fir_base.specs.Ticks.{HasShape, Shape, Tick}
use Rattle.fir_base.proofs.Elements.{get_in, number_of}
use Rattle.fir_meaning.specs.LeafPaths.{LeafPath}
use Rattle.fir_meaning.specs.working.LeafCircuits.{LeafCircuit, role_of}
use Rattle.fir_meaning.specs.working.LeafModules.{LeafDeclared, leaf_at}
use Rattle.fir_meaning.specs.LeafTypes.{LeafType, a_clock, number}
use Rattle.fir_meaning.specs.working.LeafSettled as over
use Rattle.fir_meaning.specs.SourceAllows as tree
use Rattle.fir_meaning.specs.SourceCircuits.{PlacedLeaf, all_leaves, leaf_path, paths_of}
use Rattle.fir_meaning.specs.SourceDesigns.{SourceDesign}
use Rattle.fir_meaning.specs.SourceValues.{PathEnv, clock_shown, number_shown}
use Rattle.fir_design.proofs.InStep.{InStep}
use Rattle.fir_design.proofs.LeavesInStep.{beyond, leaf_there, leaf_within, never_empty}
use Rattle.fir_design.proofs.ShapesInStep.{shape_is_same}
use Rattle.fir_design.proofs.ShownValues.{clock_by_role, number_by_role}
use Rattle.fir_design.proofs.ValuesInStep.{by_number}

-- a leaf of a type has these values, where its role shows these
abbrev IsShown : Option ℕ → Option (Option ℕ) → ℕ → Option ℕ → LeafType → Type 0
IsShown n k value clock (number h) = (n ≡ Some value) × (value < 2 ^ h.width) × (clock ≡ None)
IsShown n k value clock a_clock = (k ≡ Some clock) × (value ≡ 0)

shown_moved : (n m : Option ℕ) (k j : Option (Option ℕ)) (v w : ℕ) (clock other : Option ℕ) (l h : LeafType)
    → n ≡ m → k ≡ j → v ≡ w → clock ≡ other → l ≡ h → IsShown n k v clock l → IsShown m j w other h
shown_moved n m k j v w clock other l h numbers clocks values same holds shown =
    subst (λ (z : LeafType). IsShown m j w other z) holds
    (subst (λ (z : Option ℕ). IsShown m j w z l) same
    (subst (λ (z : ℕ). IsShown m j z clock l) values
    (subst (λ (z : Option (Option ℕ)). IsShown m z v clock l) clocks (subst (λ (z : Option ℕ). IsShown z k v clock l) numbers shown))))

module _ (c : LeafCircuit) (t : SourceDesign) (s : InStep c t) (state : List ℕ) (tick : Tick) (env : PathEnv) where
  module _ (x : ℕ) (p : PlacedLeaf) (e : slice_get (all_leaves t) x ≡ Some p) where
    number_is : over.number_shown c state tick.inputs (by_number c env) x (role_of c x)
        ≡ number_shown t env state tick.inputs p.at (leaf_path p) p.leaf.role
    number_is =
        number_by_role c t s env p.at x (leaf_within c t s x p e) state tick.inputs (role_of c x) p.leaf.role (s.each x p e).role
        ∙ ap (λ y. number_shown t env state tick.inputs p.at y p.leaf.role) (s.each x p e).path

    clock_is : over.clock_shown c (by_number c env) x (role_of c x) ≡ clock_shown t env p.at (leaf_path p) p.leaf.role
    clock_is =
        clock_by_role c t s env p.at x (leaf_within c t s x p e) (role_of c x) p.leaf.role (s.each x p e).role
        ∙ ap (λ y. clock_shown t env p.at y p.leaf.role) (s.each x p e).path

    to_number : tree.LeafShows t state tick.inputs env p p.leaf.holds → over.Shows c state tick.inputs (by_number c env) x (leaf_at c.leaves x).holds
    to_number =
        shown_moved _ _ _ _ _ _ _ _ p.leaf.holds (leaf_at c.leaves x).holds (sym number_is) (sym clock_is) (ap env.numbers (sym (s.each x p e).path))
        (ap env.clocks (sym (s.each x p e).path)) (sym (s.each x p e).holds)

    to_path : over.Shows c state tick.inputs (by_number c env) x (leaf_at c.leaves x).holds → tree.LeafShows t state tick.inputs env p p.leaf.holds
    to_path =
        shown_moved _ _ _ _ _ _ _ _ (leaf_at c.leaves x).holds p.leaf.holds number_is clock_is (ap env.numbers (s.each x p e).path)
        (ap env.clocks (s.each x p e).path) (s.each x p e).holds

  pub settled_by_number : tree.Settled t state tick env → over.Settled c state tick (by_number c env)
  settled_by_number h = record {
    shaped = subst (λ (z : Shape). HasShape z state tick) (sym (shape_is_same c t s)) h.shaped;
    each = λ x lt. let p = leaf_there c t s x lt in to_number x p.0 p.1 (h.each p.0 (get_in (all_leaves t) x p.0 p.1));
    no_more_numbers = λ x le. ap (λ (l : LeafDeclared). env.numbers l.path) (beyond c t s x le) ∙ h.no_more_numbers [] (never_empty c t s);
    no_more_clocks = λ x le. ap (λ (l : LeafDeclared). env.clocks l.path) (beyond c t s x le) ∙ h.no_more_clocks [] (never_empty c t s);
  }

  pub settled_by_path : ((x : LeafPath) → (In (paths_of (all_leaves t)) x → ⊥) → env.numbers x ≡ 0)
      → ((x : LeafPath) → (In (paths_of (all_leaves t)) x → ⊥) → env.clocks x ≡ None)
      → over.Settled c state tick (by_number c env) → tree.Settled t state tick env
  settled_by_path numbers clocks h = record {
    shaped = subst (λ (z : Shape). HasShape z state tick) (shape_is_same c t s) h.shaped;
    each = λ p among. let x = number_of (all_leaves t) p among in to_path x.0 p x.1 (h.each x.0 (leaf_within c t s x.0 p x.1));
    no_more_numbers = numbers;
    no_more_clocks = clocks;
  }
