-- The declarations of a module's ports have no words and no arrays.
use Rattle.std.proofs.Common.{◌≡◌, ℕ, ◌+◌, ◌-◌, ◌<◌, ◌≤◌, List, [], ◌∷◌, length, nat_eq, Bool, true, false, ◌&&◌, refl, sym, ap, ◌∙◌, subst, arith, length-append, inl}
use Rattle.std.proofs.lemmas.Bool.{eqb-true}
use Rattle.std.proofs.lemmas.List.{get_or-append-add}
use Rattle.fir_base.specs.Lists.{In}
use Rattle.fir_meaning.specs.Visibility.{at_head}
use Rattle.fir_meaning.specs.working.LeafModules.{LeafArray, LeafDeclared, leaf_at, no_leaf}
use Rattle.fir_meaning.specs.ModuleScenes.{Scene, behind_all_ports}
use Rattle.fir_meaning.specs.working.LeafedModules.{leafed_module, leaves_in_block, leaves_of_ports, module_leaves}
use Rattle.fir_leaf.specs.working.StateLaws.{PortsShowNone}
use Rattle.fir_meaning.specs.LeafTypes.{has_bits}
use Rattle.fir_meaning.specs.working.StateWalks.{own_arrays, own_words}
use Rattle.fir_leaf.proofs.OncePaths.{at_in}
use Rattle.fir_leaf.proofs.OnceStates.{own_word}
use Rattle.fir_design.proofs.ArrayRuns.{block_run as arrays_run}
use Rattle.fir_design.proofs.ChosenNumbers.{numbers_none}
use Rattle.fir_design.proofs.LeafRuns.{block_run}

pub empty_list : {A : Type 0} (xs : List A) → ((x : A) → In xs x → ⊥) → xs ≡ []
empty_list [] none = refl
empty_list (x ∷ xs) none = absurd (none x (inl refl))

module _ (s : Scene) where
  abbrev ports : List LeafDeclared
  ports = leaves_of_ports s at_head s.own.inside.ports

  abbrev others : List LeafDeclared
  others = leaves_in_block s (behind_all_ports s.own.inside) s.own.inside.body

  -- behind the ports stand the leaves of statements
  other_leaf : (x : ℕ) → length ports ≤ x → x < length (module_leaves s) → In others (leaf_at (module_leaves s) x)
  other_leaf x le lt =
      let there : length ports + (x - length ports) ≡ x = omega (arith, le) in
      let within : x - length ports < length others = omega (arith, le, lt, length-append ports others) in
      subst (In others) (sym (get_or-append-add ports others (x - length ports) no_leaf) ∙ ap (leaf_at (module_leaves s)) there)
      (at_in others no_leaf (x - length ports) within)

  pub no_port_words : PortsShowNone (leafed_module s) → (k : ℕ) → k < length (behind_all_ports s.own.inside).declared → own_words
      (leafed_module s) k ≡ []
  no_port_words none k lt = empty_list (own_words (leafed_module s) k) apart
    where
      apart : (x : ℕ) → In (own_words (leafed_module s) k) x → ⊥
      apart x i =
          let w = own_word (leafed_module s) k x none i in
          let low = (block_run s s.own.inside.body (behind_all_ports s.own.inside)).low (leaf_at (module_leaves s) x)
          (other_leaf x w.inner w.within) in
          omega (arith, low, lt, w.declaration)

  pub no_port_arrays : (k : ℕ) → k < length (behind_all_ports s.own.inside).declared → own_arrays (leafed_module s) k ≡ []
  no_port_arrays k lt = numbers_none (λ (a : LeafArray). nat_eq a.declaration k && has_bits a.holds) 0 (leafed_module s).arrays none
    where
      none : (a : LeafArray) → In (leafed_module s).arrays a → (nat_eq a.declaration k && has_bits a.holds) ≡ false
      none a j = go (nat_eq a.declaration k) refl
        where
          go : (t : Bool) → nat_eq a.declaration k ≡ t → (t && has_bits a.holds) ≡ false
          go true q =
              let low = (arrays_run s s.own.inside.body (behind_all_ports s.own.inside)).low a j in
              absurd (omega (arith, low, lt, eqb-true a.declaration k q))
          go false q = refl
