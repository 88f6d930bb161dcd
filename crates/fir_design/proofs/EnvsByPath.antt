-- Values by number are values by path: those of the leaves at their paths, and nothing elsewhere.
use Rattle.std.proofs.Common.{◌≡◌, ℕ, zero, suc, ◌<◌, ◌≤◌, List, [], ◌∷◌, Bool, true, false, length, nat_lt, Option, None, refl, sym, ap, ap₂, ◌∙◌, subst, arith, inl, inr, ⊎_elim}
use Rattle.std.proofs.Math.Path.{fun_ext}
use Rattle.std.proofs.lemmas.Bool.{cases_eq, ltb-true, ltb-false}
use Rattle.fir_base.specs.Lists.{In}
use Rattle.fir_base.proofs.Elements.{get_in}
use Rattle.fir_base.proofs.Members.{in_map, in_map_from}
use Rattle.fir_meaning.specs.LeafPaths.{LeafPath}
use Rattle.fir_meaning.specs.working.LeafCircuits.{LeafCircuit}
use Rattle.fir_meaning.specs.working.LeafModules.{LeafDeclared}
use Rattle.fir_leaf.specs.working.SoundDesigns.{circuit_path}
use Rattle.fir_meaning.specs.working.TermValues.{Env}
use Rattle.fir_meaning.specs.SourceCircuits.{all_leaves, leaf_path, paths_of}
use Rattle.fir_meaning.specs.SourceDesigns.{SourceDesign}
use Rattle.fir_meaning.specs.SourceValues.{PathEnv}
use Rattle.fir_design.proofs.InStep.{InStep}
use Rattle.fir_design.proofs.LeavesInStep.{beyond, leaf_there}
use Rattle.fir_design.proofs.PathLookups.{found, found_at, found_none}
use Rattle.fir_design.proofs.ValuesInStep.{by_number}

-- so many numbers
abbrev numbers_below : ℕ → List ℕ
numbers_below zero = []
numbers_below (suc n) = n ∷ numbers_below n

below_in : (n x : ℕ) → In (numbers_below n) x → x < n
below_in zero x among = absurd among
below_in (suc n) x (inl e) = omega (arith, e)
below_in (suc n) x (inr m) = let lt = below_in n x m in omega (arith, lt)

in_below : (n x : ℕ) → x < n → In (numbers_below n) x
in_below zero x lt = absurd (omega (arith, lt))
in_below (suc n) x lt =
    ⊎_elim (λ (e : n ≡ x). inl e) (λ (ne : n ≡ x → ⊥). inr (in_below n x (omega (arith, lt, ne)))) (cases_eq n x)

module _ {A : Type 0} (c : LeafCircuit) (none : A) (f : ℕ → A) where
  abbrev pub at_paths : LeafPath → A
  at_paths x = found (circuit_path c) f none (numbers_below (length c.leaves)) x

  module _ (t : SourceDesign) (s : InStep c t) where
    pub nothing_elsewhere : (x : LeafPath) → (In (paths_of (all_leaves t)) x → ⊥) → at_paths x ≡ none
    nothing_elsewhere x absent =
        found_none (circuit_path c) f none (numbers_below (length c.leaves)) x
        (λ m.
        let y = in_map_from (circuit_path c) (numbers_below (length c.leaves)) x m in
        let p = leaf_there c t s y.0 (below_in (length c.leaves) y.0 y.1) in
        absent (subst (In (paths_of (all_leaves t))) (sym (s.each y.0 p.0 p.1).path ∙ y.2)
        (in_map leaf_path (all_leaves t) p.0 (get_in (all_leaves t) y.0 p.0 p.1))))

    same_at_number : ((x : ℕ) → length c.leaves ≤ x → f x ≡ none) → (x : ℕ) → at_paths (circuit_path c x) ≡ f x
    same_at_number outside x = go (nat_lt x (length c.leaves)) refl
      where
        go : (b : Bool) → nat_lt x (length c.leaves) ≡ b → at_paths (circuit_path c x) ≡ f x
        go true e =
            let lt = ltb-true x (length c.leaves) e in
            found_at (circuit_path c) f none (numbers_below (length c.leaves)) x (in_below (length c.leaves) x lt)
            (λ y m same. ap f (s.once y x (below_in (length c.leaves) y m) lt same))
        go false e =
            let le = ltb-false x (length c.leaves) e in
            ap (λ (l : LeafDeclared). at_paths l.path) (beyond c t s x le)
            ∙ found_none (circuit_path c) f none (numbers_below (length c.leaves)) []
            (λ m.
            let y = in_map_from (circuit_path c) (numbers_below (length c.leaves)) [] m in
            s.named y.0 (below_in (length c.leaves) y.0 y.1) y.2)
            ∙ sym (outside x le)

abbrev pub by_path : LeafCircuit → Env → PathEnv
by_path c env = record { numbers = at_paths c 0 env.numbers; clocks = at_paths c None env.clocks }

pub there_and_back : (c : LeafCircuit) (t : SourceDesign) → InStep c t → (env : Env)
    → ((x : ℕ) → length c.leaves ≤ x → env.numbers x ≡ 0)
    → ((x : ℕ) → length c.leaves ≤ x → env.clocks x ≡ None) → by_number c (by_path c env) ≡ env
there_and_back c t s env numbers clocks =
    let made = λ (ns : ℕ → ℕ) (ks : ℕ → Option ℕ). let r : Env = record { numbers = ns; clocks = ks } in r in
    ap₂ made (fun_ext (same_at_number c 0 env.numbers t s numbers)) (fun_ext (same_at_number c None env.clocks t s clocks))
