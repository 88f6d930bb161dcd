-- Exactly one choice of values is settled in a tree exactly where it is in a circuit that goes in step with it.
use Rattle.std.proofs.Common.{◌≡◌, ◌↔◌, ℕ, List, [], ◌∷◌, Bool, true, false, None, refl, sym, ap, ◌∙◌, subst, inl, inr}
use Rattle.fir_base.specs.Lists.{In}
use Rattle.fir_base.specs.Ticks.{HasShape, Shape, Tick}
use Rattle.fir_base.proofs.Elements.{number_of}
use Rattle.fir_base.proofs.Members.{in_map_from}
use Rattle.fir_meaning.specs.LeafPaths.{LeafPath}
use Rattle.fir_meaning.specs.working.Flattened.{flattened}
use Rattle.fir_meaning.specs.working.LeafAllows as over
use Rattle.fir_meaning.specs.working.LeafCircuits.{LeafCircuit}
use Rattle.fir_meaning.specs.working.LeafSettled as over_settled
use Rattle.fir_leaf.specs.working.SoundDesigns.{circuit_path}
use Rattle.fir_meaning.specs.working.TermValues.{Env}
use Rattle.fir_meaning.specs.SamePaths.{same_path}
use Rattle.fir_leaf.proofs.FlatStores.{same_path_is, same_path_refl}
use Rattle.fir_meaning.specs.SourceAllows.{Settled}
use Rattle.fir_meaning.specs.SourceCircuits.{all_leaves, leaf_path, paths_of}
use Rattle.fir_meaning.specs.SourceDesigns.{SourceDesign}
use Rattle.fir_meaning.specs.SourceOne.{HasOne, One}
use Rattle.fir_design.specs.working.SourceRuns.{SameOne}
use Rattle.fir_meaning.specs.SourceValues.{PathEnv}
use Rattle.fir_design.proofs.EnvsByPath.{by_path, nothing_elsewhere, there_and_back}
use Rattle.fir_design.proofs.InStep.{InStep}
use Rattle.fir_design.proofs.SettledInStep.{settled_by_number, settled_by_path}
use Rattle.fir_design.proofs.ShapesInStep.{shape_is_same}
use Rattle.fir_design.proofs.SourceMeanings.{in_step}
use Rattle.fir_design.proofs.ValuesInStep.{by_number}

-- a path that is not the first and not among the others is nowhere
neither : (y : LeafPath) (ys : List LeafPath) (x : LeafPath) → same_path y x ≡ false → (In ys x → ⊥) → In (y ∷ ys) x → ⊥
neither y ys x e absent (inl is) = let other : same_path y x ≡ true = ap (same_path y) (sym is) ∙ same_path_refl y in cc
neither y ys x e absent (inr m) = absent m

-- what follows both where a path stands among others and where it does not
among_or_not : {P : Type 0} → (ys : List LeafPath) (x : LeafPath) → (In ys x → P) → ((In ys x → ⊥) → P) → P
among_or_not [] x within outside = outside (λ m. m)
among_or_not {P = P} (y ∷ ys) x within outside = go (same_path y x) refl (among_or_not ys x (λ m. within (inr m)))
  where
    go : (test : Bool) → same_path y x ≡ test → (((In ys x → ⊥) → P) → P) → P
    go true e further = within (inl (same_path_is y x e))
    go false e further = further (λ absent. outside (neither y ys x e absent))

module _ (c : LeafCircuit) (t : SourceDesign) (s : InStep c t) (state : List ℕ) (tick : Tick) where
  there : (env : Env) → over_settled.Settled c state tick env → by_number c (by_path c env) ≡ env
  there env h = there_and_back c t s env h.no_more_numbers h.no_more_clocks

  on_paths : (env : Env) → over_settled.Settled c state tick env → Settled t state tick (by_path c env)
  on_paths env h =
      settled_by_path c t s state tick (by_path c env) (nothing_elsewhere c 0 env.numbers t s) (nothing_elsewhere c None env.clocks t s)
      (subst (over_settled.Settled c state tick) (sym (there env h)) h)

  on_numbers : (env : PathEnv) → Settled t state tick env → over_settled.Settled c state tick (by_number c env)
  on_numbers env h = settled_by_number c t s state tick env h

  from_tree : HasOne t state tick → over.HasOne c state tick
  from_tree o = record {
    env = by_number c o.env;
    settled = on_numbers o.env o.settled;
    same = λ e f p q x.
        sym (ap (λ (v : Env). v.numbers x) (there e p))
        ∙ o.same (by_path c e) (by_path c f) (on_paths e p) (on_paths f q) (circuit_path c x)
        ∙ ap (λ (v : Env). v.numbers x) (there f q);
    same_clocks = λ e f p q x.
        sym (ap (λ (v : Env). v.clocks x) (there e p))
        ∙ o.same_clocks (by_path c e) (by_path c f) (on_paths e p) (on_paths f q) (circuit_path c x)
        ∙ ap (λ (v : Env). v.clocks x) (there f q);
  }

  -- what is the same at each number, and where no leaf is, is the same at each path
  at_each_path : {A : Type 0} → (f g : LeafPath → A) → ((x : ℕ) → f (circuit_path c x) ≡ g (circuit_path c x))
      → ((x : LeafPath) → (In (paths_of (all_leaves t)) x → ⊥) → f x ≡ g x) → (x : LeafPath) → f x ≡ g x
  at_each_path f g numbers elsewhere x =
      among_or_not (paths_of (all_leaves t)) x
      (λ m.
      let p = in_map_from leaf_path (all_leaves t) x m in
      let n = number_of (all_leaves t) p.0 p.1 in
      subst (λ z. f z ≡ g z) ((s.each n.0 p.0 n.1).path ∙ p.2) (numbers n.0))
      (elsewhere x)

  to_tree : over.HasOne c state tick → HasOne t state tick
  to_tree o = record {
    env = by_path c o.env;
    settled = on_paths o.env o.settled;
    same = λ e f p q.
        at_each_path e.numbers f.numbers (o.same (by_number c e) (by_number c f) (on_numbers e p) (on_numbers f q))
        (λ x absent. p.no_more_numbers x absent ∙ sym (q.no_more_numbers x absent));
    same_clocks = λ e f p q.
        at_each_path e.clocks f.clocks (o.same_clocks (by_number c e) (by_number c f) (on_numbers e p) (on_numbers f q))
        (λ x absent. p.no_more_clocks x absent ∙ sym (q.no_more_clocks x absent));
  }

one_is_same : (c : LeafCircuit) (t : SourceDesign) → InStep c t → One t ↔ over.One c
one_is_same c t s = (
  λ one state tick fits. from_tree c t s state tick (one state tick (subst (λ (z : Shape). HasShape z state tick) (shape_is_same c t s) fits)),
  λ one state tick fits. to_tree c t s state tick (one state tick (subst (λ (z : Shape). HasShape z state tick) (sym (shape_is_same c t s)) fits)),
)

pub same_one : SameOne
same_one c d t are = one_is_same (flattened d) t (in_step c d t are)
