-- The first of the leaves of some copies whose clock is unclear, and those of one copy more.
use Rattle.std.proofs.Common.{◌≡◌, ℕ, ◌+◌, ◌<◌, ◌≤◌, List, length, slice_get, Bool, true, false, nat_lt, refl, Option, Some, None, sym, ap, ◌∙◌, subst, inl, inr, arith}
use Rattle.std.proofs.lemmas.Bool.{ltb-false, ltb-true}
use Rattle.std.proofs.lemmas.Option.{same_Some, slice_get_within}
use Rattle.fir_ast.specs.declared.place.Place.{Place}
use Rattle.fir_meaning.specs.ModuleScenes.{Scene}
use Rattle.fir_meaning.specs.working.LeafedModules.{leafed_module}
use Rattle.fir_elaborate.specs.declared.elaborated.ModuleCopy.{ModuleCopy}
use Rattle.fir_flatten.specs.declared.clock_faults.Site.{Site}
use Rattle.fir_flatten.specs.declared.design_net.ModulePart.{ModulePart}
use Rattle.fir_flatten.specs.working.DesignNets.{ArePartsOf}
use Rattle.fir_flatten.specs.working.FirstSites.{IsAhead, IsFirstAhead, IsUnclearAt}

module _ (scenes : List Scene) (copies : List ModuleCopy) (i n : ℕ) (below : (w : ℕ) (p : Place) → IsUnclearAt scenes copies i w p → w < n) where
  ahead_of_next : (j w : ℕ) (p : Place) → IsAhead j w (i + 1) 0 → IsUnclearAt scenes copies j w p → IsAhead j w i n
  ahead_of_next j w p (inr h) u = let lt = h.1 in absurd (omega (arith, lt))
  ahead_of_next j w p (inl lt) u = by (nat_lt j i) refl
    where
      by : (b : Bool) → nat_lt j i ≡ b → IsAhead j w i n
      by true e = inl (ltb-true j i e)
      by false e =
          let le = ltb-false j i e in
          let same : j ≡ i = omega (arith, le, lt) in
          inr (same, below w p (subst (λ v. IsUnclearAt scenes copies v w p) same u))

  next_of_ahead : (j w : ℕ) → IsAhead j w i n → IsAhead j w (i + 1) 0
  next_of_ahead j w (inl lt) = let less : j < i + 1 = omega (arith, lt) in inl less
  next_of_ahead j w (inr h) = let same = h.0 in let less : j < i + 1 = omega (arith, same) in inl less

  -- all of a copy are ahead of the next
  pub next_copy : (found : Option Site) → IsFirstAhead scenes copies i n found → IsFirstAhead scenes copies (i + 1) 0 found
  next_copy None h = λ j w p ahead u. h j w p (ahead_of_next j w p ahead u) u
  next_copy (Some s) h = record {
    unclear = h.unclear;
    ahead = next_of_ahead s.copy s.leaf h.ahead;
    first = λ j w p ahead u. h.first j w p (ahead_of_next j w p ahead u) u;
  }

pub none_ahead : (scenes : List Scene) (copies : List ModuleCopy) → IsFirstAhead scenes copies 0 0 None
none_ahead scenes copies = λ j w p ahead u. none j w ahead
  where
    none : (j w : ℕ) → IsAhead j w 0 0 → ⊥
    none j w (inl lt) = absurd (omega (arith, lt))
    none j w (inr h) = let lt = h.1 in absurd (omega (arith, lt))

-- by the module of the copy
pub below_module : (scenes : List Scene) (copies : List ModuleCopy) (i : ℕ) (k : ModuleCopy) (s : Scene) → slice_get copies i ≡ Some k
    → slice_get scenes k.module_number ≡ Some s → (w : ℕ) (p : Place) → IsUnclearAt scenes copies i w p → w < length (leafed_module s).leaves
below_module scenes copies i k s is is_scene w p u =
    let copy : u.copy ≡ k = same_Some u.copy k (sym u.is ∙ is) in
    let scene : u.scene ≡ s =
    same_Some u.scene s (sym u.is_scene ∙ ap (λ (q : ModuleCopy). slice_get scenes q.module_number) copy ∙ is_scene) in
    subst (λ (v : Scene). w < length (leafed_module v).leaves) scene u.within

-- without a module, or without a copy
pub without_module : (scenes : List Scene) (copies : List ModuleCopy) (modules : List ModulePart) (i : ℕ) (k : ModuleCopy) → ArePartsOf scenes modules
    → slice_get copies i ≡ Some k → length modules ≤ k.module_number → (w : ℕ) (p : Place) → IsUnclearAt scenes copies i w p → w < 0
without_module scenes copies modules i k parts is none w p u =
    let copy : u.copy ≡ k = same_Some u.copy k (sym u.is ∙ is) in
    let there : slice_get scenes k.module_number ≡ Some u.scene = ap (λ (q : ModuleCopy). slice_get scenes q.module_number) (sym copy) ∙ u.is_scene in
    absurd (omega (arith, slice_get_within scenes k.module_number u.scene there, none, parts.count))

pub without_copy : (scenes : List Scene) (copies : List ModuleCopy) (i : ℕ) → length copies ≤ i → (w : ℕ) (p : Place) → IsUnclearAt scenes copies i w p → w < 0
without_copy scenes copies i none w p u = absurd (omega (arith, slice_get_within copies i u.copy u.is, none))
