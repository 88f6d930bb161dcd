-- No path is that of two leaves or arrays of a tree of designs, also among the state.
use Rattle.std.proofs.Common.{◌≡◌, ℕ, zero, suc, List, [], ◌∷◌, map, slice_get, Option, Some, refl, sym, ap, ◌∙◌, subst, inl, inr, arith}
use Rattle.fir_base.specs.Lists.{Distinct, In}
use Rattle.fir_base.proofs.Elements.{get_in, number_of}
use Rattle.fir_base.proofs.Members.{in_map_from}
use Rattle.fir_leaf.proofs.OnceStates.{arrays_once, words_once}
use Rattle.fir_leaf.proofs.PortRoles.{leafed_ports}
use Rattle.fir_meaning.specs.working.Flattened.{flattened}
use Rattle.fir_meaning.specs.working.LeafCircuits.{LeafCircuit}
use Rattle.fir_meaning.specs.SourceCircuits.{all_arrays, all_leaves, array_path, leaf_path, state_arrays, state_words}
use Rattle.fir_meaning.specs.SourceDesigns.{SourceDesign}
use Rattle.fir_design.specs.working.StateOnce.{SourcesStandOnce}
use Rattle.fir_design.proofs.ArraysInStep.{array_within}
use Rattle.fir_design.proofs.InStep.{InStep}
use Rattle.fir_design.proofs.LeavesInStep.{leaf_within}
use Rattle.fir_design.proofs.SourceMeanings.{in_step}

-- elements that are told apart by f, each by its number
abbrev AreTold : {A B : Type 0} → (A → B) → (ℕ → Option A) → Type 0
AreTold {A} f get = (i j : ℕ) (a b : A) → get i ≡ Some a → get j ≡ Some b → f a ≡ f b → i ≡ j

all_told : {A B : Type 0} (f : A → B) (xs : List A) → AreTold f (slice_get xs) → Distinct (map f xs)
all_told f [] told = tt
all_told f (x ∷ xs) told = (
  λ m.
      let y = in_map_from f xs (f x) m in
      let k = number_of xs y.0 y.1 in
      let same : zero ≡ suc k.0 = told zero (suc k.0) x y.0 refl k.1 (sym y.2) in
      absurd (cc),
  all_told f xs (λ i j a b e g h. let same : suc i ≡ suc j = told (suc i) (suc j) a b e g h in omega (arith, same)),
)

module _ {A : Type 0} (get : ℕ → Option A) where
  -- the number of an element of which the numbers are these
  among_got : (xs : List ℕ) (ps : List A) → map get xs ≡ map Some ps → (p : A) → In ps p → (x : ℕ) × In xs x × (get x ≡ Some p)
  among_got [] [] e p among = absurd among
  among_got [] (q ∷ ps) e p among = absurd (cc)
  among_got (x ∷ xs) [] e p among = absurd among
  among_got (x ∷ xs) (q ∷ ps) e p (inl is) = let here : get x ≡ Some q = cc in (x, inl refl, here ∙ ap Some is)
  among_got (x ∷ xs) (q ∷ ps) e p (inr m) =
      let rest : map get xs ≡ map Some ps = cc in
      let r = among_got xs ps rest p m in (r.0, inr r.1, r.2)

  got_told : {B : Type 0} (f : A → B) → AreTold f get → (xs : List ℕ) (ps : List A) → map get xs ≡ map Some ps → Distinct xs → Distinct (map f ps)
  got_told f told [] [] e once = tt
  got_told f told [] (p ∷ ps) e once = absurd (cc)
  got_told f told (x ∷ xs) [] e once = tt
  got_told f told (x ∷ xs) (p ∷ ps) e once =
      let here : get x ≡ Some p = cc in
      let rest : map get xs ≡ map Some ps = cc in (
        λ m.
            let y = in_map_from f ps (f p) m in
            let k = among_got xs ps rest y.0 y.1 in
            once.0 (subst (In xs) (sym (told x k.0 p y.0 here k.2 (sym y.2))) k.1),
        got_told f told xs ps rest once.1,
      )

module _ (c : LeafCircuit) (t : SourceDesign) (s : InStep c t) where
  leaves_told : AreTold leaf_path (slice_get (all_leaves t))
  leaves_told i j a b e g h =
      s.once i j (leaf_within c t s i a e) (leaf_within c t s j b g) ((s.each i a e).path ∙ h ∙ sym (s.each j b g).path)

  arrays_told : AreTold array_path (slice_get (all_arrays t))
  arrays_told i j a b e g h =
      s.arrays_once i j (array_within c t s i a e) (array_within c t s j b g) ((s.each_array i a e).path ∙ h ∙ sym (s.each_array j b g).path)

pub stand_once : SourcesStandOnce
stand_once c d t are =
    let s = in_step c d t are in
    let words = words_once d (leafed_ports are.scenes are.main d are.design.is).1 in
    record {
      leaves = all_told leaf_path (all_leaves t) (leaves_told (flattened d) t s);
      words = got_told (slice_get (all_leaves t)) leaf_path (leaves_told (flattened d) t s) (flattened d).words (state_words t) s.words words;
      arrays = all_told array_path (all_arrays t) (arrays_told (flattened d) t s);
      stored_arrays =
          got_told (slice_get (all_arrays t)) array_path (arrays_told (flattened d) t s) (flattened d).array_order (state_arrays t) s.array_order
          (arrays_once d);
      words_among =
          λ p m.
          let k = among_got (slice_get (all_leaves t)) (flattened d).words (state_words t) s.words p m in get_in (all_leaves t) k.0 p k.2;
      stored_among =
          λ a m.
          let k = among_got (slice_get (all_arrays t)) (flattened d).array_order (state_arrays t) s.array_order a m in get_in (all_arrays t) k.0 a k.2;
    }
