-- What the instances of a design give, by numbers, is what the trees under their names give, by paths.
use Rattle.std.proofs.Common.{◌≡◌, ℕ, ◌+◌, List, [], ◌∷◌, ◌++◌, Bool, true, false, map, length, slice_get, nat_eq, Some, refl, sym, ap, ◌∙◌, subst, arith, append-nil, length-append, inl, inr}
use Rattle.std.specs.Prelude.{if◌then◌else◌}
use Rattle.std.specs.Str.{bytes_eq}
use Rattle.std.proofs.lemmas.Bool.{eqb-true}
use Rattle.fir_base.specs.Lists.{Distinct, In}
use Rattle.fir_base.proofs.Members.{in_map}
use Rattle.fir_meaning.specs.LeafPaths.{LeafPath, named}
use Rattle.fir_meaning.specs.working.DesignPaths.{instance_name}
use Rattle.fir_meaning.specs.working.Designs.{Design}
use Rattle.fir_meaning.specs.working.LeafBlocks.{HeldInstance}
use Rattle.fir_meaning.specs.ModuleScenes.{Scene}
use Rattle.fir_meaning.specs.working.LeafedModules.{leafed_module}
use Rattle.fir_leaf.proofs.FlatPlaces.{At, at_left, at_right}
use Rattle.fir_meaning.specs.SourceDesigns.{Instances, SourceDesign, held, no_instances}
use Rattle.fir_design.proofs.DesignInstances.{Instance, given, given_none, sizes}
use Rattle.fir_design.proofs.DesignsBeside.{AreBeside}
use Rattle.fir_design.proofs.ModuleInstances.{place_of}

-- of a kind of what stands in a design: how much of it there is, the numbers that a design gives of it from a number on, where the leaves of its
-- ports begin at another, and what a tree holds and gives below a path
module _ {X : Type 0} (all : List X) (size : Design → ℕ) (below : ℕ → ℕ → Design → List ℕ)
    (holds order : LeafPath → SourceDesign → List X) where
  pub record Agrees (d : Design) (s : Scene) (t : SourceDesign) : Type 0 where
    pub long : (path : LeafPath) → size d ≡ length (holds path t)
    pub same : (path : LeafPath) (first free : ℕ) → At all free (holds path t) → map (slice_get all) (below first free d) ≡ map Some
        (order path t)

  module _ (path : LeafPath) where
    abbrev pub held_by : Instances → List X
    held_by no_instances = []
    held_by (held name t rest) = holds (path ++ named name ∷ []) t ++ held_by rest

    abbrev pub order_by : Instances → List ℕ → List X
    order_by no_instances name = []
    order_by (held x t rest) name = if bytes_eq x name then order (path ++ named x ∷ []) t else order_by rest name

  module _ (scenes : List Scene) (s : Scene) (first_of : HeldInstance → ℕ) where
    abbrev pub gives : HeldInstance → ℕ → Design → List ℕ
    gives i free d = below (first_of i) free d

    pub sizes_agree : (path : LeafPath) (xs : List Instance) (trees : Instances) → AreBeside scenes Agrees s xs trees
        → sizes size gives xs ≡ length (held_by path trees)
    sizes_agree path [] no_instances b = refl
    sizes_agree path [] (held name t rest) b = absurd b
    sizes_agree path (x ∷ xs) no_instances b = absurd b
    sizes_agree path (x ∷ xs) (held name t rest) b =
        omega (
          arith,
          b.0.holds.long (path ++ named name ∷ []),
          sizes_agree path xs rest b.1,
          length-append (holds (path ++ named name ∷ []) t) (held_by path rest),
        )

    -- declaration k, of that name
    pub given_agree : (path : LeafPath) (k : ℕ) (name : List ℕ) (free : ℕ) (xs : List Instance) (trees : Instances)
        → AreBeside scenes Agrees s xs trees
        → Distinct (map place_of xs)
        → ((x : Instance) → In xs x → nat_eq x.0.declaration k ≡ bytes_eq (instance_name (leafed_module s) x.0) name)
        → At all free (held_by path trees) → map (slice_get all) (given size gives free k xs) ≡ map Some (order_by path trees name)
    given_agree path k name free [] no_instances b once alike at = refl
    given_agree path k name free [] (held y t rest) b once alike at = absurd b
    given_agree path k name free (x ∷ xs) no_instances b once alike at = absurd b
    given_agree path k name free (x ∷ xs) (held y t rest) b once alike at =
        go (nat_eq x.0.declaration k) (bytes_eq y name) refl (alike x (inl refl) ∙ ap (λ (z : List ℕ). bytes_eq z name) b.0.named)
        (given_agree path k name (free + size x.1) xs rest b.1 once.1 (λ z i. alike z (inr i)) later)
      where
        here : List X
        here = holds (path ++ named y ∷ []) t

        later : At all (free + size x.1) (held_by path rest)
        later =
            subst (λ z. At all z (held_by path rest)) (ap (λ z. free + z) (sym (b.0.holds.long (path ++ named y ∷ []))))
            (at_right all here (held_by path rest) free at)

        go : (n m : Bool) → nat_eq x.0.declaration k ≡ n → n ≡ m
            → map (slice_get all) (given size gives (free + size x.1) k xs) ≡ map Some (order_by path rest name)
            → map (slice_get all) ((if n then below (first_of x.0) free x.1 else []) ++ given size gives (free + size x.1) k xs)
            ≡ map Some (if m then order (path ++ named y ∷ []) t else order_by path rest name)
        go true false e same more = cc
        go false true e same more = cc
        go false false e same more = more
        go true true e same more =
            let none : given size gives (free + size x.1) k xs ≡ [] =
            given_none size gives (free + size x.1) k xs
            (λ z i q. once.0 (subst (In (map place_of xs)) (q ∙ sym (eqb-true x.0.declaration k e)) (in_map place_of xs z i))) in
            ap (λ zs. map (slice_get all) (below (first_of x.0) free x.1 ++ zs)) none
            ∙ ap (map (slice_get all)) (append-nil (below (first_of x.0) free x.1))
            ∙ b.0.holds.same (path ++ named y ∷ []) (first_of x.0) free (at_left all here (held_by path rest) free at)
