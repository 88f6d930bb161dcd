-- A live drive is one of the module's, and drives its leaf.
use Rattle.std.proofs.Common.{◌≡◌, ℕ, List, [], ◌∷◌, drop, Bool, true, false, ◌&&◌, ◌||◌, not, if◌then◌else◌, Option, Some, None, refl, ◌∙◌, subst, inl, inr}
use Rattle.std.proofs.lemmas.Bool.{and_parts}
use Rattle.std.proofs.lemmas.Option.{same_Some}
use Rattle.fir_base.specs.Lists.{In}
use Rattle.fir_meaning.specs.LeafPaths.{LeafPath}
use Rattle.fir_meaning.specs.SamePaths.{same_path}
use Rattle.fir_meaning.specs.SourceChoices as tree
use Rattle.fir_meaning.specs.SourceChoices.{Choice, has_path, later, reaches}
use Rattle.fir_meaning.specs.SourceDrives.{Drive}
use Rattle.fir_leaf.proofs.FlatStores.{same_path_is}

-- by paths: what is live is a drive, and drives the leaf
pub in_paths : (qs : List LeafPath) (q : LeafPath) → has_path qs q ≡ true → In qs q
in_paths [] q e = absurd (cc)
in_paths (p ∷ qs) q e = by (same_path p q) refl e (in_paths qs q)
  where
    by : (b : Bool) → same_path p q ≡ b → (b || has_path qs q) ≡ true → (has_path qs q ≡ true → In qs q) → In (p ∷ qs) q
    by true h k more = inl (same_path_is p q h)
    by false h k more = inr (more k)

module _ (depth : ℕ) (q : LeafPath) (g : Choice) where
  pub last_among : (ds : List Drive) (d : Drive) → tree.last_reaching depth q g ds ≡ Some d → In ds d × In d.driven.leaves q
  last_among [] d e = absurd (cc)
  last_among (c ∷ ds) d e = by (tree.last_reaching depth q g ds) refl (reaches depth q g c) refl e (last_among ds d)
    where
      by : (o : Option Drive) → tree.last_reaching depth q g ds ≡ o → (b : Bool) → reaches depth q g c ≡ b → later o (if b then Some c else None) ≡ Some d
          → (tree.last_reaching depth q g ds ≡ Some d → In ds d × In d.driven.leaves q) → In (c ∷ ds) d × In d.driven.leaves q
      by (Some x) h b r k more = let both = more (h ∙ k) in (inr both.0, both.1)
      by None h false r k more = absurd (cc)
      by None h true r k more =
          let is : c ≡ d = same_Some c d k in
          let parts = and_parts (tree.are_taken g (drop depth c.under) && tree.may_drive depth q c) (not c.driven.is_picked || g c.way) r in
          let may = and_parts (tree.are_taken g (drop depth c.under)) (tree.may_drive depth q c) parts.0 in
          (inl is, subst (λ (x : Drive). In x.driven.leaves q) is (in_paths c.driven.leaves q may.1))
