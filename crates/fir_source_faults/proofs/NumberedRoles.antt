-- The leaf of a number in a list has the type and the role of the leaf of that number in a list that goes in step with it.
use Rattle.std.proofs.Common.{◌≡◌, ℕ, zero, suc, ◌<◌, List, [], ◌∷◌, length, slice_get, Some, ap, subst, ◌∙◌, arith}
use Rattle.std.proofs.lemmas.Option.{none-some, same_Some}
use Rattle.fir_meaning.specs.working.LeafModules.{LeafArray, LeafDeclared, leaf_at}
use Rattle.fir_meaning.specs.SourceRoles.{SourceLeaf}
use Rattle.fir_design.specs.working.SameRoles.{SameLeaves, SameRole}

module _ (leaves : List LeafDeclared) (arrays : List LeafArray) where
  pub record HasSame (ls : List LeafDeclared) (k : ℕ) (t : SourceLeaf) : Type 0 where
    pub below : k < length ls
    pub holds : (leaf_at ls k).holds ≡ t.holds
    pub role : SameRole leaves arrays (leaf_at ls k).role t.role

  pub same_at : (ls : List LeafDeclared) (ts : List SourceLeaf) → SameLeaves leaves arrays ls ts
      → (k : ℕ) (t : SourceLeaf) → slice_get ts k ≡ Some t → HasSame ls k t
  same_at [] [] h k t e = absurd (none-some t e)
  same_at [] (u ∷ us) h k t e = absurd h
  same_at (l ∷ ls) [] h k t e = absurd h
  same_at (l ∷ ls) (u ∷ us) h zero t e =
      let is : u ≡ t = same_Some u t e in
      record {
        below = omega arith;
        holds = h.0.1 ∙ ap (λ (x : SourceLeaf). x.holds) is;
        role = subst (λ (x : SourceLeaf). SameRole leaves arrays l.role x.role) is h.0.2;
      }
  same_at (l ∷ ls) (u ∷ us) h (suc k) t e =
      let next = same_at ls us h.1 k t e in record { below = omega (arith, next.below); holds = next.holds; role = next.role }
