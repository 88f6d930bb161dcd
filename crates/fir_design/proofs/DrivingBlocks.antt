-- Statements that only drive leaves have no instance among them.
use Rattle.std.proofs.Common.{◌≡◌, ℕ, zero, suc, ◌+◌, List, [], ◌∷◌, Bool, true, false, if◌then◌else◌, Option, Some, None, refl, ◌∙◌}
use Rattle.fir_ast.specs.declared.place.Place.{Place}
use Rattle.fir_meaning.specs.working.LeafBlocks as over
use Rattle.fir_meaning.specs.working.LeafPairs.{LeafPair}
use Rattle.fir_meaning.specs.working.LeafedBlocks.{alone, driven, driven_from, driven_where, term_at, Sides, pair_block, pairs_block, invalid_leaf, invalid_leaves}
use Rattle.fir_meaning.specs.working.Targets.{Target}
use Rattle.fir_meaning.specs.working.Terms.{Term, zeros}
use Rattle.fir_design.proofs.HeldInstances.{all_held_in, held_joined}

driven_none : (k : ℕ) (p : Place) (r : Target) (x : ℕ) (t : Term) → all_held_in k (driven p r x t) ≡ []
driven_none k p r x t = by r.base
  where
    by : (o : Option ℕ) → all_held_in k (driven_from p o r x t) ≡ []
    by None = refl
    by (Some b) = refl

where_none : (k : ℕ) (p : Place) (o : Option Target) (x : ℕ) (t : Term) → all_held_in k (driven_where p o x t) ≡ []
where_none k p None x t = refl
where_none k p (Some r) x t = driven_none k p r x t

pair_none : (k : ℕ) (p : Place) (s : Sides) (m : LeafPair) → all_held_in k (pair_block p s m) ≡ []
pair_none k p s m = by m.flip
  where
    by : (b : Bool)
        → all_held_in k
        (if b then driven_where p s.right m.right (term_at s.gives_back m.left) else driven p s.left m.left (term_at s.gives m.right))
        ≡ []
    by true = where_none k p s.right m.right (term_at s.gives_back m.left)
    by false = driven_none k p s.left m.left (term_at s.gives m.right)

pub pairs_none : (k : ℕ) (p : Place) (s : Sides) (ms : List LeafPair) → all_held_in k (pairs_block p s ms) ≡ []
pairs_none k p s [] = refl
pairs_none k p s (m ∷ ms) = held_joined k (pair_block p s m) (pairs_block p s ms) ∙ rw (pair_none k p s m, pairs_none k p s ms) refl

pub invalid_none : (may : ℕ → Bool) (k : ℕ) (p : Place) (r : Target) (x n : ℕ) → all_held_in k (invalid_leaves may p r x n) ≡ []
invalid_none may k p r x zero = refl
invalid_none may k p r x (suc n) =
    held_joined k (invalid_leaf may p r.base r x) (invalid_leaves may p r (suc x) n) ∙ rw (one r.base, invalid_none may k p r (suc x) n) refl
  where
    driven_if : (c : Bool) (b : ℕ) → all_held_in k (if c then alone (over.drive p (b + x) r.picks zeros) else over.done) ≡ []
    driven_if true b = refl
    driven_if false b = refl

    one : (o : Option ℕ) → all_held_in k (invalid_leaf may p o r x) ≡ []
    one None = refl
    one (Some b) = driven_if (may (b + x)) b
