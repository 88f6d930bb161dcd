-- The leaves that the code gives a declaration are those of the definitions, but for their paths.
use Rattle.std.proofs.Common.{◌≡◌, ℕ, suc, ◌+◌, List, [], ◌∷◌, ◌++◌, map, length, Bool, Option, Some, None, refl, sym, ap, ◌∙◌, arith, append_assoc}
use Rattle.std.specs.Prelude.{slice_get}
use Rattle.std.proofs.lemmas.List.{length-map, map-append}
use Rattle.fir_ast.specs.declared.place.Place.{Place}
use Rattle.fir_ast.specs.Types.{DataType}
use Rattle.fir_meaning.specs.Costs.{leaves_where}
use Rattle.fir_meaning.specs.TypeLeaves.{TypeLeaf, type_leaves}
use Rattle.fir_leaf.specs.declared.node.Node.{Node}
use Rattle.fir_meaning.specs.ModuleScenes.{Declared}
use Rattle.fir_meaning.specs.working.LeafedModules.{leaves_from}
use Rattle.fir_meaning.specs.working.LeafModules.{LeafDeclared, Role}
use Rattle.fir_meaning.specs.LeafTypes.{LeafType}
use Rattle.fir_leaf.proofs.LeafPlaces.{leaves_counted}
use Rattle.fir_leaf_table.specs.declared.giver.Giver.{Giver}
use Rattle.fir_leaf_circuit.specs.declared.leaf.Leaf.{Leaf}
use Rattle.fir_leaf_table.specs.declared.places.Places.{Places}
use Rattle.fir_leaf_table.specs.declared.type_leaves.TypeLeaf.{TypeLeaf as LeafOfCode}
use Rattle.fir_leaf_table.specs.working.Givers.{given_from, given_leaf, giver_role, place_of}
use Rattle.fir_leaf_circuit.specs.working.Seen.{leaf_seen, leaves_seen, type_seen, unnamed}
use Rattle.fir_leaf_table.specs.working.TypedLeaves.{AreLeavesOf, flips_of, flips_seen, holds_seen}

-- what one of a type stands for
pub record Agrees (nodes : List Node) (places : Places) (gives : Giver) (stands : TypeLeaf → Place) (role_of : ℕ → TypeLeaf → Role) (k : ℕ) (l : TypeLeaf) :
    Type 0 where
  pub place : place_of places k l.flip ≡ stands l
  pub role : giver_role nodes gives k l.flip ≡ role_of k l

module _ (nodes : List Node) (d : Declared) (places : Places) (gives : Giver) (place : TypeLeaf → Place) (role_of : ℕ → TypeLeaf → Role) where
  abbrev made : Place → LeafType → Role → LeafDeclared
  made p h r = record { place = p; declaration = length d.before.declared; instances = 0; path = []; holds = h; depth = d.before.depth; role = r }

  one_is : (k : ℕ) (x : LeafOfCode) (l : TypeLeaf) (h : LeafType) → x.flip ≡ l.flip → type_seen x.holds ≡ h → Agrees nodes places gives place role_of k l
      → given_leaf nodes (length d.before.declared) d.before.depth places gives k x ≡ made (place l) h (role_of k l)
  one_is k x l h flip holds agrees =
      ap (λ (f : Bool). made (place_of places k f) (type_seen x.holds) (giver_role nodes gives k f)) flip
      ∙ ap (λ p. made p (type_seen x.holds) (giver_role nodes gives k l.flip)) agrees.place
      ∙ ap (λ t. made (place l) t (giver_role nodes gives k l.flip)) holds
      ∙ ap (made (place l) h) agrees.role

  pub given_is : (k : ℕ) (xs : List LeafOfCode) (ls : List TypeLeaf) (hs : List LeafType) → flips_seen xs ≡ flips_of ls → holds_seen xs ≡ hs
      → ((j : ℕ) (l : TypeLeaf) → slice_get ls j ≡ Some l → Agrees nodes places gives place role_of (k + j) l)
      → given_from nodes (length d.before.declared) d.before.depth places gives k xs ≡ map unnamed (leaves_from d place role_of k ls hs)
  given_is k [] [] hs flips holds agree = refl
  given_is k [] (l ∷ ls) hs flips holds agree = absurd (cc)
  given_is k (x ∷ xs) [] hs flips holds agree = absurd (cc)
  given_is k (x ∷ xs) (l ∷ ls) [] flips holds agree = absurd (cc)
  given_is k (x ∷ xs) (l ∷ ls) (h ∷ hs) flips holds agree =
      let flip : x.flip ≡ l.flip = cc in
      let more_flips : flips_seen xs ≡ flips_of ls = cc in
      let held : type_seen x.holds ≡ h = cc in
      let more_held : holds_seen xs ≡ hs = cc in
      let first : k + 0 ≡ k = omega arith in
      let own : Agrees nodes places gives place role_of k l = rw first at (agree 0 l refl) in
      ap (λ y. y ∷ given_from nodes (length d.before.declared) d.before.depth places gives (suc k) xs) (one_is k x l h flip held own)
      ∙ ap (λ ys. made (place l) h (role_of k l) ∷ ys)
      (given_is (suc k) xs ls hs more_flips more_held
      (λ j y e. let next : k + suc j ≡ suc k + j = omega arith in rw next at (agree (suc j) y e)))

-- as many as the type has
pub many_leaves : (xs : List LeafOfCode) (t : Option DataType) (hs : List LeafType) → AreLeavesOf xs t hs → length xs ≡ leaves_where t
many_leaves xs None hs are = ap length are
many_leaves xs (Some t) hs are =
    sym (length-map xs (λ (l : LeafOfCode). l.flip)) ∙ ap length are.0 ∙ length-map (type_leaves t) (λ (l : TypeLeaf). l.flip) ∙ leaves_counted t

pub given_long : (nodes : List Node) (declaration depth : ℕ) (places : Places) (gives : Giver) (k : ℕ) (xs : List LeafOfCode)
    → length (given_from nodes declaration depth places gives k xs) ≡ length xs
given_long nodes declaration depth places gives k [] = refl
given_long nodes declaration depth places gives k (x ∷ xs) = ap suc (given_long nodes declaration depth places gives (suc k) xs)

-- one leaf more has come
pub given_more : (nodes : List Node) (declaration depth : ℕ) (places : Places) (gives : Giver) (old new : List Leaf) (leaf : Leaf) (k : ℕ) (x : LeafOfCode)
    (xs : List LeafOfCode) (all : List LeafDeclared)
    → leaf_seen nodes leaf ≡ given_leaf nodes declaration depth places gives k x → new ≡ old ++ leaf ∷ []
    → leaves_seen nodes old ++ given_from nodes declaration depth places gives k (x ∷ xs) ≡ all
    → leaves_seen nodes new ++ given_from nodes declaration depth places gives (k + 1) xs ≡ all
given_more nodes declaration depth places gives old new leaf k x xs all is grown so_far =
    let next : k + 1 ≡ suc k = omega arith in
    ap (λ n. leaves_seen nodes new ++ given_from nodes declaration depth places gives n xs) next
    ∙ ap (λ ls. leaves_seen nodes ls ++ given_from nodes declaration depth places gives (suc k) xs) grown
    ∙ ap (λ ls. ls ++ given_from nodes declaration depth places gives (suc k) xs) (map-append (leaf_seen nodes) old (leaf ∷ []))
    ∙ append_assoc (leaves_seen nodes old) (leaf_seen nodes leaf ∷ []) (given_from nodes declaration depth places gives (suc k) xs)
    ∙ ap (λ l. leaves_seen nodes old ++ l ∷ given_from nodes declaration depth places gives (suc k) xs) is
    ∙ so_far
