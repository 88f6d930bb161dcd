-- The names of the leaves of a kind: they are names of leaves, and each stands once where each name does.
-- Those of kinds that have no role in common are apart.
use Rattle.std.proofs.Common.{◌≡◌, ℕ, List, [], ◌∷◌, ◌++◌, Bool, true, false, refl, sym, inl, inr, ⊎_elim, subst}
use Rattle.std.specs.Prelude.{slice_get, Option, Some, None}
use Rattle.fir_base.specs.Lists.{In, Distinct}
use Rattle.fir_base.proofs.Members.{in_either}
use Rattle.fir_net.specs.declared.leaf.Role.{Role}
use Rattle.fir_net.specs.declared.leaf.Leaf.{Leaf}
use Rattle.fir_net_names.specs.working.LeafNamed.{somes, with_some, name_at}
use Rattle.ver_build.proofs.Names.{NameList, Each, zipped, each_part, each_at}
use Rattle.ver_build.proofs.LeafKinds.{name_if, picked}

in_named : (b : Bool) (n : Option (List ℕ)) (rest : List (List ℕ)) (x : List ℕ) → In (name_if b n) x → In (with_some n rest) x
in_named false n rest x m = absurd m
in_named true None rest x m = absurd m
in_named true (Some name) rest x (inl e) = inl e
in_named true (Some name) rest x (inr m) = absurd m

behind : (n : Option (List ℕ)) (rest : List (List ℕ)) (x : List ℕ) → In rest x → In (with_some n rest) x
behind None rest x m = m
behind (Some name) rest x m = inr m

pub picked_named : (p : Role → Bool) (names : NameList) (ls : List Leaf) (x : List ℕ) → In (picked p names ls) x → In (somes names) x
unfolding zipped
picked_named p [] ls x m = absurd m
picked_named p (n ∷ names) [] x m = absurd m
picked_named p (n ∷ names) (l ∷ ls) x m =
    ⊎_elim
    (λ (a : In (name_if (p l.role) n) x). in_named (p l.role) n (somes names) x a)
    (λ (b : In (picked p names ls) x). behind n (somes names) x (picked_named p names ls x b))
    (in_either (name_if (p l.role) n) (picked p names ls) x m)

rest_once : (n : Option (List ℕ)) (rest : List (List ℕ)) → Distinct (with_some n rest) → Distinct rest
rest_once None rest d = d
rest_once (Some name) rest d = d.1

one_more : (b : Bool) (n : Option (List ℕ)) (rest ps : List (List ℕ)) → Distinct (with_some n rest) → ((x : List ℕ) → In ps x → In rest x)
    → Distinct ps → Distinct (name_if b n ++ ps)
one_more false n rest ps d h e = e
one_more true None rest ps d h e = e
one_more true (Some name) rest ps d h e = (λ m. d.0 (h name m), e)

pub picked_once : (p : Role → Bool) (names : NameList) (ls : List Leaf) → Distinct (somes names) → Distinct (picked p names ls)
unfolding zipped
picked_once p [] ls d = tt
picked_once p (n ∷ names) [] d = tt
picked_once p (n ∷ names) (l ∷ ls) d =
    one_more (p l.role) n (somes names) (picked p names ls) d (picked_named p names ls) (picked_once p names ls (rest_once n (somes names) d))

one_apart : (b c : Bool) → (b ≡ true → c ≡ true → ⊥) → (n : Option (List ℕ)) (rest ps qs : List (List ℕ)) → Distinct (with_some n rest)
    → ((x : List ℕ) → In ps x → In rest x) → ((x : List ℕ) → In qs x → In rest x) → ((x : List ℕ) → In ps x → In qs x → ⊥)
    → (x : List ℕ) → In (name_if b n ++ ps) x → In (name_if c n ++ qs) x → ⊥
one_apart false false not_both n rest ps qs d f g h x i o = h x i o
one_apart false true not_both None rest ps qs d f g h x i o = h x i o
one_apart false true not_both (Some name) rest ps qs d f g h x i (inl e) = d.0 (subst (In rest) (sym e) (f x i))
one_apart false true not_both (Some name) rest ps qs d f g h x i (inr o) = h x i o
one_apart true false not_both None rest ps qs d f g h x i o = h x i o
one_apart true false not_both (Some name) rest ps qs d f g h x (inl e) o = d.0 (subst (In rest) (sym e) (g x o))
one_apart true false not_both (Some name) rest ps qs d f g h x (inr i) o = h x i o
one_apart true true not_both n rest ps qs d f g h x i o = not_both refl refl

pub picked_apart : (p q : Role → Bool) → ((r : Role) → p r ≡ true → q r ≡ true → ⊥) → (names : NameList) (ls : List Leaf) → Distinct (somes names)
    → (x : List ℕ) → In (picked p names ls) x → In (picked q names ls) x → ⊥
unfolding zipped
picked_apart p q not_both [] ls d x i o = i
picked_apart p q not_both (n ∷ names) [] d x i o = i
picked_apart p q not_both (n ∷ names) (l ∷ ls) d x i o =
    one_apart (p l.role) (q l.role) (not_both l.role) n (somes names) (picked p names ls) (picked q names ls) d (picked_named p names ls)
    (picked_named q names ls)
    (picked_apart p q not_both names ls (rest_once n (somes names) d)) x i o

-- the name of a leaf that is of the kind
pub picked_at : (P : Leaf → Option (List ℕ) → Type 0) (p : Role → Bool) (names : NameList) (ls : List Leaf) → Each P names ls
    → (k : ℕ) (l : Leaf) (name : List ℕ) → slice_get ls k ≡ Some l → p l.role ≡ true → name_at names k ≡ Some name → In (picked p names ls) name
picked_at P p names ls each k l name e f g =
    let Q = λ (x : Leaf) (n : Option (List ℕ)). (y : List ℕ) → In (name_if (p x.role) n) y → In (picked p names ls) y in
    let parts = each_part P (λ x n. name_if (p x.role) n) (picked p names ls) names ls each (λ y m. m) in
    let here : In (name_if (p l.role) (name_at names k)) name = rw (f, g) (inl refl) in
    each_at Q names ls parts k l e name here
