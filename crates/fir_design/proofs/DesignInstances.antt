-- The instances of a module of a design in one list, in the order of the text, and what they give one behind the other.
use Rattle.std.proofs.Common.{◌≡◌, ℕ, ◌+◌, List, [], ◌∷◌, ◌++◌, Bool, true, false, map, nat_eq, refl, sym, ap, ap₂, ◌∙◌, arith, append_assoc, append-nil, subst, inl, inr, ⊎_elim}
use Rattle.std.specs.Prelude.{if◌then◌else◌}
use Rattle.std.proofs.lemmas.Bool.{eqb-true}
use Rattle.fir_base.specs.Lists.{In}
use Rattle.fir_base.proofs.Members.{in_either}
use Rattle.fir_meaning.specs.working.Designs.{AreItemsIn, Design, IsDesignOf, IsItemIn, Item, Items, block_of, done, drive, instance, made_of, module_of, statement_of, then, when}
use Rattle.fir_meaning.specs.working.FlatDesigns.{count, count_all, count_below}
use Rattle.fir_meaning.specs.working.LeafBlocks.{HeldInstance}
use Rattle.fir_meaning.specs.working.LeafModules.{LeafModule}
use Rattle.fir_meaning.specs.working.Numberings.{Numbering, number}
use Rattle.fir_meaning.specs.working.StateWalks.{all_words_in, words_below, words_in}
use Rattle.fir_design.proofs.HeldInstances.{Held, all_held_in, held_in}
use Rattle.std.proofs.lemmas.List.{map-append}

abbrev pub Instance : Type 0
Instance = HeldInstance × Design

abbrev mutual
  pub instance_in : Item → List Instance
  instance_in (drive p b ps t) = []
  instance_in (when p c a b) = instances_in a ++ instances_in b
  instance_in (instance i d) = (i, d) ∷ []

  pub instances_in : Items → List Instance
  instances_in done = []
  instances_in ((then) i is) = instance_in i ++ instances_in is

abbrev pub own_of : Instance → HeldInstance
own_of x = x.0

abbrev pub held_of : Held → HeldInstance
held_of h = h.own

-- they are those of the statements
mutual
  statement_held : (i : Item) (k : ℕ) → map own_of (instance_in i) ≡ map held_of (held_in k (statement_of i))
  statement_held (drive p b ps t) k = refl
  statement_held (when p c a b) k =
      map-append own_of (instances_in a) (instances_in b) ∙ ap₂ (λ xs ys. xs ++ ys) (block_held a (k + 1)) (block_held b (k + 1))
      ∙ sym (map-append held_of (all_held_in (k + 1) (block_of a)) (all_held_in (k + 1) (block_of b)))
  statement_held (instance i d) k = refl

  pub block_held : (is : Items) (k : ℕ) → map own_of (instances_in is) ≡ map held_of (all_held_in k (block_of is))
  block_held done k = refl
  block_held ((then) i is) k =
      map-append own_of (instance_in i) (instances_in is) ∙ ap₂ (λ xs ys. xs ++ ys) (statement_held i k) (block_held is k)
      ∙ sym (map-append held_of (held_in k (statement_of i)) (all_held_in k (block_of is)))

-- instances of a size each, and what the instance gives that is declaration k, from a number on
module _ (size : Design → ℕ) (gives : HeldInstance → ℕ → Design → List ℕ) where
  abbrev pub sizes : List Instance → ℕ
  sizes [] = 0
  sizes (x ∷ xs) = size x.1 + sizes xs

  abbrev pub given : ℕ → ℕ → List Instance → List ℕ
  given free k [] = []
  given free k (x ∷ xs) = (if nat_eq x.0.declaration k then gives x.0 free x.1 else []) ++ given (free + size x.1) k xs

  pub sizes_joined : (xs ys : List Instance) → sizes (xs ++ ys) ≡ sizes xs + sizes ys
  sizes_joined [] ys = omega arith
  sizes_joined (x ∷ xs) ys = omega (arith, sizes_joined xs ys)

  pub given_joined : (free k from : ℕ) (xs ys : List Instance) → free + sizes xs ≡ from → given free k
      (xs ++ ys) ≡ given free k xs ++ given from k ys
  given_joined free k from [] ys e = let same : free ≡ from = omega (arith, e) in ap (λ z. given z k ys) same
  given_joined free k from (x ∷ xs) ys e =
      let here = if nat_eq x.0.declaration k then gives x.0 free x.1 else [] in
      ap (λ zs. here ++ zs) (given_joined (free + size x.1) k from xs ys (omega (arith, e)))
      ∙ sym (append_assoc here (given (free + size x.1) k xs) (given from k ys))

  pub given_none : (free k : ℕ) (xs : List Instance) → ((x : Instance) → In xs x → x.0.declaration ≡ k → ⊥) → given free k xs ≡ []
  given_none free k [] none = refl
  given_none free k (x ∷ xs) none = go (nat_eq x.0.declaration k) refl (given_none (free + size x.1) k xs (λ y i. none y (inr i)))
    where
      go : (b : Bool) → nat_eq x.0.declaration k ≡ b → given (free + size x.1) k xs ≡ []
          → (if b then gives x.0 free x.1 else []) ++ given (free + size x.1) k xs ≡ []
      go true e rest = absurd (none x (inl refl) (eqb-true x.0.declaration k e))
      go false e rest = rest

mutual
  counted_one : (i : Item) (gives : HeldInstance → ℕ → Design → List ℕ) → count i ≡ sizes count_below gives (instance_in i)
  counted_one (drive p b ps t) gives = refl
  counted_one (when p c a b) gives =
      omega (arith, counted a gives, counted b gives, sizes_joined count_below gives (instances_in a) (instances_in b))
  counted_one (instance i d) gives = omega arith

  pub counted : (is : Items) (gives : HeldInstance → ℕ → Design → List ℕ) → count_all is ≡ sizes count_below gives (instances_in is)
  counted done gives = refl
  counted ((then) i is) gives =
      omega (arith, counted_one i gives, counted is gives, sizes_joined count_below gives (instance_in i) (instances_in is))

abbrev pub words_of : Numbering → HeldInstance → ℕ → Design → List ℕ
words_of n i free d = words_below (number n i.first) free d

module _ (n : Numbering) (k : ℕ) where
  mutual
    words_one : (i : Item) (free : ℕ) → words_in n free k i ≡ given count_below (words_of n) free k (instance_in i)
    words_one (drive p b ps t) free = refl
    words_one (when p c a b) free =
        ap₂ (λ xs ys. xs ++ ys) (words_given a free) (words_given b (free + count_all a))
        ∙ sym (given_joined count_below (words_of n) free k (free + count_all a) (instances_in a) (instances_in b)
        (ap (λ z. free + z) (sym (counted a (words_of n)))))
    words_one (instance i d) free = sym (append-nil (if nat_eq i.declaration k then words_below (number n i.first) free d else []))

    pub words_given : (is : Items) (free : ℕ) → all_words_in n free k is ≡ given count_below (words_of n) free k (instances_in is)
    words_given done free = refl
    words_given ((then) i is) free =
        ap₂ (λ xs ys. xs ++ ys) (words_one i free) (words_given is (free + count i))
        ∙ sym (given_joined count_below (words_of n) free k (free + count i) (instance_in i) (instances_in is)
        (ap (λ z. free + z) (sym (counted_one i (words_of n)))))

-- the designs of these
mutual
  one_designed : (modules : List LeafModule) (i : Item) → IsItemIn modules i → (x : Instance) → In (instance_in i) x
      → IsDesignOf modules (module_of modules x.0.module_number) x.1
  one_designed modules (drive p b ps t) h x m = absurd m
  one_designed modules (when p c a b) h x m =
      ⊎_elim (λ (l : In (instances_in a) x). all_designed modules a h.0 x l) (λ (r : In (instances_in b) x). all_designed modules b h.1 x r)
      (in_either (instances_in a) (instances_in b) x m)
  one_designed modules (instance i d) h x m =
      ⊎_elim (λ (e : (i, d) ≡ x). subst (λ (y : Instance). IsDesignOf modules (module_of modules y.0.module_number) y.1) e h)
      (λ (n : ⊥). absurd n) m

  pub all_designed : (modules : List LeafModule) (is : Items) → AreItemsIn modules is → (x : Instance) → In (instances_in is) x
      → IsDesignOf modules (module_of modules x.0.module_number) x.1
  all_designed modules done h x m = absurd m
  all_designed modules ((then) i is) h x m =
      ⊎_elim (λ (l : In (instance_in i) x). one_designed modules i h.0 x l) (λ (r : In (instances_in is) x). all_designed modules is h.1 x r)
      (in_either (instance_in i) (instances_in is) x m)

-- what holds of each design is shown of the instances' by recursion
module _ (P : Design → Type 0)
    (step : (m : LeafModule) (is : Items) → ((x : Instance) → In (instances_in is) x → P x.1) → P (made_of m is)) where
  mutual
    each_one : (i : Item) (x : Instance) → In (instance_in i) x → P x.1
    each_one (drive p b ps t) x m = absurd m
    each_one (when p c a b) x m =
        ⊎_elim (λ (l : In (instances_in a) x). each_instance a x l) (λ (r : In (instances_in b) x). each_instance b x r)
        (in_either (instances_in a) (instances_in b) x m)
    each_one (instance i d) x m = ⊎_elim (λ (e : (i, d) ≡ x). subst (λ (y : Instance). P y.1) e (each_design d)) (λ (n : ⊥). absurd n) m

    each_instance : (is : Items) (x : Instance) → In (instances_in is) x → P x.1
    each_instance done x m = absurd m
    each_instance ((then) i is) x m =
        ⊎_elim (λ (l : In (instance_in i) x). each_one i x l) (λ (r : In (instances_in is) x). each_instance is x r)
        (in_either (instance_in i) (instances_in is) x m)

    pub each_design : (d : Design) → P d
    each_design (made_of m is) = step m is (λ x i. each_instance is x i)
