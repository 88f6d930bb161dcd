-- Which designs a module has.
use Rattle.std.proofs.Common.{◌≡◌, ℕ, zero, suc, ◌<◌, List, refl, sym, ap, ◌∙◌, arith}
use Rattle.fir_meaning.specs.working.LeafBlocks.{LeafBlock, LeafStatement}
use Rattle.fir_meaning.specs.working.LeafBlocks as over
use Rattle.fir_meaning.specs.working.LeafModules.{LeafModule}
use Rattle.fir_meaning.specs.working.Designs.{Item, drive, when, instance, Items, done, then, Design, made_of, statement_of, block_of, module_of, IsItemIn, AreItemsIn, IsDesignOf, item_with, items_with, elaborated, EachInstance, AllInstances, IsRanked}

-- with what stands for the modules taken away, the statements are as before
mutual
  same_statement : (child : ℕ → Design) (s : LeafStatement) → statement_of (item_with child s) ≡ s
  same_statement child (over.drive p b ps t) = refl
  same_statement child (over.when p c a b) = rw (same_block child a, same_block child b) refl
  same_statement child (over.instance i) = refl

  same_block : (child : ℕ → Design) (b : LeafBlock) → block_of (items_with child b) ≡ b
  same_block child over.done = refl
  same_block child (over.then s b) = rw (same_statement child s, same_block child b) refl

module _ (modules : List LeafModule) (child : ℕ → Design) where
  mutual
    item_in : (s : LeafStatement) → EachInstance (λ x. IsDesignOf modules (module_of modules x) (child x)) s → IsItemIn modules (item_with child s)
    item_in (over.drive p b ps t) h = tt
    item_in (over.when p c a b) h = (items_in a h.0, items_in b h.1)
    item_in (over.instance i) h = h

    items_in : (b : LeafBlock) → AllInstances (λ x. IsDesignOf modules (module_of modules x) (child x)) b → AreItemsIn modules (items_with child b)
    items_in over.done h = tt
    items_in (over.then s b) h = (item_in s h.0, items_in b h.1)

module _ (P Q : ℕ → Type 0) (f : (x : ℕ) → P x → Q x) where
  mutual
    weaker_each : (s : LeafStatement) → EachInstance P s → EachInstance Q s
    weaker_each (over.drive p b ps t) h = tt
    weaker_each (over.when p c a b) h = (weaker a h.0, weaker b h.1)
    weaker_each (over.instance i) h = f i.module_number h

    weaker : (b : LeafBlock) → AllInstances P b → AllInstances Q b
    weaker over.done h = tt
    weaker (over.then s b) h = (weaker_each s h.0, weaker b h.1)

pub has_design : (modules : List LeafModule) (rank : ℕ → ℕ) (n : ℕ) (m : LeafModule)
    → IsRanked modules rank → AllInstances (λ x. rank x < n) m.body → IsDesignOf modules m (elaborated (suc n) modules m)
unfolding elaborated
has_design modules rank zero m ranked h =
    (refl, same_block _ m.body, items_in modules _ m.body (weaker (λ x. rank x < 0) _ (λ x lt. absurd (omega (arith, lt))) m.body h))
has_design modules rank (suc n) m ranked h =
    let inner = λ (x : ℕ) (lt : rank x < suc n). has_design modules rank n (module_of modules x) ranked
    (weaker (λ y. rank y < rank x) _ (λ y low. omega (arith, low, lt)) (module_of modules x).body (ranked.each x)) in
    (refl, same_block _ m.body, items_in modules _ m.body (weaker (λ x. rank x < suc n) _ inner m.body h))

-- two bodies of the same statements, whose instances are of the modules, are one
module _ (modules : List LeafModule) where
  mutual
    one_item : (i j : Item) → statement_of i ≡ statement_of j → IsItemIn modules i → IsItemIn modules j → i ≡ j
    one_item (drive p b ps t) (drive q c qs u) e h k = (cc)
    one_item (when p c a b) (when q d x y) e h k =
        let ea : a ≡ x = one_items a x (cc) h.0 k.0 in let eb : b ≡ y = one_items b y (cc) h.1 k.1 in (cc)
    one_item (instance i d) (instance j f) e h k =
        let ei : i ≡ j = (cc) in rw ei (ap (instance j) (one_design (module_of modules j.module_number) d f (rw ei at h) k))
    one_item (drive p b ps t) (when q d y z) e h k = absurd (cc)
    one_item (drive p b ps t) (instance j f) e h k = absurd (cc)
    one_item (when p c a b) (drive q d qs u) e h k = absurd (cc)
    one_item (when p c a b) (instance j f) e h k = absurd (cc)
    one_item (instance i d) (drive q c qs u) e h k = absurd (cc)
    one_item (instance i d) (when q c y z) e h k = absurd (cc)

    one_items : (a b : Items) → block_of a ≡ block_of b → AreItemsIn modules a → AreItemsIn modules b → a ≡ b
    one_items done done e h k = refl
    one_items ((then) i is) ((then) j js) e h k =
        let x : i ≡ j = one_item i j (cc) h.0 k.0 in let y : is ≡ js = one_items is js (cc) h.1 k.1 in (cc)
    one_items done ((then) j js) e h k = absurd (cc)
    one_items ((then) i is) done e h k = absurd (cc)

    pub one_design : (m : LeafModule) (d e : Design) → IsDesignOf modules m d → IsDesignOf modules m e → d ≡ e
    one_design m (made_of x is) (made_of y js) h k =
        let heads : x ≡ y = h.0 ∙ sym k.0 in let bodies : is ≡ js = one_items is js (h.1 ∙ sym k.1) h.2 k.2 in (cc)
