-- A design whose modules are each right by themselves and with the modules of their instances is right as a whole.
use Rattle.std.proofs.Common.{◌≡◌, ℕ, ◌+◌, ◌≤◌, List, ◌++◌, map, length, refl, sym, ap, ap₂, ◌∙◌, subst, inl, arith}
use Rattle.std.proofs.lemmas.List.{map-append}
use Rattle.fir_base.specs.Lists.{In, Distinct}
use Rattle.fir_base.proofs.Members.{in_left, in_right}
use Rattle.fir_meaning.specs.working.LeafBlocks.{HeldInstance}
use Rattle.fir_meaning.specs.working.LeafModules.{LeafModule}
use Rattle.fir_meaning.specs.working.Designs.{Item, drive, when, instance, Items, done, then, Design, made_of, statement_of, block_of, module_of, empty_module, IsItemIn, AreItemsIn, IsDesignOf}
use Rattle.fir_leaf.specs.working.NamedDesigns.{AreNamedItems, HasOwnNames, IsNamed, IsNamedInstance, IsNamedItem, IsOwnInstance, all_instances_in, instances_in}
use Rattle.fir_leaf.specs.working.SoundDesigns.{AreWired, IsHeld, IsInstance, IsMain, IsWired}
use Rattle.fir_design.proofs.DeclaredInstances.{declaration_of}
use Rattle.fir_design.proofs.HeldInstances.{Held, all_held_in, held_in}
use Rattle.fir_design.proofs.ReadStatements.{AreReading, IsReading}

-- an instance, with its module
pub record IsRightInstance (modules : List LeafModule) (m : LeafModule) (h : Held) : Type 0 where
  pub held : IsHeld m h.depth h.own (module_of modules h.own.module_number)
  pub owned : IsOwnInstance m h.own (module_of modules h.own.module_number)

pub record IsRight (modules : List LeafModule) (m : LeafModule) : Type 0 where
  pub ports : m.port_leaves ≤ length m.leaves
  pub names : HasOwnNames m
  pub once : Distinct (map declaration_of (all_held_in 0 m.body))
  pub reading : AreReading m m.body
  pub instances : (h : Held) → In (all_held_in 0 m.body) h → IsRightInstance modules m h

pub nothing_right : (modules : List LeafModule) → IsRight modules empty_module
nothing_right modules = record {
  ports = omega arith;
  names =
      record {
        names = tt;
        paths = tt;
        declared = λ x lt. absurd (omega (arith, lt));
        begins = λ x lt. absurd (omega (arith, lt));
        arrays = λ x lt. absurd (omega (arith, lt));
      };
  once = tt;
  reading = tt;
  instances = λ h i. absurd i;
}

-- the declarations of instances, in order
mutual
  declared_of : (k : ℕ) (i : Item) → map declaration_of (held_in k (statement_of i)) ≡ instances_in i
  declared_of k (drive p b ps t) = refl
  declared_of k (when p c a b) =
      map-append declaration_of (all_held_in (k + 1) (block_of a)) (all_held_in (k + 1) (block_of b))
      ∙ ap₂ (λ xs ys. xs ++ ys) (all_declared_of (k + 1) a) (all_declared_of (k + 1) b)
  declared_of k (instance i d) = refl

  all_declared_of : (k : ℕ) (is : Items) → map declaration_of (all_held_in k (block_of is)) ≡ all_instances_in is
  all_declared_of k done = refl
  all_declared_of k ((then) i is) =
      map-append declaration_of (held_in k (statement_of i)) (all_held_in k (block_of is))
      ∙ ap₂ (λ xs ys. xs ++ ys) (declared_of k i) (all_declared_of k is)

-- the design's own module, whose statements it has
record IsRightDesign (modules : List LeafModule) (c : LeafModule) (is : Items) : Type 0 where
  right : IsRight modules c
  reading : AreReading c (block_of is)
  once : Distinct (all_instances_in is)
  instances : (h : Held) → In (all_held_in 0 (block_of is)) h → IsRightInstance modules c h

right_design : (modules : List LeafModule) (m c : LeafModule) (is : Items) → IsRight modules m → IsDesignOf modules m (made_of c is)
    → IsRightDesign modules c is
right_design modules m c is own e =
    let right : IsRight modules c = subst (IsRight modules) (sym e.0) own in
    let body : c.body ≡ block_of is = ap (λ (x : LeafModule). x.body) e.0 ∙ sym e.1 in
    record {
      right = right;
      reading = subst (AreReading c) body right.reading;
      once = subst Distinct (all_declared_of 0 is) (subst (λ b. Distinct (map declaration_of (all_held_in 0 b))) body right.once);
      instances = λ h i. right.instances h (subst (λ b. In (all_held_in 0 b) h) (sym body) i);
    }

module _ (modules : List LeafModule) (right : (x : ℕ) → IsRight modules (module_of modules x)) where
  mutual
    item_wired : (m : LeafModule) (k : ℕ) (i : Item) → IsReading m (statement_of i)
        → ((h : Held) → In (held_in k (statement_of i)) h → IsRightInstance modules m h) → IsItemIn modules i → IsWired m k i
    item_wired m k (drive p b ps t) r h e = r
    item_wired m k (when p c a b) r h e = (
      r.0,
      items_wired m (k + 1) a r.1 (λ x j. h x (in_left (all_held_in (k + 1) (block_of a)) (all_held_in (k + 1) (block_of b)) x j)) e.0,
      items_wired m (k + 1) b r.2 (λ x j. h x (in_right (all_held_in (k + 1) (block_of a)) (all_held_in (k + 1) (block_of b)) x j)) e.1,
    )
    item_wired m k (instance i d) r h e = instance_wired m k i d (h (record { depth = k; own = i }) (inl refl)) e

    items_wired : (m : LeafModule) (k : ℕ) (is : Items) → AreReading m (block_of is)
        → ((h : Held) → In (all_held_in k (block_of is)) h → IsRightInstance modules m h) → AreItemsIn modules is → AreWired m k is
    items_wired m k done r h e = tt
    items_wired m k ((then) i is) r h e = (
      item_wired m k i r.0 (λ x j. h x (in_left (held_in k (statement_of i)) (all_held_in k (block_of is)) x j)) e.0,
      items_wired m k is r.1 (λ x j. h x (in_right (held_in k (statement_of i)) (all_held_in k (block_of is)) x j)) e.1,
    )

    instance_wired : (m : LeafModule) (k : ℕ) (i : HeldInstance) (d : Design) → IsRightInstance modules m (record { depth = k; own = i })
        → IsDesignOf modules (module_of modules i.module_number) d → IsInstance m k i d
    instance_wired m k i (made_of c is) h e =
        let own = right_design modules (module_of modules i.module_number) c is (right i.module_number) e in
        (subst (IsHeld m k i) (sym e.0) h.held, items_wired c 0 is own.reading own.instances e.2)

  mutual
    item_named : (m : LeafModule) (k : ℕ) (i : Item) → ((h : Held) → In (held_in k (statement_of i)) h → IsRightInstance modules m h)
        → IsItemIn modules i
        → IsNamedItem m i
    item_named m k (drive p b ps t) h e = tt
    item_named m k (when p c a b) h e = (
      items_named m (k + 1) a (λ x j. h x (in_left (all_held_in (k + 1) (block_of a)) (all_held_in (k + 1) (block_of b)) x j)) e.0,
      items_named m (k + 1) b (λ x j. h x (in_right (all_held_in (k + 1) (block_of a)) (all_held_in (k + 1) (block_of b)) x j)) e.1,
    )
    item_named m k (instance i d) h e = instance_named m k i d (h (record { depth = k; own = i }) (inl refl)) e

    items_named : (m : LeafModule) (k : ℕ) (is : Items) → ((h : Held) → In (all_held_in k (block_of is)) h → IsRightInstance modules m h)
        → AreItemsIn modules is → AreNamedItems m is
    items_named m k done h e = tt
    items_named m k ((then) i is) h e = (
      item_named m k i (λ x j. h x (in_left (held_in k (statement_of i)) (all_held_in k (block_of is)) x j)) e.0,
      items_named m k is (λ x j. h x (in_right (held_in k (statement_of i)) (all_held_in k (block_of is)) x j)) e.1,
    )

    instance_named : (m : LeafModule) (k : ℕ) (i : HeldInstance) (d : Design) → IsRightInstance modules m (record { depth = k; own = i })
        → IsDesignOf modules (module_of modules i.module_number) d → IsNamedInstance m i d
    instance_named m k i (made_of c is) h e =
        let own = right_design modules (module_of modules i.module_number) c is (right i.module_number) e in
        (subst (IsOwnInstance m i) (sym e.0) h.owned, own.right.names, own.once, items_named c 0 is own.instances e.2)

  pub main_design : (m : LeafModule) (d : Design) → IsRight modules m → IsDesignOf modules m d → IsMain d
  main_design m (made_of c is) r e =
      let own = right_design modules m c is r e in (own.right.ports, items_wired c 0 is own.reading own.instances e.2)

  pub named_design : (m : LeafModule) (d : Design) → IsRight modules m → IsDesignOf modules m d → IsNamed d
  named_design m (made_of c is) r e =
      let own = right_design modules m c is r e in (own.right.names, own.once, items_named c 0 is own.instances e.2)
