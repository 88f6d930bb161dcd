-- The first memory of a module whose ports are on different clocks: of two that were found, of one alone, and of all.
use Rattle.std.proofs.Common.{◌≡◌, ◌↔◌, ◌⊎◌, ℕ, ◌+◌, ◌<◌, ◌≤◌, List, [], ◌∷◌, ◌++◌, get_or, length, map, take, slice_get, true, false, Option, Some, None, refl, sym, ap, ◌∙◌, subst, inl, inr, ⊎_elim, arith}
use Rattle.std.proofs.lemmas.Bool.Decides.{nat_tests}
use Rattle.std.proofs.lemmas.List.{map-append, take_more}
use Rattle.std.proofs.lemmas.Option.{same_Some, slice_get_read}
use Rattle.fir_base.specs.Lists.{In}
use Rattle.fir_base.proofs.Elements.{get_in}
use Rattle.fir_base.proofs.Members.{in_either, in_left, in_map, in_right}
use Rattle.fir_ast.specs.declared.place.Place.{Place}
use Rattle.fir_ast.specs.Statements.{PlacedName}
use Rattle.fir_meaning.specs.Lack.{is_before}
use Rattle.fir_meaning.specs.working.LeafModules.{LeafDeclared, LeafModule, MemoryDeclared, leaf_at}
use Rattle.fir_leaf.specs.working.MemoryClockFaults.{HasClock}
use Rattle.fir_leaf_circuit.specs.declared.leaf.Leaf.{Leaf}
use Rattle.fir_leaf_circuit.specs.declared.leaf_module.LeafModule.{LeafModule as ModuleOfCode}
use Rattle.fir_leaf_circuit.specs.declared.leaf_module.MemoryClocks.{MemoryClocks}
use Rattle.fir_leaf_circuit.specs.working.Seen.{leaf_seen, memory_seen, unnamed}
use Rattle.fir_whens.proofs.CoveredViews.{as_many, same_leaf}
use Rattle.fir_whens.proofs.SinksOfCode.{leaf_read}
use Rattle.fir_memory_clocks.specs.declared.module_memories.FoundMemory.{FoundMemory}
use Rattle.fir_memory_clocks.specs.declared.two_clocks.TwoClocks.{TwoClocks}
use Rattle.fir_memory_clocks.specs.working.ModuleMemories.{AreClocksOf, IsFirstAmong, IsFirstFound, IsNamedMemory, IsOnTwoClocks}
use Rattle.fir_memory_clocks.specs.working.PortClocks.{AreTwoClocks, HasRootIn, HaveOneClock}

-- ---- places

-- what is not before a place is not before one that is before that
pub not_before : (p q r : Place) → is_before q p ≡ true → is_before r p ≡ false → is_before r q ≡ false
not_before p q r e f = grind (arith, nat_tests)

-- nor is it before one that is not behind
pub neither_before : (p q r : Place) → is_before q p ≡ false → is_before r q ≡ false → is_before r p ≡ false
neither_before p q r e f = grind (arith, nat_tests)

pub irreflexive : (p : Place) → is_before p p ≡ false
irreflexive p = grind (arith, nat_tests)

-- ---- ports

module _ (H : ℕ → ℕ → Type 0) (ports : List ℕ) (one_clock other_clock : ℕ) (t : AreTwoClocks H ports one_clock other_clock) where
  pub first_among : In ports t.one
  first_among =
      subst (λ ys. In ys t.one) (sym t.ports_are)
      (in_left (t.before ++ t.one ∷ t.between) (t.other ∷ t.after) t.one (in_right t.before (t.one ∷ t.between) t.one (inl refl)))

  pub other_among : In ports t.other
  other_among = subst (λ ys. In ys t.other) (sym t.ports_are) (in_right (t.before ++ t.one ∷ t.between) (t.other ∷ t.after) t.other (inl refl))

  -- where all have one clock no two have different ones
  pub not_both : HaveOneClock H ports → ⊥
  not_both h = t.differ (h t.one t.other one_clock other_clock first_among other_among t.one_has t.other_has)

-- what two relations say alike of ports
module _ (H K : ℕ → ℕ → Type 0) (ports : List ℕ) (same : (x root : ℕ) → In ports x → H x root ↔ K x root) where
  pub one_clock_so : HaveOneClock H ports → HaveOneClock K ports
  one_clock_so h x y one other i j p q = h x y one other i j ((same x one i).1 p) ((same y other j).1 q)

  pub two_clocks_so : (clock other_clock : ℕ) → AreTwoClocks H ports clock other_clock → AreTwoClocks K ports clock other_clock
  two_clocks_so clock other_clock t =
      let from_front : (x : ℕ) → In t.before x → In ports x =
      λ x i.
      subst (λ ys. In ys x) (sym t.ports_are)
      (in_left (t.before ++ t.one ∷ t.between) (t.other ∷ t.after) x (in_left t.before (t.one ∷ t.between) x i)) in
      let from_between : (x : ℕ) → In t.between x → In ports x =
      λ x i.
      subst (λ ys. In ys x) (sym t.ports_are)
      (in_left (t.before ++ t.one ∷ t.between) (t.other ∷ t.after) x (in_right t.before (t.one ∷ t.between) x (inr i))) in
      record {
        before = t.before;
        one = t.one;
        between = t.between;
        other = t.other;
        after = t.after;
        ports_are = t.ports_are;
        none_before = λ x root i k. t.none_before x root i ((same x root (from_front x i)).1 k);
        one_has = (same t.one clock (first_among H ports clock other_clock t)).0 t.one_has;
        same_between = λ x root i k. t.same_between x root i ((same x root (from_between x i)).1 k);
        other_has = (same t.other other_clock (other_among H ports clock other_clock t)).0 t.other_has;
        differ = t.differ;
      }

-- ---- two that were found

module _ (m : LeafModule) (xs ys : List MemoryDeclared) where
  module _ (name : PlacedName) (d a b : ℕ) where
    of_either : IsOnTwoClocks m (xs ++ ys) name d a b → IsOnTwoClocks m xs name d a b ⊎ IsOnTwoClocks m ys name d a b
    of_either h =
        ⊎_elim
        (λ (i : In xs h.memory).
        inl (record { memory = h.memory; among = i; declaration_is = h.declaration_is; is_name = h.is_name; clocks = h.clocks }))
        (λ (i : In ys h.memory).
        inr (record { memory = h.memory; among = i; declaration_is = h.declaration_is; is_name = h.is_name; clocks = h.clocks }))
        (in_either xs ys h.memory h.among)

    of_left : IsOnTwoClocks m xs name d a b → IsOnTwoClocks m (xs ++ ys) name d a b
    of_left h = record {
      memory = h.memory;
      among = in_left xs ys h.memory h.among;
      declaration_is = h.declaration_is;
      is_name = h.is_name;
      clocks = h.clocks;
    }

    of_right : IsOnTwoClocks m ys name d a b → IsOnTwoClocks m (xs ++ ys) name d a b
    of_right h = record {
      memory = h.memory;
      among = in_right xs ys h.memory h.among;
      declaration_is = h.declaration_is;
      is_name = h.is_name;
      clocks = h.clocks;
    }

  never : (zs : List MemoryDeclared) → IsFirstAmong m zs None → (name : PlacedName) (d a b : ℕ) → IsOnTwoClocks m zs name d a b → ⊥
  never zs none name d a b h = not_both (HasClock m) h.memory.port_clocks a b h.clocks (none h.memory h.among)

  left_first : (v : FoundMemory) → IsFirstFound m xs v
      → ((name : PlacedName) (d a b : ℕ) → IsOnTwoClocks m ys name d a b → is_before name.place v.place ≡ false) → IsFirstFound m (xs ++ ys) v
  left_first v h others = record {
    name = h.name;
    place = h.place;
    is = of_left h.name v.declaration v.clocks.clock v.clocks.other_clock h.is;
    first = λ name d a b on.
        ⊎_elim (λ (o : IsOnTwoClocks m xs name d a b). h.first name d a b o) (λ (o : IsOnTwoClocks m ys name d a b). others name d a b o)
        (of_either name d a b on);
  }

  right_first : (v : FoundMemory) → IsFirstFound m ys v
      → ((name : PlacedName) (d a b : ℕ) → IsOnTwoClocks m xs name d a b → is_before name.place v.place ≡ false) → IsFirstFound m (xs ++ ys) v
  right_first v h others = record {
    name = h.name;
    place = h.place;
    is = of_right h.name v.declaration v.clocks.clock v.clocks.other_clock h.is;
    first = λ name d a b on.
        ⊎_elim (λ (o : IsOnTwoClocks m xs name d a b). others name d a b o) (λ (o : IsOnTwoClocks m ys name d a b). h.first name d a b o)
        (of_either name d a b on);
  }

  pub second_first : (one other : FoundMemory) → IsFirstFound m xs one → IsFirstFound m ys other → is_before other.place one.place ≡ true
      → IsFirstFound m (xs ++ ys) other
  second_first one other h k e =
      right_first other k (λ name d a b on. not_before one.place other.place name.place e (h.first name d a b on))

  pub first_first : (one other : FoundMemory) → IsFirstFound m xs one → IsFirstFound m ys other → is_before other.place one.place ≡ false
      → IsFirstFound m (xs ++ ys) one
  first_first one other h k e =
      left_first one h (λ name d a b on. neither_before one.place other.place name.place e (k.first name d a b on))

  pub first_alone : (one : FoundMemory) → IsFirstFound m xs one → IsFirstAmong m ys None → IsFirstFound m (xs ++ ys) one
  first_alone one h none = left_first one h (λ name d a b on. absurd (never ys none name d a b on))

  pub second_alone : (other : Option FoundMemory) → IsFirstAmong m xs None → IsFirstAmong m ys other → IsFirstAmong m (xs ++ ys) other
  second_alone None none k = λ memory i.
      ⊎_elim (λ (j : In xs memory). none memory j) (λ (j : In ys memory). k memory j) (in_either xs ys memory i)
  second_alone (Some other) none k = right_first other k (λ name d a b on. absurd (never xs none name d a b on))

-- ---- one memory alone

module _ (part : ModuleOfCode) (m : LeafModule) (roots : List (Option ℕ)) (h : AreClocksOf part m roots) (memory : MemoryClocks)
    (among : In m.memories (memory_seen memory)) where
  abbrev ports : List ℕ
  ports = memory.port_clocks.items

  named : (name : PlacedName) × IsNamedMemory m (memory_seen memory) name
  named = h.is_clear.named (memory_seen memory) among

  same : (x root : ℕ) → In ports x → HasRootIn roots x root ↔ HasClock m x root
  same x root i = h.each x root (named.1.clocks x i)

  -- all its ports have one clock
  pub found_none : HaveOneClock (HasRootIn roots) ports → IsFirstAmong m (memory_seen memory ∷ []) None
  found_none one other i =
      ⊎_elim
      (λ (e : memory_seen memory ≡ other).
      subst (λ (z : MemoryDeclared). HaveOneClock (HasClock m) z.port_clocks) e (one_clock_so (HasRootIn roots) (HasClock m) ports same one))
      (λ (b : ⊥). absurd b) i

  module _ (t : TwoClocks) (two : AreTwoClocks (HasRootIn roots) ports t.clock t.other_clock) where
    -- it has a port
    pub some_port : length ports ≤ 0 → ⊥
    some_port none = by ports (first_among (HasRootIn roots) ports t.clock t.other_clock two) none
      where
        by : (ys : List ℕ) → In ys two.one → length ys ≤ 0 → ⊥
        by [] i le = i
        by (y ∷ ys) i le = omega (arith, le)

    module _ (port : ℕ) (is_port : slice_get ports 0 ≡ Some port) where
      port_among : In ports port
      port_among = get_in ports 0 port is_port

      -- whose leaf is there
      pub port_there : length part.leaves.items ≤ port → ⊥
      port_there past =
          let l = named.1.clocks port port_among in
          let lt = l.within in
          let many = as_many part m h.view in
          omega (arith, lt, past, many)

      -- and it stands where the memory does
      pub found_some : (l : Leaf) → port < length part.leaves.items → l ≡ get_or part.leaves.items port l
          → IsFirstFound m (memory_seen memory ∷ []) (record { place = l.place; declaration = memory.declaration; clocks = t })
      found_some l within read =
          let seen : leaf_seen part.nodes.items l ≡ unnamed (leaf_at m.leaves port) =
          sym (leaf_read part port l within read) ∙ same_leaf part m h.view port in
          let place : l.place ≡ named.0.place = ap (λ (d : LeafDeclared). d.place) seen ∙ named.1.places port port_among in
          record {
            name = named.0;
            place = place;
            is = record {
              memory = memory_seen memory;
              among = inl refl;
              declaration_is = refl;
              is_name = named.1.is_name;
              clocks = two_clocks_so (HasRootIn roots) (HasClock m) ports same t.clock t.other_clock two;
            };
            first = λ name d a b on. alone name d a b on place;
          }
        where
          alone : (name : PlacedName) (d a b : ℕ) → IsOnTwoClocks m (memory_seen memory ∷ []) name d a b → l.place ≡ named.0.place
              → is_before name.place l.place ≡ false
          alone name d a b on place =
              ⊎_elim
              (λ (e : memory_seen memory ≡ on.memory).
              let own : slice_get m.declared d ≡ Some named.0 =
              ap (slice_get m.declared) (sym on.declaration_is ∙ ap (λ (z : MemoryDeclared). z.declaration) (sym e)) ∙ named.1.is_name in
              let one : name ≡ named.0 = same_Some name named.0 (sym on.is_name ∙ own) in
              let there : name.place ≡ l.place = ap (λ (n : PlacedName). n.place) one ∙ sym place in
              ap (λ p. is_before p l.place) there ∙ irreflexive l.place) (λ (b : ⊥). absurd b) on.among

-- ---- one more memory

module _ (part : ModuleOfCode) (m : LeafModule) (i : ℕ) (memory : MemoryClocks) (within : i < length part.memories.items)
    (is : memory ≡ get_or part.memories.items i memory) (memories : map memory_seen part.memories.items ≡ m.memories) where
  pub memory_among : In m.memories (memory_seen memory)
  memory_among =
      subst (λ ys. In ys (memory_seen memory)) memories
      (in_map memory_seen part.memories.items memory
      (get_in part.memories.items i memory (slice_get_read part.memories.items (length part.memories.items) i memory refl within is)))

  pub memories_grow : map memory_seen (take (i + 1) part.memories.items) ≡ map memory_seen (take i part.memories.items) ++ memory_seen memory ∷ []
  memories_grow =
      ap (map memory_seen) (take_more part.memories.items i memory within ∙ ap (λ z. take i part.memories.items ++ z ∷ []) (sym is))
      ∙ map-append memory_seen (take i part.memories.items) (memory ∷ [])
