-- Which leaves of a design the statements of a module may drive: its own, by their numbers; and those that stand with its instances.
use Rattle.std.proofs.Common.{◌≡◌, ℕ, ◌+◌, ◌-◌, ◌<◌, ◌≤◌, List, [], ◌∷◌, ◌++◌, map, Bool, true, false, ◌||◌, nat_lt, nat_eq, length, refl, sym, ap, ap₂, ◌∙◌, inl, inr, arith, ◌⊎◌}
use Rattle.std.proofs.lemmas.Bool.{eqb-true, ltb-false, ltb-true}
use Rattle.fir_base.specs.Lists.{Distinct, In}
use Rattle.fir_base.proofs.Members.{in_left, in_right}
use Rattle.fir_meaning.specs.working.LeafBlocks.{LeafBlock}
use Rattle.fir_meaning.specs.working.LeafModules.{LeafModule, leaf_at, may_drive, role_at}
use Rattle.fir_meaning.specs.working.Numberings.{Numbering, number}
use Rattle.fir_meaning.specs.working.TermReads.{is_among}
use Rattle.fir_meaning.specs.working.UndrivenChoices.{drives_any}
use Rattle.fir_leaf.proofs.MovedTerms.{number_own, number_port}
use Rattle.fir_leaf.proofs.PickedLeaves.{same_is}

-- the ports stand before the others
pub number_once : (n : Numbering) → n.first + n.ports ≤ n.own → (y z : ℕ) → number n y ≡ number n z → y ≡ z
number_once n room y z e = by (nat_lt y n.ports) refl (nat_lt z n.ports) refl
  where
    by : (a : Bool) → nat_lt y n.ports ≡ a → (b : Bool) → nat_lt z n.ports ≡ b → y ≡ z
    by true h true k =
        omega (arith, e, number_port n y (ltb-true y n.ports h), number_port n z (ltb-true z n.ports k))
    by true h false k =
        let lt = ltb-true y n.ports h in
        let le = ltb-false z n.ports k in
        absurd (omega (arith, e, lt, le, room, number_port n y lt, number_own n z le))
    by false h true k =
        let lt = ltb-true z n.ports k in
        let le = ltb-false y n.ports h in
        absurd (omega (arith, e, lt, le, room, number_port n z lt, number_own n y le))
    by false h false k =
        let le = ltb-false y n.ports h in
        let less = ltb-false z n.ports k in
        omega (arith, e, le, less, number_own n y le, number_own n z less)

-- a leaf of the module stands before those of its instances
pub number_before : (n : Numbering) (long y : ℕ) → n.first + n.ports ≤ n.own → y < long → number n y < n.own + (long - n.ports)
    ⊎ (y < n.ports)
number_before n long y room lt = by (nat_lt y n.ports) refl
  where
    by : (a : Bool) → nat_lt y n.ports ≡ a → number n y < n.own + (long - n.ports) ⊎ (y < n.ports)
    by true h = inr (ltb-true y n.ports h)
    by false h = let le = ltb-false y n.ports h in inl (omega (arith, lt, le, number_own n y le))

pub among_there : (ys : List ℕ) (x : ℕ) → is_among ys x ≡ true → In ys x
among_there [] x e = absurd (cc)
among_there (y ∷ ys) x e = by (nat_eq y x) refl e (among_there ys x)
  where
    by : (b : Bool) → nat_eq y x ≡ b → (b || is_among ys x) ≡ true → (is_among ys x ≡ true → In ys x) → In (y ∷ ys) x
    by true h k more = inl (eqb-true y x h)
    by false h k more = inr (more k)

pub same_number : (n : Numbering) → n.first + n.ports ≤ n.own → (y z : ℕ) → nat_eq (number n y) (number n z) ≡ nat_eq y z
same_number n room y z = by (nat_eq (number n y) (number n z)) (nat_eq y z) refl refl
  where
    by : (a b : Bool) → nat_eq (number n y) (number n z) ≡ a → nat_eq y z ≡ b → a ≡ b
    by true true e h = refl
    by false false e h = refl
    by true false e h =
        let is : y ≡ z = number_once n room y z (eqb-true (number n y) (number n z) e) in
        let same : nat_eq y z ≡ true = ap (λ w. nat_eq w z) is ∙ same_is z in
        cc
    by false true e h =
        let is : y ≡ z = eqb-true y z h in
        let same : nat_eq (number n y) (number n z) ≡ true = ap (λ w. nat_eq (number n w) (number n z)) is ∙ same_is (number n z) in
        cc

pub among_moved : (n : Numbering) → n.first + n.ports ≤ n.own → (ys : List ℕ) (x : ℕ) → is_among (map (number n) ys) (number n x) ≡ is_among ys x
among_moved n room [] x = refl
among_moved n room (y ∷ ys) x = ap₂ (λ a b. a || b) (same_number n room y x) (among_moved n room ys x)

-- what is in both of two lists whose elements are distinct
pub in_both : {A : Type 0} (xs ys : List A) (x : A) → Distinct (xs ++ ys) → In xs x → In ys x → ⊥
in_both [] ys x d h k = absurd h
in_both (z ∷ xs) ys x d (inl e) k = d.0 (in_right xs ys z (rw e k))
in_both (z ∷ xs) ys x d (inr h) k = in_both xs ys x d.1 h k

pub distinct_left : {A : Type 0} (xs ys : List A) → Distinct (xs ++ ys) → Distinct xs
distinct_left [] ys d = tt
distinct_left (x ∷ xs) ys d = ((λ m. d.0 (in_left xs ys x m)), distinct_left xs ys d.1)

pub distinct_right : {A : Type 0} (xs ys : List A) → Distinct (xs ++ ys) → Distinct ys
distinct_right [] ys d = d
distinct_right (x ∷ xs) ys d = distinct_right xs ys d.1

-- where the leaves of the module and of its instances stand
pub record HasRoom (n : Numbering) (m : LeafModule) (free : ℕ) : Type 0 where
  pub ports : n.ports ≡ m.port_leaves
  pub long : m.port_leaves ≤ length m.leaves
  pub first : n.first + n.ports ≤ n.own
  pub before : n.own + (length m.leaves - n.ports) ≤ free

module _ (n : Numbering) (m : LeafModule) where
  -- a leaf of the module that a block drives
  pub record OwnDrives (b : LeafBlock) (x : ℕ) : Type 0 where
    pub leaf : ℕ
    pub within : leaf < length m.leaves
    pub is : number n leaf ≡ x
    pub drives : drives_any leaf b ≡ true

  -- a leaf of a port of one of these instances that the module may not drive
  pub record IsPortAt (declarations : List ℕ) (x : ℕ) : Type 0 where
    pub leaf : ℕ
    pub own : m.port_leaves ≤ leaf
    pub within : leaf < length m.leaves
    pub is : number n leaf ≡ x
    pub among : In declarations (leaf_at m.leaves leaf).declaration
    pub given : may_drive (role_at m leaf) ≡ false

  -- a leaf that an instance may drive: one of its ports, or one of its own
  abbrev pub IsInst : List ℕ → ℕ → ℕ → ℕ → Type 0
  IsInst declarations low high x = IsPortAt declarations x ⊎ ((low ≤ x) × (x < high))

  pub inst_within : (ds es : List ℕ) (low high more less x : ℕ) → ((d : ℕ) → In ds d → In es d) → low ≤ more → less ≤ high
      → IsInst ds more less x → IsInst es low high x
  inst_within ds es low high more less x h le lt (inl p) =
      inl (record { leaf = p.leaf; own = p.own; within = p.within; is = p.is; among = h (leaf_at m.leaves p.leaf).declaration p.among; given = p.given })
  inst_within ds es low high more less x h le lt (inr r) = inr (omega (arith, r.0, le), omega (arith, r.1, lt))

  module _ (first_free : ℕ) (room : HasRoom n m first_free) where
    before_free : (y : ℕ) → y < length m.leaves → number n y < first_free
    before_free y lt = by (number_before n (length m.leaves) y room.first lt)
      where
        by : number n y < n.own + (length m.leaves - n.ports) ⊎ (y < n.ports) → number n y < first_free
        by (inl h) = omega (arith, h, room.before)
        by (inr h) = omega (arith, h, room.before, room.first, number_port n y h)

    -- the module and an instance drive no leaf both
    pub own_apart : (ds : List ℕ) (low high y : ℕ) → y < length m.leaves → may_drive (role_at m y) ≡ true → first_free ≤ low → IsInst ds low high (number n y) → ⊥
    own_apart ds low high y lt may le (inl p) =
        let same : p.leaf ≡ y = number_once n room.first p.leaf y p.is in
        let given : may_drive (role_at m y) ≡ false = ap (λ z. may_drive (role_at m z)) (sym same) ∙ p.given in
        absurd (cc)
    own_apart ds low high y lt may le (inr r) = let e = before_free y lt in absurd (omega (arith, e, r.0, le))

    -- nor do two instances
    pub inst_apart : (ds es : List ℕ) (low middle high x : ℕ) → Distinct (ds ++ es) → first_free ≤ low → low ≤ middle → IsInst ds low middle x
        → IsInst es middle high x → ⊥
    inst_apart ds es low middle high x d le lt (inl p) (inl q) =
        let same : p.leaf ≡ q.leaf = number_once n room.first p.leaf q.leaf (p.is ∙ sym q.is) in
        in_both ds es (leaf_at m.leaves p.leaf).declaration d p.among (rw same q.among)
    inst_apart ds es low middle high x d le lt (inl p) (inr r) =
        let e = before_free p.leaf p.within in absurd (omega (arith, e, p.is, r.0, le, lt))
    inst_apart ds es low middle high x d le lt (inr r) (inl q) =
        let e = before_free q.leaf q.within in absurd (omega (arith, e, q.is, r.0, le))
    inst_apart ds es low middle high x d le lt (inr r) (inr t) = absurd (omega (arith, r.1, t.0))
