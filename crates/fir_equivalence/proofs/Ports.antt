-- The ports of a net that is another one written anew are that one's ports, with the same numbers.
use Rattle.std.proofs.Common.{◌≡◌, ℕ, suc, ◌+◌, List, [], ◌∷◌, Bool, true, false, flat_map, refl, sym, ap, ◌∙◌, subst}
use Rattle.std.specs.Prelude.{slice_get, Some, MatchBool}
use Rattle.std.proofs.lemmas.Option.{same_Some, slice_get_within}
use Rattle.fir_base.proofs.Elements.{there}
use Rattle.fir_net.specs.declared.leaf.Leaf.{Leaf}
use Rattle.fir_net.specs.declared.leaf.Role.{Role}
use Rattle.fir_net.specs.declared.leaf.Role.TheVariants as role
use Rattle.fir_net.specs.declared.net.FlatNet.{FlatNet}
use Rattle.fir_net.specs.Paths.{base_name}
use Rattle.fir_net.specs.Rows.{Row}
use Rattle.fir_net.specs.working.IsNet.{AreInside, ArePortsFirst, IsNet, is_port}
use Rattle.fir_net.specs.working.Rows.{net_rows, role_row}
use Rattle.fir_net.specs.working.Settled.{clock_number, clock_output_number, clock_outputs, clocks, input_number, inputs, numbers_by, output_number, outputs}
use Rattle.fir_equivalence.specs.working.Rewrites.{IsSameLeaf, Rewrites}
use Rattle.fir_equivalence.proofs.Roles.{GivesPorts, clock_outputs_give, clocks_give, inputs_give, outputs_give, port_blind, row_blind, same_kind}

module _ (net other : FlatNet) (number : ℕ → ℕ) where
  -- each port of either list stands in the other one at the same place
  pub record AreTwins (ls ms : List Leaf) : Type 0 where
    pub down : (k : ℕ) (l : Leaf) → slice_get ls k ≡ Some l → is_port l.role ≡ true → (m : Leaf) × (slice_get ms k ≡ Some m) × IsSameLeaf net other number l m
    pub up : (k : ℕ) (m : Leaf) → slice_get ms k ≡ Some m → is_port m.role ≡ true → (l : Leaf) × (slice_get ls k ≡ Some l) × IsSameLeaf net other number l m

  -- the same ports in front
  data Front : List Leaf → List Leaf → Type 0 where
    ports : (l m : Leaf) (ls ms : List Leaf) → IsSameLeaf net other number l m → Front ls ms → Front (l ∷ ls) (m ∷ ms)
    inside : (ls ms : List Leaf) → AreInside ls → AreInside ms → Front ls ms

  no_leaf : (l : Leaf) → slice_get {X = Leaf} [] 0 ≡ Some l → ⊥
  no_leaf l e = cc

  port_both : (l m : Leaf) → IsSameLeaf net other number l m → is_port m.role ≡ is_port l.role
  port_both l m s = same_kind net other number is_port port_blind l.width l.role m.role s.role

  rest_twins : (l m : Leaf) (ls ms : List Leaf) → AreTwins (l ∷ ls) (m ∷ ms) → AreTwins ls ms
  rest_twins l m ls ms t = record { down = λ k x at is. t.down (suc k) x at is; up = λ k x at is. t.up (suc k) x at is }

  front : (ls ms : List Leaf) → ArePortsFirst ls → ArePortsFirst ms → AreTwins ls ms → Front ls ms
  front [] [] p q t = inside [] [] tt tt
  front [] (m ∷ ms) p q t = by (is_port m.role) refl q
    where
      by : (b : Bool) → is_port m.role ≡ b → MatchBool b (ArePortsFirst ms) (AreInside ms) → Front [] (m ∷ ms)
      by true e first = let x = t.up 0 m refl e in absurd (no_leaf x.0 x.1)
      by false e within = inside [] (m ∷ ms) tt (e, within)
  front (l ∷ ls) [] p q t = by (is_port l.role) refl p
    where
      by : (b : Bool) → is_port l.role ≡ b → MatchBool b (ArePortsFirst ls) (AreInside ls) → Front (l ∷ ls) []
      by true e first = let x = t.down 0 l refl e in absurd (no_leaf x.0 x.1)
      by false e within = inside (l ∷ ls) [] (e, within) tt
  front (l ∷ ls) (m ∷ ms) p q t = by (is_port l.role) (is_port m.role) refl refl p q (λ x y. front ls ms x y (rest_twins l m ls ms t))
    where
      from_port : is_port l.role ≡ true → IsSameLeaf net other number l m
      from_port e = let x = t.down 0 l refl e in subst (IsSameLeaf net other number l) (sym (same_Some m x.0 x.1)) x.2

      to_port : is_port m.role ≡ true → IsSameLeaf net other number l m
      to_port e = let x = t.up 0 m refl e in subst (λ (y : Leaf). IsSameLeaf net other number y m) (sym (same_Some l x.0 x.1)) x.2

      by : (a b : Bool) → is_port l.role ≡ a → is_port m.role ≡ b → MatchBool a (ArePortsFirst ls) (AreInside ls) → MatchBool b (ArePortsFirst ms) (AreInside ms)
          → (ArePortsFirst ls → ArePortsFirst ms → Front ls ms) → Front (l ∷ ls) (m ∷ ms)
      by true true e f first second more = ports l m ls ms (from_port e) (more first second)
      by true false e f first second more = let s = from_port e in let both = port_both l m s in cc
      by false true e f first second more = let s = to_port f in let both = port_both l m s in cc
      by false false e f first second more = inside (l ∷ ls) (m ∷ ms) (e, first) (f, second)

  module _ (f : Role → ℕ → ℕ → List ℕ) (gives : GivesPorts f) where
    no_numbers : (k : ℕ) (ls : List Leaf) → AreInside ls → numbers_by f k ls ≡ []
    no_numbers k [] h = refl
    no_numbers k (l ∷ ls) h = rw (gives.none l.role l.width k h.0, no_numbers (k + 1) ls h.1) refl

    same_numbers : (k : ℕ) (ls ms : List Leaf) → Front ls ms → numbers_by f k ms ≡ numbers_by f k ls
    same_numbers k _ _ (ports l m ls ms s more) =
        rw (s.width, same_kind net other number (λ r. f r l.width k) (record { each = λ r. gives.blind r l.width k }) l.width l.role m.role s.role, same_numbers (k + 1) ls ms more) refl
    same_numbers k _ _ (inside ls ms p q) = no_numbers k ms q ∙ sym (no_numbers k ls p)

  abbrev row_of : Leaf → List Row
  row_of l = role_row l.role (base_name l.path) l.width

  bare_row : (r : Role) (name : List ℕ) (width : ℕ) → is_port r ≡ false → role_row r name width ≡ []
  bare_row (role.Register d) name width e = refl
  bare_row (role.Wire r) name width e = refl
  bare_row (role.Reading r) name width e = refl
  bare_row (role.Pipe p) name width e = refl
  bare_row (role.ClockWire c) name width e = refl
  bare_row _ name width e = cc

  no_rows : (ls : List Leaf) → AreInside ls → flat_map row_of ls ≡ []
  no_rows [] h = refl
  no_rows (l ∷ ls) h = rw (bare_row l.role (base_name l.path) l.width h.0, no_rows ls h.1) refl

  same_rows : (ls ms : List Leaf) → Front ls ms → flat_map (λ l. role_row l.role (base_name l.path) l.width) ms ≡ flat_map (λ l. role_row l.role (base_name l.path) l.width) ls
  same_rows _ _ (ports l m ls ms s more) =
      rw (s.width, s.path, same_kind net other number (λ r. role_row r (base_name l.path) l.width) (row_blind (base_name l.path) l.width) l.width l.role m.role s.role, same_rows ls ms more) refl
  same_rows _ _ (inside ls ms p q) = no_rows ms q ∙ sym (no_rows ls p)

module _ (net other : FlatNet) (number : ℕ → ℕ) (R : Rewrites net other number) where
  port_stays : (k : ℕ) (m : Leaf) → slice_get other.leaves k ≡ Some m → is_port m.role ≡ true → number k ≡ k
  port_stays k m at is =
      let x = R.leaves k m at in
      let port : is_port x.0.role ≡ true = sym (same_kind net other number is_port port_blind x.0.width x.0.role m.role x.2.role) ∙ is in
      let p = R.ports (number k) x.0 x.1 port in
      R.once (number k) k p.0 (slice_get_within other.leaves k m at) p.1

  pub twins : AreTwins net other number net.leaves other.leaves
  twins = record {
    down = λ k l at is.
        let p = R.ports k l at is in
        let m = there other.leaves k p.0 in
        let x = R.leaves k m.0 m.1 in
        let same = same_Some x.0 l (sym x.1 ∙ ap (slice_get net.leaves) p.1 ∙ at) in
        (m.0, m.1, subst (λ (y : Leaf). IsSameLeaf net other number y m.0) same x.2);
    up = λ k m at is.
        let x = R.leaves k m at in
        (x.0, ap (slice_get net.leaves) (sym (port_stays k m at is)) ∙ x.1, x.2);
  }

  module _ (whole : IsNet net) where
    same_front : Front net other number net.leaves other.leaves
    same_front = front net other number net.leaves other.leaves whole.ports_first R.whole.ports_first twins

    pub inputs_same : inputs other ≡ inputs net
    inputs_same = same_numbers net other number input_number inputs_give 0 net.leaves other.leaves same_front

    pub clocks_same : clocks other ≡ clocks net
    clocks_same = same_numbers net other number clock_number clocks_give 0 net.leaves other.leaves same_front

    pub outputs_same : outputs other ≡ outputs net
    outputs_same = same_numbers net other number output_number outputs_give 0 net.leaves other.leaves same_front

    pub clock_outputs_same : clock_outputs other ≡ clock_outputs net
    clock_outputs_same = same_numbers net other number clock_output_number clock_outputs_give 0 net.leaves other.leaves same_front

    pub rows_same : net_rows other ≡ net_rows net
    rows_same = same_rows net other number net.leaves other.leaves same_front
