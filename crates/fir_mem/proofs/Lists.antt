-- The leaves of a net whose pipes are registers, beside those of the net: what each of them gives stays.
use Rattle.std.proofs.Common.{◌≡◌, ℕ, suc, ◌+◌, ◌≤◌, List, [], ◌∷◌, length, flat_map, Bool, true, false, refl, sym, ap, ◌∙◌, subst, arith}
use Rattle.std.specs.Prelude.{slice_get, Some, MatchBool}
use Rattle.std.specs.List.{AllByRecursion}
use Rattle.fir_net.specs.declared.array.ArrayRead.{ArrayRead}
use Rattle.fir_net.specs.declared.array.Pipe.{Pipe}
use Rattle.fir_net.specs.declared.leaf.Leaf.{Leaf}
use Rattle.fir_net.specs.declared.leaf.Role.{Role}
use Rattle.fir_net.specs.declared.leaf.Role.TheVariants as role
use Rattle.fir_net.specs.declared.node.Node.{Node}
use Rattle.fir_net.specs.declared.net.FlatNet.{FlatNet}
use Rattle.fir_net.specs.declared.reads.Read.{Read}
use Rattle.fir_net.specs.Paths.{base_name}
use Rattle.fir_net.specs.Rows.{Row}
use Rattle.fir_net.specs.working.Rows.{role_row}
use Rattle.fir_net.specs.working.Settled.{numbers_by}
use Rattle.fir_net.specs.working.IsNet.{is_port, AreInside, ArePortsFirst}
use Rattle.fir_mem.specs.working.Built.{register_of}
use Rattle.fir_mem.proofs.Building.{Becomes, IsHidden, itself, register}

-- a function of roles that does not tell a pipe from the register in its place
abbrev pub Blind : {A : Type 0} → (Role → A) → Type 0
Blind f = (l : Leaf) (p : Pipe) (next : Read) → f (role.Pipe p) ≡ f (register_of l p next).role

module _ (net : FlatNet) (leaves : List Leaf) (nodes : List Node) where
  pub same_role : {A : Type 0} → (f : Role → A) → Blind f → (l m : Leaf) → Becomes net leaves nodes l m → f m.role ≡ f l.role
  same_role f blind l _ itself = refl
  same_role f blind l _ (register p next is can takes) = sym (blind l p next) ∙ ap f (sym is)

  pub same_path : (l m : Leaf) → Becomes net leaves nodes l m → m.path ≡ l.path
  same_path l _ itself = refl
  same_path l _ (register p next is can takes) = refl

  pub same_width : (l m : Leaf) → Becomes net leaves nodes l m → m.width ≡ l.width
  same_width l _ itself = refl
  same_width l _ (register p next is can takes) = refl

  -- each leaf of the first list has become that of the second, and behind them are hidden ones
  abbrev pub Along : List Leaf → List Leaf → Type 0
  Along [] ms = AllByRecursion (IsHidden net) ms
  Along (l ∷ ls) [] = ⊥
  Along (l ∷ ls) (m ∷ ms) = Becomes net leaves nodes l m × Along ls ms

  pub along_from : (ls ms : List Leaf) → ((k : ℕ) (l : Leaf) → slice_get ls k ≡ Some l → (m : Leaf) × (slice_get ms k ≡ Some m) × Becomes net leaves nodes l m)
      → ((k : ℕ) (m : Leaf) → slice_get ms k ≡ Some m → length ls ≤ k → IsHidden net m) → Along ls ms
  along_from [] [] each hidden = tt
  along_from [] (m ∷ ms) each hidden = (hidden 0 m refl (omega arith), along_from [] ms (λ k l e. cc) (λ k x e h. hidden (suc k) x e (omega arith)))
  along_from (l ∷ ls) [] each hidden = let x = each 0 l refl in none x.0 x.1
    where
      none : (m : Leaf) → slice_get {X = Leaf} [] 0 ≡ Some m → ⊥
      none m e = cc
  along_from (l ∷ ls) (m ∷ ms) each hidden =
      let x = each 0 l refl in
      let same : m ≡ x.0 = first x.0 x.1 in (
        subst (λ (y : Leaf). Becomes net leaves nodes l y) (sym same) x.2,
        along_from ls ms (λ k y e. each (suc k) y e) (λ k y e h. hidden (suc k) y e (omega (arith, h))),
      )
    where
      first : (y : Leaf) → Some m ≡ Some y → m ≡ y
      first y e = cc

  module _ (number : Role → ℕ → ℕ → List ℕ) (blind : (w k : ℕ) → Blind (λ r. number r w k)) (none : (r : ArrayRead) (w k : ℕ) → number (role.Reading r) w k ≡ []) where
    no_numbers : (k : ℕ) (ms : List Leaf) → AllByRecursion (IsHidden net) ms → numbers_by number k ms ≡ []
    no_numbers k [] h = refl
    no_numbers k (m ∷ ms) h = rw (h.0.is, none h.0.pipe.read h.0.leaf.width k, no_numbers (k + 1) ms h.1) refl

    pub same_numbers : (k : ℕ) (ls ms : List Leaf) → Along ls ms → numbers_by number k ms ≡ numbers_by number k ls
    same_numbers k [] ms h = no_numbers k ms h
    same_numbers k (l ∷ ls) [] h = absurd h
    same_numbers k (l ∷ ls) (m ∷ ms) h = rw (same_width l m h.0, same_role (λ r. number r l.width k) (blind l.width k) l m h.0, same_numbers (k + 1) ls ms h.1) refl

  abbrev row_of : Leaf → List Row
  row_of l = role_row l.role (base_name l.path) l.width

  no_rows : (ms : List Leaf) → AllByRecursion (IsHidden net) ms → flat_map row_of ms ≡ []
  no_rows [] h = refl
  no_rows (m ∷ ms) h = rw (h.0.is, no_rows ms h.1) refl

  pub same_rows : (ls ms : List Leaf) → Along ls ms → flat_map (λ l. role_row l.role (base_name l.path) l.width) ms ≡ flat_map (λ l. role_row l.role (base_name l.path) l.width) ls
  same_rows [] ms h = no_rows ms h
  same_rows (l ∷ ls) [] h = absurd h
  same_rows (l ∷ ls) (m ∷ ms) h =
      rw (same_width l m h.0, same_path l m h.0, same_role (λ r. role_row r (base_name l.path) l.width) (λ x p n. refl) l m h.0, same_rows ls ms h.1) refl

  hidden_inside : (ms : List Leaf) → AllByRecursion (IsHidden net) ms → AreInside ms
  hidden_inside [] h = tt
  hidden_inside (m ∷ ms) h = (ap (λ (x : Leaf). is_port x.role) h.0.is, hidden_inside ms h.1)

  inside : (ls ms : List Leaf) → Along ls ms → AreInside ls → AreInside ms
  inside [] ms h are = hidden_inside ms h
  inside (l ∷ ls) [] h are = absurd h
  inside (l ∷ ls) (m ∷ ms) h are = (same_role is_port (λ x p n. refl) l m h.0 ∙ are.0, inside ls ms h.1 are.1)

  hidden_first : (ms : List Leaf) → AllByRecursion (IsHidden net) ms → ArePortsFirst ms
  hidden_first [] h = tt
  hidden_first (m ∷ ms) h = subst (λ (b : Bool). MatchBool b (ArePortsFirst ms) (AreInside ms)) (sym (ap (λ (x : Leaf). is_port x.role) h.0.is)) (hidden_inside ms h.1)

  pub ports_first : (ls ms : List Leaf) → Along ls ms → ArePortsFirst ls → ArePortsFirst ms
  ports_first [] ms h are = hidden_first ms h
  ports_first (l ∷ ls) [] h are = absurd h
  ports_first (l ∷ ls) (m ∷ ms) h are =
      rw (same_role is_port (λ x p n. refl) l m h.0) (by (is_port l.role) (ports_first ls ms h.1) (inside ls ms h.1) are)
    where
      by : (b : Bool) → (ArePortsFirst ls → ArePortsFirst ms) → (AreInside ls → AreInside ms) → MatchBool b (ArePortsFirst ls) (AreInside ls) → MatchBool b (ArePortsFirst ms) (AreInside ms)
      by true first within x = first x
      by false first within x = within x
